-- What the check gives.
use Rattle.std.specs.Prelude.{ℕ, ◌≡◌, true, List, Result, Ok}
use Rattle.rules.specs.Calls.{refusal}
use Rattle.settings.specs.declared.refusal.Refusal.{Refusal}
use Rattle.settings.specs.declared.record.Settings.{Settings}
use Rattle.settings.specs.declared.trial.Trial.{Trial}
use Rattle.settings.specs.View.{settings_of, number_of}

-- r are these settings and this schedule, or else what they are refused with, where there is room
pub record Checked (s : Settings) (t : List ℕ) (r : Result Trial Refusal) : Type 0 where
  pub number : number_of r ≡ refusal (settings_of s) t true
  pub settings : (a : Trial) → r ≡ Ok a → a.settings ≡ s
  pub schedule : (a : Trial) → r ≡ Ok a → a.schedule.now ≡ t
