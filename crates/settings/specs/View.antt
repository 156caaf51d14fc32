-- What the settings record means, and what the check gives.
use Rattle.std.specs.Prelude.{ℕ, Result, Ok, Err}
use Rattle.rules.specs.Settings as rules
use Rattle.settings.specs.declared.refusal.Refusal.{Refusal}
use Rattle.settings.specs.declared.record.Settings.{Settings}
use Rattle.settings.specs.Numbers.{refusal_number}

-- the rows are the code's own
abbrev pub settings_of : Settings → rules.Settings
settings_of s = record {
  algo = s.algo;
  procs = s.procs;
  home = s.home;
  ticket = s.ticket;
  budget = s.budget;
  rounds = s.rounds;
  hold = s.hold;
}

-- of an answer its number: 0, or that of the refusal
abbrev pub number_of : {A : Type 0} → Result A Refusal → ℕ
number_of (Ok a) = 0
number_of (Err r) = refusal_number r
