-- One law for each way out of the core.
use Rattle.std.proofs.Common.{◌≡◌, ℕ, ◌*◌, ◌<◌, ◌≤◌, Bool, true, false, ◌&&◌, List, length, leb, refl, sym, ◌∙◌, Ok, Err, ne_eqb, le-leb}
use Rattle.std.proofs.lemmas.Bool.{lt-leb}
use Rattle.rules.specs.Machines.{machine}
use Rattle.rules.specs.Calls.{refusal}
use Rattle.rules.proofs.Accepted.{accepted, refusal_room}
use Rattle.settings.specs.View.{settings_of}
use Rattle.settings.specs.Check.{Checked}
use Rattle.settings.specs.declared.trial.Trial.{Trial}
use Rattle.settings.specs.declared.refusal.Refusal.{Refusal}
use Rattle.settings.specs.declared.refusal.Refusal.TheVariants.{TooShort}
use Rattle.settings.specs.declared.record.Settings.{Settings}
use Rattle.settings.proofs.Outcome.{refused}
use Rattle.turns.specs.declared.played.Played.{Played}
use Rattle.turns.specs.PlayView.{PlayedIs}
use Rattle.machine.specs.RunView.{Refuses, Plays}

module _ (s : Settings) (t before : List ℕ) (room : ℕ) where
  -- whether the lent table and events have room
  abbrev roomy : Bool
  roomy = leb s.procs room && leb (2 * length t) (length before)

  -- 2, 3, 5 or 4
  pub refuses : (r : Refusal) → Checked s t (Err r) → Refuses s t before before room r
  refuses r c = record { number = refusal_room (settings_of s) t roomy ∙ rw (← c.number, ne_eqb _ 0 (refused r)) refl; same = refl }

  module _ (e : 0 ≡ refusal (settings_of s) t true) where
    short : roomy ≡ false → Refuses s t before before room TooShort
    short f = record { number = refusal_room (settings_of s) t roomy ∙ rw (← e, f) refl; same = refl }

    -- 6: too few records, or too few events
    pub few_records : room < s.procs → Refuses s t before before room TooShort
    few_records l = short (rw (lt-leb _ _ l) refl)

    pub few_events : s.procs ≤ room → length before < 2 * length t → Refuses s t before before room TooShort
    few_events w l = short (rw (le-leb _ _ w, lt-leb _ _ l) refl)

  module _ (c : Trial) (k : Checked s t (Ok c)) where
    -- the run of the trial is that of the settings and the turns
    pub plays : s.procs ≤ room → 2 * length t ≤ length before → (after : List ℕ) (p : Played)
        → PlayedIs (machine c.settings.algo) (settings_of c.settings) c.schedule.now before after p → Plays s t before after room p
    plays w l after p q = record {
      number = refusal_room (settings_of s) t roomy ∙ rw (← k.number, le-leb _ _ w, le-leb _ _ l) refl;
      in_room = w;
      in_sums = (accepted (settings_of s) t true (sym k.number)).0.procs_high;
      played = rw (k.settings c refl, k.schedule c refl) at q;
    }

pub ruleset refusals = (refuses, few_records, few_events)
