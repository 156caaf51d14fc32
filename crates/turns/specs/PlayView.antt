-- What a run over a schedule is to give.
use Rattle.std.specs.Prelude.{ℕ, ◌≡◌, List, map, length}
use Rattle.rules.specs.Memory.{pick}
use Rattle.rules.specs.Settings.{Settings}
use Rattle.rules.specs.Step.{code, Machine}
use Rattle.rules.specs.Play.{whole}
use Rattle.rules.specs.Calls.{over}
use Rattle.turns.specs.declared.played.Played.{Played}
use Rattle.turns.specs.Stopping.{stop_number}
use Rattle.turns.specs.CountView.{done_of, tally_of}

-- p is the whole run's, and so is the row, whatever lay before past its events
pub record PlayedIs (m : Machine) (s : Settings) (turns before after : List ℕ) (p : Played) : Type 0 where
  pub stop : stop_number p.stop ≡ pick (whole m s turns).stopped 1 0
  pub taken : p.taken ≡ (whole m s turns).taken
  pub events : p.events ≡ length (whole m s turns).events
  pub row : after ≡ over (map code (whole m s turns).events) before
  pub done : done_of p.sums ≡ (whole m s turns).course.done
  pub tally : tally_of p.sums p.total ≡ (whole m s turns).tally
