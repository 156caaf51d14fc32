-- A schedule played by a machine ('What a run gives').
use Rattle.std.specs.Prelude.{ℕ, ◌+◌, Bool, true, false, List, [], ◌∷◌, ◌++◌, leb}
use Rattle.rules.specs.Settings.{Settings}
use Rattle.rules.specs.Step.{Event, said, Machine}
use Rattle.rules.specs.Course as course
use Rattle.rules.specs.Course.{Course, Turn, turn, outset}
use Rattle.rules.specs.Tally.{Tally, tally, blank}

-- stopped: by the budget
pub record Run (S : Type 0) : Type 0 where
  pub memory : S
  pub course : Course
  pub tally : Tally
  pub events : List Event
  pub taken : ℕ
  pub stopped : Bool

abbrev pub first : (m : Machine) → Settings → Run m.State
first m s = record { memory = m.start s; course = outset; tally = blank; events = []; taken = 0; stopped = false }

-- what the next turn is, if it is processor i's
abbrev pub next : (m : Machine) → Settings → Run m.State → ℕ → Turn m.State
next m s r i = turn m s r.memory r.course i

-- the run after that turn
unfoldable pub taking : (m : Machine) → Settings → Run m.State → ℕ → Run m.State
taking m s r i = record {
  memory = course.memory (next m s r i) r.memory;
  course = course.course s i (next m s r i) r.course;
  tally = tally i (r.course.at i) (next m s r i) r.tally;
  events = r.events ++ said i (course.says (next m s r i));
  taken = r.taken + 1;
  stopped = false;
}

abbrev pub ended : {S : Type 0} → Run S → Run S
ended r = record { memory = r.memory; course = r.course; tally = r.tally; events = r.events; taken = r.taken; stopped = true }

-- a total that is not past the budget
unfoldable pub within : ℕ → Settings → Bool
within total s = leb total s.budget

-- the run ends before the first turn that would carry the total past the budget; that turn is not taken, and none after it
unfoldable pub after : (m : Machine) → Settings → Run m.State → ℕ → Run m.State
after m s r i =
    elim r.stopped [
      | true ↦ r
      | false ↦ elim (within (taking m s r i).tally.total s) [ true ↦ taking m s r i | false ↦ ended r ]
    ]

unfoldable pub play : (m : Machine) → Settings → List ℕ → Run m.State → Run m.State
play m s [] r = r
play m s (i ∷ t) r = play m s t (after m s r i)

unfoldable pub whole : (m : Machine) → Settings → List ℕ → Run m.State
whole m s t = play m s t (first m s)
