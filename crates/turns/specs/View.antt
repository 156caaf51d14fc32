-- What the code's structs stand for in the rules.
use Rattle.std.specs.Prelude.{ℕ, ◌+◌, ◌-◌, ◌%◌, ◌<◌, ◌≡◌, Bool, true, false, ◌&&◌, List, [], map, eqb, ltb}
use Rattle.rules.specs.Memory.{pick, upd}
use Rattle.rules.specs.Step.{said, code}
use Rattle.rules.specs.Course as course
use Rattle.rules.proofs.Views.{view}
use Rattle.rules.proofs.Turned.{Told}
use Rattle.turns.specs.declared.course.Course.{Course}
use Rattle.turns.specs.declared.course.Due.{Due}
use Rattle.turns.specs.declared.course.Due.TheVariants.{Hold, Idle, Step}
use Rattle.turns.specs.declared.made.Made.{Made}
use Rattle.turns.specs.declared.made.Went.{Went}
use Rattle.turns.specs.declared.made.Went.TheVariants.{Spun, Idled, Over, On}
use Rattle.turns.specs.declared.says.Says.{Says}
use Rattle.turns.specs.Saying.{says_of}

-- what is added to a step in the code's row where hold turns come first; the row beside it has how many follow the next one
abbrev pub holds : ℕ
holds = 128

unfoldable pub steps : List ℕ → ℕ → ℕ
steps at i = view 1 at i % holds

unfoldable pub lefts : List ℕ → List ℕ → ℕ → ℕ
lefts at left i = pick (ltb (view 1 at i) holds) 0 (view 0 left i + 1)

-- every processor starts at step 1
abbrev pub course_of : Course → course.Course
course_of c = record { at = steps c.at; left = lefts c.at c.left; done = view 0 c.done }

-- after a hold turn of processor i
abbrev pub held : course.Course → ℕ → course.Course
held c i = record { at = c.at; left = upd c.left i (c.left i - 1); done = c.done }

-- processor i goes to step k, after this many hold turns
abbrev pub gone_to : course.Course → ℕ → ℕ → ℕ → course.Course
gone_to c i k hold = record { at = upd c.at i k; left = upd c.left i hold; done = c.done }

-- one passage more of processor i is done
abbrev pub ended : course.Course → ℕ → course.Course
ended c i = record { at = c.at; left = c.left; done = upd c.done i (c.done i + 1) }

-- what processor i's next turn is, of this many rounds
abbrev pub Dues : course.Course → ℕ → ℕ → Due → Type 0
Dues c i rounds Hold = 0 < c.left i
Dues c i rounds Idle = (c.left i ≡ 0) × (c.at i ≡ 1) × (c.done i ≡ rounds)
Dues c i rounds (Step k) = (c.left i ≡ 0) × (c.at i ≡ k) × ((eqb k 1 && eqb (c.done i) rounds) ≡ false)

-- ---- what is told of processor w's turn

abbrev pub is_spun : Went → Bool
is_spun Spun = true
is_spun Idled = false
is_spun Over = false
is_spun On = false

abbrev pub is_idled : Went → Bool
is_idled Spun = false
is_idled Idled = true
is_idled Over = false
is_idled On = false

abbrev pub is_over : Went → Bool
is_over Spun = false
is_over Idled = false
is_over Over = true
is_over On = false

abbrev pub codes_of : ℕ → Says → List ℕ
codes_of w says = map code (said w (says_of says))

abbrev pub told_of : ℕ → Made → Told
told_of w m = record {
  far = pick (eqb m.owner.number w) 0 1;
  codes = codes_of w m.says;
  began = m.began;
  done = is_over m.went;
  spin = is_spun m.went;
  idle = is_idled m.went;
}

-- nothing is told of a turn without an access, but whether it is idle
abbrev pub untold : Bool → Told
untold idle = record { far = 0; codes = []; began = false; done = false; spin = false; idle = idle }
