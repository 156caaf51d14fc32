-- What the code's tree barrier stands for in the rules.
use Rattle.std.specs.Prelude.{ℕ, ◌+◌, ◌-◌, ◌≤◌, ◌<◌, ◌≡◌, ◌≢◌, Bool, Option, Some, None}
use Rattle.rules.specs.Memory.{pick, upd}
use Rattle.rules.specs.Step.{Says, nothing, one, two, arrive, leave, Next, to, over}
use Rattle.rules.specs.Tree.{State, left, right}
use Rattle.rules.proofs.Views.{view}
use Rattle.tree.specs.declared.barrier.Tree.{Tree}
use Rattle.turns.specs.BitView.{bits}

-- of a processor's word
abbrev pub wake_of : ℕ → ℕ
wake_of word = bits word 0

abbrev pub sense_of : ℕ → ℕ
sense_of word = bits word 1

-- a flag is set until its bit says that the child has told
abbrev pub flag_of : ℕ → ℕ → ℕ
flag_of word slot = 1 - bits word (2 + slot)

-- every processor's own sense starts true and every other bit at 0: its word is 2
abbrev pub memory_of : Tree → State
memory_of n = record {
  flag = λ i. flag_of (view 2 n.words i);
  wake = λ i. wake_of (view 2 n.words i);
  sense = λ i. sense_of (view 2 n.words i);
}

-- processor i's own sense is toggled
abbrev pub toggled : State → ℕ → State
toggled x i = record { flag = x.flag; wake = x.wake; sense = upd x.sense i (1 - x.sense i) }

-- ---- how a step ends: the passage goes on at the next step, or there is none and the passage is over

abbrev pub memory_next : Option ℕ → State → ℕ → State
memory_next None x i = toggled x i
memory_next (Some k) x i = x

abbrev pub says_next : Option ℕ → (first : Bool) → Says
says_next None first = pick first (two arrive leave) (one leave)
says_next (Some k) first = pick first (one arrive) nothing

abbrev pub to_next : Option ℕ → Next
to_next None = over
to_next (Some k) = to k

-- ---- where processors can be

-- processor i can be at step k: it tells where it has a parent, and wakes a child that is present
pub record Stands (procs i k : ℕ) : Type 0 where
  pub low : 1 ≤ k
  pub high : k ≤ 10
  pub tells : k ≡ 7 → i ≢ 0
  pub wakes_left : k ≡ 9 → left i < procs
  pub wakes_right : k ≡ 10 → right i < procs

-- every processor can be where it is
pub record Sound (procs : ℕ) (at : ℕ → ℕ) : Type 0 where
  pub stands : (j : ℕ) → Stands procs j (at j)
