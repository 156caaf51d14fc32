-- The tree barrier (figure 12, split into turns as document 02 does). True is 1. With each processor live the flags of its children, variable 0,
-- and the sense that wakes it, variable 1. It keeps its own sense for itself.
use Rattle.std.specs.Prelude.{ℕ, ◌+◌, ◌-◌, ◌*◌, ◌/◌, ◌%◌, Bool, true, false, eqb, ltb}
use Rattle.rules.specs.Memory.{pick, upd, each}
use Rattle.rules.specs.Settings.{Settings}
use Rattle.rules.specs.Step.{Access, reads, writes, nothing, one, two, arrive, leave, Next, stay, again, to, over, Step, Machine}

-- flag: of each processor, by the child's slot; set until the child has told
pub record State : Type 0 where
  pub flag : ℕ → ℕ → ℕ
  pub wake : ℕ → ℕ
  pub sense : ℕ → ℕ

-- ---- the two trees

-- arrival goes up a tree of four: the slots are 0 to 3
abbrev pub parent : ℕ → ℕ
parent i = (i - 1) / 4

abbrev pub slot : ℕ → ℕ
slot i = (i - 1) % 4

abbrev pub child : ℕ → ℕ → ℕ
child i slot = 4 * i + slot + 1

-- wake-up goes down a tree of two. Children from P on are absent
abbrev pub left : ℕ → ℕ
left i = 2 * i + 1

abbrev pub right : ℕ → ℕ
right i = 2 * i + 2

-- ---- how a turn ends

-- the first turn of a passage is the arrival
abbrev pub goes_on : (first : Bool) → Access → Next → State → Step State
goes_on first access next x = record { memory = x; access = access; says = pick first (one arrive) nothing; then = next }

-- the last is the leaving: the own sense is toggled
abbrev pub leaves : (first : Bool) → Access → State → ℕ → Step State
leaves first access x i = record {
  memory = record { flag = x.flag; wake = x.wake; sense = upd x.sense i (1 - x.sense i) };
  access = access;
  says = pick first (two arrive leave) (one leave);
  then = over;
}

-- child c is woken next, at step k; or it is absent, and this turn was the last
abbrev pub wakes_next : (c k : ℕ) → (first : Bool) → Access → Settings → State → ℕ → Step State
wakes_next c k first access s x i = pick (ltb c s.procs) (goes_on first access (to k) x) (leaves first access x i)

-- ---- the steps

-- where the flag in this slot comes next: 2 + slot reads it; where that child is absent, all are read, and 6 follows. 6 comes after slot 3 too
abbrev pub reading : Settings → ℕ → ℕ → ℕ
reading s i slot = pick (ltb (child i slot) s.procs) (2 + slot) 6

-- 2 to 5: read the flag in slot 0 to 3; it is set, or not
abbrev pub looks : Bool → (first : Bool) → ℕ → Settings → State → ℕ → Step State
looks true first slot s x i = goes_on first (reads i 0) (again (2 + slot)) x
looks false first slot s x i = goes_on first (reads i 0) (to (reading s i (slot + 1))) x

-- 6: set the flags up again. Processor 0 has nobody to tell
abbrev pub sets : (first : Bool) → Settings → State → ℕ → Step State
sets first s x i =
    let y : State = record { flag = upd x.flag i (each 1); wake = x.wake; sense = x.sense } in
    pick (eqb i 0) (wakes_next (left i) 9 first (writes i 0) s y i) (goes_on first (writes i 0) (to 7) y)

-- 7: tell the parent
abbrev pub tells : State → ℕ → Step State
tells x i =
    let q : ℕ = parent i in
    goes_on false (writes q 0) (to 8) (record { flag = upd x.flag q (upd (x.flag q) (slot i) 0); wake = x.wake; sense = x.sense })

-- 8: read the sense that wakes; it equals the own sense, or not
abbrev pub waits : Bool → Settings → State → ℕ → Step State
waits true s x i = wakes_next (left i) 9 false (reads i 1) s x i
waits false s x i = goes_on false (reads i 1) stay x

-- child c is woken with the own sense
abbrev pub woken : ℕ → State → ℕ → State
woken c x i = record { flag = x.flag; wake = upd x.wake c (x.sense i); sense = x.sense }

-- 9: wake the left child
abbrev pub wakes_left : Settings → State → ℕ → Step State
wakes_left s x i = wakes_next (right i) 10 false (writes (left i) 1) s (woken (left i) x i) i

-- 10: wake the right child
abbrev pub wakes_right : State → ℕ → Step State
wakes_right x i = leaves false (writes (right i) 1) (woken (right i) x i) i

-- what is done at step k
abbrev pub does : (first : Bool) → Settings → State → ℕ → ℕ → Step State
does first s x k i =
    pick (eqb k 6) (sets first s x i) (
    pick (eqb k 7) (tells x i) (
    pick (eqb k 8) (waits (eqb (x.wake i) (x.sense i)) s x i) (
    pick (eqb k 9) (wakes_left s x i) (
    pick (eqb k 10) (wakes_right x i) (
    looks (eqb (x.flag i (k - 2)) 1) first (k - 2) s x i)))))

-- 1: the first turn, which reads the flag in slot 0, or sets the flags up where no child is present
unfoldable pub step : Settings → State → ℕ → ℕ → Step State
step s x at i = pick (eqb at 1) (does true s x (reading s i 0) i) (does false s x at i)

abbrev pub start : Settings → State
start s = record { flag = each (each 1); wake = each 0; sense = each 1 }

abbrev pub machine : Machine
machine = record { State = State; start = start; step = step }
