-- The MCS lock (figure 5), by document 01's step numbers. In tail and next, nil is 0 and processor i is i + 1; in locked, true is 1.
-- tail lives at home as variable 0; next and locked live with their processor, as variables 1 and 2.
-- A processor keeps for itself pred, whom it found in tail, and succ, whom it found in its next.
use Rattle.std.specs.Prelude.{ℕ, zero, suc, Bool, true, false, eqb}
use Rattle.rules.specs.Memory.{pick, upd, each}
use Rattle.rules.specs.Settings.{Settings}
use Rattle.rules.specs.Step.{reads, writes, atomics, nothing, one, two, join, grant, release, stay, to, over, Step, Machine}

pub record State : Type 0 where
  pub tail : ℕ
  pub next : ℕ → ℕ
  pub locked : ℕ → ℕ
  pub pred : ℕ → ℕ
  pub succ : ℕ → ℕ

-- ---- one store

abbrev pub set_tail : ℕ → State → State
set_tail v x = record { tail = v; next = x.next; locked = x.locked; pred = x.pred; succ = x.succ }

abbrev pub set_next : ℕ → ℕ → State → State
set_next i v x = record { tail = x.tail; next = upd x.next i v; locked = x.locked; pred = x.pred; succ = x.succ }

abbrev pub set_locked : ℕ → ℕ → State → State
set_locked i v x = record { tail = x.tail; next = x.next; locked = upd x.locked i v; pred = x.pred; succ = x.succ }

abbrev pub set_pred : ℕ → ℕ → State → State
set_pred i v x = record { tail = x.tail; next = x.next; locked = x.locked; pred = upd x.pred i v; succ = x.succ }

abbrev pub set_succ : ℕ → ℕ → State → State
set_succ i v x = record { tail = x.tail; next = x.next; locked = x.locked; pred = x.pred; succ = upd x.succ i v }

-- ---- the steps

-- 1: write own next nil
abbrev pub clears : State → ℕ → Step State
clears x i = record { memory = set_next i 0 x; access = writes i 1; says = nothing; then = to 2 }

-- 2: swap tail with own number; by the old value
abbrev pub swaps : ℕ → Settings → State → ℕ → Step State
swaps zero s x i = record { memory = set_tail (suc i) x; access = atomics s.home 0; says = two join grant; then = to 7 }
swaps (suc p) s x i = record { memory = set_pred i p (set_tail (suc i) x); access = atomics s.home 0; says = one join; then = to 3 }

-- 3: write own locked true
abbrev pub locks : State → ℕ → Step State
locks x i = record { memory = set_locked i 1 x; access = writes i 2; says = nothing; then = to 4 }

-- 4: write own number into the predecessor's next
abbrev pub links : State → ℕ → Step State
links x i = record { memory = set_next (x.pred i) (suc i) x; access = writes (x.pred i) 1; says = nothing; then = to 5 }

-- 5: read own locked
abbrev pub waits : ℕ → State → ℕ → Step State
waits zero x i = record { memory = x; access = reads i 2; says = one grant; then = to 7 }
waits (suc l) x i = record { memory = x; access = reads i 2; says = nothing; then = stay }

-- 6 is the hold turns

-- 7: read own next
abbrev pub looks : ℕ → State → ℕ → Step State
looks zero x i = record { memory = x; access = reads i 1; says = nothing; then = to 8 }
looks (suc j) x i = record { memory = set_succ i j x; access = reads i 1; says = nothing; then = to 10 }

-- 8: compare-and-swap tail from own number to nil; it swapped, or not
abbrev pub drains : Bool → Settings → State → Step State
drains true s x = record { memory = set_tail 0 x; access = atomics s.home 0; says = one release; then = over }
drains false s x = record { memory = x; access = atomics s.home 0; says = nothing; then = to 9 }

-- 9: read own next again
abbrev pub rereads : ℕ → State → ℕ → Step State
rereads zero x i = record { memory = x; access = reads i 1; says = nothing; then = stay }
rereads (suc j) x i = record { memory = set_succ i j x; access = reads i 1; says = nothing; then = to 10 }

-- 10: write the successor's locked false
abbrev pub wakes : State → ℕ → Step State
wakes x i = record { memory = set_locked (x.succ i) 0 x; access = writes (x.succ i) 2; says = one release; then = over }

unfoldable pub step : Settings → State → ℕ → ℕ → Step State
step s x at i =
    pick (eqb at 1) (clears x i) (
    pick (eqb at 2) (swaps x.tail s x i) (
    pick (eqb at 3) (locks x i) (
    pick (eqb at 4) (links x i) (
    pick (eqb at 5) (waits (x.locked i) x i) (
    pick (eqb at 7) (looks (x.next i) x i) (
    pick (eqb at 8) (drains (eqb x.tail (suc i)) s x) (
    pick (eqb at 9) (rereads (x.next i) x i) (
    wakes x i))))))))

abbrev pub start : Settings → State
start s = record { tail = 0; next = each 0; locked = each 0; pred = each 0; succ = each 0 }

abbrev pub machine : Machine
machine = record { State = State; start = start; step = step }
