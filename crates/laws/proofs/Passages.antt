-- What the steps of a passage through a lock are, and how many of them are no spins: four with the ticket lock, nine with the queue lock.
use mathlib.Core.Path.{◌≡◌, refl}
use mathlib.Core.Bool.{Bool, true, false}
use Prim.Native.Nat.{ℕ, zero, suc, ◌+◌, ◌<◌}
use native.Mathlib.Omega.{arith}
use lib.Dec.{eqb}
use Rattle.rules.specs.Memory.{pick}
use Rattle.rules.specs.Settings.{Settings}
use Rattle.rules.specs.Step.{stay, to, over, Step, Machine}
use Rattle.rules.specs.Course.{holding}
use Rattle.rules.specs.Ticket as ticket
use Rattle.rules.specs.Mcs as mcs
use Rattle.laws.specs.Laws.{ticket_steps, queue_steps}

-- at step k, with h hold turns in a passage: at most so many turns of the passage are still to come, behind the one at k, but for spins
abbrev pub Ahead : Type 0
Ahead = (h k : ℕ) → ℕ

-- a step made with memory x, where v are to come: it stays, and changes nothing; it goes to a step where fewer are; it is the grant, which
-- goes to the step `in_it`, and hold turns come before that; or it ends the passage
pub data Walks {S : Type 0} (ahead : Ahead) (in_it h : ℕ) (x : S) (w : Step S) (v : ℕ) : Type 0 where
  stays : w.memory ≡ x → w.then ≡ stay → holding w.says ≡ false → Walks ahead in_it h x w v
  goes_to : (j : ℕ) → w.then ≡ to j → holding w.says ≡ false → ahead h j < v → Walks ahead in_it h x w v
  goes_in : w.then ≡ to in_it → holding w.says ≡ true → ahead h in_it + h < v → Walks ahead in_it h x w v
  ends_it : w.then ≡ over → holding w.says ≡ false → Walks ahead in_it h x w v

-- a passage has at most so many steps that are no spins
pub record Passage (m : Machine) (s : Settings) (steps in_it : ℕ) : Type 0 where
  pub ahead : Ahead
  pub first : (h : ℕ) → suc (ahead h 1) ≡ steps + h
  pub walks : (x : m.State) (k i h : ℕ) → Walks ahead in_it h x (m.step s x k i) (ahead h k)

walks_or : {S : Type 0} {ahead : Ahead} {in_it h : ℕ} {x : S} (b : Bool) {t u : Step S} {v w : ℕ}
    → Walks ahead in_it h x t v → Walks ahead in_it h x u w → Walks ahead in_it h x (pick b t u) (pick b v w)
walks_or true p q = p
walks_or false p q = q

-- ---- ticket: 1, 2, hold turns, 3, 4

abbrev ticket_ahead : Ahead
ticket_ahead h k = pick (eqb k 1) (3 + h) (pick (eqb k 2) (2 + h) (pick (eqb k 3) 1 0))

pub ticket_waits : (s : Settings) (x : ticket.State) (h : ℕ) (b : Bool) → Walks ticket_ahead 3 h x (ticket.waits b s x) (2 + h)
ticket_waits s x h true = goes_in refl refl (omega arith)
ticket_waits s x h false = stays refl refl refl

ticket_walks : (s : Settings) (x : ticket.State) (k i h : ℕ) → Walks ticket_ahead 3 h x (ticket.step s x k i) (ticket_ahead h k)
unfolding ticket.step
ticket_walks s x k i h =
    walks_or (eqb k 1) (goes_to 2 refl refl (omega arith)) (walks_or (eqb k 2) (ticket_waits s x h (eqb x.release (x.mine i))) (
    walks_or (eqb k 3) (goes_to 4 refl refl (omega arith)) (ends_it refl refl)))

pub ticket_passage : (s : Settings) → Passage ticket.machine s ticket_steps 3
ticket_passage s = record { ahead = ticket_ahead; first = λ h. omega arith; walks = ticket_walks s }

-- ---- mcs: 1 to 5, hold turns, 7 to 10

abbrev mcs_ahead : Ahead
mcs_ahead h k =
    pick (eqb k 1) (8 + h) (pick (eqb k 2) (7 + h) (pick (eqb k 3) (6 + h) (pick (eqb k 4) (5 + h) (pick (eqb k 5) (4 + h) (
    pick (eqb k 7) 3 (pick (eqb k 8) 2 (pick (eqb k 9) 1 0)))))))

mcs_walks : (s : Settings) (x : mcs.State) (k i h : ℕ) → Walks mcs_ahead 7 h x (mcs.step s x k i) (mcs_ahead h k)
unfolding mcs.step
mcs_walks s x k i h =
    walks_or (eqb k 1) (goes_to 2 refl refl (omega arith)) (walks_or (eqb k 2) (swap x.tail) (
    walks_or (eqb k 3) (goes_to 4 refl refl (omega arith)) (walks_or (eqb k 4) (goes_to 5 refl refl (omega arith)) (
    walks_or (eqb k 5) (wait (x.locked i)) (walks_or (eqb k 7) (look (x.next i)) (walks_or (eqb k 8) (drain (eqb x.tail (suc i))) (
    walks_or (eqb k 9) (reread (x.next i)) (ends_it refl refl))))))))
  where
    swap : (n : ℕ) → Walks mcs_ahead 7 h x (mcs.swaps n s x i) (7 + h)
    swap zero = goes_in refl refl (omega arith)
    swap (suc n) = goes_to 3 refl refl (omega arith)

    wait : (n : ℕ) → Walks mcs_ahead 7 h x (mcs.waits n x i) (4 + h)
    wait zero = goes_in refl refl (omega arith)
    wait (suc n) = stays refl refl refl

    look : (n : ℕ) → Walks mcs_ahead 7 h x (mcs.looks n x i) 3
    look zero = goes_to 8 refl refl (omega arith)
    look (suc n) = goes_to 10 refl refl (omega arith)

    drain : (b : Bool) → Walks mcs_ahead 7 h x (mcs.drains b s x) 2
    drain true = ends_it refl refl
    drain false = goes_to 9 refl refl (omega arith)

    reread : (n : ℕ) → Walks mcs_ahead 7 h x (mcs.rereads n x i) 1
    reread zero = stays refl refl refl
    reread (suc n) = goes_to 10 refl refl (omega arith)

pub mcs_passage : (s : Settings) → Passage mcs.machine s queue_steps 7
mcs_passage s = record { ahead = mcs_ahead; first = λ h. omega arith; walks = mcs_walks s }
