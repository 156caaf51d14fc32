-- In every machine no step but the last of a passage leads to step 1, where a passage begins.
use mathlib.Core.Path.{◌≡◌, refl, subst}
use mathlib.Core.Logic.{◌≢◌}
use mathlib.Core.Bool.{Bool, true, false}
use Prim.Native.Nat.{ℕ, zero, suc, ◌+◌, ◌-◌}
use native.Mathlib.Omega.{arith}
use native.Mathlib.Decide.{ℕ_discrete}
use borrow.Author.Tests.{ne_eqb}
use lib.Dec.{eqb, ltb}
use Rattle.rules.specs.Memory.{pick}
use Rattle.rules.specs.Settings.{Settings}
use Rattle.rules.specs.Step.{Access, one, arrive, Next, to, Step, Machine}
use Rattle.rules.specs.Ticket as ticket
use Rattle.rules.specs.Mcs as mcs
use Rattle.rules.specs.Central as central
use Rattle.rules.specs.Dissem as dissem
use Rattle.rules.specs.Tree as tree
use Rattle.rules.specs.Machines.{table, machine}
use Rattle.rules.proofs.Known.{found}
use Rattle.rules.proofs.Store.{either}
use Rattle.laws.specs.Laws.{Passes}
use Rattle.laws.proofs.Costs.{Inside}

-- a step made at k
abbrev Way : {S : Type 0} → ℕ → Step S → Type 0
Way k w = Inside (Unit {0}) w.then k

-- a machine's first step, and one that is not the first
passes : (m : Machine) → ((s : Settings) (x : m.State) (i : ℕ) → Way 1 (m.step s x 1 i))
    → ((s : Settings) (x : m.State) (k i : ℕ) → k ≢ 1 → Way k (m.step s x k i)) → Passes m
passes m a b = record {
  stays = λ s x i e. subst (λ (n : Next). Inside (Unit {0}) n 1) e (a s x i) refl;
  goes = λ s x k i j e. subst (λ (n : Next). Inside (Unit {0}) n k) e (way s x k i);
  looks = λ s x k i j e. subst (λ (n : Next). Inside (Unit {0}) n k) e (way s x k i);
}
  where
    way : (s : Settings) (x : m.State) (k i : ℕ) → Way k (m.step s x k i)
    way s x k i = go (ℕ_discrete k 1)
      where
        go : Dec (k ≡ 1) → Way k (m.step s x k i)
        go (yes e) = rw e (a s x i)
        go (no n) = b s x k i n

-- ---- the locks

ticket_passes : Passes ticket.machine
unfolding ticket.step
ticket_passes = passes ticket.machine (λ s x i. λ z. omega arith) later
  where
    wait : (s : Settings) (x : ticket.State) (k : ℕ) → k ≢ 1 → (b : Bool) → Way k (ticket.waits b s x)
    wait s x k n true = λ z. omega arith
    wait s x k n false = n

    later : (s : Settings) (x : ticket.State) (k i : ℕ) → k ≢ 1 → Way k (ticket.step s x k i)
    later s x k i n =
        either (Way k) (eqb k 1) _ _ (λ z. omega arith) (
        either (Way k) (eqb k 2) _ _ (wait s x k n (eqb x.release (x.mine i))) (
        either (Way k) (eqb k 3) _ _ (λ z. omega arith) tt))

mcs_passes : Passes mcs.machine
unfolding mcs.step
mcs_passes = passes mcs.machine (λ s x i. λ z. omega arith) later
  where
    later : (s : Settings) (x : mcs.State) (k i : ℕ) → k ≢ 1 → Way k (mcs.step s x k i)
    later s x k i n =
        either (Way k) (eqb k 1) _ _ (λ z. omega arith) (
        either (Way k) (eqb k 2) _ _ (swap x.tail) (
        either (Way k) (eqb k 3) _ _ (λ z. omega arith) (
        either (Way k) (eqb k 4) _ _ (λ z. omega arith) (
        either (Way k) (eqb k 5) _ _ (wait (x.locked i)) (
        either (Way k) (eqb k 7) _ _ (look (x.next i)) (
        either (Way k) (eqb k 8) _ _ (drain (eqb x.tail (suc i))) (
        either (Way k) (eqb k 9) _ _ (reread (x.next i)) tt)))))))
      where
        swap : (v : ℕ) → Way k (mcs.swaps v s x i)
        swap zero = λ z. omega arith
        swap (suc v) = λ z. omega arith

        wait : (v : ℕ) → Way k (mcs.waits v x i)
        wait zero = λ z. omega arith
        wait (suc v) = n

        look : (v : ℕ) → Way k (mcs.looks v x i)
        look zero = λ z. omega arith
        look (suc v) = λ z. omega arith

        drain : (b : Bool) → Way k (mcs.drains b s x)
        drain true = tt
        drain false = λ z. omega arith

        reread : (v : ℕ) → Way k (mcs.rereads v x i)
        reread zero = n
        reread (suc v) = λ z. omega arith

-- ---- the barriers

central_passes : Passes central.machine
unfolding central.step
central_passes = passes central.machine (λ s x i. count x 1) later
  where
    count : (x : central.State) (k : ℕ) → Inside (Unit {0}) (to (pick (eqb x.count 1) 2 4)) k
    count x k = either (λ j. j ≢ 1) (eqb x.count 1) 2 4 (λ z. omega arith) (λ z. omega arith)

    wait : (s : Settings) (x : central.State) (k : ℕ) → k ≢ 1 → (b : Bool) → Way k (central.waits b s x)
    wait s x k n true = tt
    wait s x k n false = n

    later : (s : Settings) (x : central.State) (k i : ℕ) → k ≢ 1 → Way k (central.step s x k i)
    later s x k i n =
        either (Way k) (eqb k 1) _ _ (count x k) (
        either (Way k) (eqb k 2) _ _ (λ z. omega arith) (
        either (Way k) (eqb k 3) _ _ tt (wait s x k n (eqb x.sense (x.local i)))))

dissem_passes : Passes dissem.machine
unfolding dissem.step
dissem_passes = passes dissem.machine (λ s x i. first s x i 1) later
  where
    first : (s : Settings) (x : dissem.State) (i k : ℕ) → Way k (pick (eqb s.procs 1) (dissem.alone x) (dissem.tells 0 (one arrive) s x i))
    first s x i k = either (Way k) (eqb s.procs 1) _ _ tt (λ z. omega arith)

    wait : (x : dissem.State) (k i : ℕ) → k ≢ 1 → (b last : Bool) → Way k (dissem.waits b last x i)
    wait x k i n false last = n
    wait x k i n true false = λ z. omega arith
    wait x k i n true true = tt

    later : (s : Settings) (x : dissem.State) (k i : ℕ) → k ≢ 1 → Way k (dissem.step s x k i)
    later s x k i n =
        either (Way k) (eqb k 1) _ _ (first s x i k) (
        either (Way k) (eqb k 2) _ _
        (wait x k i n (eqb (x.flag i (dissem.variable x i (x.round i))) (x.sense i)) (eqb (x.round i + 1) (dissem.doublings s.procs)))
        (λ z. omega arith))

module _ (s : Settings) (x : tree.State) (k i : ℕ) where
  -- the step after a flag, and after the re-setting
  reading : (slot : ℕ) → tree.reading s i slot ≢ 1
  reading slot = either (λ j. j ≢ 1) (ltb (tree.child i slot) s.procs) (2 + slot) 6 (λ z. omega arith) (λ z. omega arith)

  look : (first : Bool) (slot : ℕ) (b : Bool) → Way k (tree.looks b first slot s x i)
  look first slot true = λ z. omega arith
  look first slot false = reading (slot + 1)

  wakes : (c j : ℕ) (first : Bool) (a : Access) (y : tree.State) → j ≢ 1 → Way k (tree.wakes_next c j first a s y i)
  wakes c j first a y n = either (Way k) (ltb c s.procs) _ _ n tt

  sets : (first : Bool) → Way k (tree.sets first s x i)
  sets first = either (Way k) (eqb i 0) _ _ (wakes (tree.left i) 9 first _ _ (λ z. omega arith)) (λ z. omega arith)

  wait : k ≢ 1 → (b : Bool) → Way k (tree.waits b s x i)
  wait n true = wakes (tree.left i) 9 false _ _ (λ z. omega arith)
  wait n false = n

tree_passes : Passes tree.machine
unfolding tree.step
tree_passes = passes tree.machine first later
  where
    first : (s : Settings) (x : tree.State) (i : ℕ) → Way 1 (tree.step s x 1 i)
    first s x i =
        either (λ k. Way 1 (tree.does true s x k i)) (ltb (tree.child i 0) s.procs) 2 6 (look s x 1 i true 0 (eqb (x.flag i 0) 1)) (sets s x 1 i true)

    later : (s : Settings) (x : tree.State) (k i : ℕ) → k ≢ 1 → Way k (tree.step s x k i)
    later s x k i n =
        rw (ne_eqb k 1 n)
        (either (Way k) (eqb k 6) _ _ (sets s x k i false) (
        either (Way k) (eqb k 7) _ _ (λ z. omega arith) (
        either (Way k) (eqb k 8) _ _ (wait s x k i n (eqb (x.wake i) (x.sense i))) (
        either (Way k) (eqb k 9) _ _ (wakes s x k i (tree.right i) 10 false _ _ (λ z. omega arith)) (
        either (Way k) (eqb k 10) _ _ tt (look s x k i false (k - 2) (eqb (x.flag i (k - 2)) 1)))))))

pub machine_passes : (algo : ℕ) → Passes (machine algo)
machine_passes algo =
    found (λ l. Passes l.machine) (λ l. eqb algo l.number) table
    (ticket_passes, (mcs_passes, (central_passes, (dissem_passes, (tree_passes, ticket_passes)))))
