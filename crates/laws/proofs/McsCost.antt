-- No passage of the MCS lock makes more than four remote references, and one makes four.
use mathlib.Core.Path.{◌≡◌, refl}
use mathlib.Core.Bool.{Bool, true, false}
use mathlib.Core.List.{List, [], ◌∷◌}
use Prim.Native.Nat.{ℕ, zero, suc, ◌+◌, ◌*◌, ◌≤◌}
use native.Mathlib.Omega.{arith}
use lib.Dec.{eqb}
use Rattle.rules.specs.Memory.{upd, each}
use Rattle.rules.specs.Settings.{Settings, entry}
use Rattle.rules.specs.Step.{read, write, writes, atomics, remote, Step}
use Rattle.rules.specs.Course.{turn}
use Rattle.rules.specs.Tally.{begun}
use Rattle.rules.specs.Play.{taking, within, after, play, whole}
use Rattle.rules.specs.Calls.{all_below}
use Rattle.rules.specs.Mcs.{State, swaps, waits, looks, drains, rereads, step, machine}
use Rattle.rules.proofs.Steps.{place, remote≤, own}
use Rattle.laws.specs.Laws.{sum, passages, prices, largest, NoneAbove, turns_of_one, most_references, three_boards, four_turns}
use Rattle.laws.proofs.Costs.{Inside, Cost, at_most}
use Rattle.laws.proofs.Budget.{never_stopped}
use Rattle.laws.proofs.Counting.{counts_passages}
use Rattle.laws.proofs.Ways.{machine_passes}

-- how many references of its passage a processor may have made before each step
data Cap (k h : ℕ) : Type 0 where
  c1 : k ≡ 1 → Cap k h
  c2 : k ≡ 2 → h ≤ 0 → Cap k h
  c3 : k ≡ 3 → h ≤ 1 → Cap k h
  c4 : k ≡ 4 → h ≤ 1 → Cap k h
  c5 : k ≡ 5 → h ≤ 2 → Cap k h
  c7 : k ≡ 7 → h ≤ 2 → Cap k h
  c8 : k ≡ 8 → h ≤ 2 → Cap k h
  c9 : k ≡ 9 → h ≤ 3 → Cap k h
  c10 : k ≡ 10 → h ≤ 3 → Cap k h

module _ (s : Settings) (x : State) (i h : ℕ) where
  -- after step t, made at k; and no step but the last leads to step 1
  abbrev Fine : ℕ → Step State → Type 0
  Fine k t = (Cap (place t.then k) (begun k h + remote i t.access) × (begun k h + remote i t.access ≤ most_references)) × Inside (Unit {0}) t.then k

  swap : (n : ℕ) → h ≤ 0 → Fine 2 (swaps n s x i)
  swap zero l = let r = remote≤ i (atomics s.home 0) in ((c7 refl (omega arith), omega arith), λ z. omega arith)
  swap (suc n) l = let r = remote≤ i (atomics s.home 0) in ((c3 refl (omega arith), omega arith), λ z. omega arith)

  wait : (n : ℕ) → h ≤ 2 → Fine 5 (waits n x i)
  wait zero l = let r = own i read 2 in ((c7 refl (omega arith), omega arith), λ z. omega arith)
  wait (suc n) l = let r = own i read 2 in ((c5 refl (omega arith), omega arith), λ z. omega arith)

  look : (n : ℕ) → h ≤ 2 → Fine 7 (looks n x i)
  look zero l = let r = own i read 1 in ((c8 refl (omega arith), omega arith), λ z. omega arith)
  look (suc n) l = let r = own i read 1 in ((c10 refl (omega arith), omega arith), λ z. omega arith)

  drain : (b : Bool) → h ≤ 2 → Fine 8 (drains b s x)
  drain true l = let r = remote≤ i (atomics s.home 0) in ((c1 refl, omega arith), tt)
  drain false l = let r = remote≤ i (atomics s.home 0) in ((c9 refl (omega arith), omega arith), λ z. omega arith)

  reread : (n : ℕ) → h ≤ 3 → Fine 9 (rereads n x i)
  reread zero l = let r = own i read 1 in ((c9 refl (omega arith), omega arith), λ z. omega arith)
  reread (suc n) l = let r = own i read 1 in ((c10 refl (omega arith), omega arith), λ z. omega arith)

  costs : (k : ℕ) → Cap k h → Fine k (step s x k i)
  unfolding step
  costs k (c1 e) = let r = own i write 1 in rw e ((c2 refl (omega arith), omega arith), λ z. omega arith)
  costs k (c2 e l) = rw e (swap x.tail l)
  costs k (c3 e l) = let r = own i write 2 in rw e ((c4 refl (omega arith), omega arith), λ z. omega arith)
  costs k (c4 e l) = let r = remote≤ i (writes (x.pred i) 1) in rw e ((c5 refl (omega arith), omega arith), λ z. omega arith)
  costs k (c5 e l) = rw e (wait (x.locked i) l)
  costs k (c7 e l) = rw e (look (x.next i) l)
  costs k (c8 e l) = rw e (drain (eqb x.tail (suc i)) l)
  costs k (c9 e l) = rw e (reread (x.next i) l)
  costs k (c10 e l) = let r = remote≤ i (writes (x.succ i) 2) in rw e ((c1 refl, omega arith), tt)

mcs_cost : (s : Settings) → Cost machine s
mcs_cost s = record {
  Cap = λ x i. Cap;
  top = each most_references;
  start = λ i. c1 refl;
  step = λ x i k h c. (costs s x i h k c).0;
  others = λ x l j i k h n c. c;
}

-- no passage, finished or not, makes more than four
pub four : (s : Settings) (t : List ℕ) (i : ℕ) → (whole machine s t).tally.most i ≤ most_references
unfolding mcs_cost
four s = at_most machine s (mcs_cost s)

-- and so it is with the accesses made in it
none_above : (n : ℕ) (l : List ℕ) → largest l ≤ n → NoneAbove n l
none_above n [] h = tt
none_above n (k ∷ l) h = (omega arith, none_above n l (omega arith))

pub four_made : (s : Settings) (t : List ℕ) (i : ℕ) → NoneAbove most_references (prices (passages (turns_of_one machine s t i)))
four_made s t i = none_above most_references (prices (passages (turns_of_one machine s t i))) (omega (arith, four s t i, (counts_passages machine (machine_passes 2) s t i).most))

pub four_reached : (whole machine three_boards four_turns).tally.most 2 ≡ most_references
unfolding whole play after within taking turn remote upd step
four_reached = refl

-- a budget of four for each of all passages stops no run
pub four_suffice : (s : Settings) → sum (λ i. entry s.rounds i * most_references) s.procs ≤ s.budget
    → (t : List ℕ) → all_below s.procs t ≡ true → (whole machine s t).stopped ≡ false
unfolding mcs_cost
four_suffice s = never_stopped machine s (mcs_cost s) (λ x i k h c. (costs s x i h k c).1)
