-- A finished passage of the tree barrier makes exactly tree_price_of remote references, and the prices of all make 2 P - 2.
use mathlib.Core.Path.{◌≡◌, refl, sym, ap, ◌∙◌}
use mathlib.Core.Logic.{◌≢◌}
use mathlib.Core.Bool.{Bool, true, false}
use mathlib.Core.List.{[], ◌∷◌, ◌++◌}
use Prim.Native.Nat.{ℕ, zero, suc, ◌+◌, ◌-◌, ◌*◌, ◌≤◌, ◌<◌, min}
use native.Mathlib.Decide.{ℕ_discrete}
use native.Mathlib.Omega.{arith}
use borrow.Author.Tests.{eqb-true, eqb-false, ltb-true, ltb-false, ne_eqb, lt-ltb, le-ltb}
use lib.Dec.{eqb, ltb}
use Rattle.rules.specs.Memory.{pick, upd}
use Rattle.rules.specs.Settings.{Settings}
use Rattle.rules.specs.Step.{read, write, Access, remote, Step}
use Rattle.rules.specs.Course.{turn}
use Rattle.rules.specs.Tally.{begun}
use Rattle.rules.specs.Play.{Run, taking, within, after, play, whole}
use Rattle.rules.specs.Tree.{State, parent, child, left, right, wakes_next, reading, looks, sets, tells, waits, wakes_left, wakes_right, does, step, machine}
use Rattle.rules.proofs.Store.{either, by_test}
use Rattle.rules.proofs.Steps.{place, own, others}
use Rattle.laws.specs.Laws.{sum, tree_price_of, seven_boards, seven_turns, TreePrice}
use Rattle.laws.proofs.Costs.{at_most}
use Rattle.laws.proofs.Counting.{counts_passages}
use Rattle.laws.proofs.Ways.{machine_passes}
use Rattle.laws.proofs.Prices as prices
use Rattle.laws.proofs.Prices.{Pays, Price}

-- 1 for who has a parent to tell
abbrev told : ℕ → ℕ
told i = pick (eqb i 0) 0 1

is_told : (i : ℕ) → i ≢ 0 → told i ≡ 1
is_told i n = rw (ne_eqb i 0 n) refl

-- 1 for a child that is present among p
abbrev present : (p c : ℕ) → ℕ
present p c = pick (ltb c p) 1 0

is_present : (p c : ℕ) → c < p → present p c ≡ 1
is_present p c l = rw (lt-ltb c p l) refl

is_absent : (p c : ℕ) → p ≤ c → present p c ≡ 0
is_absent p c l = rw (le-ltb c p l) refl

-- how many references of its passage processor i has made before each step, and what brought it there
data Cap (s : Settings) (i k h : ℕ) : Type 0 where
  c1 : k ≡ 1 → Cap s i k h
  c2_6 : 2 ≤ k → k ≤ 6 → h ≡ 0 → Cap s i k h
  c7 : k ≡ 7 → i ≢ 0 → h ≡ 0 → Cap s i k h
  c8 : k ≡ 8 → i ≢ 0 → h ≡ 1 → Cap s i k h
  c9 : k ≡ 9 → left i < s.procs → h ≡ told i → Cap s i k h
  c10 : k ≡ 10 → right i < s.procs → h ≡ told i + 1 → Cap s i k h

module _ (s : Settings) (x : State) (i : ℕ) where
  -- after step w, made at k with g references before it in its passage
  abbrev Fine : (k g : ℕ) → Step State → Type 0
  Fine k g w =
      (let h : ℕ = g + remote i w.access in
      (Cap s i (place w.then k) h × (h ≤ tree_price_of s.procs i)) × Pays w.then k h (tree_price_of s.procs i))

  -- the left child is woken next, or there is none, and no right one
  wake : (k g : ℕ) (first : Bool) (a : Access) (y : State) → g + remote i a ≡ told i → Fine k g (wakes_next (left i) 9 first a s y i)
  wake k g first a y e =
      by_test (λ (w : Step State). Fine k g w) (ltb (left i) s.procs) _ _
      (λ t. ((c9 refl (ltb-true _ _ t) e, omega arith), λ z. omega arith))
      (λ t.
      let l = ltb-false (left i) s.procs t in
      let a = is_absent s.procs (left i) l in
      let b = is_absent s.procs (right i) (omega arith) in
      ((c1 refl, omega arith), omega arith))

  -- ---- the flags

  -- the step after, which is 2 to 5 for a flag, or 6
  next : (slot : ℕ) → slot ≤ 4 → (2 ≤ reading s i slot) × (reading s i slot ≤ 6)
  next slot l = either (λ k. (2 ≤ k) × (k ≤ 6)) (ltb (child i slot) s.procs) (2 + slot) 6 (omega arith, omega arith) (omega arith, omega arith)

  look : (b first : Bool) (k slot g : ℕ) → slot ≤ 3 → g ≡ 0 → Fine k g (looks b first slot s x i)
  look true first k slot g l e = let r = own i read 0 in ((c2_6 (omega arith) (omega arith) (omega arith), omega arith), λ z. omega arith)
  look false first k slot g l e =
      let r = own i read 0 in
      let w = next (slot + 1) (omega arith) in
      ((c2_6 w.0 w.1 (omega arith), omega arith), λ z. omega (arith, w.0))

  set : (first : Bool) (k g : ℕ) → g ≡ 0 → Fine k g (sets first s x i)
  set first k g e =
      let r = own i write 0 in
      by_test (λ (w : Step State). Fine k g w) (eqb i 0) _ _
      (λ t. wake k g first _ _ (rw t (omega arith)))
      (λ t. ((c7 refl (eqb-false i 0 t) (omega arith), omega arith), λ z. omega arith))

  -- step j, from 2 to 6
  flags : (first : Bool) (k j g : ℕ) → 2 ≤ j → j ≤ 6 → g ≡ 0 → Fine k g (does first s x j i)
  flags first k j g a b e = go (ℕ_discrete j 6)
    where
      go : Dec (j ≡ 6) → Fine k g (does first s x j i)
      go (yes z) = rw z (set first k g e)
      go (no n) =
          rw (ne_eqb j 6 n, ne_eqb j 7 (λ z. omega arith), ne_eqb j 8 (λ z. omega arith), ne_eqb j 9 (λ z. omega arith), ne_eqb j 10 (λ z. omega arith))
          (look (eqb (x.flag i (j - 2)) 1) first k (j - 2) g (omega arith) e)

  -- ---- the other steps

  tell : (h : ℕ) → i ≢ 0 → h ≡ 0 → Fine 7 h (tells x i)
  tell h n e =
      let r = others i write (parent i) 0 (λ z. n (omega arith)) in
      let t = is_told i n in
      ((c8 refl n (omega arith), omega arith), λ z. omega arith)

  wait : (b : Bool) (h : ℕ) → i ≢ 0 → h ≡ 1 → Fine 8 h (waits b s x i)
  wait true h n e = wake 8 h false _ _ (omega (arith, own i read 1, is_told i n))
  wait false h n e =
      let r = own i read 1 in
      let t = is_told i n in
      ((c8 refl n (omega arith), omega arith), λ z. omega arith)

  wake_left : (h : ℕ) → left i < s.procs → h ≡ told i → Fine 9 h (wakes_left s x i)
  wake_left h l e =
      let r = others i write (left i) 1 (λ z. omega arith) in
      let a = is_present s.procs (left i) l in
      by_test (λ (w : Step State). Fine 9 h w) (ltb (right i) s.procs) _ _
      (λ t. ((c10 refl (ltb-true _ _ t) (omega arith), omega arith), λ z. omega arith))
      (λ t. let b = is_absent s.procs (right i) (ltb-false _ _ t) in ((c1 refl, omega arith), omega arith))

  wake_right : (h : ℕ) → right i < s.procs → h ≡ told i + 1 → Fine 10 h (wakes_right x i)
  wake_right h l e =
      let r = others i write (right i) 1 (λ z. omega arith) in
      let a = is_present s.procs (left i) (omega arith) in
      let b = is_present s.procs (right i) l in
      ((c1 refl, omega arith), omega arith)

  costs : (k h : ℕ) → Cap s i k h → Fine k (begun k h) (step s x k i)
  unfolding step
  costs k h (c1 e) = let w = next 0 (omega arith) in rw e (flags true 1 (reading s i 0) 0 w.0 w.1 refl)
  costs k h (c2_6 a b e) = rw (ne_eqb k 1 (λ z. omega arith)) (flags false k k h a b e)
  costs k h (c7 e n l) = rw e (tell h n l)
  costs k h (c8 e n l) = rw e (wait (eqb (x.wake i) (x.sense i)) h n l)
  costs k h (c9 e n l) = rw e (wake_left h n l)
  costs k h (c10 e n l) = rw e (wake_right h n l)

tree_cost : (s : Settings) → Price machine s
tree_cost s = record {
  cost = record {
    Cap = λ x. Cap s;
    top = tree_price_of s.procs;
    start = λ i. c1 refl;
    step = λ x i k h c. (costs s x i k h c).0;
    others = λ x l j i k h n c. c;
  };
  pays = λ x i k h c. (costs s x i k h c).1;
}

-- ---- the prices of all

-- all but processor 0 have a parent to tell
parents : (n : ℕ) → n - 1 + told n ≡ n
parents n = by_test (λ k. n - 1 + k ≡ n) (eqb n 0) 0 1 (λ t. omega (arith, eqb-true n 0 t)) (λ t. let f = eqb-false n 0 t in omega arith)

-- and are a child to wake: c is the next one after n
children : (p n c : ℕ) → c ≡ n + 1 → min n (p - 1) + present p c ≡ min c (p - 1)
children p n c e =
    by_test (λ k. min n (p - 1) + k ≡ min c (p - 1)) (ltb c p) 1 0 (λ t. omega (arith, ltb-true c p t)) (λ t. omega (arith, ltb-false c p t))

-- what the first n pay
prices_below : (p n : ℕ) → sum (tree_price_of p) n ≡ n - 1 + min (2 * n) (p - 1)
prices_below p zero = omega arith
prices_below p (suc n) =
    let two : min (2 * n) (p - 1) + present p (left n) + present p (right n) ≡ min (right n) (p - 1) =
    rw (children p (2 * n) (left n) refl) (children p (left n) (right n) (omega arith)) in
    omega (arith, prices_below p n, parents n)

pub tree_price : TreePrice
unfolding tree_cost
tree_price = record {
  finished = λ s. prices.finished machine s (tree_cost s);
  made = λ s t i e. sym (counts_passages machine (machine_passes 5) s (t ++ i ∷ []) i).here ∙ prices.finished machine s (tree_cost s) t i e;
  at_most = λ s. at_most machine s (tree_cost s).cost;
  most = λ s. prices.most machine s (tree_cost s);
  references = λ s. prices.references machine s (tree_cost s);
  episodes = λ s t n b h. prices.episodes machine s (tree_cost s) t n b h ∙ ap (◌*◌ n) (omega (arith, prices_below s.procs s.procs));
}

pub episode_reached : (let r : Run State = whole machine seven_boards seven_turns in (sum r.course.done 7 ≡ 7) × (r.tally.total ≡ 12))
unfolding whole play after within taking turn remote upd step
episode_reached = (refl, refl)
