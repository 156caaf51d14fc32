-- What is counted, by the turns that are taken; and the most of a passage, by the accesses made in it.
use mathlib.Core.Path.{◌≡◌, refl, sym, ap, subst}
use mathlib.Core.Logic.{◌≢◌}
use mathlib.Core.Bool.{Bool, true, false}
use mathlib.Core.List.{List, [], ◌∷◌, ◌++◌}
use Prim.Native.Nat.{ℕ, ◌+◌, max}
use native.Mathlib.Decide.{ℕ_discrete}
use native.Mathlib.Omega.{arith}
use borrow.Author.Tests.{eq-eqb, ne_eqb}
use lib.Dec.{eqb}
use Rattle.rules.specs.Memory.{pick}
use Rattle.rules.specs.Settings.{Settings}
use Rattle.rules.specs.Step.{Access, remote, Next, stay, again, to, over, Machine}
use Rattle.rules.specs.Course.{Course, Turn, holds, idles, makes, course}
use Rattle.rules.specs.Tally.{Tally, access, begun, spun, tally}
use Rattle.rules.specs.Play.{Run, first, next, taking, after, play, whole}
use Rattle.rules.proofs.Store.{upd_same, upd_other}
use Rattle.rules.proofs.Steps.{passed, ends_same, ends_other}
use Rattle.rules.proofs.Plays.{by_after, by_turn}
use Rattle.laws.specs.Laws.{turns_taken, accesses, accesses_of, remotes, by, spins, ends, is_idle, is_step, count, onto, passages, prices, largest, last_of, turns_of_one, Counts, CountsPassages, Passes}
use Rattle.laws.proofs.Totals.{one_turn}
use Rattle.laws.proofs.Costs.{Account, account, Inside, under_way, stepped, own_step, other_step}

-- ---- by the turns taken

module _ (m : Machine) (s : Settings) {N : Type 0} (number : Course → Tally → N) (Q : N → List (ℕ × Turn m.State) → N → Type 0) where
  abbrev of : Run m.State → N
  of r = number r.course r.tally

  -- what is said of numbers before, turns that are taken, and the numbers after: where it holds of no turns, and of one turn more before those of which it holds
  pub by_turns : ((a : N) → Q a [] a)
      → ((r : Run m.State) (i : ℕ) (l : List (ℕ × Turn m.State)) (b : N)
      → Q (number (course s i (next m s r i) r.course) (tally i (r.course.at i) (next m s r i) r.tally)) l b → Q (of r) ((i, next m s r i) ∷ l) b)
      → (t : List ℕ) (r : Run m.State) → Q (of r) (turns_taken m s t r) (of (play m s t r))
  unfolding play turns_taken taking
  by_turns nil one [] r = nil (of r)
  by_turns nil one (i ∷ t) r = by_after m s r i Goes (same r) (same _) (λ l h. rw (ne_eqb (r.taken + 1) r.taken (λ e. omega arith)) (one r i _ _ h)) (by_turns nil one t (after m s r i))
    where
      Goes : Run m.State → Type 0
      Goes q = Q (of q) (turns_taken m s t q) (of (play m s t q))
          → Q (of r) (pick (eqb q.taken r.taken) [] ((i, next m s r i) ∷ []) ++ turns_taken m s t q) (of (play m s t q))

      same : (q : Run m.State) → Q (of r) (turns_taken m s t q) (of (play m s t q))
          → Q (of r) (pick (eqb r.taken r.taken) [] ((i, next m s r i) ∷ []) ++ turns_taken m s t q) (of (play m s t q))
      same q h = rw (eq-eqb r.taken r.taken refl) h

-- ---- the total

pub total_counted_turns : (m : Machine) (s : Settings) (t : List ℕ) → (whole m s t).tally.total ≡ remotes (accesses_of (turns_taken m s t (first m s)))
unfolding whole
total_counted_turns m s t =
    omega (
      arith,
      by_turns m s (λ c t. t.total) (λ a l b. b ≡ a + remotes (accesses_of l)) (λ a. omega arith)
          (λ r i l b h. omega (arith, h, one_turn i (r.course.at i) (next m s r i) r.tally)) t (first m s),
    )

-- the accesses are those made in the turns taken
in_turns : (m : Machine) (s : Settings) (t : List ℕ) (r : Run m.State) → accesses m s t r ≡ accesses_of (turns_taken m s t r)
unfolding accesses turns_taken
in_turns m s [] r = refl
in_turns m s (i ∷ t) r = go (eqb (after m s r i).taken r.taken) (accesses m s t (after m s r i)) (turns_taken m s t (after m s r i)) (in_turns m s t (after m s r i))
  where
    go : (b : Bool) (l : List (ℕ × Access)) (w : List (ℕ × Turn m.State)) → l ≡ accesses_of w
        → pick b [] ((i, access (next m s r i)) ∷ []) ++ l ≡ accesses_of (pick b [] ((i, next m s r i) ∷ []) ++ w)
    go true l w e = e
    go false l w e = ap (λ (l : List (ℕ × Access)). (i, access (next m s r i)) ∷ l) e

pub made_in_turns : (m : Machine) (s : Settings) (t : List ℕ) → accesses m s t (first m s) ≡ accesses_of (turns_taken m s t (first m s))
made_in_turns m s t = in_turns m s t (first m s)

-- ---- the numbers of one processor

record Numbers : Type 0 where
  done : ℕ
  far : ℕ
  spins : ℕ
  idle : ℕ

abbrev numbers : ℕ → Course → Tally → Numbers
numbers i c t = record { done = c.done i; far = t.far i; spins = t.spins i; idle = t.idle i }

-- b is a and what the turns add
record Adds {S : Type 0} (a : Numbers) (l : List (ℕ × Turn S)) (b : Numbers) : Type 0 where
  done : b.done ≡ a.done + count (is_step ends) l
  far : b.far ≡ a.far + remotes (accesses_of l)
  spins : b.spins ≡ a.spins + count (is_step spins) l
  idle : b.idle ≡ a.idle + count is_idle l

-- what one turn of i adds
ended : (n : Next) (d : ℕ) → passed n d ≡ d + pick (ends n) 1 0
ended stay d = omega arith
ended (again k) d = omega arith
ended (to k) d = omega arith
ended over d = refl

spun_same : (n : Next) (i : ℕ) (f : ℕ → ℕ) → spun n i f i ≡ f i + pick (spins n) 1 0
spun_same stay i f = upd_same f i (f i + 1)
spun_same (again k) i f = upd_same f i (f i + 1)
spun_same (to k) i f = omega arith
spun_same over i f = omega arith

spun_other : (n : Next) (i : ℕ) (f : ℕ → ℕ) (j : ℕ) → j ≢ i → spun n i f j ≡ f j
spun_other stay i f j h = upd_other f i _ j h
spun_other (again k) i f j h = upd_other f i _ j h
spun_other (to k) i f j h = refl
spun_other over i f j h = refl

module _ {S : Type 0} (s : Settings) (c : Course) (t : Tally) where
  adds_own : (i : ℕ) (w : Turn S) (l : List (ℕ × Turn S)) (b : Numbers)
      → Adds (numbers i (course s i w c) (tally i (c.at i) w t)) l b → Adds (numbers i c t) ((i, w) ∷ l) b
  unfolding remote
  adds_own i holds l b h = record { done = omega (arith, h.done); far = omega (arith, h.far); spins = omega (arith, h.spins); idle = omega (arith, h.idle) }
  adds_own i idles l b h = record {
    done = omega (arith, h.done);
    far = omega (arith, h.far);
    spins = omega (arith, h.spins);
    idle = omega (arith, h.idle, upd_same t.idle i (t.idle i + 1));
  }
  adds_own i (makes w) l b h = record {
    done = omega (arith, h.done, ends_same w.then i c.done, ended w.then (c.done i));
    far = omega (arith, h.far, upd_same t.far i (t.far i + remote i w.access));
    spins = omega (arith, h.spins, spun_same w.then i t.spins);
    idle = omega (arith, h.idle);
  }

  numbers_other : (i : ℕ) (w : Turn S) (j : ℕ) → j ≢ i → numbers j (course s i w c) (tally i (c.at i) w t) ≡ numbers j c t
  numbers_other i holds j n = refl
  numbers_other i idles j n = rw (upd_other t.idle i _ j n) refl
  numbers_other i (makes w) j n = rw (ends_other w.then i c.done j n, upd_other t.far i _ j n, spun_other w.then i t.spins j n) refl

pub counts : (m : Machine) (s : Settings) (t : List ℕ) (i : ℕ) → Counts i (turns_of_one m s t i) (whole m s t)
unfolding whole
counts m s t i = go (by_turns m s (numbers i) (λ a l b. Adds a (by i l) b) (λ a. record { done = omega arith; far = omega arith; spins = omega arith; idle = omega arith }) one t (first m s))
  where
    one : (r : Run m.State) (j : ℕ) (l : List (ℕ × Turn m.State)) (b : Numbers)
        → Adds (numbers i (course s j (next m s r j) r.course) (tally j (r.course.at j) (next m s r j) r.tally)) (by i l) b
        → Adds (numbers i r.course r.tally) (by i ((j, next m s r j) ∷ l)) b
    one r j l b h = cases (ℕ_discrete i j)
      where
        cases : Dec (i ≡ j) → Adds (numbers i r.course r.tally) (by i ((j, next m s r j) ∷ l)) b
        cases (yes e) = rw (sym e, eq-eqb i i refl) (adds_own s r.course r.tally i (next m s r i) (by i l) b (rw (sym e) at h))
        cases (no n) = rw (ne_eqb j i (λ e. n (sym e))) (rw (numbers_other s r.course r.tally j (next m s r j) i n) at h)

    go : Adds (record { done = 0; far = 0; spins = 0; idle = 0 }) (turns_of_one m s t i) (numbers i (whole m s t).course (whole m s t).tally) → Counts i (turns_of_one m s t i) (whole m s t)
    go h = record { done = omega (arith, h.done); far = omega (arith, h.far); spins = omega (arith, h.spins); idle = omega (arith, h.idle) }

-- ---- its passages

-- the first of these goes on with the passage under way, if there is one
abbrev on_from : (k h : ℕ) → List ℕ → List ℕ
on_from k h [] = []
on_from k h (n ∷ l) = (begun k h + n) ∷ l

from_first : (h : ℕ) (l : List ℕ) → on_from 1 h l ≡ l
from_first h [] = refl
from_first h (n ∷ l) = ap (λ (k : ℕ). k ∷ l) (omega arith)

-- over these passages account a comes to be b
record Follows (a : Account) (ps : List (List (ℕ × Access))) (b : Account) : Type 0 where
  most : b.most ≡ max a.most (largest (on_from a.at a.here (prices ps)))
  here : b.here ≡ last_of a.here (on_from a.at a.here (prices ps))

module _ (a b : Account) (x : ℕ × Access) where
  abbrev h : ℕ
  h = begun a.at a.here + remote x.0 x.1

  -- a step before passages: the one that ends its passage, and the one that goes on at k
  follows_end : (ps : List (List (ℕ × Access))) → Follows (stepped over (remote x.0 x.1) a) ps b → Follows a ((x ∷ []) ∷ ps) b
  follows_end ps f =
      let l = from_first h (prices ps) in
      let e : begun a.at a.here + (remote x.0 x.1 + 0) ≡ h = omega arith in
      record { most = rw e (omega (arith, rw l at f.most)); here = rw e (rw l at f.here) }

  follows_on : (k : ℕ) → k ≢ 1 → (ps : List (List (ℕ × Access))) → Follows (stepped (to k) (remote x.0 x.1) a) ps b → Follows a (onto x ps) b
  follows_on k n [] f = record { most = omega (arith, f.most); here = omega (arith, f.here) }
  follows_on k n (p ∷ ps) f =
      let e : begun k h + remotes p ≡ begun a.at a.here + (remote x.0 x.1 + remotes p) = omega (arith, under_way k h n) in
      record { most = omega (arith, f.most, e); here = rw e at f.here }

  follows_step : (n : Next) → Inside (Unit {0}) n a.at → (ps : List (List (ℕ × Access))) → Follows (stepped n (remote x.0 x.1) a) ps b
      → Follows a (pick (ends n) ((x ∷ []) ∷ ps) (onto x ps)) b
  follows_step stay f ps = follows_on a.at f ps
  follows_step (again k) f ps = follows_on k f ps
  follows_step (to k) f ps = follows_on k f ps
  follows_step over f ps = follows_end ps

-- where a step leads, of a machine that passes
inside : (m : Machine) → Passes m → (s : Settings) (x : m.State) (k i : ℕ) → Inside (Unit {0}) (m.step s x k i).then k
inside m p s x k i = go (m.step s x k i).then refl
  where
    go : (n : Next) → (m.step s x k i).then ≡ n → Inside (Unit {0}) n k
    go stay e = λ z. p.stays s x i (subst (λ (k : ℕ). (m.step s x k i).then ≡ stay) z e)
    go (again j) e = p.looks s x k i j e
    go (to j) e = p.goes s x k i j e
    go over e = tt

pub counts_passages : (m : Machine) → Passes m → (s : Settings) (t : List ℕ) (i : ℕ) → CountsPassages i (turns_of_one m s t i) (whole m s t)
unfolding whole
counts_passages m p s t i =
    go (by_turns m s (λ c t. account c t i) (λ a l b. Follows a (passages (by i l)) b) (λ a. record { most = omega arith; here = refl }) one t (first m s))
  where
    After : Run m.State → ℕ → Turn m.State → Account
    After r j w = account (course s j w r.course) (tally j (r.course.at j) w r.tally) i

    own : (r : Run m.State) (l : List (ℕ × Turn m.State)) (b : Account) → Follows (After r i (next m s r i)) (passages l) b
        → Follows (account r.course r.tally i) (passages ((i, next m s r i) ∷ l)) b
    own r l b =
        by_turn m s r.memory r.course i (λ w. Follows (After r i w) (passages l) b → Follows (account r.course r.tally i) (passages ((i, w) ∷ l)) b)
        (λ z f. f) (λ e d f. f)
        (λ z f.
        let w = m.step s r.memory (r.course.at i) i in
        follows_step (account r.course r.tally i) b (i, w.access) w.then (inside m p s r.memory (r.course.at i) i) (passages l)
        (rw (own_step s r.course r.tally i w) at f))

    other : (r : Run m.State) (j : ℕ) → i ≢ j → After r j (next m s r j) ≡ account r.course r.tally i
    other r j n =
        by_turn m s r.memory r.course j (λ w. After r j w ≡ account r.course r.tally i)
        (λ z. refl) (λ e d. refl) (λ z. other_step s r.course r.tally j (m.step s r.memory (r.course.at j) j) i n)

    one : (r : Run m.State) (j : ℕ) (l : List (ℕ × Turn m.State)) (b : Account) → Follows (After r j (next m s r j)) (passages (by i l)) b
        → Follows (account r.course r.tally i) (passages (by i ((j, next m s r j) ∷ l))) b
    one r j l b f = cases (ℕ_discrete i j)
      where
        cases : Dec (i ≡ j) → Follows (account r.course r.tally i) (passages (by i ((j, next m s r j) ∷ l))) b
        cases (yes e) = rw (sym e, eq-eqb i i refl) (own r (by i l) b (rw (sym e) at f))
        cases (no n) = rw (ne_eqb j i (λ e. n (sym e))) (rw (other r j n) at f)

    go : Follows (record { at = 1; done = 0; here = 0; far = 0; most = 0 }) (passages (turns_of_one m s t i)) (account (whole m s t).course (whole m s t).tally i)
        → CountsPassages i (turns_of_one m s t i) (whole m s t)
    go f =
        let l = from_first 0 (prices (passages (turns_of_one m s t i))) in
        record { most = omega (arith, rw l at f.most); here = rw l at f.here }
