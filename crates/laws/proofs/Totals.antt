-- The total of a run: the remote accesses of the turns taken, and the sum over the processors.
use mathlib.Core.Path.{◌≡◌, refl}
use mathlib.Core.Logic.{◌≢◌}
use mathlib.Core.Bool.{true}
use mathlib.Core.List.{List, [], ◌∷◌, ◌++◌}
use Prim.Native.Nat.{ℕ, zero, suc, ◌+◌, ◌*◌, ◌≤◌, ◌<◌}
use native.Mathlib.Decide.{ℕ_discrete}
use native.Mathlib.Nat.{mul-add}
use native.Mathlib.Omega.{arith}
use borrow.Author.Tests.{eq-eqb, ne_eqb}
use lib.Dec.{eqb}
use Rattle.rules.specs.Memory.{pick, upd}
use Rattle.rules.specs.Settings.{Settings}
use Rattle.rules.specs.Step.{Access, remote, Machine}
use Rattle.rules.specs.Course.{Turn, holds, idles, makes}
use Rattle.rules.specs.Tally.{Tally, access, tally}
use Rattle.rules.specs.Play.{Run, first, next, taking, after, play, whole}
use Rattle.rules.specs.Calls.{all_below}
use Rattle.rules.proofs.Store.{upd_same, upd_other}
use Rattle.rules.proofs.Accepted.{Below, below}
use Rattle.rules.proofs.Plays.{by_after}
use Rattle.laws.specs.Laws.{sum, accesses, remotes}

-- a turn adds what its access costs
pub one_turn : {S : Type 0} (i at : ℕ) (w : Turn S) (t : Tally) → (tally i at w t).total ≡ t.total + remote i (access w)
unfolding remote
one_turn i at holds t = omega arith
one_turn i at idles t = omega arith
one_turn i at (makes w) t = refl

remotes_append : (a b : List (ℕ × Access)) → remotes (a ++ b) ≡ remotes a + remotes b
remotes_append [] b = omega arith
remotes_append (x ∷ a) b = omega (arith, remotes_append a b)

-- ---- the sum over the processors

sum_past : (f : ℕ → ℕ) (i v n : ℕ) → n ≤ i → sum (upd f i v) n ≡ sum f n
sum_past f i v zero h = refl
sum_past f i v (suc n) h = let ne : n ≢ i = λ e. omega arith in omega (arith, sum_past f i v n (omega arith), upd_other f i v n ne)

-- a store at i changes the sum by what it changes there
sum_stored : (f : ℕ → ℕ) (i v n : ℕ) → i < n → sum (upd f i v) n + f i ≡ sum f n + v
sum_stored f i v zero h = absurd (omega arith)
sum_stored f i v (suc n) h = go (ℕ_discrete n i) (sum_stored f i v n)
  where
    go : Dec (n ≡ i) → (i < n → sum (upd f i v) n + f i ≡ sum f n + v) → sum (upd f i v) (suc n) + f i ≡ sum f (suc n) + v
    go (yes e) below = rw e (omega (arith, sum_past f i v i (omega arith), upd_same f i v))
    go (no ne) below = omega (arith, below (omega arith), upd_other f i v n ne)

pub sum_zero : (n : ℕ) → sum (λ j. 0) n ≡ 0
sum_zero zero = refl
sum_zero (suc n) = omega (arith, sum_zero n)

pub sum_times : (f g : ℕ → ℕ) (k n : ℕ) → ((i : ℕ) → i < n → f i ≡ k * g i) → sum f n ≡ k * sum g n
sum_times f g k zero h = omega arith
sum_times f g k (suc n) h = omega (arith, sum_times f g k n (λ i l. h i (omega arith)), h n (omega arith), mul-add k (sum g n) (g n))

-- where no summand of f is above g's the sum is not; and where it is less by d at i, so is the sum
pub sum_least : (f g : ℕ → ℕ) (n : ℕ) → ((j : ℕ) → j < n → f j ≤ g j) → sum f n ≤ sum g n
sum_least f g zero h = omega arith
sum_least f g (suc n) h = omega (arith, sum_least f g n (λ j l. h j (omega arith)), h n (omega arith))

pub sum_less : (f g : ℕ → ℕ) (i d n : ℕ) → i < n → f i + d ≤ g i → ((j : ℕ) → j < n → f j ≤ g j) → sum f n + d ≤ sum g n
sum_less f g i d zero l e h = absurd (omega arith)
sum_less f g i d (suc n) l e h = go (ℕ_discrete n i) (λ l. sum_less f g i d n l e (λ j b. h j (omega arith)))
  where
    go : Dec (n ≡ i) → (i < n → sum f n + d ≤ sum g n) → sum f (suc n) + d ≤ sum g (suc n)
    go (yes z) below = rw z (omega (arith, sum_least f g i (λ j b. h j (omega arith))))
    go (no z) below = omega (arith, below (omega arith), h n (omega arith))

module _ (m : Machine) (s : Settings) where
  -- ---- by the accesses

  counted_turn : (r : Run m.State) (i : ℕ)
      → (after m s r i).tally.total ≡ r.tally.total + remotes (pick (eqb (after m s r i).taken r.taken) [] ((i, access (next m s r i)) ∷ []))
  unfolding taking
  counted_turn r i = by_after m s r i Counted unchanged unchanged (λ l. rw (ne_eqb (r.taken + 1) r.taken (λ e. omega arith)) (omega (arith, one_turn i (r.course.at i) (next m s r i) r.tally)))
    where
      Counted : Run m.State → Type 0
      Counted q = q.tally.total ≡ r.tally.total + remotes (pick (eqb q.taken r.taken) [] ((i, access (next m s r i)) ∷ []))

      unchanged : r.tally.total ≡ r.tally.total + remotes (pick (eqb r.taken r.taken) [] ((i, access (next m s r i)) ∷ []))
      unchanged = rw (eq-eqb r.taken r.taken refl) (omega arith)

  counted_play : (t : List ℕ) (r : Run m.State) → (play m s t r).tally.total ≡ r.tally.total + remotes (accesses m s t r)
  unfolding play accesses
  counted_play [] r = omega arith
  counted_play (i ∷ t) r =
      rw (remotes_append (pick (eqb (after m s r i).taken r.taken) [] ((i, access (next m s r i)) ∷ [])) (accesses m s t (after m s r i)))
      (omega (arith, counted_play t (after m s r i), counted_turn r i))

  pub total_counted : (t : List ℕ) → (whole m s t).tally.total ≡ remotes (accesses m s t (first m s))
  unfolding whole
  total_counted t = omega (arith, counted_play t (first m s))

  -- ---- by the processors

  pub summed : (n i at : ℕ) (w : Turn m.State) (t : Tally) → i < n → sum t.far n ≡ t.total → sum (tally i at w t).far n ≡ (tally i at w t).total
  summed n i at holds t b e = e
  summed n i at idles t b e = e
  summed n i at (makes w) t b e = omega (arith, sum_stored t.far i (t.far i + remote i w.access) n b)

  summed_play : (n : ℕ) (t : List ℕ) (r : Run m.State) → Below n t → sum r.tally.far n ≡ r.tally.total → sum (play m s t r).tally.far n ≡ (play m s t r).tally.total
  unfolding play taking
  summed_play n [] r b e = e
  summed_play n (i ∷ t) r b e =
      summed_play n t (after m s r i) b.1
      (by_after m s r i (λ q. sum q.tally.far n ≡ q.tally.total) e e (λ l. summed n i (r.course.at i) (next m s r i) r.tally b.0 e))

  pub total_summed : (t : List ℕ) → all_below s.procs t ≡ true → sum (whole m s t).tally.far s.procs ≡ (whole m s t).tally.total
  unfolding whole
  total_summed t b = summed_play s.procs t (first m s) (below s.procs t b) (sum_zero s.procs)
