-- How large the numbers of a run can get: what a program needs to know of its buffers and number types.
use mathlib.Core.List.{List, [], ◌∷◌}
use Prim.Native.Nat.{ℕ, ◌+◌, ◌≤◌}
use native.Mathlib.Omega.{arith}
use lib.Dec.{eqb}
use lib.ListN.{length}
use Rattle.rules.specs.Memory.{upd}
use Rattle.rules.specs.Settings.{Settings}
use Rattle.rules.specs.Step.{Next, stay, again, to, over, Machine}
use Rattle.rules.specs.Course as course
use Rattle.rules.specs.Course.{Course, Turn, holds, idles, makes, ends}
use Rattle.rules.specs.Tally.{Tally, spun, begun, tally}
use Rattle.rules.specs.Play.{Run, first, taking, after, play, whole}
use Rattle.rules.proofs.Store.{either}
use Rattle.rules.proofs.Steps.{remote≤}
use Rattle.rules.proofs.Plays.{by_after, by_whole}

-- no number of the table, and not the total, is above n
pub record Table≤ (n : ℕ) (c : Course) (t : Tally) : Type 0 where
  pub done : (j : ℕ) → c.done j ≤ n
  pub far : (j : ℕ) → t.far j ≤ n
  pub most : (j : ℕ) → t.most j ≤ n
  pub here : (j : ℕ) → t.here j ≤ n
  pub spins : (j : ℕ) → t.spins j ≤ n
  pub idle : (j : ℕ) → t.idle j ≤ n
  pub total : t.total ≤ n

-- ---- one turn adds at most one to each

more : (f : ℕ → ℕ) (n : ℕ) → ((j : ℕ) → f j ≤ n) → (j : ℕ) → f j ≤ n + 1
more f n h j = omega (arith, h j)

stored : (f : ℕ → ℕ) (i v n : ℕ) → ((j : ℕ) → f j ≤ n) → v ≤ n + 1 → (j : ℕ) → upd f i v j ≤ n + 1
unfolding upd
stored f i v n p q j = either (λ k. k ≤ n + 1) (eqb j i) v (f j) q (omega (arith, p j))

ended≤ : (x : Next) (f : ℕ → ℕ) (i n : ℕ) → ((j : ℕ) → f j ≤ n) → (j : ℕ) → ends x i f j ≤ n + 1
ended≤ stay f i n h = more f n h
ended≤ (again k) f i n h = more f n h
ended≤ (to k) f i n h = more f n h
ended≤ over f i n h = stored f i _ n h (omega (arith, h i))

spun≤ : (x : Next) (f : ℕ → ℕ) (i n : ℕ) → ((j : ℕ) → f j ≤ n) → (j : ℕ) → spun x i f j ≤ n + 1
spun≤ stay f i n h = stored f i _ n h (omega (arith, h i))
spun≤ (again k) f i n h = stored f i _ n h (omega (arith, h i))
spun≤ (to k) f i n h = more f n h
spun≤ over f i n h = more f n h

module _ (m : Machine) (s : Settings) where
  pub grown : (n i at : ℕ) (c : Course) (t : Tally) (w : Turn m.State) → Table≤ n c t → Table≤ (n + 1) (course.course s i w c) (tally i at w t)
  grown n i at c t holds b = record {
    done = more _ n b.done;
    far = more _ n b.far;
    most = more _ n b.most;
    here = more _ n b.here;
    spins = more _ n b.spins;
    idle = more _ n b.idle;
    total = omega (arith, b.total);
  }
  grown n i at c t idles b = record {
    done = more _ n b.done;
    far = more _ n b.far;
    most = more _ n b.most;
    here = more _ n b.here;
    spins = more _ n b.spins;
    idle = stored t.idle i _ n b.idle (omega (arith, b.idle i));
    total = omega (arith, b.total);
  }
  grown n i at c t (makes w) b =
      let r = remote≤ i w.access in
      let h : begun at (t.here i) ≤ n = either (λ k. k ≤ n) (eqb at 1) 0 (t.here i) (omega arith) (b.here i) in
      record {
        done = ended≤ w.then c.done i n b.done;
        far = stored t.far i _ n b.far (omega (arith, b.far i));
        most = stored t.most i _ n b.most (omega (arith, b.most i));
        here = stored t.here i _ n b.here (omega arith);
        spins = spun≤ w.then t.spins i n b.spins;
        idle = more _ n b.idle;
        total = omega (arith, b.total);
      }

  -- the total is never past the budget
  pub within_budget : (t : List ℕ) → (whole m s t).tally.total ≤ s.budget
  within_budget =
      by_whole m s (λ r. r.tally.total ≤ s.budget) (λ r i h. by_after m s r i (λ q. q.tally.total ≤ s.budget) h h (λ l. l)) (omega arith)

  -- no more turns are taken than there are
  taken_play : (t : List ℕ) (r : Run m.State) → (play m s t r).taken ≤ r.taken + length t
  unfolding play taking
  taken_play [] r = omega arith
  taken_play (i ∷ t) r =
      let a = taken_play t (after m s r i) in
      let b = by_after m s r i (λ q. q.taken ≤ r.taken + 1) (omega arith) (omega arith) (λ l. omega arith) in
      omega arith

  pub taken_few : (t : List ℕ) → (whole m s t).taken ≤ length t
  unfolding whole
  taken_few t = let a = taken_play t (first m s) in omega arith
