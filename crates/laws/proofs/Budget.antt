-- A budget that never stops a run: what a passage costs at most, for all passages.
use mathlib.Core.Path.{◌≡◌, refl, sym, subst}
use mathlib.Core.Logic.{◌≢◌, inl, inr}
use mathlib.Core.Bool.{true, false}
use mathlib.Core.List.{List, [], ◌∷◌}
use Prim.Native.Nat.{ℕ, ◌+◌, ◌*◌, ◌≤◌, ◌<◌}
use native.Mathlib.Nat.{add-mul, one-mul, mul-le-mul_right}
use native.Mathlib.Omega.{arith}
use Rattle.rules.specs.Settings.{Settings, entry}
use Rattle.rules.specs.Step.{remote, Next, stay, again, to, over, Step, Machine}
use Rattle.rules.specs.Tally.{begun}
use Rattle.rules.specs.Play.{Run, first, next, taking, play, whole}
use Rattle.rules.specs.Calls.{all_below}
use Rattle.rules.proofs.Steps.{place}
use Rattle.rules.proofs.Accepted.{Below, below}
use Rattle.rules.proofs.Plays.{after_takes}
use Rattle.laws.specs.Laws.{sum}
use Rattle.laws.proofs.Totals.{sum_least, sum_zero, summed}
use Rattle.laws.proofs.Courses.{AllDue, Due, due_turn}
use Rattle.laws.proofs.Costs.{Account, Inside, under_way, begun≤, stepped, after_step, Of, by_taking, Cost, Capped, capped_start, capped_step, capped_others}

-- the references in all: at most top for each passage done, and those of the one under way
abbrev Owes : ℕ → Account → Type 0
Owes top a = a.far ≤ a.done * top + begun a.at a.here

module _ (top : ℕ) (a : Account) (o : Owes top a) (r : ℕ) (b : begun a.at a.here + r ≤ top) where
  -- the passage goes on at k
  on : (k : ℕ) → k ≢ 1 → Owes top (stepped (to k) r a)
  on k f = omega (arith, under_way k (begun a.at a.here + r) f)

  owes_step : (n : Next) → Inside (Unit {0}) n a.at → Owes top (stepped n r a)
  owes_step stay f = on a.at f
  owes_step (again k) f = on k f
  owes_step (to k) f = on k f
  owes_step over f = omega (arith, add-mul a.done 1 top, one-mul top)

module _ (m : Machine) (s : Settings) (k : Cost m s)
    (inside : (x : m.State) (i c h : ℕ) → k.Cap x i c h → Inside (Unit {0}) (m.step s x c i).then c) where
  abbrev Kept : m.State → ℕ → Account → Type 0
  Kept x i a = Capped m s k x i a × Owes (k.top i) a × (begun a.at a.here ≤ k.top i)

  kept_step : (x : m.State) (i : ℕ) (a : Account) → Kept x i a
      → (let w : Step m.State = m.step s x a.at i in Kept w.memory i (after_step i w a))
  kept_step x i a (c, o, l) =
      let w : Step m.State = m.step s x a.at i in
      let h = (k.step x i a.at a.here c.0).1 in (
        capped_step m s k x i a c,
        owes_step (k.top i) a o (remote i w.access) h w.then (inside x i a.at a.here c.0),
        omega (arith, h, begun≤ (place w.then a.at) (begun a.at a.here + remote i w.access)),
      )

  kept_others : (x : m.State) (l j i : ℕ) (a : Account) → i ≢ j → Kept x i a → Kept (m.step s x l j).memory i a
  kept_others x l j i a n (c, o, h) = (capped_others m s k x l j i a n c, o, h)

  -- of a run: what its processors owe, what they have to do, and the sum
  record Paid (r : Run m.State) : Type 0 where
    kept : (j : ℕ) → Of m s (λ x. Kept x j) j r
    due : AllDue m s r.course
    sums : sum r.tally.far s.procs ≡ r.tally.total

  paid_first : Paid (first m s)
  paid_first = record {
    kept = λ j. (capped_start m s k j, omega arith, omega arith);
    due = λ j. (omega arith, inl refl);
    sums = sum_zero s.procs;
  }

  -- a turn that is taken
  paid_turn : (r : Run m.State) (i : ℕ) → i < s.procs → Paid r → Paid (taking m s r i)
  unfolding taking
  paid_turn r i b p = record {
    kept = λ j. by_taking m s (λ x. Kept x j) r i j (p.kept j) (kept_step r.memory j _ (p.kept j)) (λ n. kept_others r.memory (r.course.at i) i j _ n (p.kept j));
    due = due_turn m s r.memory r.course i p.due;
    sums = summed m s s.procs i (r.course.at i) (next m s r i) r.tally b p.sums;
  }

  -- all passages at the most that one costs
  abbrev price : ℕ
  price = sum (λ j. entry s.rounds j * k.top j) s.procs

  paid_total : (r : Run m.State) → Paid r → r.tally.total ≤ price
  paid_total r p = omega (arith, p.sums, sum_least r.tally.far (λ j. entry s.rounds j * k.top j) s.procs (λ j b. own j (p.kept j) (p.due j)))
    where
      own : (j : ℕ) → Of m s (λ x. Kept x j) j r → Due m s (r.course.at j) (r.course.done j) (entry s.rounds j)
          → r.tally.far j ≤ entry s.rounds j * k.top j
      own j (c, o, h) (l, inl e) = omega (arith, rw e at o, mul-le-mul_right (k.top j) l)
      own j (c, o, h) (l, inr d) = omega (arith, o, h, mul-le-mul_right (k.top j) d, add-mul (r.course.done j) 1 (k.top j), one-mul (k.top j))

  on_play : price ≤ s.budget → (t : List ℕ) (r : Run m.State) → Below s.procs t → Paid r → r.stopped ≡ false → (play m s t r).stopped ≡ false
  unfolding play taking
  on_play h [] r b p e = e
  on_play h (i ∷ t) r b p e =
      let q = paid_turn r i b.0 p in
      let taken = after_takes m s r i e (omega (arith, paid_total (taking m s r i) q)) in
      subst (λ (r : Run m.State). (play m s t r).stopped ≡ false) (sym taken) (on_play h t (taking m s r i) b.1 q refl)

  -- a budget of that much stops no run
  pub never_stopped : price ≤ s.budget → (t : List ℕ) → all_below s.procs t ≡ true → (whole m s t).stopped ≡ false
  unfolding whole
  never_stopped h t b = on_play h t (first m s) (below s.procs t b) paid_first refl
