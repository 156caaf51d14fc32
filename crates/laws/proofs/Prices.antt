-- An exact price of a passage, for any machine: every finished passage of processor i has made top i remote references.
use mathlib.Core.Path.{◌≡◌, refl, sym, ◌∙◌}
use mathlib.Core.Logic.{◌≢◌}
use mathlib.Core.Bool.{true}
use mathlib.Core.List.{List, [], ◌∷◌, ◌++◌}
use Prim.Native.Nat.{ℕ, suc, ◌+◌, ◌*◌, ◌≤◌, ◌<◌}
use native.Mathlib.Nat.{add-mul, one-mul}
use native.Mathlib.Omega.{arith}
use Rattle.rules.specs.Settings.{Settings}
use Rattle.rules.specs.Step.{remote, Next, stay, again, to, over, Step, Machine}
use Rattle.rules.specs.Tally.{begun}
use Rattle.rules.specs.Play.{Run, whole}
use Rattle.rules.specs.Calls.{all_below}
use Rattle.rules.proofs.Steps.{passed}
use Rattle.rules.proofs.Plays.{whole_snoc}
use Rattle.laws.specs.Laws.{sum}
use Rattle.laws.proofs.Totals.{sum_times, total_summed}
use Rattle.laws.proofs.Costs.{Account, Inside, under_way, stepped, after_step, account, by_account, by_accounts, Cost, Capped, capped_start, capped_step, capped_others}

-- a step made at k, with h references in the passage so far: the last one leaves exactly top, and no other leads to step 1
abbrev pub Pays : Next → (k h top : ℕ) → Type 0
Pays n k h top = Inside (h ≡ top) n k

-- an exact price: processor i pays top i for a passage
pub record Price (m : Machine) (s : Settings) : Type 1 where
  pub cost : Cost m s
  pub pays : (x : m.State) (i k h : ℕ) → cost.Cap x i k h
      → (let w : Step m.State = m.step s x k i in Pays w.then k (begun k h + remote i w.access) (cost.top i))

-- the references in all, by the passages done and the one under way; and the most in one, once one is done
pub record Paid (top : ℕ) (a : Account) : Type 0 where
  pub all : a.far ≡ a.done * top + begun a.at a.here
  pub most : 0 < a.done → a.most ≡ top

module _ (top : ℕ) (a : Account) (p : Paid top a) (l : a.most ≤ top) (r : ℕ) (b : begun a.at a.here + r ≤ top) where
  -- the passage goes on at k
  on : (k : ℕ) → k ≢ 1 → Paid top (stepped (to k) r a)
  on k f = record { all = omega (arith, p.all, under_way k (begun a.at a.here + r) f); most = λ z. omega (arith, p.most z) }

  paid_step : (n : Next) → Pays n a.at (begun a.at a.here + r) top → Paid top (stepped n r a)
  paid_step stay f = on a.at f
  paid_step (again k) f = on k f
  paid_step (to k) f = on k f
  paid_step over e = record { all = omega (arith, p.all, add-mul a.done 1 top, one-mul top); most = λ z. omega arith }

-- a step that is counted as a passage is the last one
last : (n : Next) (k h top d : ℕ) → Pays n k h top → passed n d ≡ suc d → h ≡ top
last stay k h top d p e = absurd (omega arith)
last (again j) k h top d p e = absurd (omega arith)
last (to j) k h top d p e = absurd (omega arith)
last over k h top d p e = p

module _ (m : Machine) (s : Settings) (p : Price m s) where
  abbrev top : ℕ → ℕ
  top = p.cost.top

  abbrev Kept : m.State → ℕ → Account → Type 0
  Kept x i a = Capped m s p.cost x i a × Paid (top i) a

  kept_step : (x : m.State) (i : ℕ) (a : Account) → Kept x i a
      → (let w : Step m.State = m.step s x a.at i in Kept w.memory i (after_step i w a))
  kept_step x i a ((c, l), q) =
      let w : Step m.State = m.step s x a.at i in (
        capped_step m s p.cost x i a (c, l),
        paid_step (top i) a q l (remote i w.access) (p.cost.step x i a.at a.here c).1 w.then (p.pays x i a.at a.here c),
      )

  kept : (t : List ℕ) (i : ℕ) → Kept (whole m s t).memory i (account (whole m s t).course (whole m s t).tally i)
  kept =
      by_accounts m s Kept (λ i. (capped_start m s p.cost i, record { all = omega arith; most = λ z. absurd (omega arith) })) kept_step
      (λ x l j i a n c. (capped_others m s p.cost x l j i a n c.0, c.1))

  -- after every turn
  pub references : (t : List ℕ) (i : ℕ) → (let r : Run m.State = whole m s t in
      r.tally.far i ≡ r.course.done i * top i + begun (r.course.at i) (r.tally.here i))
  references t i = (kept t i).1.all

  -- once a passage is done
  pub most : (t : List ℕ) (i : ℕ) → 0 < (whole m s t).course.done i → (whole m s t).tally.most i ≡ top i
  most t i = (kept t i).1.most

  -- a turn that finishes a passage
  pub finished : (t : List ℕ) (i : ℕ)
      → (whole m s (t ++ i ∷ [])).course.done i ≡ suc ((whole m s t).course.done i) → (whole m s (t ++ i ∷ [])).tally.here i ≡ top i
  finished t i =
      rw (whole_snoc m s t i)
      (by_account m s (λ x a. a.done ≡ suc (r.course.done i) → a.here ≡ top i) r i i (λ e. absurd (omega arith))
      (last (m.step s r.memory (r.course.at i) i).then (r.course.at i) _ (top i) (r.course.done i)
      (p.pays r.memory i (r.course.at i) (r.tally.here i) (kept t i).0.0))
      (λ n. absurd (n refl)))
    where
      r : Run m.State
      r = whole m s t

  -- n episodes that all have finished
  pub episodes : (t : List ℕ) (n : ℕ) → all_below s.procs t ≡ true
      → ((i : ℕ) → i < s.procs → ((whole m s t).course.done i ≡ n) × ((whole m s t).course.at i ≡ 1))
      → (whole m s t).tally.total ≡ n * sum top s.procs
  episodes t n b h = sym (total_summed m s t b) ∙ sum_times (whole m s t).tally.far top n s.procs far
    where
      far : (i : ℕ) → i < s.procs → (whole m s t).tally.far i ≡ n * top i
      far i l = let w = h i l in rw (w.0, w.1) at (references t i) ∙ omega arith
