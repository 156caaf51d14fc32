-- Laws for the functions of `course`.
use Rattle.std.proofs.Common.{◌≡◌, refl, sym, ap, ap₂, ◌∙◌, List, [], ◌∷◌, ℕ, zero, suc, ◌+◌, ◌-◌, ◌%◌, ◌≤◌, ◌<◌, arith, lt-ltb, le-ltb, eq-eqb, ne_eqb, eqb, ltb, get_or, set, replicate}
use mathlib.Core.Path.{fun_ext}
use native.Mathlib.Decide.{ℕ_discrete, dec_lt}
use Rattle.rules.specs.Memory.{pick, upd, each}
use Rattle.rules.specs.Course as rules
use Rattle.rules.proofs.Store.{upd_same, upd_other}
use Rattle.rules.proofs.Views.{view, Place, view_at, view_put, view_part, view_rest, view_blank}
use Rattle.turns.specs.declared.course.Course.{Course}
use Rattle.turns.specs.declared.course.Due.TheVariants.{Hold, Idle, Step}
use Rattle.turns.specs.View.{holds, steps, lefts, course_of, Dues}

-- each row of a course has a place for the processor
pub record Rows (c : Course) (i : ℕ) : Type 0 where
  pub done : Place c.done i
  pub at : Place c.at i
  pub left : Place c.left i

pub same_course : (a b : rules.Course) → a.at ≡ b.at → a.left ≡ b.left → a.done ≡ b.done → a ≡ b
same_course a b p q r = λ j. record { at = p j; left = q j; done = r j }

-- ---- everybody is at step 1, and nobody holds

pub first_steps : (n : ℕ) → steps (replicate n 1) ≡ each 1
unfolding steps
first_steps n = ap {B = ℕ → ℕ} (λ (f : ℕ → ℕ) (j : ℕ). f j % holds) (view_blank n 1)

pub first_lefts : (n : ℕ) → lefts (replicate n 1) (replicate n 0) ≡ each 0
unfolding lefts
first_lefts n = ap₂ {C = ℕ → ℕ} (λ (f g : ℕ → ℕ) (j : ℕ). pick (ltb (f j) holds) 0 (g j + 1)) (view_blank n 1) (view_blank n 0)

-- ---- a change of processor i's step and hold turns

-- the hold turns of what stands in the two rows
abbrev left_in : ℕ → ℕ → ℕ
left_in at left = pick (ltb at holds) 0 (left + 1)

both : (g : ℕ → ℕ → ℕ) (p q : ℕ → ℕ) (i v u : ℕ) → ◌≡◌ {A = ℕ → ℕ} (λ j. g (upd p i v j) (upd q i u j)) (upd (λ j. g (p j) (q j)) i (g v u))
both g p q i v u = fun_ext (λ j. go j (ℕ_discrete j i))
  where
    go : (j : ℕ) → Dec (j ≡ i) → g (upd p i v j) (upd q i u j) ≡ upd (λ j. g (p j) (q j)) i (g v u) j
    go j (yes e) = rw (e, upd_same p i v, upd_same q i u, upd_same (λ (j : ℕ). g (p j) (q j)) i (g v u)) refl
    go j (no n) = rw (upd_other p i v j n, upd_other q i u j n, upd_other (λ (j : ℕ). g (p j) (q j)) i (g v u) j n) refl

module _ (c : Course) (i : ℕ) (r : Rows c i) (v : ℕ) where
  pub steps_put : (k : ℕ) → v % holds ≡ k → steps (set c.at i v) ≡ upd (steps c.at) i k
  unfolding steps
  steps_put k e = view_part (λ (b : ℕ). b % holds) 1 r.at e

  pub lefts_put : (u h : ℕ) → left_in v u ≡ h → lefts (set c.at i v) (set c.left i u) ≡ upd (lefts c.at c.left) i h
  unfolding lefts
  lefts_put u h e =
      ap₂ {C = ℕ → ℕ} (λ (f g : ℕ → ℕ) (j : ℕ). left_in (f j) (g j)) (view_put 1 r.at refl) (view_put 0 r.left refl)
      ∙ both left_in (view 1 c.at) (view 0 c.left) i v u ∙ ap (upd (λ (j : ℕ). left_in (view 1 c.at j) (view 0 c.left j)) i) e

-- what `after_hold` gives
module _ (step hold v : ℕ) (h : step < holds) (e : v ≡ pick (eqb hold 0) step (step + holds)) where
  pub after_step : v % holds ≡ step
  after_step = go (ℕ_discrete hold 0)
    where
      go : Dec (hold ≡ 0) → v % holds ≡ step
      go (yes z) = omega (arith, rw (eq-eqb hold 0 z) at e)
      go (no n) = omega (arith, rw (ne_eqb hold 0 n) at e)

  pub after_left : left_in v (hold - 1) ≡ hold
  after_left = go (ℕ_discrete hold 0)
    where
      go : Dec (hold ≡ 0) → left_in v (hold - 1) ≡ hold
      go (yes z) = rw (lt-ltb v holds (omega (arith, rw (eq-eqb hold 0 z) at e))) (sym z)
      go (no n) = rw (le-ltb v holds (omega (arith, rw (ne_eqb hold 0 n) at e))) (omega arith)

-- after a hold turn
module _ (c : Course) (i : ℕ) (r : Rows c i) (h : holds ≤ get_or c.at i 0) (v : ℕ)
    (e : v ≡ pick (eqb (get_or c.left i 0) 0) (get_or c.at i 0 % holds) (get_or c.at i 0 % holds + holds)) where
  pub held_steps : steps (set c.at i v) ≡ steps c.at
  unfolding steps
  held_steps =
      view_rest (λ (b : ℕ). b % holds) 1 r.at
      (rw (view_at 1 r.at) (after_step (get_or c.at i 0 % holds) (get_or c.left i 0) v (omega arith) e))

  pub held_lefts : lefts (set c.at i v) (set c.left i (get_or c.left i 0 - 1)) ≡ upd (lefts c.at c.left) i (lefts c.at c.left i - 1)
  unfolding lefts
  held_lefts =
      lefts_put c i r v _ _ (after_left (get_or c.at i 0 % holds) (get_or c.left i 0) v (omega arith) e
      ∙ rw (view_at 1 r.at, view_at 0 r.left, le-ltb (get_or c.at i 0) holds h) (omega arith))

-- ---- what a turn is, by the tests

module _ (c : Course) (i rounds : ℕ) (r : Rows c i) where
  pub due_hold : holds ≤ get_or c.at i 0 → Dues (course_of c) i rounds Hold
  unfolding lefts
  due_hold h = rw (view_at 1 r.at, le-ltb _ holds h) (omega arith)

  module _ (l : get_or c.at i 0 < holds) where
    none : lefts c.at c.left i ≡ 0
    unfolding lefts
    none = rw (view_at 1 r.at, lt-ltb _ holds l) refl

    is : steps c.at i ≡ get_or c.at i 0
    unfolding steps
    is = rw (view_at 1 r.at) (omega arith)

    pub due_idle : get_or c.at i 0 ≡ 1 → get_or c.done i 0 ≡ rounds → Dues (course_of c) i rounds Idle
    unfolding view
    due_idle a d = (none, is ∙ a, d)

    pub due_first : get_or c.at i 0 ≡ 1 → (get_or c.done i 0 ≡ rounds → ⊥) → Dues (course_of c) i rounds (Step (get_or c.at i 0))
    unfolding view
    due_first a d = (none, is, rw (eq-eqb _ _ a, ne_eqb _ _ d))

    pub due_step : (get_or c.at i 0 ≡ 1 → ⊥) → Dues (course_of c) i rounds (Step (get_or c.at i 0))
    unfolding view
    due_step a = (none, is, rw (ne_eqb _ _ a))

-- before a hold turn the row says so
pub held_some : (at left : List ℕ) (i : ℕ) → 0 < lefts at left i → holds ≤ get_or at i 0
unfolding lefts view
held_some at left i h = go at i (some (dec_lt (get_or at i 1) holds))
  where
    some : Dec (get_or at i 1 < holds) → holds ≤ get_or at i 1
    some (yes l) = absurd (omega (arith, rw (lt-ltb (get_or at i 1) holds l) at h))
    some (no n) = omega arith

    go : (row : List ℕ) (i : ℕ) → holds ≤ get_or row i 1 → holds ≤ get_or row i 0
    go [] i l = absurd (omega arith)
    go (x ∷ row) zero l = l
    go (x ∷ row) (suc i) l = go row i l
