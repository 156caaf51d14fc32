-- Playing a schedule: case by case, turn by turn, and for a loop.
use mathlib.Core.Path.{◌≡◌, refl, sym, ap, ap₂, ◌∙◌}
use mathlib.Core.Bool.{Bool, true, false, ◌&&◌}
use mathlib.Core.List.{List, [], ◌∷◌, ◌++◌}
use Prim.Native.Nat.{ℕ, suc, ◌+◌, ◌≤◌, ◌<◌}
use native.Mathlib.Numerals.{add-one}
use native.Mathlib.Omega.{arith}
use borrow.Author.Tests.{le-leb, lt-leb, leb-true, ltb-true, ltb-false, eqb-true}
use lib.Dec.{eqb, ltb}
use lib.ListN.{length, get_or, drop}
use lib.Seq.{drop-length, drop-cons}
use Rattle.rules.specs.Settings.{Settings, entry}
use Rattle.rules.specs.Step.{Machine}
use Rattle.rules.specs.Course.{Course, Turn, holds, idles, makes, turn}
use Rattle.rules.specs.Play.{Run, first, taking, ended, within, after, play, whole}
use Rattle.rules.proofs.Store.{by_test, both, false_true}

-- ---- the budget

pub keeps : (total : ℕ) (s : Settings) → within total s ≡ true → total ≤ s.budget
unfolding within
keeps total s e = leb-true _ _ e

pub keeping : (total : ℕ) (s : Settings) → total ≤ s.budget → within total s ≡ true
unfolding within
keeping total s h = le-leb _ _ h

pub passing : (total : ℕ) (s : Settings) → s.budget < total → within total s ≡ false
unfolding within
passing total s h = lt-leb _ _ h

-- ---- one turn

-- one more turn of a schedule: of a run that has stopped; past the budget; or taken, within the budget
pub by_after : (m : Machine) (s : Settings) (r : Run m.State) (i : ℕ) (P : Run m.State → Type 0)
    → P r → P (ended r) → ((taking m s r i).tally.total ≤ s.budget → P (taking m s r i)) → P (after m s r i)
unfolding after
by_after m s r i P a b c = go r.stopped (within (taking m s r i).tally.total s) refl
  where
    go : (x y : Bool) → within (taking m s r i).tally.total s ≡ y
        → P (elim x [ true ↦ r | false ↦ elim y [ true ↦ taking m s r i | false ↦ ended r ] ])
    go true y e = a
    go false true e = c (keeps _ s e)
    go false false e = b

-- a turn: a hold turn, idle, or a step
pub by_turn : (m : Machine) (s : Settings) (x : m.State) (c : Course) (i : ℕ) (P : Turn m.State → Type 0)
    → (0 < c.left i → P holds) → (c.at i ≡ 1 → c.done i ≡ entry s.rounds i → P idles) → (c.left i ≡ 0 → P (makes (m.step s x (c.at i) i))) → P (turn m s x c i)
unfolding turn
by_turn m s x c i P a b d =
    by_test P (ltb 0 (c.left i)) _ _ (λ e. a (ltb-true _ _ e)) (λ e.
    let z = ltb-false 0 (c.left i) e in
    by_test P (eqb (c.at i) 1 && eqb (c.done i) (entry s.rounds i)) _ _ (λ f. let w = both _ _ f in b (eqb-true _ _ w.0) (eqb-true _ _ w.1)) (λ f. d (omega arith)))

-- ---- a schedule

module _ (m : Machine) (s : Settings) where
  pub play_append : (t u : List ℕ) (r : Run m.State) → play m s (t ++ u) r ≡ play m s u (play m s t r)
  unfolding play
  play_append [] u r = refl
  play_append (i ∷ t) u r = play_append t u (after m s r i)

  -- a run that has stopped takes no more turns
  pub stopped_stays : (u : List ℕ) (r : Run m.State) → r.stopped ≡ true → play m s u r ≡ r
  unfolding play after
  stopped_stays [] r e = refl
  stopped_stays (i ∷ u) r e = ap (play m s u) (stays r i e) ∙ stopped_stays u r e
    where
      stays : (r : Run m.State) (i : ℕ) → r.stopped ≡ true → after m s r i ≡ r
      stays r i e = rw e refl

  -- a run that has not stopped had not stopped before
  pub goes_on : (u : List ℕ) (r : Run m.State) → (play m s u r).stopped ≡ false → r.stopped ≡ false
  goes_on u r e = go r.stopped refl
    where
      go : (b : Bool) → r.stopped ≡ b → r.stopped ≡ false
      go false f = f
      go true f = absurd (false_true (sym e ∙ ap (λ (q : Run m.State). q.stopped) (stopped_stays u r f) ∙ f))

  -- the run over t and u is the run over t, continued with u
  pub continued : (t u : List ℕ) → whole m s (t ++ u) ≡ play m s u (whole m s t)
  unfolding whole
  continued t u = play_append t u (first m s)

  -- one turn more
  pub whole_snoc : (t : List ℕ) (i : ℕ) → whole m s (t ++ i ∷ []) ≡ after m s (whole m s t) i
  unfolding play
  whole_snoc t i = continued t (i ∷ [])

  -- what holds of a run and is kept by every turn holds of it played on
  pub by_play : (P : Run m.State → Type 0) → ((r : Run m.State) (i : ℕ) → P r → P (after m s r i))
      → (t : List ℕ) (r : Run m.State) → P r → P (play m s t r)
  unfolding play
  by_play P f [] r h = h
  by_play P f (i ∷ t) r h = by_play P f t (after m s r i) (f r i h)

  -- what holds at first and is kept by every turn holds of every run
  pub by_whole : (P : Run m.State → Type 0) → ((r : Run m.State) (i : ℕ) → P r → P (after m s r i)) → P (first m s) → (t : List ℕ) → P (whole m s t)
  unfolding whole
  by_whole P f h t = by_play P f t (first m s) h

-- ---- the tests of a turn, known

module _ (m : Machine) (s : Settings) (r : Run m.State) (i : ℕ) where
  tested : (x y : Bool) → r.stopped ≡ x → within (taking m s r i).tally.total s ≡ y
      → after m s r i ≡ elim x [ true ↦ r | false ↦ elim y [ true ↦ taking m s r i | false ↦ ended r ] ]
  unfolding after
  tested x y e f = ap₂ (λ (x y : Bool). elim x [ true ↦ r | false ↦ elim y [ true ↦ taking m s r i | false ↦ ended r ] ]) e f

  pub after_takes : r.stopped ≡ false → (taking m s r i).tally.total ≤ s.budget → after m s r i ≡ taking m s r i
  after_takes e h = tested false true e (keeping _ s h)

  -- a run that goes on has taken the turn
  pub after_taken : (after m s r i).stopped ≡ false → after m s r i ≡ taking m s r i
  after_taken e = go r.stopped (within (taking m s r i).tally.total s) refl refl
    where
      go : (x y : Bool) → r.stopped ≡ x → within (taking m s r i).tally.total s ≡ y → after m s r i ≡ taking m s r i
      go true y f h = absurd (false_true (sym e ∙ ap (λ (q : Run m.State). q.stopped) (tested true y f h) ∙ f))
      go false true f h = tested false true f h
      go false false f h = absurd (false_true (sym e ∙ ap (λ (q : Run m.State). q.stopped) (tested false false f h)))

  pub after_ends : r.stopped ≡ false → s.budget < (taking m s r i).tally.total → after m s r i ≡ ended r
  after_ends e h = tested false false e (passing _ s h)

-- ---- for a loop over the schedule: what is left, played from here, is the whole

module _ (m : Machine) (s : Settings) (turns : List ℕ) (k : ℕ) (r : Run m.State) where
  pub none_left : k ≡ length turns → play m s (drop k turns) r ≡ r
  unfolding play
  none_left e = rw (e, drop-length turns)

  pub one_more : k < length turns → r.stopped ≡ false → (taking m s r (get_or turns k 0)).tally.total ≤ s.budget
      → play m s (drop (k + 1) turns) (taking m s r (get_or turns k 0)) ≡ play m s (drop k turns) r
  unfolding play
  one_more h f b = rw (add-one, drop-cons turns k 0 h) (ap (play m s (drop (suc k) turns)) (sym (after_takes m s r _ f b)))

  pub past_budget : k < length turns → r.stopped ≡ false → s.budget < (taking m s r (get_or turns k 0)).tally.total → play m s (drop k turns) r ≡ ended r
  unfolding play
  past_budget h f b =
      rw (drop-cons turns k 0 h)
      (ap (play m s (drop (suc k) turns)) (after_ends m s r _ f b) ∙ stopped_stays m s (drop (suc k) turns) (ended r) refl)
