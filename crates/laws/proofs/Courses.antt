-- Rounds and hold turns, of any machine.
use mathlib.Core.Path.{◌≡◌, refl, sym, ◌∙◌}
use mathlib.Core.Logic.{◌≢◌, ◌⊎◌, inl, inr}
use mathlib.Core.Bool.{Bool, true, false, ◌&&◌}
use mathlib.Core.List.{List, [], ◌∷◌, ◌++◌}
use Prim.Native.Nat.{ℕ, ◌+◌, ◌-◌, ◌≤◌, ◌<◌}
use native.Mathlib.Decide.{ℕ_discrete}
use native.Mathlib.Omega.{arith}
use borrow.Author.Tests.{eq-eqb, ne_eqb, lt-ltb, le-ltb, eqb-false}
use lib.Dec.{eqb, ltb}
use Rattle.rules.specs.Memory.{pick}
use Rattle.rules.specs.Settings.{Settings, entry}
use Rattle.rules.specs.Step.{Kind, join, grant, release, arrive, leave, Says, nothing, one, two, said, Next, stay, again, to, over, Machine}
use Rattle.rules.specs.Course.{Course, Turn, holds, idles, makes, turn, begins, holding, goes, ends, says, course}
use Rattle.rules.specs.Play.{Run, next, taking, after, play, whole}
use Rattle.rules.proofs.Steps.{goes_other, ends_other}
use Rattle.rules.proofs.Store.{upd_same, upd_other, either, by_test, false_true}
use Rattle.rules.proofs.Plays.{by_after, by_whole, continued, goes_on, after_taken}
use Rattle.laws.specs.Laws.{times, GrantOrLeave, Courses}

-- ---- hold turns

-- what says a grant or a leave starts them
starts_one : (i : ℕ) (k : Kind) → GrantOrLeave (said i (one k)) → begins k ≡ true
starts_one i grant h = refl
starts_one i leave h = refl
starts_one i join (inl h) = absurd (h refl)
starts_one i join (inr h) = absurd (h refl)
starts_one i release (inl h) = absurd (h refl)
starts_one i release (inr h) = absurd (h refl)
starts_one i arrive (inl h) = absurd (h refl)
starts_one i arrive (inr h) = absurd (h refl)

starts : (i : ℕ) (w : Says) → GrantOrLeave (said i w) → holding w ≡ true
starts i nothing (inl h) = absurd (h refl)
starts i nothing (inr h) = absurd (h refl)
starts i (one k) h = starts_one i k h
starts i (two grant l) h = refl
starts i (two leave l) h = refl
starts i (two join l) h = starts_one i l h
starts i (two release l) h = starts_one i l h
starts i (two arrive l) h = starts_one i l h

-- j has in d what it has in c
pub record Alike (c d : Course) (j : ℕ) : Type 0 where
  pub at_is : d.at j ≡ c.at j
  pub left_is : d.left j ≡ c.left j
  pub done_is : d.done j ≡ c.done j

module _ (m : Machine) (s : Settings) where
  -- a turn of another leaves what j has
  pub alike_other : (i j : ℕ) (w : Turn m.State) (c : Course) → j ≢ i → Alike c (course s i w c) j
  alike_other i j holds c n = record { at_is = refl; left_is = upd_other c.left i _ j n; done_is = refl }
  alike_other i j idles c n = record { at_is = refl; left_is = refl; done_is = refl }
  alike_other i j (makes w) c n = record {
    at_is = goes_other w.then i c.at j n;
    left_is = upd_other c.left i _ j n;
    done_is = ends_other w.then i c.done j n;
  }

  -- a turn that says a grant or a leave sets them
  left_set : (i : ℕ) (w : Turn m.State) (c : Course) → holding (says w) ≡ true → (course s i w c).left i ≡ entry s.hold i
  left_set i holds c h = absurd (false_true h)
  left_set i idles c h = absurd (false_true h)
  left_set i (makes w) c h = rw h (upd_same c.left i _)

  is_hold : (x : m.State) (c : Course) (i : ℕ) → 0 < c.left i → turn m s x c i ≡ holds
  unfolding turn
  is_hold x c i h = rw (lt-ltb 0 (c.left i) h)

  no_hold : (x : m.State) (c : Course) (i : ℕ) → c.left i ≡ 0 → turn m s x c i ≢ holds
  unfolding turn
  no_hold x c i h =
      rw (le-ltb 0 (c.left i) (omega arith))
      (either (λ (w : Turn m.State). w ≢ holds) (eqb (c.at i) 1 && eqb (c.done i) (entry s.rounds i)) _ _
      (λ e. let z : ◌≡◌ {A = ℕ} 0 1 = cc in omega arith) (λ e. let z : ◌≡◌ {A = ℕ} 0 1 = cc in omega arith))

  -- one of i's own takes one away
  left_own : (r : Run m.State) (i : ℕ) → 0 < r.course.left i → (taking m s r i).course.left i + 1 ≡ r.course.left i
  unfolding taking
  left_own r i h = rw (is_hold r.memory r.course i h) (omega (arith, upd_same r.course.left i (r.course.left i - 1)))

  -- whatever turns u come, so many hold turns are left as there are not of i in u
  left_after : (i : ℕ) (u : List ℕ) (r : Run m.State) → (play m s u r).stopped ≡ false → times i u ≤ r.course.left i
      → (play m s u r).course.left i + times i u ≡ r.course.left i
  unfolding play
  left_after i [] r e h = omega arith
  left_after i (j ∷ u) r e h =
      go (ℕ_discrete j i) (after_taken m s r j (goes_on m s u (after m s r j) e)) (left_after i u (after m s r j) e)
    where
      go : Dec (j ≡ i) → after m s r j ≡ taking m s r j
          → (times i u ≤ (after m s r j).course.left i → (play m s u (after m s r j)).course.left i + times i u ≡ (after m s r j).course.left i)
          → (play m s u (after m s r j)).course.left i + (pick (eqb j i) 1 0 + times i u) ≡ r.course.left i
      go (yes d) f rest =
          let k : ◌≡◌ {A = ℕ} (pick (eqb j i) 1 0) 1 = rw (eq-eqb j i d) in
          let l : (after m s r j).course.left i + 1 ≡ r.course.left i = rw (f, d) (left_own r i (omega (arith, rw (eq-eqb j i d) at h))) in
          omega (arith, rest (omega arith))
      go (no n) f rest =
          let k : ◌≡◌ {A = ℕ} (pick (eqb j i) 1 0) 0 = rw (ne_eqb j i n) in
          let l : (after m s r j).course.left i ≡ r.course.left i = rw f (kept r n) in
          omega (arith, rest (omega arith))
        where
          kept : (r : Run m.State) → j ≢ i → (taking m s r j).course.left i ≡ r.course.left i
          kept r n = unfold taking in (alike_other j i (next m s r j) r.course (λ z. n (sym z))).left_is

  held : (t u : List ℕ) (i : ℕ) → GrantOrLeave (said i (says (next m s (whole m s t) i))) → (whole m s (t ++ i ∷ u)).stopped ≡ false
      → times i u ≤ entry s.hold i → (whole m s (t ++ i ∷ u)).course.left i + times i u ≡ entry s.hold i
  unfolding play taking
  held t u i h e l =
      let e' : (play m s u (after m s (whole m s t) i)).stopped ≡ false = rw (continued m s t (i ∷ u)) at e in
      let f : (after m s (whole m s t) i).course.left i ≡ entry s.hold i =
      rw (after_taken m s (whole m s t) i (goes_on m s u (after m s (whole m s t) i) e')) (left_set i (next m s (whole m s t) i) (whole m s t).course (starts i (says (next m s (whole m s t) i)) h)) in
      rw (continued m s t (i ∷ u)) (left_after i u (after m s (whole m s t) i) e' (omega arith) ∙ f)

  -- ---- rounds

  -- who is in a passage has one left to do
  abbrev pub Due : ℕ → ℕ → ℕ → Type 0
  Due at done n = (done ≤ n) × ((at ≡ 1) ⊎ (done < n))

  due_step : (x : Next) (at done : ℕ → ℕ) (i n : ℕ) → done i < n → Due (goes x i at i) (ends x i done i) n
  due_step stay at done i n h = (omega arith, inr h)
  due_step (again k) at done i n h = (omega arith, inr h)
  due_step (to k) at done i n h = (omega arith, inr h)
  due_step over at done i n h = rw (upd_same at i 1, upd_same done i (done i + 1)) (omega arith, inl refl)

  due_other : (x : Next) (at done : ℕ → ℕ) (i j n : ℕ) → j ≢ i → Due (at j) (done j) n → Due (goes x i at j) (ends x i done j) n
  due_other x at done i j n d h = rw (goes_other x i at j d, ends_other x i done j d) h

  abbrev pub AllDue : Course → Type 0
  AllDue c = (j : ℕ) → Due (c.at j) (c.done j) (entry s.rounds j)

  pub due_turn : (x : m.State) (c : Course) (i : ℕ) → AllDue c → AllDue (course s i (turn m s x c i) c)
  unfolding turn
  due_turn x c i h =
      either (λ (w : Turn m.State). AllDue (course s i w c)) (ltb 0 (c.left i)) _ _ h
      (by_test (λ (w : Turn m.State). AllDue (course s i w c)) (eqb (c.at i) 1 && eqb (c.done i) (entry s.rounds i)) _ _ (λ e. h) (λ e j. go e j (ℕ_discrete j i)))
    where
      due : (a b : Bool) → eqb (c.at i) 1 ≡ a → eqb (c.done i) (entry s.rounds i) ≡ b → (a && b) ≡ false → Due (c.at i) (c.done i) (entry s.rounds i)
          → c.done i < entry s.rounds i
      due true true f g e d = absurd (false_true (sym e))
      due true false f g e d = let n = eqb-false (c.done i) (entry s.rounds i) g in omega (arith, d.0)
      due false b f g e (l, inl z) = absurd (eqb-false (c.at i) 1 f z)
      due false b f g e (l, inr z) = z

      go : (eqb (c.at i) 1 && eqb (c.done i) (entry s.rounds i)) ≡ false → (j : ℕ) → Dec (j ≡ i)
          → Due (goes (m.step s x (c.at i) i).then i c.at j) (ends (m.step s x (c.at i) i).then i c.done j) (entry s.rounds j)
      go e j (yes d) = rw d (due_step (m.step s x (c.at i) i).then c.at c.done i (entry s.rounds i) (due _ _ refl refl e (h i)))
      go e j (no d) = due_other (m.step s x (c.at i) i).then c.at c.done i j (entry s.rounds j) d (h j)

  pub all_due : (t : List ℕ) → AllDue (whole m s t).course
  unfolding taking
  all_due =
      by_whole m s (λ r. AllDue r.course) (λ r j h. by_after m s r j (λ q. AllDue q.course) h h (λ l. due_turn r.memory r.course j h))
      (λ j. (omega arith, inl refl))

pub courses : Courses
courses = record {
  rounds = λ m s t i. (all_due m s t i).0;
  hold_turns = λ m s t u i h e l.
      is_hold m s (whole m s (t ++ i ∷ u)).memory (whole m s (t ++ i ∷ u)).course i (omega (arith, held m s t u i h e (omega arith)));
  hold_over = λ m s t u i h e l.
      no_hold m s (whole m s (t ++ i ∷ u)).memory (whole m s (t ++ i ∷ u)).course i (omega (arith, held m s t u i h e (omega arith)));
}
