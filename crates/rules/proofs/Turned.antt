-- A turn as a program makes it: the memory and the course after it, and what is told of it to those who count.
use mathlib.Core.Path.{◌≡◌, refl, sym, ap, ◌∙◌, fun_ext}
use mathlib.Core.Bool.{Bool, true, false, ◌&&◌}
use mathlib.Core.List.{List, [], map}
use Prim.Native.Nat.{ℕ, ◌+◌, ◌-◌, ◌≤◌, ◌<◌, max}
use native.Mathlib.Decide.{ℕ_discrete}
use native.Mathlib.Omega.{arith}
use borrow.Author.Tests.{lt-ltb, le-ltb, eq-eqb}
use lib.Dec.{eqb}
use lib.ListN.{length, length-map}
use Rattle.rules.specs.Memory.{pick, upd}
use Rattle.rules.specs.Settings.{Settings, entry}
use Rattle.rules.specs.Step.{remote, said, code, Next, stay, again, to, over, Step, Machine}
use Rattle.rules.specs.Course as course
use Rattle.rules.specs.Course.{Course, Turn, holds, idles, makes, turn, holding}
use Rattle.rules.specs.Tally.{Tally, tally, spun}
use Rattle.rules.proofs.Store.{upd_same, upd_other, false_true}
use Rattle.rules.proofs.Steps.{remote≤, said≤}

-- ---- what is told of a turn: whether its access is remote (1 or 0), its events as numbers of the row, and what it counts as

pub record Told : Type 0 where
  pub far : ℕ
  pub codes : List ℕ
  pub began : Bool
  pub done : Bool
  pub spin : Bool
  pub idle : Bool

-- it counts as one thing: a spin is not idle and ends no passage, and an idle turn ends none
pub record OneKind (d : Told) : Type 0 where
  pub of_spin : d.spin ≡ true → (d.idle ≡ false) × (d.done ≡ false)
  pub of_idle : d.idle ≡ true → d.done ≡ false

abbrev pub stays : Next → Bool
stays stay = true
stays (again k) = true
stays (to k) = false
stays over = false

abbrev pub ends : Next → Bool
ends stay = false
ends (again k) = false
ends (to k) = false
ends over = true

-- of a step that was made at this place
abbrev pub told_step : {S : Type 0} → ℕ → ℕ → Step S → Told
told_step i at w = record {
  far = remote i w.access;
  codes = map code (said i w.says);
  began = eqb at 1;
  done = ends w.then;
  spin = stays w.then;
  idle = false;
}

abbrev pub told : {S : Type 0} → ℕ → ℕ → Turn S → Told
told i at holds = record { far = 0; codes = []; began = false; done = false; spin = false; idle = false }
told i at idles = record { far = 0; codes = []; began = false; done = false; spin = false; idle = true }
told i at (makes w) = told_step i at w

pub told_one : {S : Type 0} (i at : ℕ) (w : Turn S) → OneKind (told i at w)
told_one i at holds = record { of_spin = λ e. (refl, refl); of_idle = λ e. refl }
told_one i at idles = record { of_spin = λ e. absurd (false_true e); of_idle = λ e. refl }
told_one i at (makes w) = record { of_spin = λ e. (refl, go w.then e); of_idle = λ e. absurd (false_true e) }
  where
    go : (x : Next) → stays x ≡ true → ends x ≡ false
    go stay e = refl
    go (again k) e = refl
    go (to k) e = refl
    go over e = sym e

-- processor i's turn in state x, on course c, leads to x' and c', and d is told of it
pub record Turned (m : Machine) (s : Settings) (x : m.State) (c : Course) (i : ℕ) (x' : m.State) (c' : Course) (d : Told) : Type 0 where
  pub memory : x' ≡ course.memory (turn m s x c i) x
  pub course : c' ≡ course.course s i (turn m s x c i) c
  pub tells : d ≡ told i (c.at i) (turn m s x c i)

-- ---- by the tests of a turn

module _ (m : Machine) (s : Settings) (x : m.State) (c : Course) (i : ℕ) where
  pub is_hold : 0 < c.left i → turn m s x c i ≡ holds
  unfolding turn
  is_hold h = rw (lt-ltb 0 (c.left i) h)

  pub is_idle : c.left i ≡ 0 → c.at i ≡ 1 → c.done i ≡ entry s.rounds i → turn m s x c i ≡ idles
  unfolding turn
  is_idle l a d = rw (le-ltb 0 (c.left i) (omega arith), eq-eqb (c.at i) 1 a, eq-eqb (c.done i) (entry s.rounds i) d)

  pub is_step : c.left i ≡ 0 → (eqb (c.at i) 1 && eqb (c.done i) (entry s.rounds i)) ≡ false → turn m s x c i ≡ makes (m.step s x (c.at i) i)
  unfolding turn
  is_step l n = rw (le-ltb 0 (c.left i) (omega arith), n)

  -- ---- the three kinds of turn

  pub by_hold : (x' : m.State) (c' : Course) (d : Told) → 0 < c.left i → x' ≡ x
      → c' ≡ record { at = c.at; left = upd c.left i (c.left i - 1); done = c.done }
      → d ≡ record { far = 0; codes = []; began = false; done = false; spin = false; idle = false } → Turned m s x c i x' c' d
  by_hold x' c' d h e f g = record { memory = rw (is_hold h) e; course = rw (is_hold h) f; tells = rw (is_hold h) g }

  pub by_idle : (x' : m.State) (c' : Course) (d : Told) → c.left i ≡ 0 → c.at i ≡ 1 → c.done i ≡ entry s.rounds i → x' ≡ x → c' ≡ c
      → d ≡ record { far = 0; codes = []; began = false; done = false; spin = false; idle = true } → Turned m s x c i x' c' d
  by_idle x' c' d l a n e f g = record { memory = rw (is_idle l a n) e; course = rw (is_idle l a n) f; tells = rw (is_idle l a n) g }

  -- w is the step that is made
  pub by_step : (x' : m.State) (c' : Course) (d : Told) (w : Step m.State) → c.left i ≡ 0
      → (eqb (c.at i) 1 && eqb (c.done i) (entry s.rounds i)) ≡ false → m.step s x (c.at i) i ≡ w
      → x' ≡ w.memory → c' ≡ course.course s i (makes w) c → d ≡ told_step i (c.at i) w → Turned m s x c i x' c' d
  by_step x' c' d w l n p e f g =
      let z : turn m s x c i ≡ makes w = is_step l n ∙ ap makes p in
      record { memory = rw z e; course = rw z f; tells = rw z g }

-- ---- the course after a step, by where it goes and whether hold turns follow; before a step none are left

pub same_upd : {A : Type 0} (f : ℕ → A) (i : ℕ) (v : A) → v ≡ f i → upd f i v ≡ f
same_upd f i v e = fun_ext (λ j. go j (ℕ_discrete j i))
  where
    go : (j : ℕ) → Dec (j ≡ i) → upd f i v j ≡ f j
    go j (yes d) = rw (d, upd_same f i v) e
    go j (no n) = upd_other f i v j n

module _ {S : Type 0} (s : Settings) (i : ℕ) (c : Course) (w : Step S) (l : c.left i ≡ 0) where
  none_left : upd c.left i 0 ≡ c.left
  none_left = same_upd c.left i 0 (sym l)

  pub after_stay : w.then ≡ stay → holding w.says ≡ false → c ≡ course.course s i (makes w) c
  after_stay e h = rw (e, h, none_left)

  pub after_again : (k : ℕ) → w.then ≡ again k → holding w.says ≡ false → record { at = upd c.at i k; left = upd c.left i 0; done = c.done } ≡ course.course s i (makes w) c
  after_again k e h = rw (e, h)

  pub after_to : (k : ℕ) → w.then ≡ to k → holding w.says ≡ false → record { at = upd c.at i k; left = upd c.left i 0; done = c.done } ≡ course.course s i (makes w) c
  after_to k e h = rw (e, h)

  pub after_grant : (k : ℕ) → w.then ≡ to k → holding w.says ≡ true
      → record { at = upd c.at i k; left = upd c.left i (entry s.hold i); done = c.done } ≡ course.course s i (makes w) c
  after_grant k e h = rw (e, h)

  pub after_over : w.then ≡ over → holding w.says ≡ false
      → record { at = upd c.at i 1; left = upd c.left i 0; done = upd c.done i (c.done i + 1) } ≡ course.course s i (makes w) c
  after_over e h = rw (e, h)

  pub after_leave : w.then ≡ over → holding w.says ≡ true
      → record { at = upd c.at i 1; left = upd c.left i (entry s.hold i); done = upd c.done i (c.done i + 1) } ≡ course.course s i (makes w) c
  after_leave e h = rw (e, h)

-- ---- the tally, by what is told

abbrev pub one_if : Bool → ℕ
one_if b = pick b 1 0

-- the tally after a turn of which d was told
unfoldable pub counted : ℕ → Told → Tally → Tally
counted i d t =
    let h : ℕ = pick d.began 0 (t.here i) + d.far in
    record {
      far = upd t.far i (t.far i + d.far);
      most = upd t.most i (max (t.most i) h);
      here = upd t.here i h;
      spins = upd t.spins i (t.spins i + one_if d.spin);
      idle = upd t.idle i (t.idle i + one_if d.idle);
      total = t.total + d.far;
    }

-- the same number again changes nothing
pub kept : (f : ℕ → ℕ) (i : ℕ) → f ≡ upd f i (f i + 0)
kept f i = sym (same_upd f i (f i + 0) (omega arith))

pub same_tally : (a b : Tally) → a.far ≡ b.far → a.most ≡ b.most → a.here ≡ b.here → a.spins ≡ b.spins → a.idle ≡ b.idle → a.total ≡ b.total → a ≡ b
same_tally a b f m h s i t = λ j. record { far = f j; most = m j; here = h j; spins = s j; idle = i j; total = t j }

pub tally_told : {S : Type 0} (i at : ℕ) (w : Turn S) (t : Tally) → t.here i ≤ t.most i → tally i at w t ≡ counted i (told i at w) t
unfolding counted
tally_told i at holds t h =
    same_tally _ _ (kept t.far i) (sym (same_upd t.most i _ (omega arith))) (kept t.here i) (kept t.spins i) (kept t.idle i) (omega arith)
tally_told i at idles t h =
    same_tally _ _ (kept t.far i) (sym (same_upd t.most i _ (omega arith))) (kept t.here i) (kept t.spins i) refl (omega arith)
tally_told i at (makes w) t h = same_tally _ _ refl refl refl (spins w.then) (kept t.idle i) refl
  where
    spins : (x : Next) → spun x i t.spins ≡ upd t.spins i (t.spins i + one_if (stays x))
    spins stay = refl
    spins (again k) = refl
    spins (to k) = kept t.spins i
    spins over = kept t.spins i

-- what is told is 0 or 1, and two events at most
pub far≤ : {S : Type 0} (i at : ℕ) (w : Turn S) → (told i at w).far ≤ 1
far≤ i at holds = omega arith
far≤ i at idles = omega arith
far≤ i at (makes w) = remote≤ i w.access

pub codes≤ : {S : Type 0} (i at : ℕ) (w : Turn S) → length (told i at w).codes ≤ 2
codes≤ i at holds = omega arith
codes≤ i at idles = omega arith
codes≤ i at (makes w) = rw (length-map (said i w.says) code) (said≤ i w.says)

pub total_told : {S : Type 0} (i at : ℕ) (w : Turn S) (t : Tally) → (tally i at w t).total ≡ t.total + (told i at w).far
total_told i at holds t = omega arith
total_told i at idles t = omega arith
total_told i at (makes w) t = refl

pub codes_told : {S : Type 0} (i at : ℕ) (w : Turn S) → map code (said i (course.says w)) ≡ (told i at w).codes
codes_told i at holds = refl
codes_told i at idles = refl
codes_told i at (makes w) = refl

-- the passages done, by what is told
pub done_told : {S : Type 0} (s : Settings) (i at : ℕ) (w : Turn S) (c : Course) → (course.course s i w c).done ≡ upd c.done i (c.done i + one_if (told i at w).done)
done_told s i at holds c = kept c.done i
done_told s i at idles c = kept c.done i
done_told s i at (makes w) c = go w.then
  where
    go : (x : Next) → course.ends x i c.done ≡ upd c.done i (c.done i + one_if (ends x))
    go stay = kept c.done i
    go (again k) = kept c.done i
    go (to k) = kept c.done i
    go over = refl
