-- A loop over the schedule, of any machine: what is left, played from the run so far, gives the whole run.
use mathlib.Core.Path.{◌≡◌, refl, sym, ap, ◌∙◌}
use mathlib.Core.Bool.{false}
use mathlib.Core.List.{List, [], ◌∷◌, ◌++◌, map}
use Prim.Native.Nat.{ℕ, ◌+◌, ◌*◌, ◌≤◌, ◌<◌}
use native.Mathlib.Decide.{ℕ_discrete}
use native.Mathlib.Omega.{arith}
use lib.ListN.{length, length-append, get_or, drop}
use Rattle.rules.specs.Settings.{Settings}
use Rattle.rules.specs.Step.{said, code, Machine}
use Rattle.rules.specs.Course as course
use Rattle.rules.specs.Course.{Course, Turn, holds, idles, makes, turn}
use Rattle.rules.specs.Tally.{Tally, tally}
use Rattle.rules.specs.Play.{Run, first, next, taking, ended, play, whole}
use Rattle.rules.proofs.Store.{upd_same, upd_other}
use Rattle.rules.proofs.Steps.{said≤}
use Rattle.rules.proofs.Plays as plays
use Rattle.rules.proofs.Counts.{Table≤, grown}
use Rattle.rules.proofs.Turned.{Told, told, Turned, counted, tally_told, total_told, codes_told}

-- no passage's count is above the most
abbrev pub Low : Tally → Type 0
Low t = (j : ℕ) → t.here j ≤ t.most j

-- the run after k turns of the schedule, none of them past the budget
pub record Going (m : Machine) (s : Settings) (turns : List ℕ) (k : ℕ) (r : Run m.State) : Type 0 where
  pub goes : play m s (drop k turns) r ≡ whole m s turns
  pub on : r.stopped ≡ false
  pub taken : r.taken ≡ k
  pub within : k ≤ length turns
  pub low : Low r.tally
  pub small : Table≤ k r.course r.tally
  pub paid : r.tally.total ≤ s.budget
  pub few : length r.events ≤ 2 * k

low_turn : {S : Type 0} (i at : ℕ) (w : Turn S) (t : Tally) → Low t → Low (tally i at w t)
low_turn i at holds t h j = h j
low_turn i at idles t h j = h j
low_turn i at (makes w) t h j = go (ℕ_discrete j i)
  where
    go : Dec (j ≡ i) → (tally i at (makes w) t).here j ≤ (tally i at (makes w) t).most j
    go (yes e) = rw (e, upd_same t.here i _, upd_same t.most i _) (omega arith)
    go (no n) = rw (upd_other t.here i _ j n, upd_other t.most i _ j n) (h j)

module _ (m : Machine) (s : Settings) (turns : List ℕ) where
  pub going_first : Going m s turns 0 (first m s)
  unfolding whole
  going_first = record {
    goes = refl;
    on = refl;
    taken = refl;
    within = omega arith;
    low = λ j. omega arith;
    small = record { done = λ j. omega arith; far = λ j. omega arith; most = λ j. omega arith; here = λ j. omega arith; spins = λ j. omega arith; idle = λ j. omega arith; total = omega arith };
    paid = omega arith;
    few = omega arith;
  }

  module _ (k : ℕ) (r : Run m.State) (g : Going m s turns k r) where
    -- the schedule is used up
    pub going_all : k ≡ length turns → r ≡ whole m s turns
    going_all e = sym (plays.none_left m s turns k r e) ∙ g.goes

    module _ (i : ℕ) (d : Told) (more : k < length turns) (who : i ≡ get_or turns k 0) (tells : d ≡ told i (r.course.at i) (next m s r i)) where
      total_is : (taking m s r i).tally.total ≡ r.tally.total + d.far
      unfolding taking
      total_is = rw tells (total_told i (r.course.at i) (next m s r i) r.tally)

      -- the next turn would be past the budget
      pub going_past : s.budget < r.tally.total + d.far → ended r ≡ whole m s turns
      going_past b = sym (plays.past_budget m s turns k r more g.on (rw (← who) (omega (arith, total_is)))) ∙ g.goes

      -- it is taken
      pub going_next : r.tally.total + d.far ≤ s.budget → Going m s turns (k + 1) (taking m s r i)
      unfolding taking
      going_next b = record {
        goes = rw who (plays.one_more m s turns k r more g.on (rw (← who) (omega (arith, total_is))) ∙ g.goes);
        on = refl;
        taken = ap (λ (n : ℕ). n + 1) g.taken;
        within = omega arith;
        low = low_turn i (r.course.at i) (next m s r i) r.tally g.low;
        small = grown m s k i (r.course.at i) r.course r.tally (next m s r i) g.small;
        paid = omega (arith, total_is);
        few = rw (length-append r.events (said i (course.says (next m s r i)))) (omega (arith, g.few, said≤ i (course.says (next m s r i))));
      }

-- ---- a program's own numbers of a run

-- its memory, course and tally, and its events as numbers of the row
pub record As {S : Type 0} (r : Run S) (x : S) (c : Course) (t : Tally) (es : List ℕ) : Type 0 where
  pub memory : r.memory ≡ x
  pub course : r.course ≡ c
  pub tally : r.tally ≡ t
  pub events : map code r.events ≡ es

map_append : {A B : Type 0} (f : A → B) (a b : List A) → map f (a ++ b) ≡ map f a ++ map f b
map_append f [] b = refl
map_append f (x ∷ a) b = ap (λ l. f x ∷ l) (map_append f a b)

-- after the turn
pub as_next : (m : Machine) (s : Settings) (r : Run m.State) (i : ℕ) (x x' : m.State) (c c' : Course) (t : Tally) (es : List ℕ) (d : Told)
    → Low r.tally → As r x c t es → Turned m s x c i x' c' d → As (taking m s r i) x' c' (counted i d t) (es ++ d.codes)
unfolding taking
as_next m s r i x x' c c' t es d low a w =
    let u : Turned m s r.memory r.course i x' c' d = rw (a.memory, a.course) w in
    record {
      memory = sym u.memory;
      course = sym u.course;
      tally = tally_told i (r.course.at i) (next m s r i) r.tally (low i) ∙ rw (← u.tells, a.tally);
      events = map_append code r.events (said i (course.says (next m s r i))) ∙ rw (a.events, codes_told i (r.course.at i) (next m s r i), ← u.tells);
    }
