-- A run over the beginning of a schedule is the beginning of the run over the whole.
use mathlib.Core.Path.{◌≡◌, refl, sym, ap, ◌∙◌}
use mathlib.Core.Bool.{Bool, true, false}
use mathlib.Core.List.{List, [], ◌∷◌, ◌++◌, append-nil, append_assoc}
use Prim.Native.Nat.{ℕ, ◌+◌, ◌≤◌, min}
use native.Mathlib.Decide.{ℕ_discrete}
use native.Mathlib.Omega.{arith}
use lib.ListN.{length}
use Rattle.rules.specs.Memory.{upd}
use Rattle.rules.specs.Settings.{Settings}
use Rattle.rules.specs.Step.{Next, stay, again, to, over, Event, said, Machine}
use Rattle.rules.specs.Course as course
use Rattle.rules.specs.Course.{Course, Turn, holds, idles, makes, ends}
use Rattle.rules.specs.Tally.{Tally, spun, tally}
use Rattle.rules.specs.Play.{Run, first, next, taking, ended, after, play, whole}
use Rattle.rules.proofs.Store.{upd_same, upd_other}
use Rattle.rules.proofs.Plays as plays
use Rattle.rules.proofs.Plays.{by_after, by_play, stopped_stays}
use Rattle.rules.proofs.Counts.{taken_few}
use Rattle.laws.specs.Laws.{Begins}

-- ---- what a turn adds

stored : (f : ℕ → ℕ) (i v : ℕ) → f i ≤ v → (j : ℕ) → f j ≤ upd f i v j
stored f i v h j = go (ℕ_discrete j i)
  where
    go : Dec (j ≡ i) → f j ≤ upd f i v j
    go (yes e) = rw (e, upd_same f i v) h
    go (no n) = rw (upd_other f i v j n) (omega arith)

ended≥ : (x : Next) (f : ℕ → ℕ) (i j : ℕ) → f j ≤ ends x i f j
ended≥ stay f i j = omega arith
ended≥ (again k) f i j = omega arith
ended≥ (to k) f i j = omega arith
ended≥ over f i j = stored f i (f i + 1) (omega arith) j

spun≥ : (x : Next) (f : ℕ → ℕ) (i j : ℕ) → f j ≤ spun x i f j
spun≥ stay f i j = stored f i (f i + 1) (omega arith) j
spun≥ (again k) f i j = stored f i (f i + 1) (omega arith) j
spun≥ (to k) f i j = omega arith
spun≥ over f i j = omega arith

-- no number of the table falls
record Grows (c : Course) (t : Tally) (c' : Course) (t' : Tally) : Type 0 where
  total : t.total ≤ t'.total
  done : (j : ℕ) → c.done j ≤ c'.done j
  far : (j : ℕ) → t.far j ≤ t'.far j
  most : (j : ℕ) → t.most j ≤ t'.most j
  spins : (j : ℕ) → t.spins j ≤ t'.spins j
  idle : (j : ℕ) → t.idle j ≤ t'.idle j

grows : {S : Type 0} (s : Settings) (i at : ℕ) (w : Turn S) (c : Course) (t : Tally) → Grows c t (course.course s i w c) (tally i at w t)
grows s i at holds c t =
    record { total = omega arith; done = λ j. omega arith; far = λ j. omega arith; most = λ j. omega arith; spins = λ j. omega arith; idle = λ j. omega arith }
grows s i at idles c t =
    record { total = omega arith; done = λ j. omega arith; far = λ j. omega arith; most = λ j. omega arith; spins = λ j. omega arith; idle = stored t.idle i _ (omega arith) }
grows s i at (makes w) c t = record {
  total = omega arith;
  done = ended≥ w.then c.done i;
  far = stored t.far i _ (omega arith);
  most = stored t.most i _ (omega arith);
  spins = spun≥ w.then t.spins i;
  idle = λ j. omega arith;
}

-- ---- a run

begins_same : {S : Type 0} (r r' : Run S) → r'.events ≡ r.events → r'.taken ≡ r.taken → r'.course ≡ r.course → r'.tally ≡ r.tally → Begins r r'
begins_same r r' e k c t = record {
  events = record { rest = []; adds = append-nil r.events ∙ sym e };
  taken = omega arith;
  total = rw t (omega arith);
  done = λ i. rw c (omega arith);
  far = λ i. rw t (omega arith);
  most = λ i. rw t (omega arith);
  spins = λ i. rw t (omega arith);
  idle = λ i. rw t (omega arith);
}

begins_then : {S : Type 0} (r r' r'' : Run S) → Begins r r' → Begins r' r'' → Begins r r''
begins_then r r' r'' a b = record {
  events = record {
    rest = a.events.rest ++ b.events.rest;
    adds = sym (append_assoc r.events a.events.rest b.events.rest) ∙ ap (λ (l : List Event). l ++ b.events.rest) a.events.adds ∙ b.events.adds;
  };
  taken = omega arith;
  total = omega arith;
  done = λ i. omega (arith, a.done i, b.done i);
  far = λ i. omega (arith, a.far i, b.far i);
  most = λ i. omega (arith, a.most i, b.most i);
  spins = λ i. omega (arith, a.spins i, b.spins i);
  idle = λ i. omega (arith, a.idle i, b.idle i);
}

module _ (m : Machine) (s : Settings) where
  begins_turn : (r : Run m.State) (i : ℕ) → Begins r (after m s r i)
  unfolding taking
  begins_turn r i =
      by_after m s r i (Begins r) (begins_same r r refl refl refl refl) (begins_same r (ended r) refl refl refl refl)
      (λ l.
      let g = grows s i (r.course.at i) (next m s r i) r.course r.tally in
      record {
        events = record { rest = said i (course.says (next m s r i)); adds = refl };
        taken = omega arith;
        total = g.total;
        done = g.done;
        far = g.far;
        most = g.most;
        spins = g.spins;
        idle = g.idle;
      })

  pub begins_play : (t : List ℕ) (r : Run m.State) → Begins r (play m s t r)
  begins_play t r = by_play m s (Begins r) (λ q i h. begins_then r q (after m s q i) h (begins_turn q i)) t r (begins_same r r refl refl refl refl)

  pub beginnings : (t u : List ℕ) → Begins (whole m s t) (whole m s (t ++ u))
  beginnings t u = rw (plays.continued m s t u) (begins_play u (whole m s t))

  pub stopped : (t u : List ℕ) → (whole m s t).stopped ≡ true → whole m s (t ++ u) ≡ whole m s t
  stopped t u e = plays.continued m s t u ∙ stopped_stays m s u (whole m s t) e

  -- ---- turns taken

  -- a run that has not stopped has taken every turn
  all_taken : (t : List ℕ) (r : Run m.State) → (play m s t r).stopped ≡ false → (play m s t r).taken ≡ r.taken + length t
  unfolding play taking
  all_taken [] r e = omega arith
  all_taken (i ∷ t) r e =
      let k : (after m s r i).taken ≡ r.taken + 1 = ap (λ (q : Run m.State). q.taken) (plays.after_taken m s r i (plays.goes_on m s t (after m s r i) e)) in
      omega (arith, all_taken t (after m s r i) e)

  pub taken : (t u : List ℕ) → (whole m s t).taken ≡ min (length t) (whole m s (t ++ u)).taken
  unfolding whole
  taken t u = go (whole m s t).stopped refl
    where
      go : (b : Bool) → (whole m s t).stopped ≡ b → (whole m s t).taken ≡ min (length t) (whole m s (t ++ u)).taken
      go true e = let k : (whole m s (t ++ u)).taken ≡ (whole m s t).taken = ap (λ (q : Run m.State). q.taken) (stopped t u e) in omega (arith, taken_few m s t)
      go false e = let k = all_taken t (first m s) e in omega (arith, (beginnings t u).taken)
