-- A turn that is a spin or idle changes nothing; so a standstill lasts.
use mathlib.Core.Path.{◌≡◌, refl, ◌∙◌}
use mathlib.Core.Logic.{◌≢◌}
use mathlib.Core.Bool.{true}
use mathlib.Core.List.{List, [], ◌∷◌}
use Prim.Native.Nat.{ℕ, ◌<◌}
use native.Mathlib.Decide.{ℕ_discrete}
use native.Mathlib.Omega.{arith}
use Rattle.rules.specs.Settings.{Settings}
use Rattle.rules.specs.Step.{Next, stay, again, to, over, Step, Machine}
use Rattle.rules.specs.Course.{Course, Turn, makes, turn, goes, ends, memory, course}
use Rattle.rules.specs.Play.{Run, next, taking, after, play, whole}
use Rattle.rules.proofs.Store.{upd_same, false_true}
use Rattle.rules.proofs.Accepted.{Below, below}
use Rattle.rules.proofs.Plays.{by_after, by_turn, continued}
use Rattle.laws.specs.Laws.{spins, waits, Standstill, Frozen, Steady}
use Rattle.laws.proofs.Courses.{Alike, alike_other}

module _ (m : Machine) (s : Settings) where
  -- a turn goes by the memory and by what its processor has
  turn_is : (x y : m.State) (c d : Course) (j : ℕ) → y ≡ x → Alike c d j → turn m s y d j ≡ turn m s x c j
  unfolding turn
  turn_is x y c d j e a = rw (e, a.left_is, a.at_is, a.done_is) refl

-- a spin is no end of a passage
no_end : (n : Next) (i : ℕ) (done : ℕ → ℕ) → spins n ≡ true → ends n i done ≡ done
no_end stay i done e = refl
no_end (again k) i done e = refl
no_end (to k) i done e = absurd (false_true e)
no_end over i done e = absurd (false_true e)

-- after a turn of i that is a spin or idle: everybody has the turn that it had, but that i may wait at another step
pub record Unmoved (m : Machine) (s : Settings) (i : ℕ) (x y : m.State) (c d : Course) : Type 0 where
  pub own : waits (turn m s y d i) ≡ true
  pub others : (j : ℕ) → j ≢ i → turn m s y d j ≡ turn m s x c j
  pub done : d.done ≡ c.done

module _ (m : Machine) (steady : Steady m) (s : Settings) where
  unmoved_turn : (x : m.State) (c : Course) (i : ℕ) → waits (turn m s x c i) ≡ true
      → (let w : Turn m.State = turn m s x c i in Unmoved m s i x (memory w x) c (course s i w c))
  unmoved_turn x c i e =
      by_turn m s x c i (λ w. waits w ≡ true → Unmoved m s i x (memory w x) c (course s i w c))
      (λ p f. absurd (false_true f))
      (λ a d f. record { own = e; others = λ j n. refl; done = refl })
      (λ z f. spun f)
      e
    where
      w : Step m.State
      w = m.step s x (c.at i) i

      d : Course
      d = course s i (makes w) c

      -- where i goes on
      on : (n : Next) → w.then ≡ n → spins n ≡ true → spins (m.step s x (goes n i c.at i) i).then ≡ true
      on stay h f = rw h refl
      on (again k) h f = rw (upd_same c.at i k) (steady.spins_on s x (c.at i) k i h)
      on (to k) h f = absurd (false_true f)
      on over h f = absurd (false_true f)

      spun : spins w.then ≡ true → Unmoved m s i x w.memory c d
      spun f =
          let same : w.memory ≡ x = steady.memory s x (c.at i) i f in
          let none : d.left i ≡ 0 = upd_same c.left i _ ∙ rw (steady.no_hold s x (c.at i) i f) refl in
          record {
            own = rw same (by_turn m s x d i (λ w. waits w ≡ true) (λ p. absurd (omega arith)) (λ a b. refl) (λ z. on w.then refl f));
            others = λ j n. turn_is m s x w.memory c d j same (alike_other m s i j (makes w) c n);
            done = no_end w.then i c.done f;
          }

  -- after a turn that is taken
  pub unmoved : (r : Run m.State) (i : ℕ) → waits (next m s r i) ≡ true
      → Unmoved m s i r.memory (taking m s r i).memory r.course (taking m s r i).course
  unfolding taking
  unmoved r i = unmoved_turn r.memory r.course i

  still : (r : Run m.State) (i : ℕ) → i < s.procs → Standstill m s r → Standstill m s (after m s r i)
  still r i b h =
      by_after m s r i (Standstill m s) h
      (record { who = h.who; one_of_them = h.one_of_them; passages_left = h.passages_left; all_wait = h.all_wait })
      (λ l. let u = unmoved r i (h.all_wait i b) in record {
        who = h.who;
        one_of_them = h.one_of_them;
        passages_left = rw u.done h.passages_left;
        all_wait = λ j c. waiting u j c (ℕ_discrete j i);
      })
    where
      waiting : Unmoved m s i r.memory (taking m s r i).memory r.course (taking m s r i).course
          → (j : ℕ) → j < s.procs → Dec (j ≡ i) → waits (next m s (taking m s r i) j) ≡ true
      waiting u j c (yes e) = rw e u.own
      waiting u j c (no n) = rw (u.others j n) (h.all_wait j c)

  still_play : (u : List ℕ) (r : Run m.State) → Below s.procs u → Standstill m s r → Standstill m s (play m s u r)
  unfolding play
  still_play [] r b h = h
  still_play (i ∷ u) r b h = still_play u (after m s r i) b.1 (still r i b.0 h)

  -- a standstill lasts
  pub lasts : (t : List ℕ) → Standstill m s (whole m s t) → Frozen m s t
  lasts t h u b = rw (continued m s t u) (still_play u (whole m s t) (below s.procs u b) h)
