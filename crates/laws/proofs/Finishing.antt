-- Sweeps finish all passages of a lock: each has a turn that is neither a spin nor idle, and of these there are only so many.
use mathlib.Core.Path.{◌≡◌, refl, sym, ◌∙◌}
use mathlib.Core.Logic.{◌≢◌, inl, inr}
use mathlib.Core.Bool.{Bool, true, false}
use mathlib.Core.List.{List, [], ◌∷◌, ◌++◌}
use Prim.Native.Nat.{ℕ, zero, suc, ◌+◌, ◌-◌, ◌*◌, ◌≤◌, ◌<◌}
use native.Mathlib.Nat.{add-mul, one-mul, mul-le-mul_right}
use native.Mathlib.Decide.{ℕ_discrete, dec_lt}
use native.Mathlib.Omega.{arith}
use borrow.Author.Tests.{ne_eqb}
use Rattle.rules.specs.Memory.{pick}
use Rattle.rules.specs.Settings.{Settings, entry}
use Rattle.rules.specs.Step.{Step, Machine}
use Rattle.rules.specs.Course.{Course, Turn, holds, makes, turn, course}
use Rattle.rules.specs.Play.{Run, first, next, taking, after, play, whole}
use Rattle.rules.specs.Calls.{all_below}
use Rattle.rules.proofs.Store.{upd_same, false_true}
use Rattle.rules.proofs.Accepted.{Below, below}
use Rattle.rules.proofs.Plays.{by_after, by_turn, play_append, goes_on, after_taken, continued}
use Rattle.laws.specs.Laws.{times, sum, waits, AllDone, Sweeps, none, more, enough, Steady}
use Rattle.laws.proofs.Lists.{below_append}
use Rattle.laws.proofs.Passages.{Walks, stays, goes_to, goes_in, ends_it, Passage}
use Rattle.laws.proofs.Beginnings.{begins_play}
use Rattle.laws.proofs.Totals.{sum_less}
use Rattle.laws.proofs.Courses.{alike_other, Due, all_due}
use Rattle.laws.proofs.Locks.{Lock, Good, good, good_on}
use Rattle.laws.proofs.Waiting.{unmoved}
use Rattle.laws.proofs.Unstuck.{goer}

pub sweeps_below : {p n : ℕ} {u : List ℕ} → Sweeps p n u → Below p u
sweeps_below none = tt
sweeps_below {p} (more {t = t} {u = u} a r) = below_append p t u (below p t a.no_others) (sweeps_below r)

-- ---- what a processor has done of its work

-- d passages of width w, and one of which b turns are to come
abbrev work : (d w b : ℕ) → ℕ
work d w b = d * w + (w - b)

-- a passage more, of which all is to come
work_over : (d w b : ℕ) → 0 < b → b ≤ w → work d w b + 1 ≤ work (d + 1) w w
work_over d w b p l = omega (arith, add-mul d 1 w, one-mul w)

-- d passages of n are done: not all work is
work_due : (d n w b : ℕ) → 0 < b → b ≤ w → d < n → work d w b + 1 ≤ n * w
work_due d n w b p l h = omega (arith, work_over d w b p l, mul-le-mul_right w h)

module _ (m : Machine) (s : Settings) (steps in_it : ℕ) (p : Passage m s steps in_it) where
  abbrev hold : ℕ → ℕ
  hold i = entry s.hold i

  abbrev width : ℕ → ℕ
  width i = steps + hold i

  -- the turns of i's passage to come
  abbrev coming : Course → ℕ → ℕ
  coming c i = suc (p.ahead (hold i) (c.at i) + c.left i)

  abbrev done : Course → ℕ → ℕ
  done c i = work (c.done i) (width i) (coming c i)

  abbrev Fits : Course → Type 0
  Fits c = (j : ℕ) → coming c j ≤ width j

  -- ---- a turn of i's own

  module _ (x : m.State) (c : Course) (i : ℕ) (f : coming c i ≤ width i) where
    abbrev Worked : Turn m.State → Type 0
    Worked w = (coming (course s i w c) i ≤ width i) × (done c i + pick (waits w) 0 1 ≤ done (course s i w c) i)

    own_turn : Worked (turn m s x c i)
    own_turn = by_turn m s x c i Worked held (λ e d. (f, omega arith)) (λ z. step z (p.walks x (c.at i) i (hold i)))
      where
        held : 0 < c.left i → Worked holds
        held l = let e = upd_same c.left i (c.left i - 1) in (omega arith, omega arith)

        w : Step m.State
        w = m.step s x (c.at i) i

        step : c.left i ≡ 0 → Walks p.ahead in_it (hold i) x w (p.ahead (hold i) (c.at i)) → Worked (makes w)
        step z (stays s e n) = rw (e, n) (let u = upd_same c.left i 0 in (omega arith, omega arith))
        step z (goes_to j e n l) = rw (e, n, upd_same c.at i j, upd_same c.left i 0) (omega arith, omega arith)
        step z (goes_in e n l) = rw (e, n, upd_same c.at i in_it, upd_same c.left i (hold i)) (omega arith, omega arith)
        step z (ends_it e n) =
            let a = p.first (hold i) in
            let b = work_over (c.done i) (width i) (coming c i) (omega arith) f in
            rw (e, n, upd_same c.at i 1, upd_same c.left i 0, upd_same c.done i (c.done i + 1)) (omega arith, omega arith)

  -- ---- a turn of anybody's

  other : (i j : ℕ) (w : Turn m.State) (c : Course) → j ≢ i → (coming (course s i w c) j ≡ coming c j) × (done (course s i w c) j ≡ done c j)
  other i j w c n = let a = alike_other m s i j w c n in rw (a.at_is, a.left_is, a.done_is) (refl, refl)

  -- all that has been done
  abbrev all : Run m.State → ℕ
  all r = sum (done r.course) s.procs

  abbrev Fit : Run m.State → Type 0
  Fit r = Fits r.course

  -- a turn of i that is taken: nothing is lost, and where it is neither a spin nor idle something is gained
  worked : (r : Run m.State) (i : ℕ) → i < s.procs → Fit r
      → Fit (taking m s r i) × (all r + pick (waits (next m s r i)) 0 1 ≤ all (taking m s r i))
  unfolding taking
  worked r i b f = (λ j. fits j (ℕ_discrete j i), sum_less (done c) (done d) i (pick (waits w) 0 1) s.procs b own.1 (λ j l. least j (ℕ_discrete j i)))
    where
      c : Course
      c = r.course

      w : Turn m.State
      w = turn m s r.memory c i

      d : Course
      d = course s i w c

      own : (coming d i ≤ width i) × (done c i + pick (waits w) 0 1 ≤ done d i)
      own = own_turn r.memory c i (f i)

      fits : (j : ℕ) → Dec (j ≡ i) → coming d j ≤ width j
      fits j (yes e) = rw e own.0
      fits j (no n) = rw (other i j w c n).0 (f j)

      least : (j : ℕ) → Dec (j ≡ i) → done c j ≤ done d j
      least j (yes e) = rw e (omega (arith, own.1))
      least j (no n) = rw (other i j w c n).1 (omega arith)

  -- ---- a schedule

  kept : (t : List ℕ) (r : Run m.State) → Below s.procs t → Fit r → Fit (play m s t r) × (all r ≤ all (play m s t r))
  unfolding play
  kept [] r b f = (f, omega arith)
  kept (i ∷ t) r b f =
      let w = by_after m s r i (λ q. Fit q × (all r ≤ all q)) (f, omega arith) (f, omega arith) (λ l. let w = worked r i b.0 f in (w.0, omega (arith, w.1))) in
      let u = kept t (after m s r i) b.1 w.0 in
      (u.0, omega (arith, w.1, u.1))

  -- at first nothing is done, and all of the first passage is to come
  fit : (t : List ℕ) → all_below s.procs t ≡ true → Fit (whole m s t)
  unfolding whole
  fit t b = (kept t (first m s) (below s.procs t b) (λ j. omega (arith, p.first (hold j)))).0

  -- ---- all work

  -- what a processor has done is at most its work, and less while it has a passage left
  at_most : (t : List ℕ) → Fit (whole m s t) → (j : ℕ) → done (whole m s t).course j ≤ entry s.rounds j * width j
  at_most t f j = go (all_due m s t j)
    where
      c : Course
      c = (whole m s t).course

      go : Due m s (c.at j) (c.done j) (entry s.rounds j) → done c j ≤ entry s.rounds j * width j
      go (l, inl e) = rw e (omega (arith, p.first (hold j), mul-le-mul_right (width j) l))
      go (l, inr h) = omega (arith, work_due (c.done j) (entry s.rounds j) (width j) (coming c j) (omega arith) (f j) h)

  less : (t : List ℕ) → Fit (whole m s t) → (i : ℕ) → i < s.procs → (whole m s t).course.done i < entry s.rounds i → all (whole m s t) + 1 ≤ sum (λ j. entry s.rounds j * width j) s.procs
  less t f i b h =
      sum_less (done (whole m s t).course) (λ j. entry s.rounds j * width j) i 1 s.procs b
      (work_due ((whole m s t).course.done i) (entry s.rounds i) (width i) (coming (whole m s t).course i) (omega arith) (f i) h)
      (λ j l. at_most t f j)

  module _ (steady : Steady m) where
    -- where j goes on, and has a turn in t, something is gained
    gains : (t : List ℕ) (r : Run m.State) → Below s.procs t → Fit r → (j : ℕ) → waits (next m s r j) ≡ false → 0 < times j t
        → (play m s t r).stopped ≡ false → all r + 1 ≤ all (play m s t r)
    unfolding play
    gains [] r b f j g l e = absurd (omega arith)
    gains (i ∷ t) r b f j g l e = go (waits (next m s r i)) refl (ℕ_discrete i j) (gains t (after m s r i) b.1 fit_on j)
      where
        q : Run m.State
        q = after m s r i

        is : q ≡ taking m s r i
        is = after_taken m s r i (goes_on m s t q e)

        fit_on : Fit q
        fit_on = rw is (worked r i b.0 f).0

        gained : all r + pick (waits (next m s r i)) 0 1 ≤ all q
        gained = rw is (worked r i b.0 f).1

        go : (h : Bool) → waits (next m s r i) ≡ h → Dec (i ≡ j)
            → (waits (next m s q j) ≡ false → 0 < times j t → (play m s t q).stopped ≡ false → all q + 1 ≤ all (play m s t q))
            → all r + 1 ≤ all (play m s t q)
        go false h d later = omega (arith, rw h at gained, (kept t q b.1 fit_on).1)
        go true h (yes d) later = absurd (false_true (sym g ∙ rw d at h))
        go true h (no n) later =
            let u = unmoved m steady s r i h in
            let still : waits (next m s q j) ≡ false = rw (is, u.others j (λ z. n (sym z))) g in
            let has : 0 < times j t = omega (arith, rw (ne_eqb i j n) at l) in
            omega (arith, rw h at gained, later still has e)

    module _ (k : Lock m s) where
      -- each sweep gains, while i has a passage left
      sweeps_gain : (n : ℕ) (u : List ℕ) → Sweeps s.procs n u → (r : Run m.State) → Good m s k r → Fit r → (play m s u r).stopped ≡ false
          → (i : ℕ) → i < s.procs → (play m s u r).course.done i < entry s.rounds i → Fit (play m s u r) × (all r + n ≤ all (play m s u r))
      unfolding play
      sweeps_gain zero [] none r w f e i b h = (f, omega arith)
      sweeps_gain zero (_ ∷ _) x14 r w f e i b h = elim x14 [ ]
      sweeps_gain (suc n) u (more {t = t} {u = v} a rest) r w f e i b h =
          let bt = below s.procs t a.no_others in
          let q : Run m.State = play m s t r in
          let e' : (play m s v q).stopped ≡ false = rw (play_append m s t v r) at e in
          let h' : (play m s v q).course.done i < entry s.rounds i = rw (play_append m s t v r) at h in
          let g = goer m s k r w i b (omega (arith, (begins_play m s t r).done i, (begins_play m s v q).done i)) in
          let one = gains t r bt f g.0 g.2 (a.each_has g.0 g.1) (goes_on m s v q e') in
          let others = sweeps_gain n v rest q (good_on m s k t r bt w) (kept t r bt f).0 e' i b h' in
          rw (play_append m s t v r) (others.0, omega (arith, one, others.1))

      pub finish : (t u : List ℕ) → all_below s.procs t ≡ true → Sweeps s.procs (enough steps s) u
          → (whole m s (t ++ u)).stopped ≡ false → AllDone s (whole m s (t ++ u))
      finish t u bt a e i b = go (dec_lt ((whole m s (t ++ u)).course.done i) (entry s.rounds i))
        where
          go : Dec ((whole m s (t ++ u)).course.done i < entry s.rounds i) → (whole m s (t ++ u)).course.done i ≡ entry s.rounds i
          go (no n) = omega (arith, (all_due m s (t ++ u) i).0)
          go (yes h) =
              let g : Fit (whole m s (t ++ u)) × (all (whole m s t) + enough steps s ≤ all (whole m s (t ++ u))) =
              rw (continued m s t u) (sweeps_gain (enough steps s) u a (whole m s t) (good m s k t bt) (fit t bt) (rw (continued m s t u) at e) i b (rw (continued m s t u) at h)) in
              absurd (omega (arith, g.1, less (t ++ u) g.0 i b h))
