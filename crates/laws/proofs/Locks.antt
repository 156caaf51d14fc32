-- Demand 3 for any lock, from what its steps do with a line.
-- q is the line, the holder included; g is the holder alone, or nobody.
use mathlib.Core.Path.{◌≡◌, refl, sym, ap, ◌∙◌}
use mathlib.Core.Logic.{◌≢◌, ◌⊎◌, inl, inr}
use mathlib.Core.Bool.{Bool, true, false}
use mathlib.Core.List.{List, [], ◌∷◌, ◌++◌, append-nil, append_assoc}
use Prim.Native.Nat.{ℕ, suc, ◌-◌, ◌≤◌, ◌<◌}
use native.Mathlib.Decide.{ℕ_discrete}
use native.Mathlib.Omega.{arith}
use lib.Dec.{eqb}
use lib.ListN.{length, length-append}
use Rattle.rules.specs.Memory.{pick, upd}
use Rattle.rules.specs.Settings.{Settings, entry}
use Rattle.rules.specs.Step.{Kind, number, join, grant, release, Says, nothing, one, two, Event, event, said, to, Step, Machine}
use Rattle.rules.specs.Course as course
use Rattle.rules.specs.Course.{Course, Turn, holds, makes, turn, holding, goes}
use Rattle.rules.specs.Play.{Run, first, taking, after, play, whole}
use Rattle.rules.specs.Calls.{all_below}
use Rattle.rules.proofs.Store.{upd_same, upd_other, zero_suc}
use Rattle.rules.proofs.Steps.{goes_other}
use Rattle.rules.proofs.Accepted.{Below, below}
use Rattle.rules.proofs.Plays.{by_after, by_turn, continued, whole_snoc}
use Rattle.laws.specs.Laws.{Prefix, of, Without, InLine, spins}
use Rattle.laws.proofs.Lists.{Mem, below_append}
use Rattle.laws.proofs.Passages.{Walks, stays, goes_to, goes_in, ends_it, Passage}

-- ---- what a step of processor i may do with the line, and what it says then

pub data Moves (i : ℕ) : List ℕ → List ℕ → List ℕ → List ℕ → Says → Type 0 where
  rests : {q g : List ℕ} → Moves i q g q g nothing
  joins : {q g : List ℕ} → Moves i q g (q ++ i ∷ []) g (one join)
  enters : Moves i [] [] (i ∷ []) (i ∷ []) (two join grant)
  gets : {r : List ℕ} → Moves i (i ∷ r) [] (i ∷ r) (i ∷ []) (one grant)
  frees : {r : List ℕ} → Moves i (i ∷ r) (i ∷ []) r [] (one release)

abbrev pub Invariant : Type 0 → Type 1
Invariant S = S → (at : ℕ → ℕ) → (q g : List ℕ) → Type 0

-- the line after step t of processor i
pub record After {S : Type 0} (Inv : Invariant S) (t : Step S) (at : ℕ → ℕ) (i : ℕ) (q g : List ℕ) : Type 0 where
  pub q' : List ℕ
  pub g' : List ℕ
  pub moves : Moves i q g q' g' t.says
  pub inv : Inv t.memory (goes t.then i at) q' g'

-- a step that says nothing leaves the line as it is
pub resting : {S : Type 0} {Inv : Invariant S} {t : Step S} {at : ℕ → ℕ} {i : ℕ} {q g : List ℕ}
    → t.says ≡ nothing → Inv t.memory (goes t.then i at) q g → After Inv t at i q g
resting {q = q} {g = g} e v = record { q' = q; g' = g; moves = rw e rests; inv = v }

-- the step starts no hold turns, or it goes to step k
pub data Enters {S : Type 0} (k : ℕ) (t : Step S) : Type 0 where
  no_hold : holding t.says ≡ false → Enters k t
  into : t.then ≡ to k → Enters k t

pub enters_by : {m : Machine} {s : Settings} {steps in_it : ℕ} → Passage m s steps in_it → (x : m.State) (k i : ℕ) → Enters in_it (m.step s x k i)
enters_by {m} {s} {in_it = in_it} p x k i = go (p.walks x k i 0)
  where
    go : Walks p.ahead in_it 0 x (m.step s x k i) (p.ahead 0 k) → Enters in_it (m.step s x k i)
    go (stays e f n) = no_hold n
    go (goes_to j f n l) = no_hold n
    go (goes_in f n l) = into f
    go (ends_it f n) = no_hold n

-- one of the line q whose step is no spin, and not step 1
pub record Goes (m : Machine) (s : Settings) (x : m.State) (at : ℕ → ℕ) (q : List ℕ) : Type 0 where
  pub who : ℕ
  pub in_line : Mem who q
  pub inside : at who ≢ 1
  pub goes : spins (m.step s x (at who) who).then ≡ false

pub first_goes : {m : Machine} {s : Settings} {x : m.State} {at : ℕ → ℕ} {a : ℕ} {r : List ℕ}
    → at a ≢ 1 → spins (m.step s x (at a) a).then ≡ false → Goes m s x at (a ∷ r)
first_goes {a = a} n e = record { who = a; in_line = inl refl; inside = n; goes = e }

pub second_goes : {m : Machine} {s : Settings} {x : m.State} {at : ℕ → ℕ} {a b : ℕ} {r : List ℕ}
    → at b ≢ 1 → spins (m.step s x (at b) b).then ≡ false → Goes m s x at (a ∷ b ∷ r)
second_goes {b = b} n e = record { who = b; in_line = inr (inl refl); inside = n; goes = e }

-- a lock: an invariant of its variables and the processors' steps, kept by every step; a grant goes to the step `in_it`;
-- the first in line, where nobody holds, is at a step that grants; whoever is in no line goes on, and so does one of every line
pub record Lock (m : Machine) (s : Settings) : Type 1 where
  pub Inv : Invariant m.State
  pub in_it : ℕ
  pub start : Inv (m.start s) (λ i. 1) [] []
  pub step : (x : m.State) (at : ℕ → ℕ) (i : ℕ) (q g : List ℕ) → Below s.procs q → Inv x at q g → After Inv (m.step s x (at i) i) at i q g
  pub waits : (x : m.State) (at : ℕ → ℕ) (f : ℕ) (r : List ℕ) → Inv x at (f ∷ r) []
      → (at f ≢ 1) × (at f ≢ in_it) × ((m.step s x (at f) f).says ≡ one grant)
  pub enters_it : (x : m.State) (k i : ℕ) → Enters in_it (m.step s x k i)
  pub out_goes : (x : m.State) (at : ℕ → ℕ) (i : ℕ) (q g : List ℕ) → Inv x at q g → Without i q → spins (m.step s x (at i) i).then ≡ false
  pub line_goes : (x : m.State) (at : ℕ → ℕ) (a : ℕ) (r g : List ℕ) → Inv x at (a ∷ r) g → Goes m s x at (a ∷ r)

-- ---- moves

-- g is the first of q, or nobody
pub data Holder : List ℕ → List ℕ → Type 0 where
  nobody : {q : List ℕ} → Holder q []
  front : {a : ℕ} {r : List ℕ} → Holder (a ∷ r) (a ∷ [])

still_holder : {q g : List ℕ} (i : ℕ) → Holder q g → Holder (q ++ i ∷ []) g
still_holder i nobody = nobody
still_holder i front = front

move_holder : {i : ℕ} {q g q' g' : List ℕ} {k : Says} → Moves i q g q' g' k → Holder q g → Holder q' g'
move_holder rests h = h
move_holder {i} joins h = still_holder i h
move_holder enters h = front
move_holder gets h = front
move_holder frees h = nobody

-- the line is of processors below p
move_below : {i : ℕ} {q g q' g' : List ℕ} {k : Says} (p : ℕ) → i < p → Moves i q g q' g' k → Below p q → Below p q'
move_below p l rests b = b
move_below {i} {q} p l joins b = below_append p q (i ∷ []) b (l, tt)
move_below p l enters b = (l, tt)
move_below p l gets b = b
move_below p l frees b = b.1

-- what is said fits what is done: who joins comes into the line, who releases leaves it
move_joined : {i : ℕ} {q g q' g' : List ℕ} {k : Says} → Moves i q g q' g' k → q ++ of join (said i k) ≡ of release (said i k) ++ q'
move_joined rests = append-nil _
move_joined joins = refl
move_joined enters = refl
move_joined gets = append-nil _
move_joined frees = append-nil _

move_granted : {i : ℕ} {q g q' g' : List ℕ} {k : Says} → Moves i q g q' g' k → g ++ of grant (said i k) ≡ of release (said i k) ++ g'
move_granted rests = append-nil _
move_granted joins = append-nil _
move_granted enters = refl
move_granted gets = refl
move_granted frees = refl

-- f is the first in line and nobody holds
abbrev First : ℕ → List ℕ → List ℕ → Type 0
First f q g = ((r : List ℕ) × (q ≡ f ∷ r)) × (g ≡ [])

-- a step of another leaves it so
move_first : {i : ℕ} {q g q' g' : List ℕ} {k : Says} (f : ℕ) → i ≢ f → Moves i q g q' g' k → First f q g → First f q' g'
move_first f n rests h = h
move_first {i} f n joins h = ((h.0.0 ++ i ∷ [], ap (λ (l : List ℕ). l ++ i ∷ []) h.0.1), h.1)
move_first f n enters h = absurd (zero_suc (ap length h.0.1))
move_first f n (gets {r = l}) h = let z = h.0.1 in absurd (n (cc))
move_first f n frees h = absurd (zero_suc (ap length (sym h.1)))

-- ---- events

pub of_append : (k : Kind) (a b : List Event) → of k (a ++ b) ≡ of k a ++ of k b
of_append k [] b = refl
of_append k (e ∷ a) b = rw (of_append k a b) (test (eqb (number k) (number e.kind)) e.who (of k a) (of k b))
  where
    test : (t : Bool) (w : ℕ) (x y : List ℕ) → pick t (w ∷ (x ++ y)) (x ++ y) ≡ pick t (w ∷ x) x ++ y
    test true w x y = refl
    test false w x y = refl

prefix_of : {q g : List ℕ} → Holder q g → Prefix g q
prefix_of {q} nobody = record { rest = q; adds = refl }
prefix_of (front {r = r}) = record { rest = r; adds = refl }

at_most_one : {q g : List ℕ} → Holder q g → length g ≤ 1
at_most_one nobody = omega arith
at_most_one front = omega arith

more : (R q q' J r : List ℕ) → q ++ J ≡ r ++ q' → (R ++ q) ++ J ≡ (R ++ r) ++ q'
more R q q' J r e = append_assoc R q J ∙ ap (λ (l : List ℕ). R ++ l) e ∙ sym (append_assoc R r q')

drop_front : (R a b : List ℕ) → R ++ a ≡ R ++ b → a ≡ b
drop_front [] a b e = e
drop_front (x ∷ R) a b e = drop_front R a b (cc)

-- ---- a run

module _ (m : Machine) (s : Settings) (k : Lock m s) where
  -- who has hold turns left has been let in
  abbrev pub Held : Course → Type 0
  Held c = (j : ℕ) → (c.left j ≡ 0) ⊎ (c.at j ≡ k.in_it)

  -- the line after the events es
  pub record Lined (x : m.State) (c : Course) (es : List Event) (q g : List ℕ) : Type 0 where
    pub inv : k.Inv x c.at q g
    pub below : Below s.procs q
    pub holder : Holder q g
    pub joined : of join es ≡ of release es ++ q
    pub granted : of grant es ≡ of release es ++ g
    pub held : Held c

  -- a run that has a line
  pub record Good (r : Run m.State) : Type 0 where
    pub q : List ℕ
    pub g : List ℕ
    pub line : Lined r.memory r.course r.events q g

  held_hold : (c : Course) (i : ℕ) → 0 < c.left i → Held c → Held (course.course {S = m.State} s i holds c)
  held_hold c i p h j = go (ℕ_discrete j i) (h j)
    where
      go : Dec (j ≡ i) → (c.left j ≡ 0) ⊎ (c.at j ≡ k.in_it) → (upd c.left i (c.left i - 1) j ≡ 0) ⊎ (c.at j ≡ k.in_it)
      go d (inr e) = inr e
      go (yes e) (inl z) = let z' : c.left i ≡ 0 = rw e at z in absurd (omega arith)
      go (no n) (inl z) = inl (upd_other c.left i _ j n ∙ z)

  held_step : (c : Course) (i : ℕ) (t : Step m.State) → Enters k.in_it t → Held c → Held (course.course s i (makes t) c)
  held_step c i t w h j = go (ℕ_discrete j i) w (h j)
    where
      new : ℕ
      new = pick (holding t.says) (entry s.hold i) 0

      go : Dec (j ≡ i) → Enters k.in_it t → (c.left j ≡ 0) ⊎ (c.at j ≡ k.in_it) → (upd c.left i new j ≡ 0) ⊎ (goes t.then i c.at j ≡ k.in_it)
      go (yes e) (no_hold f) h = inl (rw (e, upd_same c.left i new, f) refl)
      go (yes e) (into f) h = inr (rw (e, f) (upd_same c.at i k.in_it))
      go (no n) w (inl z) = inl (upd_other c.left i new j n ∙ z)
      go (no n) w (inr z) = inr (goes_other t.then i c.at j n ∙ z)

  -- a line after a turn of i, and whether the first in it is still the first
  record Then (i : ℕ) (x : m.State) (c : Course) (es : List Event) (q g : List ℕ) : Type 0 where
    q' : List ℕ
    g' : List ℕ
    line : Lined x c es q' g'
    still : (f : ℕ) → i ≢ f → First f q g → First f q' g'

  -- a turn that says nothing and leaves the memory
  quiet : (i : ℕ) (x : m.State) (c : Course) (es : List Event) (q g : List ℕ) → Lined x c es q g → Then i x c (es ++ []) q g
  quiet i x c es q g l = record { q' = q; g' = g; line = rw (append-nil es) l; still = λ f n h. h }

  one_turn : (x : m.State) (c : Course) (es : List Event) (i : ℕ) (q g : List ℕ) → i < s.procs → Lined x c es q g
      → (let t : Turn m.State = turn m s x c i in Then i (course.memory t x) (course.course s i t c) (es ++ said i (course.says t)) q g)
  one_turn x c es i q g b l =
      by_turn m s x c i (λ t. Then i (course.memory t x) (course.course s i t c) (es ++ said i (course.says t)) q g)
      (λ p. quiet i x (course.course {S = m.State} s i holds c) es q g
      (record { inv = l.inv; below = l.below; holder = l.holder; joined = l.joined; granted = l.granted; held = held_hold c i p l.held }))
      (λ e d. quiet i x c es q g l)
      (λ z. stepped (k.step x c.at i q g l.below l.inv))
    where
      t : Step m.State
      t = m.step s x (c.at i) i

      e : List Event
      e = said i t.says

      stepped : After k.Inv t c.at i q g → Then i t.memory (course.course s i (makes t) c) (es ++ said i t.says) q g
      stepped n = record {
        q' = n.q';
        g' = n.g';
        line = record {
          inv = n.inv;
          below = move_below s.procs b n.moves l.below;
          holder = move_holder n.moves l.holder;
          joined = rw (of_append join es e, of_append release es e, l.joined)
              (more (of release es) q n.q' (of join e) (of release e) (move_joined n.moves));
          granted = rw (of_append grant es e, of_append release es e, l.granted)
              (more (of release es) g n.g' (of grant e) (of release e) (move_granted n.moves));
          held = held_step c i t (k.enters_it x (c.at i) i) l.held;
        };
        still = λ f h. move_first f h n.moves;
      }

  -- a run after one more turn
  abbrev Later : ℕ → (r : Run m.State) → Good r → Run m.State → Type 0
  Later i r w r' = (w' : Good r') × ((f : ℕ) → i ≢ f → First f w.q w.g → First f w'.q w'.g)

  later : (r : Run m.State) (i : ℕ) → i < s.procs → (w : Good r) → Later i r w (after m s r i)
  unfolding taking
  later r i b w =
      by_after m s r i (Later i r w) (w, λ f n h. h) (record { q = w.q; g = w.g; line = w.line }, λ f n h. h)
      (λ _. let n = one_turn r.memory r.course r.events i w.q w.g b w.line in (record { q = n.q'; g = n.g'; line = n.line }, n.still))

  -- what holds of a run that has a line, and is kept by every turn, holds of it played on
  good_play : (P : Run m.State → Type 0) → ((r : Run m.State) (i : ℕ) → i < s.procs → Good r → P r → P (after m s r i))
      → (t : List ℕ) (r : Run m.State) → Below s.procs t → Good r → P r → Good (play m s t r) × P (play m s t r)
  unfolding play
  good_play P f [] r b w h = (w, h)
  good_play P f (i ∷ t) r b w h = good_play P f t (after m s r i) b.1 (later r i b.0 w).0 (f r i b.0 w h)

  -- a run that has a line has one whatever turns come next
  pub good_on : (t : List ℕ) (r : Run m.State) → Below s.procs t → Good r → Good (play m s t r)
  good_on t r b w = (good_play (λ r. Unit {0}) (λ r i l w h. tt) t r b w tt).0

  -- at first the line is empty
  good_first : Good (first m s)
  good_first = record { q = []; g = []; line = record { inv = k.start; below = tt; holder = nobody; joined = refl; granted = refl; held = λ j. inl refl } }

  -- every run has a line
  pub good : (t : List ℕ) → all_below s.procs t ≡ true → Good (whole m s t)
  unfolding whole
  good t b = good_on t (first m s) (below s.procs t b) good_first

  -- what holds at first and is kept by every turn of a run that has a line holds of every run
  pub by_good : (P : Run m.State → Type 0) → ((r : Run m.State) (i : ℕ) → i < s.procs → Good r → P r → P (after m s r i)) → P (first m s)
      → (t : List ℕ) → all_below s.procs t ≡ true → P (whole m s t)
  unfolding whole
  by_good P f h t b = (good_play P f t (first m s) (below s.procs t b) good_first h).1

  -- a run where nobody holds and f is the first in line
  abbrev Ready : ℕ → Run m.State → Type 0
  Ready f r = (w : Good r) × First f w.q w.g

  -- it stays so, whatever turns of others come next
  still_ready : (f : ℕ) (u : List ℕ) (r : Run m.State) → Below s.procs u → Without f u → Ready f r → Ready f (play m s u r)
  unfolding play
  still_ready f [] r b n w = w
  still_ready f (i ∷ u) r b n w =
      let l = later r i b.0 w.0 in
      still_ready f u (after m s r i) b.1 n.1 (l.0, l.1 f n.0 w.1)

  -- then the next turn of f, if taken, lets it in
  gets_in : (f : ℕ) (r : Run m.State) → (w : Good r) → First f w.q w.g
      → (after m s r f).taken ≡ suc r.taken → (after m s r f).events ≡ r.events ++ event grant f ∷ []
  unfolding taking
  gets_in f r w h =
      by_after m s r f (λ r'. r'.taken ≡ suc r.taken → r'.events ≡ r.events ++ event grant f ∷ [])
      (λ e. absurd (omega arith)) (λ e. absurd (omega arith)) (λ b e. ap (λ (l : List Event). r.events ++ l) says)
    where
      now : (r.course.at f ≢ 1) × (r.course.at f ≢ k.in_it) × ((m.step s r.memory (r.course.at f) f).says ≡ one grant)
      now = k.waits r.memory r.course.at f h.0.0 (rw (h.0.1, h.1) at w.line.inv)

      not_held : 0 < r.course.left f → (r.course.left f ≡ 0) ⊎ (r.course.at f ≡ k.in_it) → ⊥
      not_held p (inl z) = omega arith
      not_held p (inr z) = now.1 z

      says : said f (course.says (turn m s r.memory r.course f)) ≡ event grant f ∷ []
      says =
          by_turn m s r.memory r.course f (λ t. said f (course.says t) ≡ event grant f ∷ [])
          (λ p. absurd (not_held p (w.line.held f)))
          (λ e d. absurd (now.0 e))
          (λ z. ap (said f) now.2)

  -- demand 3
  pub in_line : (t : List ℕ) → all_below s.procs t ≡ true → InLine m s t
  in_line t b = record {
    granted = record { rest = p.rest; adds = rw (l.granted, l.joined) (append_assoc R w.g p.rest ∙ ap (λ (z : List ℕ). R ++ z) p.adds) };
    released = record { rest = w.g; adds = sym l.granted };
    one_holder = rw (l.granted, length-append) (omega (arith, at_most_one l.holder));
    first_next = λ e f rest j u bu n.
        let y = still_ready f u (whole m s t) (below s.procs u bu) n (w, first_is e f rest j) in
        rw (whole_snoc m s (t ++ u) f, continued m s t u) (gets_in f (play m s u (whole m s t)) y.0 y.1);
  }
    where
      w : Good (whole m s t)
      w = good t b

      R : List ℕ
      R = of release (whole m s t).events

      l : Lined (whole m s t).memory (whole m s t).course (whole m s t).events w.q w.g
      l = w.line

      p : Prefix w.g w.q
      p = prefix_of l.holder

      none : (g : List ℕ) → length (R ++ g) ≡ length R → g ≡ []
      none [] e = refl
      none (x ∷ g) e = absurd (omega (arith, length-append R (x ∷ g)))

      first_is : length (of grant (whole m s t).events) ≡ length R → (f : ℕ) (rest : List ℕ)
          → of join (whole m s t).events ≡ of grant (whole m s t).events ++ f ∷ rest → First f w.q w.g
      first_is e f rest j =
          let z : w.g ≡ [] = none w.g (rw l.granted at e) in
          ((rest, drop_front R w.q (f ∷ rest) (sym l.joined ∙ j ∙ rw (l.granted, z, append-nil R) refl)), z)
