-- Every step keeps the line of the ticket lock. The k-th of the line has ticket n + k, n the number of the first, all taken modulo 65536.
use mathlib.Core.Path.{◌≡◌, refl, sym, ap, ◌∙◌}
use mathlib.Core.Logic.{◌≢◌, inl, inr, Ne-symm}
use mathlib.Core.Bool.{Bool, true, false}
use mathlib.Core.List.{List, [], ◌∷◌, ◌++◌}
use Prim.Native.Nat.{ℕ, suc, ◌+◌, ◌%◌, ◌≤◌, ◌<◌}
use native.Mathlib.Decide.{ℕ_discrete}
use native.Mathlib.Omega.{arith}
use borrow.Author.Tests.{eq-eqb, ne_eqb}
use lib.Dec.{eqb}
use lib.ListN.{length}
use Rattle.rules.specs.Memory.{upd}
use Rattle.rules.specs.Bounds.{most_ticket}
use Rattle.rules.specs.Settings.{Settings}
use Rattle.rules.specs.Step.{grant, release, one, said, Step}
use Rattle.rules.specs.Ticket.{State, up, asks, waits, finds, frees, step, machine}
use Rattle.rules.proofs.Store.{upd_same, upd_other, zero_suc}
use Rattle.rules.proofs.Accepted.{Below}
use Rattle.laws.specs.Laws.{of, Without, Within, spins}
use Rattle.laws.proofs.Lists.{Mem, NoDup, Place, outside, first, behind, find, without_init, nodup_snoc, pigeon}
use Rattle.laws.proofs.Locks as locks
use Rattle.laws.proofs.Locks.{joins, gets, After, resting}
use Rattle.laws.proofs.Passages.{ticket_passage}

-- tickets are taken modulo this
abbrev wrap : ℕ
wrap = most_ticket + 1

-- the tickets of the line, from number n, and the next to be given
abbrev Tickets : (ℕ → ℕ) → ℕ → ℕ → List ℕ → Type 0
Tickets mine request n [] = request ≡ n % wrap
Tickets mine request n (a ∷ r) = (mine a ≡ n % wrap) × Tickets mine request (suc n) r

-- a is the first of the line, and g is a alone if a holds the lock, else nobody
data Head (at : ℕ → ℕ) (a : ℕ) (g : List ℕ) : Type 0 where
  h2 : at a ≡ 2 → g ≡ [] → Head at a g
  h3 : at a ≡ 3 → g ≡ a ∷ [] → Head at a g
  h4 : at a ≡ 4 → g ≡ a ∷ [] → Head at a g

-- all of these wait at step 2
abbrev Waiting : (ℕ → ℕ) → List ℕ → Type 0
Waiting at [] = Unit {0}
Waiting at (a ∷ r) = (at a ≡ 2) × Waiting at r

abbrev Line : (ℕ → ℕ) → List ℕ → List ℕ → Type 0
Line at [] g = g ≡ []
Line at (a ∷ r) g = Head at a g × Waiting at r

-- n is the number of the first of the line, or of the next to come; who is outside is at step 1; what the releaser found still stands
record Inv (x : State) (at : ℕ → ℕ) (q g : List ℕ) : Type 0 where
  n : ℕ
  now : x.release ≡ n % wrap
  tickets : Tickets x.mine x.request n q
  nodup : NoDup q
  line : Line at q g
  out : (j : ℕ) → Without j q → at j ≡ 1
  kept : (j : ℕ) → at j ≡ 4 → x.found j ≡ x.release

-- ---- what a step leaves alone

-- those who wait still do when another goes to step k
waiting_keep : (at : ℕ → ℕ) (i k : ℕ) (r : List ℕ) → Without i r → Waiting at r → Waiting (upd at i k) r
waiting_keep at i k [] f w = tt
waiting_keep at i k (b ∷ r) f w = (upd_other at i k b f.0 ∙ w.0, waiting_keep at i k r f.1 w.1)

-- and when another comes to wait behind them
waiting_snoc : (at : ℕ → ℕ) (i : ℕ) (r : List ℕ) → Without i r → Waiting at r → Waiting (upd at i 2) (r ++ i ∷ [])
waiting_snoc at i [] f w = (upd_same at i 2, tt)
waiting_snoc at i (b ∷ r) f w = (upd_other at i 2 b f.0 ∙ w.0, waiting_snoc at i r f.1 w.1)

waits_at : (at : ℕ → ℕ) (i : ℕ) (r : List ℕ) → Waiting at r → Mem i r → at i ≡ 2
waits_at at i (b ∷ r) w (inl e) = ap at (sym e) ∙ w.0
waits_at at i (b ∷ r) w (inr m) = waits_at at i r w.1 m
waits_at at i [] w m = absurd m

head_keep : (at : ℕ → ℕ) (i k a : ℕ) (g : List ℕ) → a ≢ i → Head at a g → Head (upd at i k) a g
head_keep at i k a g n (h2 e z) = h2 (upd_other at i k a n ∙ e) z
head_keep at i k a g n (h3 e z) = h3 (upd_other at i k a n ∙ e) z
head_keep at i k a g n (h4 e z) = h4 (upd_other at i k a n ∙ e) z

-- who is at step 4 after i has gone to another step was there before
at_4 : (at : ℕ → ℕ) (i k j : ℕ) → k ≢ 4 → upd at i k j ≡ 4 → at j ≡ 4
at_4 at i k j n e = go (ℕ_discrete j i)
  where
    go : Dec (j ≡ i) → at j ≡ 4
    go (yes z) = absurd (n (sym (upd_same at i k) ∙ rw z at e))
    go (no z) = sym (upd_other at i k j z) ∙ e

-- ---- tickets

up_is : (r n : ℕ) → r ≡ n % wrap → up r ≡ suc n % wrap
up_is r n e = omega arith

-- i takes the next ticket
tickets_snoc : (mine : ℕ → ℕ) (request n i : ℕ) (q : List ℕ) → Without i q → Tickets mine request n q
    → Tickets (upd mine i request) (up request) n (q ++ i ∷ [])
tickets_snoc mine request n i [] f t = (upd_same mine i request ∙ t, up_is request n t)
tickets_snoc mine request n i (a ∷ q) f t = (upd_other mine i request a f.0 ∙ t.0, tickets_snoc mine request (suc n) i q f.1 t.1)

-- one in line has the ticket of its place
ticket_of : (mine : ℕ → ℕ) (request n i : ℕ) (r : List ℕ) → Tickets mine request n r → Mem i r → (k : ℕ) × (k < length r) × (mine i ≡ (n + k) % wrap)
ticket_of mine request n i (b ∷ r) t (inl e) = (0, omega arith, ap mine (sym e) ∙ t.0 ∙ omega arith)
ticket_of mine request n i (b ∷ r) t (inr m) =
    let w = ticket_of mine request (suc n) i r t.1 m in
    (suc w.0, omega (arith, w.1), omega (arith, w.2))
ticket_of mine request n i [] t m = absurd m

-- ---- a turn

module _ (s : Settings) (small : s.procs ≤ most_ticket + 1) (x : State) (at : ℕ → ℕ) where
  abbrev Next : Step State → ℕ → List ℕ → List ℕ → Type 0
  Next t i q g = After Inv t at i q g

  line_snoc : (i : ℕ) (q g : List ℕ) → Without i q → Line at q g → Line (upd at i 2) (q ++ i ∷ []) g
  line_snoc i [] g f l = (h2 (upd_same at i 2) l, tt)
  line_snoc i (a ∷ r) g f l = (head_keep at i 2 a g f.0 l.0, waiting_snoc at i r f.1 l.1)

  -- 1: i joins
  turn1 : (i : ℕ) (q g : List ℕ) → Inv x at q g → Without i q → Next (asks s x i) i q g
  turn1 i q g v f = record {
    q' = q ++ i ∷ [];
    g' = g;
    moves = joins;
    inv = record {
      n = v.n;
      now = v.now;
      tickets = tickets_snoc x.mine x.request v.n i q f v.tickets;
      nodup = nodup_snoc i q f v.nodup;
      line = line_snoc i q g f v.line;
      out = λ j h. let w = without_init j i q h in upd_other at i 2 j w.1 ∙ v.out j w.0;
      kept = λ j e. v.kept j (at_4 at i 2 j (omega arith) e);
    };
  }

  -- one who waits behind the first: its ticket is not the one that is served
  wait_turn : (a i : ℕ) (r g : List ℕ) → Below s.procs (a ∷ r) → Inv x at (a ∷ r) g → Mem i r → Next (step s x (at i) i) i (a ∷ r) g
  unfolding step
  wait_turn a i r g b v m =
      let w = ticket_of x.mine x.request (suc v.n) i r v.tickets.1 m in
      let l = pigeon s.procs (a ∷ r) v.nodup b in
      let z = v.now in
      let k = w.1 in
      let e = w.2 in
      let no : x.release ≢ x.mine i = omega arith in
      rw (waits_at at i r v.line.1 m, ne_eqb _ _ no) (resting refl v)

  -- 2: the first is let in
  turn2 : (a : ℕ) (r g : List ℕ) → Inv x at (a ∷ r) g → g ≡ [] → Next (waits true s x) a (a ∷ r) g
  turn2 a r g v z = record {
    q' = a ∷ r;
    g' = a ∷ [];
    moves = rw z gets;
    inv = record {
      n = v.n;
      now = v.now;
      tickets = v.tickets;
      nodup = v.nodup;
      line = (h3 (upd_same at a 3) refl, waiting_keep at a 3 r v.nodup.0 v.line.1);
      out = λ j f. upd_other at a 3 j (Ne-symm f.0) ∙ v.out j f;
      kept = λ j e. v.kept j (at_4 at a 3 j (omega arith) e);
    };
  }

  -- 3: the holder reads
  turn3 : (a : ℕ) (r g : List ℕ) → Inv x at (a ∷ r) g → g ≡ a ∷ [] → Next (finds s x a) a (a ∷ r) g
  turn3 a r g v z = resting refl (record {
    n = v.n;
    now = v.now;
    tickets = v.tickets;
    nodup = v.nodup;
    line = (h4 (upd_same at a 4) z, waiting_keep at a 4 r v.nodup.0 v.line.1);
    out = λ j f. upd_other at a 4 j (Ne-symm f.0) ∙ v.out j f;
    kept = λ j e. found j e (ℕ_discrete j a);
  })
    where
      found : (j : ℕ) → upd at a 4 j ≡ 4 → Dec (j ≡ a) → upd x.found a x.release j ≡ x.release
      found j e (yes z) = rw z (upd_same x.found a x.release)
      found j e (no z) = upd_other x.found a x.release j z ∙ v.kept j (sym (upd_other at a 4 j z) ∙ e)

  -- 4: the holder writes, and the next is the first. Nobody else has read to write
  turn4 : (a : ℕ) (r g : List ℕ) → Inv x at (a ∷ r) g → at a ≡ 4 → g ≡ a ∷ [] → Next (frees s x a) a (a ∷ r) g
  turn4 a r g v h z = record {
    q' = r;
    g' = [];
    moves = rw z locks.frees;
    inv = record {
      n = suc v.n;
      now = up_is (x.found a) v.n (v.kept a h ∙ v.now);
      tickets = v.tickets.1;
      nodup = v.nodup.1;
      line = next_first r (waiting_keep at a 1 r v.nodup.0 v.line.1);
      out = λ j f. gone j f (ℕ_discrete j a);
      kept = λ j e. absurd (alone j e (ℕ_discrete j a) (find j (a ∷ r)));
    };
  }
    where
      next_first : (r : List ℕ) → Waiting (upd at a 1) r → Line (upd at a 1) r []
      next_first [] w = refl
      next_first (b ∷ r) w = (h2 w.0 refl, w.1)

      gone : (j : ℕ) → Without j r → Dec (j ≡ a) → upd at a 1 j ≡ 1
      gone j f (yes e) = rw e (upd_same at a 1)
      gone j f (no n) = upd_other at a 1 j n ∙ v.out j (Ne-symm n, f)

      alone : (j : ℕ) → upd at a 1 j ≡ 4 → Dec (j ≡ a) → Place j (a ∷ r) → ⊥
      alone j e (yes z) p = let y : upd at a 1 a ≡ 4 = rw z at e in omega (arith, y, upd_same at a 1)
      alone j e (no z) (outside f) = omega (arith, e, upd_other at a 1 j z, v.out j f)
      alone j e (no z) first = z refl
      alone j e (no z) (behind m) = omega (arith, e, upd_other at a 1 j z, waits_at at j r v.line.1 m)

  head_turn : (a : ℕ) (r g : List ℕ) → Inv x at (a ∷ r) g → Next (step s x (at a) a) a (a ∷ r) g
  unfolding step
  head_turn a r g v = go v.line.0
    where
      go : Head at a g → Next (step s x (at a) a) a (a ∷ r) g
      go (h2 e z) = rw (e, eq-eqb _ _ (v.now ∙ sym v.tickets.0)) (turn2 a r g v z)
      go (h3 e z) = rw e (turn3 a r g v z)
      go (h4 e z) = rw e (turn4 a r g v e z)

  one_turn : (i : ℕ) (q g : List ℕ) → Below s.procs q → Inv x at q g → Next (step s x (at i) i) i q g
  unfolding step
  one_turn i q g b v = go q b v (find i q)
    where
      go : (q : List ℕ) → Below s.procs q → Inv x at q g → Place i q → Next (step s x (at i) i) i q g
      go q b v (outside f) = rw (v.out i f) (turn1 i q g v f)
      go q b v (first {r = r}) = head_turn i r g v
      go q b v (behind {a = a} {r = r} m) = wait_turn a i r g b v m

  -- the first of the line, where nobody holds
  first_waits : (f : ℕ) (r : List ℕ) → Inv x at (f ∷ r) [] → (at f ≢ 1) × (at f ≢ 3) × ((step s x (at f) f).says ≡ one grant)
  unfolding step
  first_waits f r v = go v.line.0
    where
      go : Head at f [] → (at f ≢ 1) × (at f ≢ 3) × ((step s x (at f) f).says ≡ one grant)
      go (h2 e z) = (omega arith, omega arith, rw (e, eq-eqb _ _ (v.now ∙ sym v.tickets.0)) refl)
      go (h3 e z) = absurd (zero_suc (ap length z))
      go (h4 e z) = absurd (zero_suc (ap length z))

  -- ---- who goes on

  out_goes : (i : ℕ) (q g : List ℕ) → Inv x at q g → Without i q → spins (step s x (at i) i).then ≡ false
  unfolding step
  out_goes i q g v f = rw (v.out i f) refl

  line_goes : (a : ℕ) (r g : List ℕ) → Inv x at (a ∷ r) g → locks.Goes machine s x at (a ∷ r)
  unfolding step
  line_goes a r g v = go v.line.0
    where
      go : Head at a g → locks.Goes machine s x at (a ∷ r)
      go (h2 e z) = locks.first_goes (omega arith) (rw (e, eq-eqb _ _ (v.now ∙ sym v.tickets.0)) refl)
      go (h3 e z) = locks.first_goes (omega arith) (rw e refl)
      go (h4 e z) = locks.first_goes (omega arith) (rw e refl)

pub ticket : (s : Settings) → s.procs ≤ most_ticket + 1 → s.ticket ≤ most_ticket → locks.Lock machine s
ticket s small t = record {
  Inv = Inv;
  in_it = 3;
  start = record { n = s.ticket; now = omega arith; tickets = omega arith; nodup = tt; line = refl; out = λ j f. refl; kept = λ j e. absurd (omega arith) };
  step = one_turn s small;
  waits = λ x at f r v. first_waits s small x at f r v;
  enters_it = locks.enters_by (ticket_passage s);
  out_goes = out_goes s small;
  line_goes = line_goes s small;
}

-- the request counter is as far past the release counter as the line is long
requested : (mine : ℕ → ℕ) (request n : ℕ) (q : List ℕ) → Tickets mine request n q → request ≡ (n + length q) % wrap
requested mine request n [] t = t ∙ omega arith
requested mine request n (a ∷ q) t = requested mine request (suc n) q t.1 ∙ omega arith

-- the release counter goes up where step t of processor i says a release, and nowhere else
abbrev pub Raised : State → ℕ → Step State → Type 0
Raised x i t = t.memory.release ≡ (x.release + length (of release (said i t.says))) % wrap

-- what the line says of the counters
module _ (s : Settings) (small : s.procs ≤ most_ticket + 1) (t : s.ticket ≤ most_ticket) (x : State) (at : ℕ → ℕ) (q g : List ℕ)
    (v : (ticket s small t).Inv x at q g) where
  pub apart : x.request ≡ (x.release + length q) % wrap
  unfolding ticket
  apart =
      let e = requested x.mine x.request v.n q v.tickets in
      let r = v.now in
      omega arith

  -- the line is no longer than there are processors
  pub within : Below s.procs q → Within s.procs x
  unfolding ticket
  within b = record { distance = length q; at_most = pigeon s.procs q v.nodup b; apart = apart }

  -- who is at step 4 has found what stands there
  pub undisturbed : (i : ℕ) → at i ≡ 4 → x.found i ≡ x.release
  unfolding ticket
  undisturbed = v.kept

  pub raised : (i : ℕ) → Raised x i (step s x (at i) i)
  unfolding ticket step
  raised i = go q v (find i q)
    where
      waiting : (b : Bool) → Raised x i (waits b s x)
      waiting true = let e = v.now in omega arith
      waiting false = let e = v.now in omega arith

      go : (q : List ℕ) (v : Inv x at q g) → Place i q → Raised x i (step s x (at i) i)
      go q v (outside f) = let e = v.now in rw (v.out i f) (omega arith)
      go q v first = head v.line.0
        where
          head : Head at i g → Raised x i (step s x (at i) i)
          head (h2 e z) = rw e (waiting (eqb x.release (x.mine i)))
          head (h3 e z) = let y = v.now in rw e (omega arith)
          head (h4 e z) = let y = v.kept i e in rw e (omega arith)
      go q v (behind {r = r} m) = rw (waits_at at i r v.line.1 m) (waiting (eqb x.release (x.mine i)))
