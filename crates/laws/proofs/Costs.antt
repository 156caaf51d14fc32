-- What is counted of one processor goes by its own steps alone; a bound on its remote references in a passage, from a bound before each step.
use mathlib.Core.Path.{◌≡◌, refl, sym}
use mathlib.Core.Logic.{◌≢◌}
use mathlib.Core.List.{List}
use Prim.Native.Nat.{ℕ, ◌+◌, ◌≤◌, max}
use native.Mathlib.Decide.{ℕ_discrete}
use native.Mathlib.Omega.{arith}
use borrow.Author.Tests.{ne_eqb}
use lib.Dec.{eqb}
use Rattle.rules.specs.Settings.{Settings}
use Rattle.rules.specs.Step.{remote, Next, stay, again, to, over, Step, Machine}
use Rattle.rules.specs.Course.{Course, outset, makes, memory, course}
use Rattle.rules.specs.Tally.{Tally, blank, begun, tally}
use Rattle.rules.specs.Play.{Run, taking, after, whole}
use Rattle.rules.proofs.Store.{upd_same, upd_other, either}
use Rattle.rules.proofs.Steps.{place, goes_same, goes_other, passed, ends_same, ends_other}
use Rattle.rules.proofs.Plays.{by_after, by_turn, by_whole}

-- ---- one processor

-- its next step, its passages done, its references in the passage begun last, in all, and the most in one
pub record Account : Type 0 where
  pub at : ℕ
  pub done : ℕ
  pub here : ℕ
  pub far : ℕ
  pub most : ℕ

abbrev pub account : Course → Tally → ℕ → Account
account c t i = record { at = c.at i; done = c.done i; here = t.here i; far = t.far i; most = t.most i }

-- a step made at k leads to step 1 only where it ends the passage; and what holds then
abbrev pub Inside : Type 0 → Next → ℕ → Type 0
Inside last stay k = k ≢ 1
Inside last (again j) k = j ≢ 1
Inside last (to j) k = j ≢ 1
Inside last over k = last

-- the references of the passage under way
pub under_way : (k h : ℕ) → k ≢ 1 → begun k h ≡ h
under_way k h n = rw (ne_eqb k 1 n) refl

pub begun≤ : (k h : ℕ) → begun k h ≤ h
begun≤ k h = either (λ n. n ≤ h) (eqb k 1) 0 h (omega arith) (omega arith)

-- after a step of its own, of r references, that goes on so
abbrev pub stepped : Next → (r : ℕ) → Account → Account
stepped n r a =
    let h : ℕ = begun a.at a.here + r in
    record { at = place n a.at; done = passed n a.done; here = h; far = a.far + r; most = max a.most h }

abbrev pub after_step : {S : Type 0} → ℕ → Step S → Account → Account
after_step i w = stepped w.then (remote i w.access)

module _ {S : Type 0} (s : Settings) (c : Course) (t : Tally) (i : ℕ) (w : Step S) where
  pub own_step : account (course s i (makes w) c) (tally i (c.at i) (makes w) t) i ≡ after_step i w (account c t i)
  own_step =
      rw (goes_same w.then i c.at, ends_same w.then i c.done)
      (rw (upd_same t.here i _, upd_same t.far i _, upd_same t.most i _) refl)

  pub other_step : (j : ℕ) → j ≢ i → account (course s i (makes w) c) (tally i (c.at i) (makes w) t) j ≡ account c t j
  other_step j n =
      rw (goes_other w.then i c.at j n, ends_other w.then i c.done j n)
      (rw (upd_other t.here i _ j n, upd_other t.far i _ j n, upd_other t.most i _ j n) refl)

module _ (m : Machine) (s : Settings) where
  abbrev pub Of : (m.State → Account → Type 0) → ℕ → Run m.State → Type 0
  Of P j r = P r.memory (account r.course r.tally j)

  -- a turn of i makes no step; a step of j's own; or one of another's, which leaves the account of j
  pub by_taking : (P : m.State → Account → Type 0) (r : Run m.State) (i j : ℕ) → Of P j r
      → (let w : Step m.State = m.step s r.memory (r.course.at j) j in
      P w.memory (after_step j w (account r.course r.tally j)))
      → (j ≢ i → P (m.step s r.memory (r.course.at i) i).memory (account r.course r.tally j))
      → Of P j (taking m s r i)
  unfolding taking
  by_taking P r i j a b o =
      by_turn m s r.memory r.course i
      (λ t. P (memory t r.memory) (account (course s i t r.course) (tally i (r.course.at i) t r.tally) j))
      (λ p. a) (λ e d. a) (λ z. go (ℕ_discrete j i))
    where
      w : Step m.State
      w = m.step s r.memory (r.course.at i) i

      go : Dec (j ≡ i) → P w.memory (account (course s i (makes w) r.course) (tally i (r.course.at i) (makes w) r.tally) j)
      go (yes e) = rw (sym e, own_step s r.course r.tally j (m.step s r.memory (r.course.at j) j)) b
      go (no n) = rw (other_step s r.course r.tally i w j n) (o n)

  -- the same where the turn may be one that is not taken
  pub by_account : (P : m.State → Account → Type 0) (r : Run m.State) (i j : ℕ) → Of P j r
      → (let w : Step m.State = m.step s r.memory (r.course.at j) j in
      P w.memory (after_step j w (account r.course r.tally j)))
      → (j ≢ i → P (m.step s r.memory (r.course.at i) i).memory (account r.course r.tally j))
      → Of P j (after m s r i)
  by_account P r i j a b o = by_after m s r i (Of P j) a a (λ l. by_taking P r i j a b o)

  -- what holds of every account at first, and is kept by every step, holds of it after every turn
  pub by_accounts : (P : m.State → ℕ → Account → Type 0) → ((i : ℕ) → P (m.start s) i (account outset blank i))
      → ((x : m.State) (i : ℕ) (a : Account) → P x i a
      → (let w : Step m.State = m.step s x a.at i in P w.memory i (after_step i w a)))
      → ((x : m.State) (k i j : ℕ) (a : Account) → j ≢ i → P x j a → P (m.step s x k i).memory j a)
      → (t : List ℕ) (i : ℕ) → Of (λ x. P x i) i (whole m s t)
  by_accounts P h f g =
      by_whole m s (λ r. (j : ℕ) → Of (λ x. P x j) j r)
      (λ r i c j. by_account (λ x. P x j) r i j (c j) (f r.memory j _ (c j)) (λ n. g r.memory (r.course.at i) i j _ n (c j))) h

-- ---- a bound

-- Cap x i k h: with this memory processor i, when at step k, may have made h references in the passage begun last; never more than top i
pub record Cost (m : Machine) (s : Settings) : Type 1 where
  pub Cap : m.State → (i k h : ℕ) → Type 0
  pub top : ℕ → ℕ
  pub start : (i : ℕ) → Cap (m.start s) i 1 0
  pub step : (x : m.State) (i k h : ℕ) → Cap x i k h
      → (let w : Step m.State = m.step s x k i in
      let h' : ℕ = begun k h + remote i w.access in
      Cap w.memory i (place w.then k) h' × (h' ≤ top i))
  -- the steps of the others leave it
  pub others : (x : m.State) (l j i k h : ℕ) → i ≢ j → Cap x i k h → Cap (m.step s x l j).memory i k h

module _ (m : Machine) (s : Settings) (k : Cost m s) where
  abbrev pub Capped : m.State → ℕ → Account → Type 0
  Capped x i a = k.Cap x i a.at a.here × (a.most ≤ k.top i)

  pub capped_start : (i : ℕ) → Capped (m.start s) i (account outset blank i)
  capped_start i = (k.start i, omega arith)

  pub capped_step : (x : m.State) (i : ℕ) (a : Account) → Capped x i a
      → (let w : Step m.State = m.step s x a.at i in Capped w.memory i (after_step i w a))
  capped_step x i a c = let w = k.step x i a.at a.here c.0 in (w.0, omega (arith, w.1, c.1))

  pub capped_others : (x : m.State) (l j i : ℕ) (a : Account) → i ≢ j → Capped x i a → Capped (m.step s x l j).memory i a
  capped_others x l j i a n c = (k.others x l j i a.at a.here n c.0, c.1)

  -- no passage of any run makes more
  pub at_most : (t : List ℕ) (i : ℕ) → (whole m s t).tally.most i ≤ k.top i
  at_most t i = (by_accounts m s Capped capped_start capped_step capped_others t i).1
