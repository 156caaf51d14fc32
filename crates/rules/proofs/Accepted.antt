-- What is known of a call that write and run do not refuse; and that nothing more is needed.
use mathlib.Core.Path.{◌≡◌, refl}
use mathlib.Core.Bool.{Bool, true, false}
use mathlib.Core.List.{List, [], ◌∷◌, ◌++◌}
use Prim.Native.Nat.{ℕ, zero, suc, ◌+◌, ◌≤◌, ◌<◌}
use native.Mathlib.Omega.{arith}
use borrow.Author.Tests.{leb-true, ltb-true, ltb-false, eqb-true, le-leb, lt-ltb, eq-eqb}
use lib.Dec.{eqb, leb, ltb}
use lib.ListN.{length}
use Rattle.rules.specs.Memory.{pick}
use Rattle.rules.specs.Bounds.{most_procs, most_ticket, most_budget, most_rounds, most_hold, most_turns}
use Rattle.rules.specs.Settings.{Settings, entry}
use Rattle.rules.specs.Machines.{numbered, known}
use Rattle.rules.specs.Calls.{in_row, in_range, all_below, refusal}
use Rattle.rules.proofs.Store.{both, true_all, all_true}

-- ---- a row

-- what a row must be: at most the bound below procs, and zero from procs on
pub record Row (procs most : ℕ) (row : List ℕ) : Type 0 where
  pub fits : (i : ℕ) → i < procs → entry row i ≤ most
  pub past : (i : ℕ) → procs ≤ i → entry row i ≡ 0

-- the same of the entries from k on
record From (procs most k : ℕ) (row : List ℕ) : Type 0 where
  fits : (i : ℕ) → k + i < procs → entry row i ≤ most
  past : (i : ℕ) → procs ≤ k + i → entry row i ≡ 0

one_fits : (procs most k x : ℕ) → pick (ltb k procs) (leb x most) (eqb x 0) ≡ true → (k < procs → x ≤ most) × (procs ≤ k → x ≡ 0)
one_fits procs most k x = go (ltb k procs) refl
  where
    go : (b : Bool) → ltb k procs ≡ b → pick b (leb x most) (eqb x 0) ≡ true → (k < procs → x ≤ most) × (procs ≤ k → x ≡ 0)
    go true f e = let l = ltb-true k procs f in (λ h. leb-true x most e, λ h. absurd (omega arith))
    go false f e = let l = ltb-false k procs f in (λ h. absurd (omega arith), λ h. eqb-true x 0 e)

fits_one : (procs most k x : ℕ) → (k < procs → x ≤ most) → (procs ≤ k → x ≡ 0) → pick (ltb k procs) (leb x most) (eqb x 0) ≡ true
fits_one procs most k x f g = go (ltb k procs) refl
  where
    go : (b : Bool) → ltb k procs ≡ b → pick b (leb x most) (eqb x 0) ≡ true
    go true e = le-leb x most (f (ltb-true k procs e))
    go false e = eq-eqb x 0 (g (ltb-false k procs e))

row_from : (procs most k : ℕ) (row : List ℕ) → in_row procs most k row ≡ true → From procs most k row
unfolding in_row
row_from procs most k [] e = record { fits = λ i h. omega arith; past = λ i h. refl }
row_from procs most k (x ∷ row) e =
    let w = both (pick (ltb k procs) (leb x most) (eqb x 0)) (in_row procs most (k + 1) row) e in
    let h = one_fits procs most k x w.0 in
    let r = row_from procs most (k + 1) row w.1 in
    record { fits = fits h r; past = past h r }
  where
    fits : (k < procs → x ≤ most) × (procs ≤ k → x ≡ 0) → From procs most (k + 1) row → (i : ℕ) → k + i < procs → entry (x ∷ row) i ≤ most
    fits h r zero l = h.0 (omega arith)
    fits h r (suc i) l = r.fits i (omega arith)

    past : (k < procs → x ≤ most) × (procs ≤ k → x ≡ 0) → From procs most (k + 1) row → (i : ℕ) → procs ≤ k + i → entry (x ∷ row) i ≡ 0
    past h r zero l = h.1 (omega arith)
    past h r (suc i) l = r.past i (omega arith)

from_row : (procs most k : ℕ) (row : List ℕ) → From procs most k row → in_row procs most k row ≡ true
unfolding in_row
from_row procs most k [] r = refl
from_row procs most k (x ∷ row) r =
    rw (fits_one procs most k x (λ l. r.fits 0 (omega arith)) (λ l. r.past 0 (omega arith)))
    (from_row procs most (k + 1) row (record { fits = λ i l. r.fits (suc i) (omega arith); past = λ i l. r.past (suc i) (omega arith) }))

pub row_holds : (procs most : ℕ) (row : List ℕ) → in_row procs most 0 row ≡ true → Row procs most row
row_holds procs most row e = let r = row_from procs most 0 row e in record { fits = λ i h. r.fits i (omega arith); past = λ i h. r.past i (omega arith) }

pub holds_row : (procs most : ℕ) (row : List ℕ) → Row procs most row → in_row procs most 0 row ≡ true
holds_row procs most row r = from_row procs most 0 row (record { fits = λ i h. r.fits i (omega arith); past = λ i h. r.past i (omega arith) })

-- ---- a schedule

-- every turn is below p
abbrev pub Below : ℕ → List ℕ → Type 0
Below p [] = Unit {0}
Below p (i ∷ t) = (i < p) × Below p t

pub below : (p : ℕ) (t : List ℕ) → all_below p t ≡ true → Below p t
unfolding all_below
below p [] e = tt
below p (i ∷ t) e = let w = both (ltb i p) (all_below p t) e in (ltb-true i p w.0, below p t w.1)

pub all_below_lem : (p : ℕ) (t : List ℕ) → Below p t → all_below p t ≡ true
unfolding all_below
all_below_lem p [] b = refl
all_below_lem p (i ∷ t) b = rw (lt-ltb i p b.0) (all_below_lem p t b.1)

-- a beginning of such a schedule is one
pub below_first : (p : ℕ) (t u : List ℕ) → Below p (t ++ u) → Below p t
below_first p [] u b = tt
below_first p (i ∷ t) u b = (b.0, below_first p t u b.1)

-- ---- a call

pub record Accepted (s : Settings) (t : List ℕ) : Type 0 where
  pub algo : known (numbered s.algo) ≡ true
  pub procs_low : 1 ≤ s.procs
  pub procs_high : s.procs ≤ most_procs
  pub home : s.home < s.procs
  pub ticket : s.ticket ≤ most_ticket
  pub budget : s.budget ≤ most_budget
  pub rounds : Row s.procs most_rounds s.rounds
  pub hold : Row s.procs most_hold s.hold
  pub few : length t ≤ most_turns
  pub turns_below : Below s.procs t

picked : (b : Bool) (x y : ℕ) → (y ≡ 0 → ⊥) → pick b x y ≡ 0 → (b ≡ true) × (x ≡ 0)
picked true x y h e = (refl, e)
picked false x y h e = absurd (h e)

abbrev pub tests : Settings → List Bool
tests s =
    leb 1 s.procs ∷ leb s.procs most_procs ∷ ltb s.home s.procs ∷ leb s.ticket most_ticket ∷ leb s.budget most_budget
    ∷ in_row s.procs most_rounds 0 s.rounds ∷ in_row s.procs most_hold 0 s.hold ∷ []

-- a call that is not refused: all is in order, and there is room
pub accepted : (s : Settings) (t : List ℕ) (roomy : Bool) → refusal s t roomy ≡ 0 → Accepted s t × (roomy ≡ true)
unfolding refusal in_range
accepted s t roomy e =
    let a = picked (known (numbered s.algo)) _ 2 (λ q. omega arith) e in
    let b = picked (in_range s) _ 3 (λ q. omega arith) a.1 in
    let c = picked (leb (length t) most_turns) _ 5 (λ q. omega arith) b.1 in
    let d = picked (all_below s.procs t) _ 4 (λ q. omega arith) c.1 in
    let f = picked roomy _ 6 (λ q. omega arith) d.1 in
    let r = all_true (tests s) b.0 in (
      record {
        algo = a.0;
        procs_low = leb-true _ _ r.0;
        procs_high = leb-true _ _ r.1.0;
        home = ltb-true _ _ r.1.1.0;
        ticket = leb-true _ _ r.1.1.1.0;
        budget = leb-true _ _ r.1.1.1.1.0;
        rounds = row_holds _ _ _ r.1.1.1.1.1.0;
        hold = row_holds _ _ _ r.1.1.1.1.1.1.0;
        few = leb-true _ _ c.0;
        turns_below = below s.procs t d.0;
      },
      f.0,
    )

pub in_range_lem : (s : Settings) (t : List ℕ) → Accepted s t → in_range s ≡ true
unfolding in_range
in_range_lem s t a =
    true_all (tests s) (
      le-leb _ _ a.procs_low,
      (
        le-leb _ _ a.procs_high,
        (
          lt-ltb _ _ a.home,
          (
            le-leb _ _ a.ticket,
            (
              le-leb _ _ a.budget,
              (holds_row _ _ _ a.rounds, (holds_row _ _ _ a.hold, tt)),
            ),
          ),
        ),
      ),
    )

-- a call where all is in order and there is room is not refused
pub accepts : (s : Settings) (t : List ℕ) (roomy : Bool) → Accepted s t → roomy ≡ true → refusal s t roomy ≡ 0
unfolding refusal
accepts s t roomy a e = rw (a.algo, in_range_lem s t a, le-leb _ _ a.few, all_below_lem _ _ a.turns_below, e)

-- room is judged last
pub refusal_room : (s : Settings) (t : List ℕ) (roomy : Bool)
    → refusal s t roomy ≡ pick (eqb (refusal s t true) 0) (pick roomy 0 6) (refusal s t true)
unfolding refusal
refusal_room s t roomy = go (known (numbered s.algo)) (in_range s) (leb (length t) most_turns) (all_below s.procs t)
  where
    number : Bool → Bool → Bool → Bool → Bool → ℕ
    number a b c d e = pick a (pick b (pick c (pick d (pick e 0 6) 4) 5) 3) 2

    go : (a b c d : Bool) → number a b c d roomy ≡ pick (eqb (number a b c d true) 0) (pick roomy 0 6) (number a b c d true)
    go true true true true = refl
    go true true true false = refl
    go true true false d = refl
    go true false c d = refl
    go false b c d = refl
