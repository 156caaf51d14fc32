-- The parts of a file, each with the most bytes that it can have. What holds of each part, and of one part after another, holds of the whole: the order of the
-- lines stands here once, whatever is said of them.
use Prim.Native.Nat.{ℕ, zero, suc, ◌+◌, ◌-◌, ◌*◌, ◌^◌, ◌≤◌, ◌<◌}
use mathlib.Core.Path.{◌≡◌, refl, ap}
use mathlib.Core.List.{List}
use mathlib.Core.Bool.{false}
use mathlib.Core.Logic.{inl, inr}
use lib.ListN.{length, set}
use native.Mathlib.Omega.{arith}
use Rattle.rules.specs.Bounds.{most_procs, most_ticket, most_budget, most_rounds, most_hold, most_turns, most_digits}
use Rattle.rules.specs.Settings.{Settings}
use Rattle.rules.specs.Machines.{bytes}
use Rattle.rules.specs.Rule.{Rule, ◌>>=◌, ◌>>◌, give, feed, comma, is_digit, lit}
use Rattle.rules.specs.File.{decimal_in, decimal, label, name, ranged, field, entries, rows, turns, Front, front, settings, rest}
use Rattle.laws.specs.Laws.{Separator}
use Rattle.laws.proofs.Exact.{Exact, exact_lit}
use Rattle.laws.proofs.Decimal.{decimal_in_lem, decimal_wider}
use Rattle.laws.proofs.Names.{longest_name, exact_name}
use Rattle.laws.proofs.Whole.{Between, exact_ranged, exact_field, exact_entries, exact_rows}
use Rattle.laws.proofs.Turns.{exact_turns}
use Rattle.laws.proofs.RoundTrip.{body, exact_front}

-- ---- how many bytes

-- how many digits the greatest number of a range has
unfoldable pub width : ℕ → ℕ
width n = length (decimal_in most_digits n)

pub width_is : (n : ℕ) → n < 10 ^ most_digits → length (decimal n) ≡ width n
unfolding width
width_is n h = ap length (decimal_in_lem most_digits n (omega arith))

pub width_most : (n most : ℕ) → n ≤ most → most < 10 ^ most_digits → length (decimal n) ≤ width most
width_most n most h l = omega (arith, decimal_wider n most h, width_is most l)

abbrev field_most : List ℕ → ℕ → ℕ
field_most l hi = length l + (width hi + 1)

abbrev pub front_most : ℕ
front_most =
    length (bytes "algo=") + (longest_name + 1
    + (field_most (bytes "procs=") most_procs
    + (field_most (bytes "home=") (most_procs - 1)
    + (field_most (bytes "ticket=") most_ticket
    + field_most (bytes "budget=") most_budget))))

-- what a processor's line has after its label
abbrev pub entries_most : ℕ
entries_most = width most_rounds + 1 + (width most_hold + 1)

-- the lines of k processors from i on, where each has n bytes after its label
unfoldable pub rows_most : ℕ → ℕ → ℕ → ℕ
rows_most n zero i = 0
rows_most n (suc k) i = length (label i) + n + rows_most n k (i + 1)

rows_wider : (n k m i : ℕ) → k ≤ m → rows_most n k i ≤ rows_most n m i
unfolding rows_most
rows_wider n zero m i h = omega arith
rows_wider n (suc k) zero i h = absurd (omega arith)
rows_wider n (suc k) (suc m) i h = omega (arith, rows_wider n k m (i + 1) (omega arith))

abbrev pub turn_most : ℕ
turn_most = width (most_procs - 1) + 1

abbrev pub rest_most : ℕ
rest_most = rows_most entries_most most_procs 0 + (length (bytes "turns=") + most_turns * turn_most)

-- ---- of each part, and so of all

pub plain : (x : ℕ) → Separator x → is_digit x ≡ false
plain x (inl e) = rw e
plain x (inr e) = rw e

-- Q A c r: what is said of a rule r for an A, whose values have at most c bytes
pub record Kept (Q : (A : Type 0) → ℕ → Rule A → Type 0) : Type 1 where
  -- the second rule may go by what the first one's value is known to be
  pub one_then : {A B : Type 0} {r : Rule A} {w : A → List ℕ} {P : A → Type 0} {f : A → Rule B} {c d : ℕ}
      → Exact r w P → Q A c r → ((a : A) → P a → Q B d (f a)) → Q B (c + d) (◌>>=◌ r f)
  pub of_give : {A : Type 0} (v : A) → Q A 0 (give v)
  pub wider : {A : Type 0} {r : Rule A} {c d : ℕ} → c ≤ d → Q A c r → Q A d r
  pub of_lit : (bs : List ℕ) → Q (Unit {0}) (length bs) (lit bs)
  pub of_name : Q ℕ (longest_name + 1) name
  -- hi is at most `most`
  pub of_ranged : (x lo hi most : ℕ) → Separator x → hi ≤ most → most < 10 ^ 5 → Q ℕ (width most + 1) (ranged x lo hi)

module _ {Q : (A : Type 0) → ℕ → Rule A → Type 0} (k : Kept Q) where
  -- these bytes, and then another rule
  lit_then : {B : Type 0} {f : Rule B} {d : ℕ} (bs : List ℕ) → Q B d f → Q B (length bs + d) (◌>>◌ (lit bs) f)
  lit_then bs q = k.one_then (exact_lit bs) (k.of_lit bs) (λ u p. q)

  field_then : {B : Type 0} {f : ℕ → Rule B} {d : ℕ} (l : List ℕ) (lo hi most : ℕ) → hi ≤ most → most < 10 ^ 5 → ((n : ℕ) → Between lo hi n → Q B d (f n))
      → Q B (field_most l most + d) (◌>>=◌ (field l lo hi) f)
  field_then l lo hi most h m qf = k.one_then (exact_field l lo hi (omega arith)) (lit_then l (k.of_ranged feed lo hi most (inr refl) h m)) qf

  pub of_front : Q Front front_most front
  unfolding front
  of_front =
      k.wider (omega arith) (lit_then (bytes "algo=") (k.one_then exact_name k.of_name (λ algo p.
      field_then (bytes "procs=") 1 most_procs most_procs (omega arith) (omega arith) (λ procs p.
      field_then (bytes "home=") 0 (procs - 1) (most_procs - 1) (omega (arith, p.1)) (omega arith) (λ home p.
      field_then (bytes "ticket=") 0 most_ticket most_ticket (omega arith) (omega arith) (λ ticket p.
      field_then (bytes "budget=") 0 most_budget most_budget (omega arith) (omega arith) (λ budget p.
      k.of_give (record { algo = algo; procs = procs; home = home; ticket = ticket; budget = budget }))))))))

  of_entries : (i : ℕ) → Q (ℕ × ℕ) (length (label i) + entries_most) (entries i)
  of_entries i =
      k.wider (omega arith) (lit_then (label i)
      (k.one_then (exact_ranged comma 0 most_rounds refl (omega arith)) (k.of_ranged comma 0 most_rounds most_rounds (inl refl) (omega arith) (omega arith)) (λ r p.
      k.one_then (exact_ranged feed 0 most_hold refl (omega arith)) (k.of_ranged feed 0 most_hold most_hold (inr refl) (omega arith) (omega arith)) (λ h p.
      k.of_give (r, h)))))

  pub of_rows : (m i : ℕ) (rounds hold : List ℕ) → Q (List ℕ × List ℕ) (rows_most entries_most m i) (rows m i rounds hold)
  unfolding rows rows_most
  of_rows zero i rounds hold = k.of_give (rounds, hold)
  of_rows (suc m) i rounds hold = k.one_then (exact_entries i) (of_entries i) (λ v p. of_rows m (i + 1) (set rounds i v.0) (set hold i v.1))

  -- with the turns
  module _ (of_turns : (procs : ℕ) → procs ≤ most_procs → Q (List ℕ) (most_turns * turn_most) (turns procs)) where
    of_rest : (f : Front) → f.procs ≤ most_procs → Q (Settings × List ℕ) rest_most (rest f)
    unfolding rest
    of_rest f h =
        k.wider (omega (arith, rows_wider entries_most f.procs most_procs 0 h))
        (k.one_then (exact_rows f.procs 0 _ _ (omega arith) (omega arith)) (of_rows f.procs 0 _ _) (λ r p.
        lit_then (bytes "turns=")
        (k.one_then (exact_turns f.procs (omega arith)) (of_turns f.procs h) (λ ts p.
        k.of_give (settings f r.0 r.1, ts)))))

    pub of_body : Q (Settings × List ℕ) (front_most + rest_most) body
    of_body = k.one_then exact_front of_front (λ f o. of_rest f o.procs_high)
