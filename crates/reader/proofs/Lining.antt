-- The processors' lines: their labels, and one law for each way out.
use Rattle.std.proofs.Common.{◌≡◌, ℕ, suc, ◌+◌, ◌-◌, ◌/◌, ◌%◌, ◌≤◌, ◌<◌, List, [], ◌∷◌, set, ◌∙◌, arith}
use Rattle.rules.specs.Bounds.{most_procs}
use Rattle.rules.specs.Rule.{Got, ok, lit}
use Rattle.rules.specs.File.{decimal, label, entries, rows}
use Rattle.laws.proofs.Decimal.{decimal_one, decimal_long}

-- ---- the label

decimal_two : (i : ℕ) → 10 ≤ i → i < 100 → decimal i ≡ (48 + i / 10) ∷ (48 + i % 10) ∷ []
decimal_two i h l = decimal_long i h ∙ rw (decimal_one (i / 10) (omega arith))

module _ (i : ℕ) (s : List ℕ) (at : ℕ) (g : Got (Unit {0})) where
  pub label_one : i < 10 → g ≡ lit (112 ∷ (48 + i) ∷ 61 ∷ []) s at → g ≡ lit (label i) s at
  label_one h e = rw (decimal_one i h) e

  pub label_two : 10 ≤ i → i < most_procs → g ≡ lit (112 ∷ (48 + i / 10) ∷ (48 + i % 10) ∷ 61 ∷ []) s at → g ≡ lit (label i) s at
  label_two h l e = rw (decimal_two i h (omega arith)) e

-- ---- all lines

-- one line more sets its entries of the two rows
pub lines_next : (k i : ℕ) (rounds hold s : List ℕ) (p : ℕ) (g : Got (List ℕ × List ℕ)) → g ≡ rows (k - i) i rounds hold s p → i < k
    → (v : ℕ × ℕ) (s' : List ℕ) (p' : ℕ) → ok v s' p' ≡ entries i s p → g ≡ rows (k - (i + 1)) (i + 1) (set rounds i v.0) (set hold i v.1) s' p'
unfolding rows
lines_next k i rounds hold s p g e h v s' p' f = let n : k - i ≡ suc (k - (i + 1)) = omega arith in rw (e, n) (rw (← f))

-- what `line_label` returns
pub ruleset labels = (label_one, label_two)
