-- Laws for the dissemination barrier's partner.
use Rattle.std.proofs.Common.{◌≡◌, ℕ, ◌+◌, ◌-◌, ◌*◌, ◌%◌, ◌^◌, ◌≤◌, ◌<◌, arith, sym, ◌∙◌}
use native.Mathlib.Nat.{mod-eq_of_lt, mod-eq-sub-mod}
use Rattle.rules.specs.Dissem.{doublings}
use Rattle.rules.proofs.Levels.{round_below}

-- in each of the R rounds the sum is below twice P
pub below_twice : (w k p : ℕ) → w < p → k < doublings p → w + 2 ^ k < 2 * p
below_twice w k p a b = omega (arith, round_below p k b)

-- and then P is taken off at most once
pub once_off : (sum p : ℕ) → p ≤ sum → sum < 2 * p → sum - p ≡ sum % p
once_off sum p a b = sym (mod-eq-sub-mod a ∙ mod-eq_of_lt (omega arith))
