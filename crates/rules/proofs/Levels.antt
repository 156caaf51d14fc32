-- The smallest number of doublings of 1 that reaches p, by powers of two.
use mathlib.Core.Path.{◌≡◌, refl}
use mathlib.Core.Bool.{Bool, true, false}
use Prim.Native.Nat.{ℕ, zero, suc, ◌+◌, ◌*◌, ◌^◌, ◌≤◌, ◌<◌}
use native.Mathlib.Decide.{dec_lt}
use native.Mathlib.Nat.{pow-suc, one-mul, mul-one, mul_assoc, add-mul}
use native.Mathlib.Omega.{arith}
use borrow.Author.Tests.{leb-true, leb-false}
use lib.Dec.{leb, lit<}
use lib.Pow.{pow_mono}
use Rattle.rules.specs.Dissem.{doubled, doublings}

double : (x y : ℕ) → (x + x) * y ≡ x * (y * 2)
double x y = omega (arith, add-mul x x y, mul_assoc x y 2)

-- before the last doubling p is not reached
before : (d x p k : ℕ) → k < doubled d x p → x * 2 ^ k < p
unfolding doubled
before zero x p k l = absurd (omega arith)
before (suc d) x p k l = go (leb p x) refl k l (before d (x + x) p)
  where
    go : (b : Bool) → leb p x ≡ b → (k : ℕ) → k < elim b [ true ↦ 0 | false ↦ suc (doubled d (x + x) p) ]
        → ((k : ℕ) → k < doubled d (x + x) p → (x + x) * 2 ^ k < p) → x * 2 ^ k < p
    go true e k l h = absurd (omega arith)
    go false e zero l h = let a = leb-false p x e in rw (mul-one x) a
    go false e (suc k) l h = let a = h k (omega arith) in rw (pow-suc 2 k) (rw (double x (2 ^ k)) at a)

-- after it, p is reached
reached : (d x p : ℕ) → p ≤ x * 2 ^ d → p ≤ x * 2 ^ doubled d x p
unfolding doubled
reached zero x p h = h
reached (suc d) x p h = go (leb p x) refl (reached d (x + x) p (rw (double x (2 ^ d)) (rw (pow-suc 2 d) at h)))
  where
    go : (b : Bool) → leb p x ≡ b → p ≤ (x + x) * 2 ^ doubled d (x + x) p → p ≤ x * 2 ^ elim b [ true ↦ 0 | false ↦ suc (doubled d (x + x) p) ]
    go true e r = let a = leb-true p x e in rw (mul-one x) a
    go false e r = rw (pow-suc 2 (doubled d (x + x) p)) (rw (double x (2 ^ doubled d (x + x) p)) at r)

below_power : (k : ℕ) → k < 2 ^ k
below_power zero = lit< tt
below_power (suc k) = omega (arith, below_power k, pow-suc 2 k)

pub round_below : (p k : ℕ) → k < doublings p → 2 ^ k < p
unfolding doublings
round_below p k l = rw (one-mul (2 ^ k)) at (before p 1 p k l)

pub last_reaches : (p : ℕ) → p ≤ 2 ^ doublings p
unfolding doublings
last_reaches p = rw (one-mul (2 ^ doubled p 1 p)) at (reached p 1 p (rw (one-mul (2 ^ p)) (omega (arith, below_power p))))

-- every power that reaches p has no fewer doublings
pub doublings_least : (p r : ℕ) → p ≤ 2 ^ r → doublings p ≤ r
doublings_least p r h = go (dec_lt r (doublings p))
  where
    go : Dec (r < doublings p) → doublings p ≤ r
    go (yes l) = absurd (omega (arith, round_below p r l))
    go (no n) = omega arith

-- a power that reaches p and is below 2 p
pub doublings_is : (p r : ℕ) → p ≤ 2 ^ r → 2 ^ r < 2 * p → r ≡ doublings p
doublings_is p r a b = omega (arith, doublings_least p r a, not_more (dec_lt (doublings p) r))
  where
    not_more : Dec (doublings p < r) → r ≤ doublings p
    not_more (yes l) = absurd (omega (arith, b, last_reaches p, pow-suc 2 (doublings p), pow_mono {i = suc (doublings p)} {j = r} l))
    not_more (no n) = omega arith

-- 64 processors have six rounds
pub doublings≤ : (p : ℕ) → p ≤ 64 → doublings p ≤ 6
doublings≤ p h = doublings_least p 6 h

pub some_rounds : (p : ℕ) → 1 < p → 0 < doublings p
some_rounds p h = go (doublings p) (last_reaches p)
  where
    go : (r : ℕ) → p ≤ 2 ^ r → 0 < r
    go zero a = absurd (omega arith)
    go (suc r) a = omega arith
