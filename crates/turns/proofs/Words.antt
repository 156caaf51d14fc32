-- Laws of the bits of a word.
use Rattle.std.proofs.Common.{◌≡◌, refl, ◌∙◌, ◌≢◌, ℕ, zero, suc, ◌+◌, ◌-◌, ◌*◌, ◌/◌, ◌%◌, ◌^◌, ◌<◌, one-mul, pow-suc, arith, bit_xor, pow-add, shl_exact}
use mathlib.Core.Path.{fun_ext}
use native.Mathlib.Decide.{ℕ_discrete, dec_lt}
use native.Mathlib.Nat.{mul-mod_left, div-eq_of_lt, zero-div}
use lib.Bits.{xor_shr, xor_mod, xor_zero_r}
use lib.Pow.{pow-lt, shl-shr}
use Rattle.rules.specs.Memory.{upd, each}
use Rattle.rules.proofs.Store.{upd_same, upd_other}
use Rattle.turns.specs.BitView.{bits}

pub bits< : (word v : ℕ) → bits word v < 2
unfolding bits
bits< word v = omega arith

-- the same of a bit that was read
pub bit< : (b word v : ℕ) → b ≡ bits word v → b < 2
bit< b word v e = rw e (bits< word v)

pub bits_zero : bits 0 ≡ each 0
unfolding bits
bits_zero = fun_ext (λ v. rw (zero-div (2 ^ v)))

-- another bit of a power of two
other_bit : (v u : ℕ) → u ≢ v → 2 ^ v / 2 ^ u % 2 ≡ 0
other_bit v u n = go (dec_lt v u)
  where
    below : (d : ℕ) → v ≡ suc d + u → 2 ^ v / 2 ^ u % 2 ≡ 0
    below d e = rw (e, pow-add 2 (suc d) u, shl-shr (2 ^ suc d) u, pow-suc 2 d) (mul-mod_left (2 ^ d) 2)

    go : Dec (v < u) → 2 ^ v / 2 ^ u % 2 ≡ 0
    go (yes l) = rw (div-eq_of_lt (pow-lt {i = v} {j = u} l))
    go (no m) = below (v - u - 1) (omega arith)

toggle : (b : ℕ) → b < 2 → bit_xor b 1 ≡ 1 - b
toggle zero h = refl
toggle (suc zero) h = refl
toggle (suc (suc b)) h = absurd (omega arith)

bit_xor_lem : (word mask u : ℕ) → bits (bit_xor word mask) u ≡ bit_xor (word / 2 ^ u % 2) (mask / 2 ^ u % 2)
unfolding bits
bit_xor_lem word mask u = rw (xor_shr word mask u) (xor_mod (word / 2 ^ u) (mask / 2 ^ u) 1)

pub toggled : (word v : ℕ) → bits (bit_xor word (2 ^ v)) ≡ upd (bits word) v (1 - bits word v)
unfolding bits
toggled word v = fun_ext (λ u. bit_xor_lem word (2 ^ v) u ∙ go u (ℕ_discrete u v))
  where
    go : (u : ℕ) → Dec (u ≡ v) → bit_xor (word / 2 ^ u % 2) (2 ^ v / 2 ^ u % 2) ≡ upd (bits word) v (1 - bits word v) u
    go u (yes e) =
        let one : 2 ^ v / 2 ^ v ≡ 1 = rw (one-mul (2 ^ v)) at (shl-shr 1 v) in
        rw (e, upd_same (bits word) v (1 - bits word v), one) (toggle (word / 2 ^ v % 2) (omega arith))
    go u (no n) = rw (upd_other (bits word) v (1 - bits word v) u n, other_bit v u n) (xor_zero_r (word / 2 ^ u % 2))

-- the same value again
pub bit_kept : (word v value : ℕ) → bits word v ≡ value → bits word ≡ upd (bits word) v value
bit_kept word v value e = fun_ext (λ u. go u (ℕ_discrete u v))
  where
    go : (u : ℕ) → Dec (u ≡ v) → bits word u ≡ upd (bits word) v value u
    go u (yes d) = rw (d, upd_same (bits word) v value) e
    go u (no n) = rw (upd_other (bits word) v value u n)

-- a power of two as the code makes it
pub power : (width v : ℕ) → v < width → (1 * 2 ^ v) % 2 ^ width ≡ 2 ^ v
power width v h = shl_exact 1 v width (omega arith) (omega arith) ∙ one-mul (2 ^ v)

-- the other value
pub bit_changed : (word v value : ℕ) → v < 16 → value < 2 → (bits word v ≡ value → ⊥) → bits (bit_xor word ((1 * 2 ^ v) % 2 ^ 16)) ≡ upd (bits word) v value
bit_changed word v value h k n =
    let is : 1 - bits word v ≡ value = omega (arith, bits< word v) in
    rw (power 16 v h, ← is) (toggled word v)
