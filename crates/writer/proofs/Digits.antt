-- How many digits a number has.
use Rattle.std.proofs.Common.{◌≡◌, ℕ, ◌+◌, ◌/◌, ◌≤◌, ◌<◌, length, ap, ◌∙◌, arith, length-append}
use Rattle.rules.specs.File.{decimal}
use Rattle.laws.proofs.Decimal.{decimal_one, decimal_long}

one_more : (n : ℕ) → 10 ≤ n → length (decimal n) ≡ length (decimal (n / 10)) + 1
one_more n h = ap length (decimal_long n h) ∙ length-append (decimal (n / 10)) _

pub digits_1 : (n : ℕ) → n < 10 → length (decimal n) ≡ 1
digits_1 n h = ap length (decimal_one n h)

pub digits_2 : (n : ℕ) → 10 ≤ n → n < 100 → length (decimal n) ≡ 2
digits_2 n l h = omega (arith, one_more n l, digits_1 (n / 10) (omega arith))

pub digits_3 : (n : ℕ) → 100 ≤ n → n < 1000 → length (decimal n) ≡ 3
digits_3 n l h = omega (arith, one_more n (omega arith), digits_2 (n / 10) (omega arith) (omega arith))

pub digits_4 : (n : ℕ) → 1000 ≤ n → n < 10000 → length (decimal n) ≡ 4
digits_4 n l h = omega (arith, one_more n (omega arith), digits_3 (n / 10) (omega arith) (omega arith))

pub digits_more : (n : ℕ) → 10000 ≤ n → length (decimal n) ≡ 4 + length (decimal (n / 10000))
digits_more n h =
    let e : n / 10 / 10 / 10 / 10 ≡ n / 10000 = omega arith in
    let p = one_more n (omega arith) in
    let q = one_more (n / 10) (omega arith) in
    let r = one_more (n / 10 / 10) (omega arith) in
    let s = one_more (n / 10 / 10 / 10) (omega arith) in
    omega (arith, p, q, r, s, ap (λ m. length (decimal m)) e)

pub ruleset digits = (digits_1, digits_2, digits_3, digits_4, digits_more)
