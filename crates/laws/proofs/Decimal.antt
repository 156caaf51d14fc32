-- Decimal digits: decimal n has room enough for every n, so its digits are those of n / 10 and then that of n % 10.
use Prim.Native.Nat.{ℕ, zero, suc, ◌+◌, ◌*◌, ◌/◌, ◌%◌, ◌^◌, ◌≤◌, ◌<◌}
use mathlib.Core.Path.{◌≡◌, refl, ap, ◌∙◌}
use mathlib.Core.List.{List, [], ◌∷◌, ◌++◌}
use mathlib.Core.Bool.{Bool, true, false}
use lib.ListN.{length, length-append}
use lib.Dec.{ltb}
use borrow.Author.Tests.{lt-ltb, le-ltb, ltb-true, ltb-false}
use native.Mathlib.Omega.{arith}
use Rattle.rules.specs.Memory.{pick}
use Rattle.rules.specs.File.{decimal_in, decimal}
use Rattle.rules.proofs.Store.{either}

below_power : (n : ℕ) → n < 10 ^ suc n
below_power zero = omega arith
below_power (suc n) = let h = below_power n in omega arith

-- any room that is enough gives the same digits
room_same : (j k n : ℕ) → n < 10 ^ suc j → n < 10 ^ suc k → decimal_in j n ≡ decimal_in k n
unfolding decimal_in
room_same zero zero n g h = refl
room_same zero (suc k) n g h = rw (lt-ltb n 10 (omega arith))
room_same (suc j) zero n g h = rw (lt-ltb n 10 (omega arith))
room_same (suc j) (suc k) n g h = rw (room_same j k (n / 10) (omega arith) (omega arith))

pub decimal_in_lem : (k n : ℕ) → n < 10 ^ suc k → decimal n ≡ decimal_in k n
unfolding decimal
decimal_in_lem k n h = room_same n k n (below_power n) h

-- ---- digit by digit

pub decimal_step : (n : ℕ) → decimal n ≡ pick (ltb n 10) ((48 + n) ∷ []) (decimal (n / 10) ++ (48 + n % 10) ∷ [])
unfolding decimal_in
decimal_step n =
    let p = below_power n in
    decimal_in_lem (suc n) n (omega arith) ∙ rw (decimal_in_lem n (n / 10) (omega arith))

pub decimal_one : (n : ℕ) → n < 10 → decimal n ≡ (48 + n) ∷ []
decimal_one n h = decimal_step n ∙ rw (lt-ltb n 10 h)

pub decimal_long : (n : ℕ) → 10 ≤ n → decimal n ≡ decimal (n / 10) ++ (48 + n % 10) ∷ []
decimal_long n h = decimal_step n ∙ rw (le-ltb n 10 h)

-- one digit more
pub decimal_more : (n d : ℕ) → 0 < n → d < 10 → decimal (n * 10 + d) ≡ decimal n ++ (48 + d) ∷ []
decimal_more n d z h =
    let e : (n * 10 + d) / 10 ≡ n = omega arith in
    let f : (n * 10 + d) % 10 ≡ d = omega arith in
    decimal_long (n * 10 + d) (omega arith) ∙ rw (e, f)

-- a number's first digit
pub record Starts (n : ℕ) : Type 0 where
  pub digit : ℕ
  pub small : digit < 10
  pub more : List ℕ
  pub spelled : decimal n ≡ (48 + digit) ∷ more

first_in : (k n : ℕ) → n < 10 ^ suc k → Starts n
first_in zero n h = record { digit = n; small = omega arith; more = []; spelled = decimal_one n (omega arith) }
first_in (suc k) n h = by_cases (ltb n 10) refl (first_in k (n / 10) (omega arith))
  where
    by_cases : (t : Bool) → ltb n 10 ≡ t → Starts (n / 10) → Starts n
    by_cases true e f = record { digit = n; small = ltb-true n 10 e; more = []; spelled = decimal_one n (ltb-true n 10 e) }
    by_cases false e f = record {
      digit = f.digit;
      small = f.small;
      more = f.more ++ (48 + n % 10) ∷ [];
      spelled = decimal_long n (ltb-false n 10 e) ∙ ap (λ (l : List ℕ). l ++ (48 + n % 10) ∷ []) f.spelled;
    }

pub first_digit : (n : ℕ) → Starts n
first_digit n = first_in n n (below_power n)

-- ---- how many digits

in_length : (k n : ℕ) → length (decimal_in k n) ≤ suc k
unfolding decimal_in
in_length zero n = omega arith
in_length (suc k) n =
    let h = in_length k (n / 10) in
    either (λ (l : List ℕ). length l ≤ suc (suc k)) (ltb n 10) _ _ (omega arith) (simp length-append (omega arith))

-- a number below 10 ^ suc d has at most suc d
pub decimal_length : (d n : ℕ) → n < 10 ^ suc d → length (decimal n) ≤ suc d
decimal_length d n h = rw (decimal_in_lem d n h) (in_length d n)

in_wider : (k n m : ℕ) → n ≤ m → length (decimal_in k n) ≤ length (decimal_in k m)
unfolding decimal_in
in_wider zero n m h = omega arith
in_wider (suc k) n m h = go (ltb n 10) refl (ltb m 10) refl (in_wider k (n / 10) (m / 10) (omega arith))
  where
    go : (a : Bool) → ltb n 10 ≡ a → (b : Bool) → ltb m 10 ≡ b → length (decimal_in k (n / 10)) ≤ length (decimal_in k (m / 10))
        → length (pick a ((48 + n) ∷ []) (decimal_in k (n / 10) ++ (48 + n % 10) ∷ []))
        ≤ length (pick b ((48 + m) ∷ []) (decimal_in k (m / 10) ++ (48 + m % 10) ∷ []))
    go true e true f l = omega arith
    go true e false f l = simp length-append (omega arith)
    go false e true f l = absurd (omega (arith, ltb-false n 10 e, ltb-true m 10 f))
    go false e false f l = simp length-append (omega arith)

-- a greater number has as many or more
pub decimal_wider : (n m : ℕ) → n ≤ m → length (decimal n) ≤ length (decimal m)
decimal_wider n m h = let p = below_power m in rw (decimal_in_lem m n (omega arith), decimal_in_lem m m p) (in_wider m n m h)
