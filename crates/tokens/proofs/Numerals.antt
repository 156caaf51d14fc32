-- Numbers: one law for each way out.
use Rattle.std.proofs.Common.{◌≡◌, ℕ, suc, ◌+◌, ◌-◌, ◌*◌, ◌^◌, ◌≤◌, ◌<◌, Bool, true, false, ◌&&◌, ◌||◌, ◌⊎◌, inl, inr, List, [], ◌∷◌, length, get_or, drop, eqb, ltb, ap, sym, ◌∙◌, arith, eq-eqb, ne_eqb, lt-ltb, drop_of_length-le}
use Rattle.std.proofs.Math.Bool.{and-false}
use Rattle.std.proofs.lemmas.List.{nil_from_length}
use Rattle.std.proofs.Math.Nat.{pow-le-pow_right}
use Rattle.rules.specs.Memory.{pick}
use Rattle.rules.specs.Bounds.{most_digits}
use Rattle.rules.specs.Rule.{Got, ok, fault, is_digit, digits, number}
use Rattle.tokens.proofs.Stepping.{drop_next}

-- ---- the rest of a number

one_of : (x a b : ℕ) → (x ≡ a) ⊎ ((x ≡ a → ⊥) × (x ≡ b)) → (eqb x a || eqb x b) ≡ true
one_of x a b (inl e) = rw (eq-eqb _ _ e)
one_of x a b (inr e) = rw (ne_eqb _ _ e.0, eq-eqb _ _ e.1)

no_more : (k : ℕ) (d : Bool) → d ≡ false → (ltb 0 k && d) ≡ false
no_more k d e = rw (e, and-false (ltb 0 k))

module _ (a b room i n : ℕ) (s : List ℕ) (at : ℕ) (g : Got (ℕ × ℕ)) (e : g ≡ digits a b (room - i) n (drop i s) (at + i)) where
  pub digits_short : i ≤ length s → length s ≤ i → (k p : ℕ) → k ≡ 1 → p ≡ at + length s → fault k p ≡ g
  unfolding digits
  digits_short l h k p x y = let z : length s ≡ i = omega arith in rw (e, drop_of_length-le s h, x, y, z)

  module _ (h : i < length s) where
    step : g
        ≡ pick (eqb (get_or s i 0) a || eqb (get_or s i 0) b) (ok (n, get_or s i 0) (drop (i + 1) s) (at + (i + 1)))
        (pick (ltb 0 (room - i) && is_digit (get_or s i 0)) (digits a b (room - (i + 1)) (n * 10 + (get_or s i 0 - 48)) (drop (i + 1) s) (at + (i + 1))) (fault 1 (at + i)))
    unfolding digits
    step =
        let p : at + i + 1 ≡ at + (i + 1) = omega arith in
        let k : room - i - 1 ≡ room - (i + 1) = omega arith in
        rw (e, drop_next s i h, p, k)

    pub digits_end : (get_or s i 0 ≡ a) ⊎ ((get_or s i 0 ≡ a → ⊥) × (get_or s i 0 ≡ b)) → (l : List ℕ) (p : ℕ) → l ≡ drop (i + 1) s → p ≡ at + (i + 1)
        → ok (n, get_or s i 0) l p ≡ g
    digits_end t l p x y = rw (step, one_of _ _ _ t, x, y)

    module _ (na : get_or s i 0 ≡ a → ⊥) (nb : get_or s i 0 ≡ b → ⊥) where
      pub digits_stop : (i ≡ room) ⊎ (is_digit (get_or s i 0) ≡ false) → (k p : ℕ) → k ≡ 1 → p ≡ at + i → fault k p ≡ g
      digits_stop (inl z) k p x y = let w : room - i ≡ 0 = omega arith in rw (step, ne_eqb _ _ na, ne_eqb _ _ nb, w, x, y)
      digits_stop (inr t) k p x y = rw (step, ne_eqb _ _ na, ne_eqb _ _ nb, no_more (room - i) _ t, x, y)

      pub digits_on : i < room → is_digit (get_or s i 0) ≡ true → g ≡ digits a b (room - (i + 1)) (n * 10 + (get_or s i 0 - 48)) (drop (i + 1) s) (at + (i + 1))
      digits_on l t = rw (step, ne_eqb _ _ na, ne_eqb _ _ nb, lt-ltb 0 (room - i) (omega arith), t)

-- ---- how great a number can be while more digits may come

below_step : (k n d : ℕ) → 0 < k → k < most_digits → n < 10 ^ (most_digits - k) → d ≤ 9 → n * 10 + d < 10 ^ (most_digits - (k - 1))
below_step k n d z h m l = let e : most_digits - (k - 1) ≡ suc (most_digits - k) = omega arith in rw e (omega arith)

below_most : (k n : ℕ) → n < 10 ^ (most_digits - k) → n < 10 ^ most_digits
below_most k n m = omega (arith, pow-le-pow_right {n = 10} (omega arith) {i = most_digits - k} {j = most_digits} (omega arith))

pub below_next : (room i n x : ℕ) → i < room → room < most_digits → n < 10 ^ (most_digits - (room - i)) → x ≤ 57 → n * 10 + (x - 48) < 10 ^ (most_digits - (room - (i + 1)))
below_next room i n x h r m l =
    let e : room - i - 1 ≡ room - (i + 1) = omega arith in
    rw e at (below_step (room - i) n (x - 48) (omega arith) (omega arith) m (omega arith))

-- ---- a number

module _ (a b : ℕ) (s : List ℕ) (at : ℕ) where
  pub number_short : length s < 1 → (k p : ℕ) → k ≡ 1 → p ≡ at → fault k p ≡ number a b s at
  unfolding number
  number_short h k p x y = let e : s ≡ [] = nil_from_length s (omega arith) in rw (e, x, y)

  module _ (h : 1 ≤ length s) where
    number_next : number a b s at ≡ number a b (get_or s 0 0 ∷ drop 1 s) at
    number_next = ap (λ l. number a b l at) (drop_next s 0 h)

    pub number_not : is_digit (get_or s 0 0) ≡ false → (k p : ℕ) → k ≡ 1 → p ≡ at → fault k p ≡ number a b s at
    unfolding number
    number_not t k p x y = rw (x, y) (sym (number_next ∙ rw t))

    pub number_digits : is_digit (get_or s 0 0) ≡ true → (room : ℕ) → room ≡ pick (eqb (get_or s 0 0) 48) 0 (most_digits - 1)
        → (l : List ℕ) (p : ℕ) → l ≡ drop 1 s → p ≡ at + 1 → (r : Got (ℕ × ℕ)) → r ≡ digits a b room (get_or s 0 0 - 48) l p → r ≡ number a b s at
    unfolding number
    number_digits t room e l p x y r f = f ∙ rw (x, y) (sym (number_next ∙ rw (t, e)))

-- what `digits` keeps and returns
pub ruleset digits_ways = (digits_short, digits_end, digits_on, below_next)

-- what `number` returns
pub ruleset number_ways = (number_short, number_not)
