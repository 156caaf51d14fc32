-- A number: it is read exactly where its decimal digits are written, with a separator after them.
use Prim.Native.Nat.{ℕ, zero, suc, ◌+◌, ◌-◌, ◌*◌, ◌/◌, ◌%◌, ◌^◌, ◌≤◌, ◌<◌}
use mathlib.Core.Path.{◌≡◌, refl, ap, sym, ◌∙◌, subst}
use mathlib.Core.List.{List, [], ◌∷◌, ◌++◌, append_assoc, append-nil}
use mathlib.Core.Bool.{Bool, true, false, ◌&&◌, ◌||◌}
use mathlib.Core.Logic.{◌⊎◌, inl, inr}
use lib.ListN.{length, length-append}
use lib.Dec.{ltb, leb, eqb}
use borrow.Author.Tests.{eq-eqb, ne_eqb, le-leb, lt-ltb, leb-true, eqb-true, eqb-false, ltb-true, ltb-false}
use native.Mathlib.Nat.{add_assoc, pow-le-pow_right}
use native.Mathlib.Omega.{arith}
use Rattle.rules.specs.Memory.{pick}
use Rattle.rules.specs.Bounds.{most_digits}
use Rattle.rules.specs.Rule.{Got, ok, fault, checked, is_digit, digits, number}
use Rattle.rules.specs.File.{decimal}
use Rattle.rules.proofs.Store.{both, false_true, either, by_test}
use Rattle.laws.proofs.Exact.{not_fault, not_ok, on_pick, pick_refuses, same_number, Exact}
use Rattle.laws.proofs.Decimal.{decimal_one, decimal_more, decimal_length}

abbrev pub IsSep : ℕ → ℕ → ℕ → Type 0
IsSep a b x = (x ≡ a) ⊎ (x ≡ b)

-- a number and its separator
abbrev pub number_text : ℕ × ℕ → List ℕ
number_text v = decimal v.0 ++ v.1 ∷ []

abbrev pub Number : ℕ → ℕ → ℕ × ℕ → Type 0
Number a b v = (v.0 < 10 ^ most_digits) × IsSep a b v.1

is_sep : (x a b : ℕ) → (eqb x a || eqb x b) ≡ true → IsSep a b x
is_sep x a b = go (eqb x a) refl
  where
    go : (t : Bool) → eqb x a ≡ t → (t || eqb x b) ≡ true → IsSep a b x
    go true f g = inl (eqb-true x a f)
    go false f g = inr (eqb-true x b g)

sep_is : (x a b : ℕ) → IsSep a b x → (eqb x a || eqb x b) ≡ true
sep_is x a b (inl e) = rw (eq-eqb x a e)
sep_is x a b (inr e) = go (eqb x a)
  where
    go : (t : Bool) → (t || eqb x b) ≡ true
    go true = refl
    go false = eq-eqb x b e

-- a digit's two bounds
is_digit_lem : (x : ℕ) → is_digit x ≡ true → (48 ≤ x) × (x ≤ 57)
is_digit_lem x t = let w = both (leb 48 x) (leb x 57) t in (leb-true 48 x w.0, leb-true x 57 w.1)

digit_is : (d : ℕ) → d < 10 → is_digit (48 + d) ≡ true
digit_is d h = rw (le-leb 48 (48 + d) (omega arith), le-leb (48 + d) 57 (omega arith))

-- the first digit is 0 where the number is
zero_test : (n : ℕ) → eqb (48 + n) 48 ≡ eqb n 0
zero_test n = go (eqb n 0) refl
  where
    go : (t : Bool) → eqb n 0 ≡ t → eqb (48 + n) 48 ≡ t
    go true e = eq-eqb (48 + n) 48 (omega (arith, eqb-true n 0 e))
    go false e = ne_eqb (48 + n) 48 (λ q. eqb-false n 0 e (omega arith))

-- how many digits may follow a first digit
abbrev pub room_after : ℕ → ℕ
room_after x = pick (eqb x 48) 0 (most_digits - 1)

pub room_fits : (x : ℕ) → 1 + room_after x ≤ most_digits
room_fits x = either (λ (k : ℕ). 1 + k ≤ most_digits) (eqb x 48) 0 (most_digits - 1) (omega arith) (omega arith)

room_some : (x : ℕ) → 48 ≤ x → 0 < room_after x → 0 < x - 48
room_some x h =
    by_test (λ (k : ℕ). 0 < k → 0 < x - 48) (eqb x 48) 0 (most_digits - 1) (λ f k. absurd (omega arith)) (λ f k. omega (arith, eqb-false x 48 f))

-- ---- what was read

module _ (a b : ℕ) (v : ℕ × ℕ) (s' : List ℕ) (at' : ℕ) where
  -- the rest of a number that was read, whose digits before it say n
  record Rest (n : ℕ) (s : List ℕ) : Type 0 where
    more : List ℕ
    cut : s ≡ more ++ v.1 ∷ s'
    whole : decimal v.0 ≡ decimal n ++ more
    most : v.0 < 10 ^ most_digits
    sep : IsSep a b v.1

  ended : (n x : ℕ) (s : List ℕ) (at : ℕ) → n < 10 ^ most_digits → IsSep a b x → ok (n, x) s (at + 1) ≡ ok v s' at' → Rest n (x ∷ s)
  ended n x s at m p e =
      let is : ◌≡◌ {A = ℕ × ℕ} (n, x) v = cc in
      let left : s ≡ s' = cc in
      let vn : v.0 ≡ n = sym (ap (λ (w : ℕ × ℕ). w.0) is) in
      let vx : v.1 ≡ x = sym (ap (λ (w : ℕ × ℕ). w.1) is) in
      record { more = []; cut = rw (vx, left); whole = rw vn (sym (append-nil (decimal n))); most = rw vn m; sep = rw vx p }

  longer : (n d x : ℕ) (s : List ℕ) → 0 < n → d < 10 → x ≡ 48 + d → Rest (n * 10 + d) s → Rest n (x ∷ s)
  longer n d x s z h e r = record {
    more = x ∷ r.more;
    cut = ap (λ (l : List ℕ). x ∷ l) r.cut;
    whole = r.whole ∙ rw (decimal_more n d z h, append_assoc, e);
    most = r.most;
    sep = r.sep;
  }

  -- j digits so far, and room for k more; where there is room, n is not 0
  digits_was : (k j n : ℕ) (s : List ℕ) (at : ℕ) → (0 < k → 0 < n) → n < 10 ^ j → j + k ≤ most_digits → digits a b k n s at ≡ ok v s' at' → Rest n s
  unfolding digits
  digits_was k j n [] at z m h e = absurd (not_fault v s' at' 1 at e)
  digits_was k j n (x ∷ s) at z m h e =
      by_test (λ (g : Got (ℕ × ℕ)). g ≡ ok v s' at' → Rest n (x ∷ s)) (eqb x a || eqb x b) _ _
      (λ t q. ended n x s at (omega (arith, pow-le-pow_right {n = 10} (omega arith) {i = j} {j = most_digits} (omega arith))) (is_sep x a b t) q)
      (λ f q.
      on_pick v s' at' (ltb 0 k && is_digit x) _ 1 at q
      (λ t g.
      let w = both (ltb 0 k) (is_digit x) t in
      let zk : 0 < k = ltb-true 0 k w.0 in
      let zn : 0 < n = z zk in
      let d = is_digit_lem x w.1 in
      let lo : 48 ≤ x = d.0 in
      let hi : x ≤ 57 = d.1 in
      longer n (x - 48) x s zn (omega arith) (omega arith)
      (digits_was (k - 1) (suc j) (n * 10 + (x - 48)) s (at + 1) (λ y. omega arith) (omega arith) (omega arith) g)))
      e

  number_was : (s : List ℕ) (at : ℕ) → number a b s at ≡ ok v s' at' → (s ≡ number_text v ++ s') × Number a b v
  unfolding number
  number_was [] at e = absurd (not_fault v s' at' 1 at e)
  number_was (x ∷ s) at e =
      on_pick v s' at' (is_digit x) _ 1 at e
      (λ t q.
      let d = is_digit_lem x t in
      let lo : 48 ≤ x = d.0 in
      let hi : x ≤ 57 = d.1 in
      let r = digits_was (room_after x) 1 (x - 48) s (at + 1) (room_some x lo) (omega arith) (room_fits x) q in
      (together x (x - 48) s (omega arith) (omega arith) r, (r.most, r.sep)))
    where
      together : (x n : ℕ) (s : List ℕ) → x ≡ 48 + n → n < 10 → Rest n s → x ∷ s ≡ number_text v ++ s'
      together x n s e h r = rw (append_assoc, r.whole, decimal_one n h, e) (ap (λ (l : List ℕ). (48 + n) ∷ l) r.cut)

-- a refusal of a number is 1
digits_refuses : (a b k n : ℕ) (s : List ℕ) (at m p : ℕ) → digits a b k n s at ≡ fault m p → m ≡ 1
unfolding digits
digits_refuses a b k n [] at m p e = same_number 1 at m p e
digits_refuses a b k n (x ∷ s) at m p e =
    pick_refuses (eqb x a || eqb x b) _ _ m p e (λ q. absurd (not_ok (n, x) s (at + 1) m p q))
    (λ q.
    pick_refuses (ltb 0 k && is_digit x) _ _ m p q (λ g. digits_refuses a b (k - 1) (n * 10 + (x - 48)) s (at + 1) m p g)
    (same_number 1 at m p))

pub number_refuses : (a b : ℕ) (s : List ℕ) (at m p : ℕ) → number a b s at ≡ fault m p → m ≡ 1
unfolding number
number_refuses a b [] at m p e = same_number 1 at m p e
number_refuses a b (x ∷ s) at m p e = pick_refuses (is_digit x) _ _ m p e (λ q. digits_refuses a b _ (x - 48) s (at + 1) m p q) (same_number 1 at m p)

-- how many digits may follow those of n
abbrev pub room_behind : ℕ → ℕ
room_behind n = pick (eqb n 0) 0 (most_digits - length (decimal n))

-- where the digits end and no separator follows
pub digits_none : (a b k n at : ℕ) → digits a b k n [] at ≡ fault 1 at
unfolding digits
digits_none a b k n at = refl

pub digits_wrong : (a b k n x : ℕ) (s : List ℕ) (at : ℕ) → (eqb x a || eqb x b) ≡ false → (ltb 0 k && is_digit x) ≡ false → digits a b k n (x ∷ s) at ≡ fault 1 at
unfolding digits
digits_wrong a b k n x s at e f = rw (e, f)

-- ---- what is read

module _ (a b : ℕ) (na : is_digit a ≡ false) (nb : is_digit b ≡ false) where
  -- a digit is no separator
  pub not_sep : (d : ℕ) → d < 10 → (eqb (48 + d) a || eqb (48 + d) b) ≡ false
  not_sep d h = rw (ne_eqb (48 + d) a (apart a na), ne_eqb (48 + d) b (apart b nb))
    where
      apart : (x : ℕ) → is_digit x ≡ false → 48 + d ≡ x → ⊥
      apart x nx e = false_true (sym nx ∙ rw (← e) (digit_is d h))

  digits_next : (k n d : ℕ) (s : List ℕ) (at : ℕ) → 0 < k → d < 10 → digits a b k n ((48 + d) ∷ s) at ≡ digits a b (k - 1) (n * 10 + d) s (at + 1)
  unfolding digits
  digits_next k n d s at z h = let e : 48 + d - 48 ≡ d = omega arith in rw (not_sep d h, lt-ltb 0 k z, digit_is d h, e)

  digits_end : (k n x : ℕ) (s : List ℕ) (at : ℕ) → IsSep a b x → digits a b k n (x ∷ s) at ≡ ok (n, x) s (at + 1)
  unfolding digits
  digits_end k n x s at e = rw (sep_is x a b e)

  number_first : (n : ℕ) (s : List ℕ) (at : ℕ) → n < 10 → number a b ((48 + n) ∷ s) at ≡ digits a b (pick (eqb n 0) 0 (most_digits - 1)) n s (at + 1)
  unfolding number
  number_first n s at h =
      let e : 48 + n - 48 ≡ n = omega arith in
      rw (digit_is n h, e, zero_test n)

  -- the digits of n, and then the rest
  abbrev Goes : ℕ → List ℕ → ℕ → Type 0
  Goes n s at = number a b (decimal n ++ s) at ≡ digits a b (most_digits - length (decimal n)) n s (at + length (decimal n))

  goes_one : (n : ℕ) (s : List ℕ) (at : ℕ) → 0 < n → n < 10 → Goes n s at
  goes_one n s at z h = rw (decimal_one n h) (number_first n s at h ∙ rw (ne_eqb n 0 (omega arith)))

  goes_more : (n d : ℕ) (s : List ℕ) (at : ℕ) → 0 < n → d < 10 → length (decimal n) < most_digits → Goes n ((48 + d) ∷ s) at → Goes (n * 10 + d) s at
  goes_more n d s at z h l g =
      let e : length (decimal n ++ (48 + d) ∷ []) ≡ length (decimal n) + 1 = length-append (decimal n) ((48 + d) ∷ []) in
      let f : most_digits - (length (decimal n) + 1) ≡ most_digits - length (decimal n) - 1 = omega arith in
      rw (
        decimal_more n d z h,
        append_assoc (decimal n) ((48 + d) ∷ []) s,
        g,
        digits_next (most_digits - length (decimal n)) n d s (at + length (decimal n)) (omega arith) h,
        e,
        f,
        add_assoc,
      )

  goes : (k n : ℕ) (s : List ℕ) (at : ℕ) → suc k ≤ most_digits → 0 < n → n < 10 ^ suc k → Goes n s at
  goes zero n s at h z m = goes_one n s at z (omega arith)
  goes (suc k) n s at h z m =
      by_cases (ltb n 10) refl
      (λ l. goes k (n / 10) ((48 + n % 10) ∷ s) at (omega arith) (omega arith) (omega arith))
      (λ l. omega (arith, decimal_length k (n / 10) (omega arith)))
    where
      by_cases : (t : Bool) → ltb n 10 ≡ t → (10 ≤ n → Goes (n / 10) ((48 + n % 10) ∷ s) at) → (10 ≤ n → length (decimal (n / 10)) < most_digits) → Goes n s at
      by_cases true e ih l = goes_one n s at z (ltb-true n 10 e)
      by_cases false e ih l =
          let g : 10 ≤ n = ltb-false n 10 e in
          let f : n / 10 * 10 + n % 10 ≡ n = omega arith in
          subst (λ (j : ℕ). Goes j s at) f (goes_more (n / 10) (n % 10) s at (omega arith) (omega arith) (l g) (ih g))

  number_goes : (n : ℕ) (s : List ℕ) (at : ℕ) → n < 10 ^ most_digits
      → number a b (decimal n ++ s) at ≡ digits a b (room_behind n) n s (at + length (decimal n))
  number_goes zero s at h = rw (decimal_one 0 (omega arith)) (number_first 0 s at (omega arith))
  number_goes (suc n) s at h = rw (ne_eqb (suc n) 0 (λ e. omega arith)) (goes (most_digits - 1) (suc n) s at (omega arith) (omega arith) h)

  number_reads : (n x : ℕ) (s : List ℕ) (at : ℕ) → n < 10 ^ most_digits → IsSep a b x
      → number a b ((decimal n ++ x ∷ []) ++ s) at ≡ ok (n, x) s (at + length (decimal n ++ x ∷ []))
  number_reads n x s at h e =
      rw (
        append_assoc,
        number_goes n (x ∷ s) at h,
        digits_end (room_behind n) n x s (at + length (decimal n)) e,
        length-append,
        add_assoc,
      )

  -- a number that fails its test
  pub number_fails : (k : ℕ) (test : ℕ × ℕ → Bool) (n x : ℕ) (s : List ℕ) (at : ℕ) → n < 10 ^ most_digits → IsSep a b x → test (n, x) ≡ false
      → checked k test (number a b) (decimal n ++ x ∷ s) at ≡ fault k at
  number_fails k test n x s at h e f = rw (number_goes n (x ∷ s) at h, digits_end (room_behind n) n x s (at + length (decimal n)) e, f)

  -- digits after which the number cannot go on
  pub number_stops : (k : ℕ) (test : ℕ × ℕ → Bool) (n : ℕ) (s : List ℕ) (at : ℕ) → n < 10 ^ most_digits
      → digits a b (room_behind n) n s (at + length (decimal n)) ≡ fault 1 (at + length (decimal n))
      → checked k test (number a b) (decimal n ++ s) at ≡ fault 1 (at + length (decimal n))
  number_stops k test n s at h e = rw (number_goes n s at h, e)

  pub exact_number : Exact (number a b) number_text (Number a b)
  exact_number = record {
    reads = λ v h s at. number_reads v.0 v.1 s at h.0 h.1;
    was = λ s at v s' at' e. number_was a b v s' at' s at e;
    refuses = λ s at n p e. omega (arith, number_refuses a b s at n p e);
  }
