-- What a reading rule is. A rule looks at the bytes that are left and at their place in the file. It answers a value, what is left
-- after it and the place of that; or the number of a refusal and its place. The first fault found decides.
use Rattle.std.specs.Prelude.{ℕ, ◌+◌, ◌-◌, ◌*◌, List, [], ◌∷◌, ◌++◌, Bool, ◌&&◌, ◌||◌, eqb, leb, ltb}
use Rattle.rules.specs.Memory.{pick}
use Rattle.rules.specs.Bounds.{most_letters, most_digits}

pub data Got (A : Type 0) : Type 0 where
  ok : A → List ℕ → ℕ → Got A
  fault : ℕ → ℕ → Got A

abbrev pub Rule : Type 0 → Type 0
Rule A = List ℕ → ℕ → Got A

-- ---- rules put together

abbrev pub after : {A B : Type 0} → Got A → (A → Rule B) → Got B
after (ok v left at) f = f v left at
after (fault n p) f = fault n p

-- one rule, and then another that may go by its value
abbrev pub ◌>>=◌ : {A B : Type 0} → Rule A → (A → Rule B) → Rule B
◌>>=◌ r f left at = after (r left at) f

abbrev pub ◌>>◌ : {A B : Type 0} → Rule A → Rule B → Rule B
◌>>◌ r f left at = after (r left at) (λ _. f)

abbrev pub give : {A : Type 0} → A → Rule A
give v left at = ok v left at

-- a value that is judged once its separator has been read: one that fails the test is refused with n at its first byte
abbrev pub checked : {A : Type 0} → ℕ → (A → Bool) → Rule A → Rule A
checked n test r left at = after (r left at) (λ v left' at'. pick (test v) (ok v left' at') (fault n at))

-- ---- bytes

abbrev pub feed : ℕ
feed = 10

abbrev pub comma : ℕ
comma = 44

abbrev pub is_digit : ℕ → Bool
is_digit x = leb 48 x && leb x 57

abbrev pub is_lower : ℕ → Bool
is_lower x = leb 97 x && leb x 122

-- exactly these bytes
unfoldable pub lit : List ℕ → Rule (Unit {0})
lit [] left at = ok tt left at
lit (b ∷ bs) [] at = fault 1 at
lit (b ∷ bs) (x ∷ left) at = pick (eqb x b) (lit bs left (at + 1)) (fault 1 at)

-- nothing more
abbrev pub end : Rule (Unit {0})
end [] at = ok tt [] at
end (x ∷ left) at = fault 1 at

-- ---- a name: 1 to 8 lower-case letters, and a line feed

-- the rest of a name whose letters so far are w: at most k letters more
unfoldable pub letters : ℕ → List ℕ → Rule (List ℕ)
letters k w [] at = fault 1 at
letters k w (x ∷ left) at =
    pick (eqb x feed) (ok w left (at + 1)) (
    pick (ltb 0 k && is_lower x) (letters (k - 1) (w ++ x ∷ []) left (at + 1)) (
    fault 1 at))

unfoldable pub word : Rule (List ℕ)
word [] at = fault 1 at
word (x ∷ left) at = pick (is_lower x) (letters (most_letters - 1) (x ∷ []) left (at + 1)) (fault 1 at)

-- ---- a number: 1 to 9 decimal digits, and a separator, a or b. The value is the number and which it was

-- the rest of a number whose digits so far say n: at most k digits more
unfoldable pub digits : ℕ → ℕ → ℕ → ℕ → Rule (ℕ × ℕ)
digits a b k n [] at = fault 1 at
digits a b k n (x ∷ left) at =
    pick (eqb x a || eqb x b) (ok (n, x) left (at + 1)) (
    pick (ltb 0 k && is_digit x) (digits a b (k - 1) (n * 10 + (x - 48)) left (at + 1)) (
    fault 1 at))

-- 0 is written 0, and no other number starts with 0
unfoldable pub number : ℕ → ℕ → Rule (ℕ × ℕ)
number a b [] at = fault 1 at
number a b (x ∷ left) at =
    pick (is_digit x) (digits a b (pick (eqb x 48) 0 (most_digits - 1)) (x - 48) left (at + 1)) (
    fault 1 at)
