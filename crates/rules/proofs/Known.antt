-- Which numbers are those of machines: 1 to `machines`; and what holds of every line of the table.
use mathlib.Core.Path.{◌≡◌, refl, sym, ◌∙◌}
use mathlib.Core.Logic.{◌⊎◌, inl, inr}
use mathlib.Core.Bool.{Bool, true, false, ◌&&◌}
use mathlib.Core.List.{List, [], ◌∷◌}
use Prim.Native.Nat.{ℕ, ◌+◌, ◌≤◌, ◌<◌}
use native.Mathlib.Decide.{ℕ_discrete, dec_lt}
use native.Mathlib.Omega.{arith}
use borrow.Author.Tests.{eq-eqb, ne_eqb, eqb-true, lt-ltb}
use lib.Dec.{eqb}
use lib.ListN.{length}
use Rattle.rules.specs.Machines.{Line, table, no_line, machines, find, numbered, known}
use Rattle.rules.proofs.Store.{either, both, false_true}

-- the lines have the numbers from k on, in order
counts : ℕ → List Line → Bool
counts k [] = true
counts k (l ∷ ls) = eqb l.number k && counts (k + 1) ls

table_counts : counts 1 table ≡ true
unfolding counts
table_counts = refl

-- the line that is found
abbrev of : ℕ → List Line → Line
of n ls = find (λ l. eqb n l.number) ls

among : (ls : List Line) (k n : ℕ) → counts k ls ≡ true → 0 < k → k ≤ n → n < k + length ls → known (of n ls) ≡ true
unfolding counts
among [] k n c z l h = absurd (omega arith)
among (x ∷ ls) k n c z l h =
    let w = both (eqb x.number k) (counts (k + 1) ls) c in
    let e = eqb-true x.number k w.0 in
    go e (ℕ_discrete n x.number) (λ m. among ls (k + 1) n w.1 (omega arith) m (omega arith))
  where
    go : x.number ≡ k → Dec (n ≡ x.number) → (k + 1 ≤ n → known (of n ls) ≡ true) → known (of n (x ∷ ls)) ≡ true
    go e (yes d) r = rw (eq-eqb n x.number d) (lt-ltb 0 x.number (omega arith))
    go e (no d) r = rw (ne_eqb n x.number d) (r (omega arith))

beyond : (ls : List Line) (k n : ℕ) → counts k ls ≡ true → (n < k) ⊎ (k + length ls ≤ n) → known (of n ls) ≡ false
unfolding counts
beyond [] k n c h = refl
beyond (x ∷ ls) k n c h =
    let w = both (eqb x.number k) (counts (k + 1) ls) c in
    let e = eqb-true x.number k w.0 in
    rw (ne_eqb n x.number (other e h)) (beyond ls (k + 1) n w.1 (rest h))
  where
    other : x.number ≡ k → (n < k) ⊎ (k + length (x ∷ ls) ≤ n) → n ≡ x.number → ⊥
    other e (inl b) d = omega arith
    other e (inr b) d = omega arith

    rest : (n < k) ⊎ (k + length (x ∷ ls) ≤ n) → (n < k + 1) ⊎ (k + 1 + length ls ≤ n)
    rest (inl b) = inl (omega arith)
    rest (inr b) = inr (omega arith)

pub known_number : (n : ℕ) → 1 ≤ n → n ≤ machines → known (numbered n) ≡ true
known_number n l h = among table 1 n table_counts (omega arith) l (omega arith)

pub unknown_number : (n : ℕ) → (n < 1) ⊎ (machines < n) → known (numbered n) ≡ false
unknown_number n (inl h) = beyond table 1 n table_counts (inl h)
unknown_number n (inr h) = beyond table 1 n table_counts (inr (omega arith))

pub known_range : (n : ℕ) → known (numbered n) ≡ true → (1 ≤ n) × (n ≤ machines)
known_range n k = go (dec_lt n 1) (dec_lt machines n)
  where
    go : Dec (n < 1) → Dec (machines < n) → (1 ≤ n) × (n ≤ machines)
    go (yes h) b = absurd (false_true (sym (unknown_number n (inl h)) ∙ k))
    go (no a) (yes h) = absurd (false_true (sym (unknown_number n (inr h)) ∙ k))
    go (no a) (no b) = (omega arith, omega arith)

-- every line of the list has P, and so has the line of an unknown number
abbrev pub Each {ℓ} : (Line → Type ℓ) → List Line → Type ℓ
Each P [] = P no_line
Each P (l ∷ ls) = P l × Each P ls

-- then the line that is found has it
pub found {ℓ} : (P : Line → Type ℓ) (test : Line → Bool) (ls : List Line) → Each P ls → P (find test ls)
found P test [] h = h
found P test (l ∷ ls) h = either P (test l) l (find test ls) h.0 (found P test ls h.1)
