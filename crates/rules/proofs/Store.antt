-- Stores, and tests.
use mathlib.Core.Path.{◌≡◌, refl}
use mathlib.Core.Logic.{◌≢◌}
use mathlib.Core.Bool.{Bool, true, false, ◌&&◌}
use mathlib.Core.List.{List, [], ◌∷◌}
use Prim.Native.Nat.{ℕ, suc}
use native.Mathlib.Omega.{arith}
use lib.Dec.{T, eqb, eqb→eq, eqb_refl}
use Rattle.rules.specs.Memory.{pick, upd}
use Rattle.rules.specs.Calls.{all}

pub upd_same : {A : Type 0} (f : ℕ → A) (i : ℕ) (v : A) → upd f i v i ≡ v
unfolding upd
upd_same f i v = go (eqb i i) (eqb_refl i)
  where
    go : (b : Bool) → T b → pick b v (f i) ≡ v
    go true t = refl
    go false t = absurd t

pub upd_other : {A : Type 0} (f : ℕ → A) (i : ℕ) (v : A) (j : ℕ) → j ≢ i → upd f i v j ≡ f j
unfolding upd
upd_other f i v j ne = go (eqb j i) (λ t. ne (eqb→eq j i t))
  where
    go : (b : Bool) → ¬ (T b) → pick b v (f j) ≡ f j
    go true n = absurd (n tt)
    go false n = refl

-- what both have, the one that is picked has
pub either {ℓ κ} : {A : Type ℓ} (P : A → Type κ) (b : Bool) (x y : A) → P x → P y → P (pick b x y)
either P true x y p q = p
either P false x y p q = q

-- the same, where the test is known in each
pub by_test {ℓ κ} : {A : Type ℓ} (P : A → Type κ) (b : Bool) (x y : A) → (b ≡ true → P x) → (b ≡ false → P y) → P (pick b x y)
by_test P true x y p q = p refl
by_test P false x y p q = q refl

pub zero_suc : {n : ℕ} → 0 ≡ suc n → ⊥
zero_suc h = omega arith

pub false_true : false ≡ true → ⊥
false_true e = let z : ◌≡◌ {A = ℕ} 0 1 = cc in omega arith

pub both : (a b : Bool) → (a && b) ≡ true → (a ≡ true) × (b ≡ true)
both true b e = (refl, e)
both false b e = absurd (false_true e)

pub left_of : (a b : Bool) → (a && b) ≡ true → a ≡ true
left_of a b e = (both a b e).0

-- every test of a list holds
abbrev pub True : List Bool → Type 0
True [] = Unit {0}
True (b ∷ l) = (b ≡ true) × True l

pub all_true : (l : List Bool) → all l ≡ true → True l
all_true [] e = tt
all_true (b ∷ l) e = let w = both b (all l) e in (w.0, all_true l w.1)

pub true_all : (l : List Bool) → True l → all l ≡ true
true_all [] h = refl
true_all (b ∷ l) h = rw h.0 (true_all l h.1)
