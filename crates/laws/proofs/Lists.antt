-- Who is in a list, and who is not.
use mathlib.Core.Path.{◌≡◌, refl, sym, ◌∙◌, subst}
use mathlib.Core.Logic.{◌≢◌, ◌⊎◌, inl, inr, Ne-symm}
use mathlib.Core.List.{List, [], ◌∷◌, ◌++◌}
use Prim.Native.Nat.{ℕ, zero, suc, ◌≤◌}
use native.Mathlib.Omega.{arith}
use native.Mathlib.Decide.{ℕ_discrete}
use lib.ListN.{length}
use Rattle.rules.proofs.Accepted.{Below}
use Rattle.laws.specs.Laws.{Without}

abbrev pub Mem : ℕ → List ℕ → Type 0
Mem i [] = ⊥
Mem i (b ∷ r) = (b ≡ i) ⊎ Mem i r

abbrev pub NoDup : List ℕ → Type 0
NoDup [] = Unit {0}
NoDup (b ∷ r) = Without b r × NoDup r

-- where i is in a line
pub data Place (i : ℕ) : List ℕ → Type 0 where
  outside : {q : List ℕ} → Without i q → Place i q
  first : {r : List ℕ} → Place i (i ∷ r)
  behind : {a : ℕ} {r : List ℕ} → Mem i r → Place i (a ∷ r)

pub find : (i : ℕ) (q : List ℕ) → Place i q
find i [] = outside tt
find i (b ∷ r) = go r (ℕ_discrete b i) (find i r)
  where
    go : (r : List ℕ) → Dec (b ≡ i) → Place i r → Place i (b ∷ r)
    go r (yes e) p = subst (λ (x : ℕ). Place i (x ∷ r)) (sym e) first
    go r (no n) (outside f) = outside {q = b ∷ r} (n, f)
    go r (no n) first = behind (inl refl)
    go r (no n) (behind m) = behind (inr m)

-- one who is in the list is not one who is not
pub without_mem : (i a : ℕ) (r : List ℕ) → Without a r → Mem i r → i ≢ a
without_mem i a [] f m = absurd m
without_mem i a (b ∷ r) f (inl e) = λ h. f.0 (e ∙ h)
without_mem i a (b ∷ r) f (inr m) = without_mem i a r f.1 m

-- ---- i added at the end

pub without_snoc : (x i : ℕ) (r : List ℕ) → Without x r → i ≢ x → Without x (r ++ i ∷ [])
without_snoc x i [] f n = (n, tt)
without_snoc x i (b ∷ r) f n = (f.0, without_snoc x i r f.1 n)

pub without_init : (x i : ℕ) (r : List ℕ) → Without x (r ++ i ∷ []) → Without x r × (x ≢ i)
without_init x i [] f = (tt, Ne-symm f.0)
without_init x i (b ∷ r) f = let h = without_init x i r f.1 in ((f.0, h.0), h.1)

pub nodup_snoc : (i : ℕ) (r : List ℕ) → Without i r → NoDup r → NoDup (r ++ i ∷ [])
nodup_snoc i [] f d = (tt, tt)
nodup_snoc i (b ∷ r) f d = (without_snoc b i r d.0 (Ne-symm f.0), nodup_snoc i r f.1 d.1)

pub below_append : (p : ℕ) (q r : List ℕ) → Below p q → Below p r → Below p (q ++ r)
below_append p [] r b c = c
below_append p (a ∷ q) r b c = (b.0, below_append p q r b.1 c)

-- ---- no more numbers below p than p

-- q but for p
abbrev Fewer : ℕ → List ℕ → Type 0
Fewer p q = (r : List ℕ) × NoDup r × Below p r × (length q ≤ suc (length r)) × ((j : ℕ) → Without j q → Without j r)

below_without : (p : ℕ) (q : List ℕ) → Without p q → Below (suc p) q → Below p q
below_without p [] f b = tt
below_without p (a ∷ q) f b = let n = f.0 in let h = b.0 in (omega arith, below_without p q f.1 b.1)

fewer : (p : ℕ) (q : List ℕ) → NoDup q → Below (suc p) q → Fewer p q
fewer p [] d b = ([], tt, tt, omega arith, λ j f. tt)
fewer p (a ∷ q) d b = go (ℕ_discrete a p) (fewer p q d.1 b.1)
  where
    go : Dec (a ≡ p) → Fewer p q → Fewer p (a ∷ q)
    go (yes e) w = (q, d.1, below_without p q (subst (λ (x : ℕ). Without x q) e d.0) b.1, omega arith, λ j f. f.1)
    go (no n) w =
        let h = b.0 in
        let l = w.3 in
        (a ∷ w.0, (w.4 a d.0, w.1), (omega arith, w.2), omega arith, λ j f. (f.0, w.4 j f.1))

pub pigeon : (p : ℕ) (q : List ℕ) → NoDup q → Below p q → length q ≤ p
pigeon zero [] d b = omega arith
pigeon zero (a ∷ q) d b = let h = b.0 in absurd (omega arith)
pigeon (suc p) q d b = let w = fewer p q d b in omega (arith, pigeon p w.0 w.1 w.2, w.3)
