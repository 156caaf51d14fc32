-- A rule reads exactly the texts of the values that are allowed, and refuses with a number. Stated once for any rule; kept by sequence and by a check.
use Prim.Native.Nat.{ℕ, suc, ◌+◌, ◌<◌}
use mathlib.Core.Path.{◌≡◌, refl, ap, ap₂, sym, ◌∙◌}
use mathlib.Core.List.{List, [], ◌∷◌, ◌++◌, append_assoc}
use mathlib.Core.Bool.{Bool, true, false}
use lib.ListN.{length, length-append}
use lib.Dec.{eqb}
use borrow.Author.Tests.{eq-eqb, eqb-true}
use native.Mathlib.Nat.{add-zero, add_assoc}
use native.Mathlib.Omega.{arith}
use Rattle.rules.specs.Memory.{pick}
use Rattle.rules.specs.Rule.{Got, ok, fault, Rule, after, ◌>>=◌, give, checked, lit}

-- ---- what an accepted value tells

module _ {A : Type 0} (v : A) (s : List ℕ) (at : ℕ) where
  pub not_fault : (n p : ℕ) → fault n p ≡ ok v s at → ⊥
  not_fault n p e = let z : ◌≡◌ {A = ℕ} 0 1 = cc in omega arith

  -- the test held
  pub on_pick {ℓ} : {X : Type ℓ} (b : Bool) (g : Got A) (n p : ℕ) → pick b g (fault n p) ≡ ok v s at → (b ≡ true → g ≡ ok v s at → X) → X
  on_pick true g n p e k = k refl e
  on_pick false g n p e k = absurd (not_fault n p e)

  -- the first rule accepted, and so did the second
  pub on-after {ℓ} : {X : Type ℓ} {B : Type 0} (g : Got B) (f : B → Rule A) → after g f ≡ ok v s at
      → ((b : B) (s' : List ℕ) (at' : ℕ) → g ≡ ok b s' at' → f b s' at' ≡ ok v s at → X) → X
  on-after (ok b s' at') f e k = k b s' at' refl e
  on-after (fault n p) f e k = absurd (not_fault n p e)

-- ---- what a refusal tells

pub same_number : {A : Type 0} (m o n p : ℕ) → ◌≡◌ {A = Got A} (fault m o) (fault n p) → n ≡ m
same_number m o n p e = cc

pub not_ok : {A : Type 0} (v : A) (s : List ℕ) (at n p : ℕ) → ok v s at ≡ fault n p → ⊥
not_ok v s at n p e = let z : ◌≡◌ {A = ℕ} 0 1 = cc in omega arith

-- one of two refused
pub pick_refuses {ℓ} : {X : Type ℓ} {A : Type 0} (b : Bool) (g h : Got A) (n p : ℕ) → pick b g h ≡ fault n p
    → (g ≡ fault n p → X) → (h ≡ fault n p → X) → X
pick_refuses true g h n p e k l = k e
pick_refuses false g h n p e k l = l e

-- the first rule refused, or the second
pub after-refuses {ℓ} : {X : Type ℓ} {A B : Type 0} (g : Got A) (f : A → Rule B) (n p : ℕ) → after g f ≡ fault n p
    → (g ≡ fault n p → X) → ((v : A) (s : List ℕ) (at : ℕ) → g ≡ ok v s at → f v s at ≡ fault n p → X) → X
after-refuses (ok v s at) f n p e k l = l v s at refl e
after-refuses (fault m o) f n p e k l = let x : m ≡ n = cc in let y : o ≡ p = cc in k (ap₂ (λ (i j : ℕ). fault i j) x y)

-- a value that fails its test is refused at its first byte
pub checked_refuses {ℓ} : {X : Type ℓ} {A : Type 0} (m : ℕ) (test : A → Bool) (r : Rule A) (s : List ℕ) (at n p : ℕ) → checked m test r s at ≡ fault n p
    → (r s at ≡ fault n p → X) → ((v : A) (s' : List ℕ) (at' : ℕ) → r s at ≡ ok v s' at' → n ≡ m → p ≡ at → X) → X
checked_refuses m test r s at n p e k l =
    after-refuses (r s at) _ n p e k
    (λ v s' at' g q.
    pick_refuses (test v) (ok v s' at') (fault m at) n p q (λ h. absurd (not_ok v s' at' n p h)) (λ h. l v s' at' g (same_number m at n p h) (cc)))

-- ---- exact rules

-- v's text is w v, and P v says which values have one
pub record Exact {A : Type 0} (r : Rule A) (w : A → List ℕ) (P : A → Type 0) : Type 0 where
  pub reads : (v : A) → P v → (s : List ℕ) (at : ℕ) → r (w v ++ s) at ≡ ok v s (at + length (w v))
  pub was : (s : List ℕ) (at : ℕ) (v : A) (s' : List ℕ) (at' : ℕ) → r s at ≡ ok v s' at' → (s ≡ w v ++ s') × P v
  pub refuses : (s : List ℕ) (at n p : ℕ) → r s at ≡ fault n p → 0 < n

-- one rule after another, which may go by what the first one's value is known to be. The first value is read off the second.
module _ {A B : Type 0} {r : Rule A} {w : A → List ℕ} {P : A → Type 0} {f : A → Rule B} {u : A → B → List ℕ} {Q : A → B → Type 0}
    (er : Exact r w P) (ef : (a : A) → P a → Exact (f a) (u a) (Q a)) (back : B → A) (is : (a : A) (b : B) → P a → Q a b → back b ≡ a) where
  abbrev Text : B → List ℕ
  Text b = w (back b) ++ u (back b) b

  abbrev Allowed : B → Type 0
  Allowed b = P (back b) × Q (back b) b

  then_reads : (b : B) → Allowed b → (s : List ℕ) (at : ℕ) → ◌>>=◌ r f (Text b ++ s) at ≡ ok b s (at + length (Text b))
  then_reads b h s at =
      rw (
        append_assoc (w (back b)) (u (back b) b) s,
        er.reads (back b) h.0 (u (back b) b ++ s) at,
        (ef (back b) h.0).reads b h.1 s (at + length (w (back b))),
        length-append (w (back b)) (u (back b) b),
        add_assoc,
      )

  then_was : (s : List ℕ) (at : ℕ) (b : B) (s' : List ℕ) (at' : ℕ) → ◌>>=◌ r f s at ≡ ok b s' at' → (s ≡ Text b ++ s') × Allowed b
  then_was s at b s' at' e =
      on-after b s' at' (r s at) f e
      (λ a s'' at'' g h.
      let x = er.was s at a s'' at'' g in
      let y = (ef a x.1).was s'' at'' b s' at' h in
      rw (is a b x.1 y.1) (x.0 ∙ ap (λ (l : List ℕ). w a ++ l) y.0 ∙ sym (append_assoc (w a) (u a b) s'), (x.1, y.1)))

  then_refuses : (s : List ℕ) (at n p : ℕ) → ◌>>=◌ r f s at ≡ fault n p → 0 < n
  then_refuses s at n p e =
      after-refuses (r s at) f n p e (er.refuses s at n p) (λ a s' at' h q. (ef a (er.was s at a s' at' h).1).refuses s' at' n p q)

  pub exact_then : Exact (◌>>=◌ r f) Text Allowed
  exact_then = record { reads = then_reads; was = then_was; refuses = then_refuses }

pub exact_give : {A : Type 0} (v : A) → Exact (give v) (λ w. []) (λ w. w ≡ v)
exact_give v = record {
  reads = λ w h s at. rw (h, add-zero);
  was = λ s at w s' at' e. (cc, cc);
  refuses = λ s at n p e. absurd (not_ok v s at n p e);
}

-- the same in other words
pub exact_as : {A : Type 0} {r : Rule A} {w u : A → List ℕ} {P Q : A → Type 0}
    → Exact r w P → ((v : A) → P v → Q v) → ((v : A) → Q v → P v) → ((v : A) → Q v → w v ≡ u v) → Exact r u Q
exact_as er f g e = record {
  reads = λ v h s at. rw (← e v h) (er.reads v (g v h) s at);
  was = λ s at v s' at' x. let y = er.was s at v s' at' x in let q = f v y.1 in (rw (← e v q) y.0, q);
  refuses = er.refuses;
}

-- a rule whose value is checked afterwards
module _ {A : Type 0} {r : Rule A} {w : A → List ℕ} {P : A → Type 0} (n : ℕ) (test : A → Bool) (z : 0 < n) (er : Exact r w P) where
  checked_was : (s : List ℕ) (at : ℕ) (v : A) (s' : List ℕ) (at' : ℕ) → checked n test r s at ≡ ok v s' at' → (s ≡ w v ++ s') × (P v × (test v ≡ true))
  checked_was s at v s' at' e =
      on-after v s' at' (r s at) _ e
      (λ x s'' at'' g h.
      on_pick v s' at' (test x) (ok x s'' at'') n at h
      (λ t k.
      let y = er.was s at v s' at' (g ∙ k) in
      let same : x ≡ v = cc in
      (y.0, (y.1, rw same at t))))

  pub exact_check : Exact (checked n test r) w (λ v. P v × (test v ≡ true))
  exact_check = record {
    reads = λ v h s at. rw (er.reads v h.0 s at, h.1);
    was = checked_was;
    refuses = λ s at m p e. checked_refuses n test r s at m p e (er.refuses s at m p) (λ v s' at' g q o. omega arith);
  }

-- ---- a literal

lit_reads : (bs s : List ℕ) (at : ℕ) → lit bs (bs ++ s) at ≡ ok tt s (at + length bs)
unfolding lit
lit_reads [] s at = rw add-zero
lit_reads (b ∷ bs) s at =
    let z : at + 1 + length bs ≡ at + suc (length bs) = omega arith in
    rw (eq-eqb b b refl, lit_reads bs s (at + 1), z)

lit_was : (bs s : List ℕ) (at : ℕ) (v : Unit {0}) (s' : List ℕ) (at' : ℕ) → lit bs s at ≡ ok v s' at' → s ≡ bs ++ s'
unfolding lit
lit_was [] s at v s' at' e = cc
lit_was (b ∷ bs) [] at v s' at' e = absurd (not_fault v s' at' 1 at e)
lit_was (b ∷ bs) (x ∷ s) at v s' at' e =
    on_pick v s' at' (eqb x b) (lit bs s (at + 1)) 1 at e
    (λ t h. let p : x ≡ b = eqb-true x b t in let q : s ≡ bs ++ s' = lit_was bs s (at + 1) v s' at' h in cc)

-- a refusal of a literal is 1
pub lit_refuses : (bs s : List ℕ) (at n p : ℕ) → lit bs s at ≡ fault n p → n ≡ 1
unfolding lit
lit_refuses [] s at n p e = absurd (not_ok tt s at n p e)
lit_refuses (b ∷ bs) [] at n p e = same_number 1 at n p e
lit_refuses (b ∷ bs) (x ∷ s) at n p e = pick_refuses (eqb x b) _ _ n p e (λ h. lit_refuses bs s (at + 1) n p h) (same_number 1 at n p)

pub exact_lit : (bs : List ℕ) → Exact (lit bs) (λ v. bs) (λ v. Unit {0})
exact_lit bs = record {
  reads = λ v h s at. lit_reads bs s at;
  was = λ s at v s' at' e. (lit_was bs s at v s' at' e, tt);
  refuses = λ s at n p e. omega (arith, lit_refuses bs s at n p e);
}
