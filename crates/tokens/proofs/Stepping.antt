-- One byte of what is left; and labels, with one law for each way out.
use Rattle.std.proofs.Common.{◌≡◌, ℕ, suc, ◌+◌, ◌≤◌, ◌<◌, Bool, true, false, cond, eqb, List, [], ◌∷◌, length, get_or, drop, refl, sym, ap, ◌∙◌, arith, drop-cons, add-one}
use Rattle.std.specs.List.{prefix_len, common_prefix_len, zip}
use Rattle.rules.specs.Memory.{pick}
use Rattle.rules.specs.Rule.{ok, fault, lit}
use Rattle.std.proofs.lemmas.List.Sums.{common_prefix_len-le}

-- one byte and what is left after it
pub drop_next : (s : List ℕ) (i : ℕ) → i < length s → drop i s ≡ get_or s i 0 ∷ drop (i + 1) s
drop_next s i h = drop-cons s i 0 h ∙ ap (λ (n : ℕ). get_or s i 0 ∷ drop n s) (sym (add-one i))

-- ---- a label

-- how many bytes of a label what is left begins with
abbrev pub alike : List ℕ → List ℕ → ℕ
alike s bs = common_prefix_len eqb s bs

lit_stops : (bs s : List ℕ) (at : ℕ) → alike s bs < length bs → lit bs s at ≡ fault 1 (at + alike s bs)
unfolding lit
lit_stops [] [] at h = absurd (omega arith)
lit_stops [] (x ∷ s) at h = absurd (omega arith)
lit_stops (b ∷ bs) [] at h = ap (fault 1) (omega arith)
lit_stops (b ∷ bs) (x ∷ s) at h = stop (lit_stops bs s (at + 1)) (eqb x b) h
  where
    n : ℕ
    n = alike s bs

    stop : (n < length bs → lit bs s (at + 1) ≡ fault 1 (at + 1 + n)) → (t : Bool) → cond t (1 + n) 0 < length (b ∷ bs)
        → pick t (lit bs s (at + 1)) (fault 1 at) ≡ fault 1 (at + cond t (1 + n) 0)
    stop k true h = k (omega arith) ∙ ap (fault 1) (omega arith)
    stop k false h = ap (fault 1) (omega arith)

lit_goes : (bs s : List ℕ) (at : ℕ) → length bs ≤ alike s bs → lit bs s at ≡ ok tt (drop (alike s bs) s) (at + alike s bs)
unfolding lit
lit_goes [] [] at h = ap (ok tt []) (omega arith)
lit_goes [] (x ∷ s) at h = ap (ok tt (x ∷ s)) (omega arith)
lit_goes (b ∷ bs) [] at h = absurd (omega arith)
lit_goes (b ∷ bs) (x ∷ s) at h = go (lit_goes bs s (at + 1)) (eqb x b) h
  where
    n : ℕ
    n = alike s bs

    go : (length bs ≤ n → lit bs s (at + 1) ≡ ok tt (drop n s) (at + 1 + n)) → (t : Bool) → length (b ∷ bs) ≤ cond t (1 + n) 0
        → pick t (lit bs s (at + 1)) (fault 1 at) ≡ ok tt (drop (cond t (1 + n) 0) (x ∷ s)) (at + cond t (1 + n) 0)
    go k true h =
        let e : at + 1 + n ≡ at + (1 + n) = omega arith in
        let f : 1 + n ≡ suc n = omega arith in
        k (omega arith) ∙ rw (e, f)
    go k false h = absurd (omega arith)

-- the code counts over the pairs
pub alike_pairs : (s bs : List ℕ) → prefix_len (λ (p : ℕ × ℕ). eqb p.0 p.1) (zip s bs) ≡ alike s bs
alike_pairs [] bs = refl
alike_pairs (x ∷ s) [] = refl
alike_pairs (x ∷ s) (b ∷ bs) = ap (λ (n : ℕ). cond (eqb x b) (1 + n) 0) (alike_pairs s bs)

-- as many as the code counted
module _ (bs s : List ℕ) (at n : ℕ) (e : n ≡ alike s bs) where
  pub alike_within : n ≤ length s
  alike_within = rw e (common_prefix_len-le eqb s bs).0

  pub label_stops : n < length bs → (k p : ℕ) → k ≡ 1 → p ≡ at + n → fault k p ≡ lit bs s at
  label_stops h k p z m = rw (z, m, e) (sym (lit_stops bs s at (rw e at h)))

  pub label_goes : length bs ≤ n → (l : List ℕ) (p : ℕ) → l ≡ drop n s → p ≡ at + n → ok tt l p ≡ lit bs s at
  label_goes h l p k m = rw (k, m, e) (sym (lit_goes bs s at (rw e at h)))

-- what `label` asks and returns
pub ruleset labels = (alike_within, label_stops, label_goes)
