-- Names: the word, and the name that it is.
use Rattle.std.proofs.Common.{◌≡◌, ℕ, suc, zero, ◌+◌, ◌-◌, Bool, true, false, ◌&&◌, cond, List, [], ◌∷◌, ◌++◌, take, drop, eqb, leb, ltb, refl, sym, ◌∙◌, arith, ne_eqb, lt-ltb, append_assoc, append-nil, leb-true}
use Rattle.std.proofs.Math.Bool.{and-false}
use Rattle.std.specs.List.{prefix_len}
use Rattle.rules.proofs.Store.{left_of}
use Rattle.rules.specs.Memory.{pick}
use Rattle.rules.specs.Bounds.{most_letters}
use Rattle.rules.specs.Rule.{Got, ok, fault, after, give, lit, feed, is_lower, letters, word}

-- how many letters come, of at most k
abbrev pub run : ℕ → List ℕ → ℕ
run k s = prefix_len is_lower (take k s)

-- a line feed and then this value
abbrev fed : List ℕ → List ℕ → ℕ → Got (List ℕ)
fed w s at = after (lit (feed ∷ []) s at) (λ _. give w)

-- where no letter comes
none_comes : (w s : List ℕ) (at : ℕ) → fed (w ++ []) s (at + 0) ≡ fed w s at
none_comes w s at = let e : at + 0 ≡ at = omega arith in rw (append-nil w, e)

-- a line feed, or none
feed_or : (t : Bool) (w s : List ℕ) (at : ℕ) → pick t (ok w s (at + 1)) (fault 1 at) ≡ after (pick t (ok (tt {0}) s (at + 1)) (fault 1 at)) (λ _. give w)
feed_or true w s at = refl
feed_or false w s at = refl

-- the letters that come, and what must follow them
letters_run : (k : ℕ) (w s : List ℕ) (at : ℕ) → letters k w s at ≡ fed (w ++ take (run k s) s) (drop (run k s) s) (at + run k s)
unfolding letters lit
letters_run zero w [] at = sym (none_comes w [] at)
letters_run zero w (x ∷ s) at = feed_or (eqb x feed) w s at ∙ sym (none_comes w (x ∷ s) at)
letters_run (suc k) w [] at = sym (none_comes w [] at)
letters_run (suc k) w (x ∷ s) at = go (letters_run k (w ++ x ∷ []) s (at + 1)) (is_lower x) refl
  where
    n : ℕ
    n = run k s

    go : letters k (w ++ x ∷ []) s (at + 1) ≡ fed ((w ++ x ∷ []) ++ take n s) (drop n s) (at + 1 + n) → (t : Bool) → is_lower x ≡ t
        → pick (eqb x feed) (ok w s (at + 1)) (pick (ltb 0 (suc k) && t) (letters (suc k - 1) (w ++ x ∷ []) s (at + 1)) (fault 1 at))
        ≡ fed (w ++ take (cond t (1 + n) 0) (x ∷ s)) (drop (cond t (1 + n) 0) (x ∷ s)) (at + cond t (1 + n) 0)
    go h true e =
        let l : leb 97 x ≡ true = left_of (leb 97 x) (leb x 122) e in
        let nx : eqb x feed ≡ false = ne_eqb _ _ (λ z. let m = leb-true 97 x l in omega arith) in
        let m : ltb 0 (suc k) ≡ true = lt-ltb 0 (suc k) (omega arith) in
        let p : suc k - 1 ≡ k = omega arith in
        let q : 1 + n ≡ suc n = omega arith in
        let r : at + 1 + n ≡ at + suc n = omega arith in
        rw (nx, m, p, q) (h ∙ rw (r, append_assoc))
    go h false e = rw (and-false (ltb 0 (suc k))) (feed_or (eqb x feed) w s at ∙ sym (none_comes w (x ∷ s) at))

-- ---- a word

word_run : (s : List ℕ) (at : ℕ) → word s at ≡ pick (eqb (run most_letters s) 0) (fault 1 at) (fed (take (run most_letters s) s) (drop (run most_letters s) s) (at + run most_letters s))
unfolding word
word_run [] at = refl
word_run (x ∷ s) at = go (is_lower x)
  where
    n : ℕ
    n = run (most_letters - 1) s

    go : (t : Bool) → pick t (letters (most_letters - 1) (x ∷ []) s (at + 1)) (fault 1 at)
        ≡ pick (eqb (cond t (1 + n) 0) 0) (fault 1 at) (fed (take (cond t (1 + n) 0) (x ∷ s)) (drop (cond t (1 + n) 0) (x ∷ s)) (at + cond t (1 + n) 0))
    go true =
        let p : 1 + n ≡ suc n = omega arith in
        let q : eqb (suc n) 0 ≡ false = ne_eqb _ _ (omega arith) in
        let r : at + 1 + n ≡ at + suc n = omega arith in
        letters_run (most_letters - 1) (x ∷ []) s (at + 1) ∙ rw (p, q, r)
    go false = refl

module _ (s : List ℕ) (at n : ℕ) (e : n ≡ run most_letters s) where
  pub word_none : n ≡ 0 → (k p : ℕ) → k ≡ 1 → p ≡ at → fault k p ≡ word s at
  word_none z k p x y = let f : run most_letters s ≡ 0 = sym e ∙ z in rw (x, y) (sym (word_run s at ∙ rw f))

  module _ (z : n ≡ 0 → ⊥) (l : List ℕ) (p : ℕ) (h : l ≡ drop n s) (k : p ≡ at + n) where
    word_some : word s at ≡ fed (take n s) l p
    word_some = let m : eqb (run most_letters s) 0 ≡ false = ne_eqb _ _ (λ y. z (e ∙ y)) in word_run s at ∙ rw (m, ← e, h, k)

    pub word_unfed : (i q : ℕ) → fault i q ≡ lit (feed ∷ []) l p → fault i q ≡ word s at
    word_unfed i q f = rw (word_some, ← f)

    pub word_fed : (l' : List ℕ) (q : ℕ) → ok tt l' q ≡ lit (feed ∷ []) l p → ok (take n s) l' q ≡ word s at
    word_fed l' q f = rw (word_some, ← f)

-- what `word` returns
pub ruleset words = (word_none, word_fed)
