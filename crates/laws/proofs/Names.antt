-- A name: it is read exactly where a line of the table is named. What is asked of the table is a test that computes.
use Prim.Native.Nat.{ℕ, suc, ◌+◌, ◌-◌, ◌≤◌, ◌<◌, max}
use mathlib.Core.Path.{◌≡◌, refl, ap, ap₂, sym, ◌∙◌}
use mathlib.Core.List.{List, [], ◌∷◌, ◌++◌, append_assoc, append-nil}
use mathlib.Core.Bool.{Bool, true, false, ◌&&◌}
use lib.ListN.{length}
use lib.Dec.{ltb, leb, eqb}
use borrow.Author.Tests.{ne_eqb, le-leb, lt-ltb, leb-true, eqb-true, ltb-true}
use native.Mathlib.Omega.{arith}
use Rattle.rules.specs.Bounds.{most_letters}
use Rattle.rules.specs.Machines.{same, Line, table, find, numbered, named, known}
use Rattle.rules.specs.Rule.{Got, ok, fault, checked, feed, is_lower, letters, word}
use Rattle.rules.specs.File.{name}
use Rattle.rules.specs.Calls.{all}
use Rattle.rules.proofs.Store.{by_test, both, false_true, all_true}
use Rattle.laws.proofs.Exact.{not_fault, not_ok, on_pick, pick_refuses, after-refuses, checked_refuses, same_number, Exact, exact_then, exact_check, exact_give, exact_as}

-- ---- words

abbrev lowers : List ℕ → Bool
lowers [] = true
lowers (x ∷ w) = is_lower x && lowers w

-- 1 to 8 lower-case letters
abbrev wording : List ℕ → List Bool
wording w = ltb 0 (length w) ∷ leb (length w) most_letters ∷ lowers w ∷ []

abbrev worded : List ℕ → Bool
worded w = all (wording w)

not_feed : (x : ℕ) → is_lower x ≡ true → eqb x feed ≡ false
not_feed x e = let l = leb-true 97 x (both (leb 97 x) (leb x 122) e).0 in ne_eqb x feed (omega arith)

letters_reads : (k : ℕ) (w ws s : List ℕ) (at : ℕ) → lowers ws ≡ true → length ws ≤ k
    → letters k w ((ws ++ feed ∷ []) ++ s) at ≡ ok (w ++ ws) s (at + length (ws ++ feed ∷ []))
unfolding letters
letters_reads k w [] s at l h = rw (append-nil w)
letters_reads k w (x ∷ ws) s at l h =
    let b = both (is_lower x) (lowers ws) l in
    let z : at + 1 + length (ws ++ feed ∷ []) ≡ at + suc (length (ws ++ feed ∷ [])) = omega arith in
    rw (
      not_feed x b.0,
      lt-ltb 0 k (omega arith),
      b.0,
      letters_reads (k - 1) (w ++ x ∷ []) ws s (at + 1) b.1 (omega arith),
      append_assoc w (x ∷ []) ws,
      z,
    )

-- the rest of a name that was read
record Letters (k : ℕ) (w s v s' : List ℕ) : Type 0 where
  more : List ℕ
  whole : v ≡ w ++ more
  cut : s ≡ more ++ feed ∷ s'
  low : lowers more ≡ true
  few : length more ≤ k

letters_was : (k : ℕ) (w s : List ℕ) (at : ℕ) (v s' : List ℕ) (at' : ℕ) → letters k w s at ≡ ok v s' at' → Letters k w s v s'
unfolding letters
letters_was k w [] at v s' at' e = absurd (not_fault v s' at' 1 at e)
letters_was k w (x ∷ s) at v s' at' e =
    by_test (λ (g : Got (List ℕ)). g ≡ ok v s' at' → Letters k w (x ∷ s) v s') (eqb x feed) _ _
    (λ t q.
    let xf : x ≡ feed = eqb-true x feed t in
    let ww : w ≡ v = cc in
    let ss : s ≡ s' = cc in
    record { more = []; whole = sym ww ∙ sym (append-nil w); cut = rw (xf, ss); low = refl; few = omega arith })
    (λ f q.
    on_pick v s' at' (ltb 0 k && is_lower x) _ 1 at q
    (λ t g.
    let b = both (ltb 0 k) (is_lower x) t in
    let z : 0 < k = ltb-true 0 k b.0 in
    let r = letters_was (k - 1) (w ++ x ∷ []) s (at + 1) v s' at' g in
    record {
      more = x ∷ r.more;
      whole = r.whole ∙ append_assoc w (x ∷ []) r.more;
      cut = ap (λ (l : List ℕ). x ∷ l) r.cut;
      low = rw b.1 r.low;
      few = omega (arith, r.few);
    }))
    e

-- a refusal of a word is 1
letters_refuses : (k : ℕ) (w s : List ℕ) (at n p : ℕ) → letters k w s at ≡ fault n p → n ≡ 1
unfolding letters
letters_refuses k w [] at n p e = same_number 1 at n p e
letters_refuses k w (x ∷ s) at n p e =
    pick_refuses (eqb x feed) _ _ n p e (λ q. absurd (not_ok w s (at + 1) n p q))
    (λ q.
    pick_refuses (ltb 0 k && is_lower x) _ _ n p q (λ g. letters_refuses (k - 1) (w ++ x ∷ []) s (at + 1) n p g)
    (same_number 1 at n p))

word_reads : (w : List ℕ) → worded w ≡ true → (s : List ℕ) (at : ℕ) → word ((w ++ feed ∷ []) ++ s) at ≡ ok w s (at + length (w ++ feed ∷ []))
unfolding word
word_reads [] h s at = absurd (false_true h)
word_reads (x ∷ w) h s at =
    let t = all_true (wording (x ∷ w)) h in
    let b = both (is_lower x) (lowers w) t.1.1.0 in
    let l = leb-true (suc (length w)) most_letters t.1.0 in
    let z : at + 1 + length (w ++ feed ∷ []) ≡ at + suc (length (w ++ feed ∷ [])) = omega arith in
    rw (b.0, letters_reads (most_letters - 1) (x ∷ []) w s (at + 1) b.1 (omega arith), z)

word_was : (s : List ℕ) (at : ℕ) (w s' : List ℕ) (at' : ℕ) → word s at ≡ ok w s' at' → (s ≡ (w ++ feed ∷ []) ++ s') × (worded w ≡ true)
unfolding word
word_was [] at w s' at' e = absurd (not_fault w s' at' 1 at e)
word_was (x ∷ s) at w s' at' e =
    on_pick w s' at' (is_lower x) _ 1 at e (λ t h. whole t (letters_was (most_letters - 1) (x ∷ []) s (at + 1) w s' at' h))
  where
    whole : is_lower x ≡ true → Letters (most_letters - 1) (x ∷ []) s w s' → (x ∷ s ≡ (w ++ feed ∷ []) ++ s') × (worded w ≡ true)
    whole t r =
        let f = r.few in
        rw r.whole (
          rw (append_assoc, r.cut),
          rw (lt-ltb 0 (suc (length r.more)) (omega arith), le-leb (suc (length r.more)) most_letters (omega arith), t, r.low),
        )

word_refuses : (s : List ℕ) (at n p : ℕ) → word s at ≡ fault n p → n ≡ 1
unfolding word
word_refuses [] at n p e = same_number 1 at n p e
word_refuses (x ∷ s) at n p e =
    pick_refuses (is_lower x) _ _ n p e (λ q. letters_refuses (most_letters - 1) (x ∷ []) s (at + 1) n p q) (same_number 1 at n p)

exact_word : Exact word (λ w. w ++ feed ∷ []) (λ w. worded w ≡ true)
exact_word = record { reads = word_reads; was = word_was; refuses = λ s at n p e. omega (arith, word_refuses s at n p e) }

-- ---- the table

abbrev longest_of : List Line → ℕ
longest_of [] = 0
longest_of (l ∷ ls) = max (length l.name) (longest_of ls)

-- the most letters that a name has
abbrev pub longest_name : ℕ
longest_name = longest_of table

-- what is asked of a line: its number leads back to a known line of its name, its name to its number; its name is a word
abbrev asked : Line → List Bool
asked l =
    known (numbered l.number) ∷ same (numbered l.number).name l.name ∷ eqb (named l.name).number l.number
    ∷ worded l.name ∷ leb (length l.name) longest_name ∷ []

abbrev every : (Line → Bool) → List Line → Bool
every good [] = true
every good (l ∷ ls) = good l && every good ls

table_good : every (λ l. all (asked l)) table ≡ true
table_good = refl

-- a known line that is found is a line of the table, and passes the test
found : (test good : Line → Bool) (ls : List Line) → every good ls ≡ true → known (find test ls) ≡ true
    → (good (find test ls) ≡ true) × (test (find test ls) ≡ true)
found test good [] e k = absurd (false_true k)
found test good (l ∷ ls) e k =
    let b = both (good l) (every good ls) e in
    by_test (λ (x : Line). known x ≡ true → (good x ≡ true) × (test x ≡ true)) (test l) l (find test ls)
    (λ t q. (b.0, t)) (λ t q. found test good ls b.1 q) k

same_list : (a b : List ℕ) → same a b ≡ true → a ≡ b
same_list [] [] e = refl
same_list [] (y ∷ b) e = absurd (false_true e)
same_list (x ∷ a) [] e = absurd (false_true e)
same_list (x ∷ a) (y ∷ b) e =
    let p = both (eqb x y) (same a b) e in
    ap₂ (λ (z : ℕ) (l : List ℕ). z ∷ l) (eqb-true x y p.0) (same_list a b p.1)

-- a known number: its line's name
record Known (m : ℕ) : Type 0 where
  back : (named (numbered m).name).number ≡ m
  is_word : worded (numbered m).name ≡ true
  long : length (numbered m).name ≤ longest_name

known_number : (m : ℕ) → known (numbered m) ≡ true → Known m
known_number m k =
    let f = found (λ l. eqb m l.number) (λ l. all (asked l)) table table_good k in
    let t = all_true (asked (numbered m)) f.0 in
    record {
      back = eqb-true _ _ t.1.1.0 ∙ sym (eqb-true m _ f.1);
      is_word = t.1.1.1.0;
      long = leb-true _ _ t.1.1.1.1.0;
    }

-- a known name: its line's number
known_name : (w : List ℕ) → known (named w) ≡ true → ((numbered (named w).number).name ≡ w) × (known (numbered (named w).number) ≡ true)
known_name w k =
    let f = found (λ l. same w l.name) (λ l. all (asked l)) table table_good k in
    let t = all_true (asked (named w)) f.0 in
    (same_list _ _ t.1.0 ∙ sym (same_list w _ f.1), t.0)

-- ---- names

pub name_length : (m : ℕ) → known (numbered m) ≡ true → length (numbered m).name ≤ longest_name
name_length m k = (known_number m k).long

pub exact_name : Exact name (λ m. (numbered m).name ++ feed ∷ []) (λ m. known (numbered m) ≡ true)
exact_name =
    exact_as
    (exact_then (exact_check 2 (λ w. known (named w)) (omega arith) exact_word) (λ w h. exact_give (named w).number) (λ m. (numbered m).name)
    (λ w m h e. rw e (known_name w h.1).0))
    (λ m h. rw h.1 (known_name (numbered m).name h.0.1).1)
    (λ m h. let n = known_number m h in ((n.is_word, ap (λ (i : ℕ). ltb 0 i) n.back ∙ positive m h), sym n.back))
    (λ m h. append-nil ((numbered m).name ++ feed ∷ []))
  where
    positive : (m : ℕ) → known (numbered m) ≡ true → ltb 0 m ≡ true
    positive m k = rw (eqb-true m (numbered m).number (found (λ l. eqb m l.number) (λ l. all (asked l)) table table_good k).1) k

-- a refusal of a name is 1 or 2
pub name_refuses : (s : List ℕ) (at n p : ℕ) → name s at ≡ fault n p → n < 3
name_refuses s at n p e =
    after-refuses (checked 2 (λ w. known (named w)) word s at) _ n p e
    (λ g. checked_refuses 2 (λ w. known (named w)) word s at n p g (λ q. omega (arith, word_refuses s at n p q)) (λ v s' at' q nn pp. omega arith))
    (λ v s' at' g q. absurd (not_ok _ s' at' n p q))
