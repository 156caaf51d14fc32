-- Where a refusal with 3, 4 or 5 comes from: a number that was read to its separator and failed its test. Whatever that test refuses in the number's
-- place, the file is refused for.
use Prim.Native.Nat.{ℕ, zero, suc, ◌+◌, ◌^◌, ◌≤◌, ◌<◌}
use mathlib.Core.Path.{◌≡◌, refl, ap, ap₂, sym, ◌∙◌, subst}
use mathlib.Core.List.{List, [], ◌∷◌, ◌++◌, append_assoc, append-nil}
use mathlib.Core.Bool.{Bool, false, ◌&&◌, and-false}
use mathlib.Core.Logic.{inl, inr}
use lib.ListN.{length, length-append}
use lib.Dec.{ltb, leb, eqb}
use borrow.Author.Tests.{ne_eqb, lt-leb, le-ltb}
use native.Mathlib.Omega.{arith}
use Rattle.rules.specs.Bounds.{most_turns}
use Rattle.rules.specs.Settings.{Settings}
use Rattle.rules.specs.Machines.{bytes}
use Rattle.rules.specs.Rule.{Got, ok, fault, Rule, ◌>>=◌, give, checked, feed, comma, is_digit, digits, number}
use Rattle.rules.specs.File.{decimal_in, decimal, ranged, items, turns, whole, file}
use Rattle.rules.specs.Calls.{Reading, refused_read, reading_of, reading}
use Rattle.rules.proofs.Store.{either, by_test}
use Rattle.laws.specs.Laws.{Separator, Judged}
use Rattle.laws.proofs.Exact.{not_ok, after-refuses, checked_refuses, same_number, Exact, exact_check, lit_refuses}
use Rattle.laws.proofs.Decimal.{first_digit, decimal_one, decimal_length, decimal_wider}
use Rattle.laws.proofs.Numbers.{IsSep, Number, number_text, exact_number, number_refuses, not_sep, number_fails, number_stops, room_behind, digits_none, digits_wrong}
use Rattle.laws.proofs.Names.{name_refuses}
use Rattle.laws.proofs.Turns.{bare, turns_items}
use Rattle.laws.proofs.Parts.{width, width_is, plain, Kept, of_body}
use Rattle.laws.proofs.RoundTrip.{exact_body, end_refuses}

-- ---- a test that a number has to pass

-- the separators that may end it, and the test, which no number of six digits or more passes
record Test : Type 0 where
  a : ℕ
  b : ℕ
  first : Separator a
  second : Separator b
  test : ℕ × ℕ → Bool
  fails : (v : ℕ × ℕ) → 10 ^ 5 ≤ v.0 → test v ≡ false

abbrev judge : ℕ → Test → Rule (ℕ × ℕ)
judge k t = checked k t.test (number t.a t.b)

-- r refuses s with k at p because of a number there
record Blame {A : Type 0} (r : Rule A) (s : List ℕ) (at k p : ℕ) : Type 0 where
  by : Test
  before : List ℕ
  value : ℕ × ℕ
  behind : List ℕ
  is : s ≡ before ++ (number_text value ++ behind)
  counts : Number by.a by.b value
  place : p ≡ at + length before
  -- other digits in its place are refused as the test says
  alike : (d : ℕ) (u : List ℕ) (j q : ℕ) → d < 10 → judge k by ((48 + d) ∷ u) p ≡ fault j q → r (before ++ (48 + d) ∷ u) at ≡ fault j q

abbrev Blames : {A : Type 0} → Rule A → Type 0
Blames r = (s : List ℕ) (at k p : ℕ) → 3 ≤ k → r s at ≡ fault k p → Blame r s at k p

-- a rule that gives neither 3, 4 nor 5
blame_none : {A : Type 0} {r : Rule A} → ((s : List ℕ) (at n p : ℕ) → r s at ≡ fault n p → n < 3) → Blames r
blame_none low s at k p h e = absurd (omega (arith, low s at k p e))

-- what blames the one rule blames the other, which reads l before it
moved : {A B : Type 0} {r : Rule A} {r' : Rule B} {s s' : List ℕ} {at at' k p : ℕ} (l : List ℕ) → s ≡ l ++ s' → at' ≡ at + length l
    → (x : Blame r' s' at' k p)
    → ((d : ℕ) (u : List ℕ) (j q : ℕ) → d < 10 → r' (x.before ++ (48 + d) ∷ u) at' ≡ fault j q → r (l ++ (x.before ++ (48 + d) ∷ u)) at ≡ fault j q)
    → Blame r s at k p
moved {r = r} {at = at} l c a x f = record {
  by = x.by;
  before = l ++ x.before;
  value = x.value;
  behind = x.behind;
  is = c ∙ ap (λ (t : List ℕ). l ++ t) x.is ∙ sym (append_assoc l x.before (number_text x.value ++ x.behind));
  counts = x.counts;
  place = omega (arith, x.place, length-append l x.before);
  alike = λ d u j q h e. rw (append_assoc l x.before ((48 + d) ∷ u)) (f d u j q h (x.alike d u j q h e));
}

-- one rule, and then another
module _ {A B : Type 0} {r : Rule A} {w : A → List ℕ} {P : A → Type 0} {f : A → Rule B} (er : Exact r w P) (br : Blames r) (bf : (a : A) → P a → Blames (f a)) where
  blame_then : Blames (◌>>=◌ r f)
  blame_then s at k p h e = after-refuses (r s at) f k p e first second
    where
      first : r s at ≡ fault k p → Blame (◌>>=◌ r f) s at k p
      first g = moved [] refl (omega arith) (br s at k p h g) (λ d u j q l c. rw c)

      second : (v : A) (s' : List ℕ) (at' : ℕ) → r s at ≡ ok v s' at' → f v s' at' ≡ fault k p → Blame (◌>>=◌ r f) s at k p
      second v s' at' g q =
          let x = er.was s at v s' at' g in
          let y : r s at ≡ ok v s' (at + length (w v)) = rw x.0 (er.reads v x.1 s' at) in
          let z : ok v s' at' ≡ ok v s' (at + length (w v)) = sym g ∙ y in
          let there : at' ≡ at + length (w v) = cc in
          moved (w v) x.0 there (bf v x.1 s' at' k p h q) (λ d u j o l c. rw (er.reads v x.1, ← there, c))

-- ---- the rules of a file

module _ (t : Test) where
  na : is_digit t.a ≡ false
  na = plain _ t.first

  nb : is_digit t.b ≡ false
  nb = plain _ t.second

  exact : Exact (number t.a t.b) number_text (Number t.a t.b)
  exact = exact_number t.a t.b na nb

-- a number that has to pass a test
blame_judge : (n : ℕ) (t : Test) → Blames (judge n t)
blame_judge n t s at k p h e =
    checked_refuses n t.test (number t.a t.b) s at k p e (λ g. absurd (omega (arith, number_refuses t.a t.b s at k p g)))
    (λ v s' at' g kn pat.
    let x = (exact t).was s at v s' at' g in
    record {
      by = t;
      before = [];
      value = v;
      behind = s';
      is = x.0;
      counts = x.1;
      place = omega arith;
      alike = λ d u j q l c. rw (← kn, ← pat) c;
    })

blame_give : {A : Type 0} (v : A) → Blames (give v)
blame_give v = blame_none (λ s at n p e. absurd (not_ok v s at n p e))

-- such a number, and then another rule
judge_then : {B : Type 0} {f : ℕ × ℕ → Rule B} (n : ℕ) (t : Test) → 0 < n → ((v : ℕ × ℕ) → Blames (f v)) → Blames (◌>>=◌ (judge n t) f)
judge_then n t z bf = blame_then (exact_check n t.test z (exact t)) (blame_judge n t) (λ v p. bf v)

-- a number from lo to hi
abbrev ranges : (x lo hi : ℕ) → Separator x → hi < 10 ^ 5 → Test
ranges x lo hi sx h = record {
  a = x;
  b = x;
  first = sx;
  second = sx;
  test = λ v. leb lo v.0 && leb v.0 hi;
  fails = λ v l. rw (lt-leb v.0 hi (omega arith)) (and-false (leb lo v.0));
}

blame_ranged : (x lo hi : ℕ) → Separator x → hi < 10 ^ 5 → Blames (ranged x lo hi)
blame_ranged x lo hi sx h = judge_then 3 (ranges x lo hi sx h) (omega arith) (λ v. blame_give v.0)

-- a turn that has to pass a test
abbrev turn : (test : ℕ × ℕ → Bool) → ((v : ℕ × ℕ) → 10 ^ 5 ≤ v.0 → test v ≡ false) → Test
turn test fails = record { a = comma; b = feed; first = inl refl; second = inr refl; test = test; fails = fails }

blame_items : (k procs : ℕ) (ts : List ℕ) → procs ≤ 10 ^ 5 → Blames (items k procs ts)
unfolding items
blame_items zero procs ts h = judge_then 5 (turn (λ v. false) (λ v l. refl)) (omega arith) (λ v. blame_give ts)
blame_items (suc k) procs ts h =
    judge_then 4 (turn (λ v. ltb v.0 procs) (λ v l. le-ltb v.0 procs (omega arith))) (omega arith)
    (λ v. either (λ (r : Rule (List ℕ)). Blames r) (eqb v.1 feed) _ _ (blame_give (ts ++ v.0 ∷ [])) (blame_items k procs (ts ++ v.0 ∷ []) h))

-- digits for a number leave a turn where one was
still_turn : (before s u : List ℕ) (d : ℕ) → d < 10 → bare (before ++ s) ≡ false → bare (before ++ (48 + d) ∷ u) ≡ false
still_turn [] s u d h e = ne_eqb (48 + d) feed (λ z. omega arith)
still_turn (x ∷ before) s u d h e = e

blame_turns : (procs : ℕ) → procs ≤ 10 ^ 5 → Blames (turns procs)
unfolding turns
blame_turns procs h [] at k p l e = absurd (omega (arith, same_number 1 at k p e))
blame_turns procs h (x ∷ s) at k p l e =
    by_test (λ (g : Got (List ℕ)). g ≡ fault k p → Blame (turns procs) (x ∷ s) at k p) (eqb x feed) _ _
    (λ t q. absurd (not_ok [] s (at + 1) k p q))
    (λ t q.
    let b = blame_items most_turns procs [] h (x ∷ s) at k p l q in
    let there : bare (b.before ++ (number_text b.value ++ b.behind)) ≡ false = rw (← b.is) t in
    moved [] refl (omega arith) b (λ d u j o m c. turns_items procs _ at (still_turn b.before _ u d m there) ∙ c))
    e

-- every part of a file
blaming : Kept (λ A c r. Blames r)
blaming = record {
  one_then = blame_then;
  of_give = blame_give;
  wider = λ h b. b;
  of_lit = λ bs. blame_none (λ s at n p e. omega (arith, lit_refuses bs s at n p e));
  of_name = blame_none name_refuses;
  of_ranged = λ x lo hi most sx h m. blame_ranged x lo hi sx (omega arith);
}

blame_file : Blames file
unfolding file whole
blame_file =
    blame_then exact_body (of_body blaming (λ procs h. blame_turns procs (omega arith)))
    (λ v p. blame_none (λ s at n p e. omega (arith, end_refuses v s at n p e)))

-- ---- what is refused in a number's place

module _ (k p : ℕ) (t : Test) where
  -- six to nine digits
  big : (n x : ℕ) (s : List ℕ) → 10 ^ 5 ≤ n → n < 10 ^ 9 → IsSep t.a t.b x → judge k t (decimal n ++ x ∷ s) p ≡ fault k p
  big n x s l h e = number_fails t.a t.b (na t) (nb t) k t.test n x s p (omega arith) e (t.fails (n, x) l)

  -- digits after which the number cannot go on
  stops : (n : ℕ) (s : List ℕ) → n < 10 ^ 9
      → digits t.a t.b (room_behind n) n s (p + length (decimal n)) ≡ fault 1 (p + length (decimal n))
      → judge k t (decimal n ++ s) p ≡ fault 1 (p + length (decimal n))
  stops n s h e = number_stops t.a t.b (na t) (nb t) k t.test n s p (omega arith) e

  -- a digit for which there is no room
  full : (n d : ℕ) (s : List ℕ) → n < 10 ^ 9 → d < 10 → room_behind n ≡ 0 → judge k t (decimal n ++ (48 + d) ∷ s) p ≡ fault 1 (p + length (decimal n))
  full n d s h l e = stops n ((48 + d) ∷ s) h (rw e (digits_wrong t.a t.b 0 n (48 + d) s _ (not_sep t.a t.b (na t) (nb t) d l) refl))

  cut : (n : ℕ) → n < 10 ^ 9 → judge k t (decimal n ++ []) p ≡ fault 1 (p + length (decimal n))
  cut n h = stops n [] h (digits_none t.a t.b (room_behind n) n _)

  wrong : (n x : ℕ) (s : List ℕ) → n < 10 ^ 9 → is_digit x ≡ false → ¬ (Separator x) → judge k t (decimal n ++ x ∷ s) p ≡ fault 1 (p + length (decimal n))
  wrong n x s h nx ns =
      stops n (x ∷ s) h
      (digits_wrong t.a t.b (room_behind n) n x s _ (rw (ne_eqb x t.a (apart _ t.first), ne_eqb x t.b (apart _ t.second)))
      (rw nx (and-false (ltb 0 (room_behind n)))))
    where
      apart : (y : ℕ) → Separator y → x ≡ y → ⊥
      apart y sy e = ns (subst Separator (sym e) sy)

-- a number of nine digits
pub nine : (n : ℕ) → 10 ^ 8 ≤ n → n < 10 ^ 9 → length (decimal n) ≡ 9
unfolding width decimal_in
nine n l h =
    let e : width (10 ^ 8) ≡ 9 = refl in
    omega (arith, width_is (10 ^ 8) (omega arith), decimal_wider (10 ^ 8) n l, decimal_length 8 n h)

-- ---- the law

module _ (bytes schedule : List ℕ) (k p : ℕ) (x : Blame file bytes 0 k p) where
  -- what the test refuses in the number's place, read refuses
  alike : (n : ℕ) (s : List ℕ) (j q : ℕ) → judge k x.by (decimal n ++ s) p ≡ fault j q
      → reading (x.before ++ (decimal n ++ s)) schedule ≡ refused_read j q schedule
  unfolding reading_of
  alike n s j q e =
      let f = first_digit n in
      let c : judge k x.by ((48 + f.digit) ∷ f.more ++ s) p ≡ fault j q = rw f.spelled at e in
      rw (f.spelled, x.alike f.digit (f.more ++ s) j q f.small c)

  from_blame : Judged bytes schedule k p
  from_blame = record {
    before = x.before;
    value = x.value.0;
    separator = x.value.1;
    behind = x.behind;
    is = x.is ∙ rw (append_assoc (decimal x.value.0) (x.value.1 ∷ []) x.behind);
    at_first_digit = omega (arith, x.place);
    separates = among x.value.1 x.counts.1;
    up_to_nine = omega (arith, x.counts.0);
    too_big = λ n s l h. alike n _ k p (big k p x.by n _ s l (omega arith) x.counts.1);
    tenth_digit = λ n d s l h m.
        let e = nine n l h in
        alike n _ 1 _ (full k p x.by n d s h m (rw (ne_eqb n 0 (λ z. omega arith), e)))
        ∙ ap (λ (q : ℕ). refused_read 1 q schedule) (omega arith);
    leading_zero = λ d s m. rw (decimal_one 0 (omega arith)) at (alike 0 ((48 + d) ∷ s) 1 _ (full k p x.by 0 d s (omega arith) m refl));
    ends = λ n h. rw (append-nil (decimal n)) at (alike n [] 1 _ (cut k p x.by n h));
    goes_wrong = λ n y s h ny ns. alike n _ 1 _ (wrong k p x.by n y s h ny ns);
  }
    where
      among : (y : ℕ) → IsSep x.by.a x.by.b y → Separator y
      among y (inl e) = subst Separator (sym e) x.by.first
      among y (inr e) = subst Separator (sym e) x.by.second

-- what a refusal of read with 3, 4 or 5 says of the file
pub refused_file : (bytes schedule : List ℕ) (number place : ℕ) → 3 ≤ number → number ≤ 5
    → reading bytes schedule ≡ refused_read number place schedule → file bytes 0 ≡ fault number place
unfolding reading_of
refused_file bytes schedule number place lo hi = go (file bytes 0)
  where
    go : (g : Got (Settings × List ℕ)) → reading_of g schedule ≡ refused_read number place schedule → g ≡ fault number place
    go (ok v s at) q =
        absurd (either (λ (r : Reading). r ≡ refused_read number place schedule → ⊥) (leb (length v.1) (length schedule)) _ _
        (λ r. omega (arith, ap (λ (a : Reading). a.answer.number) r))
        (λ r. omega (arith, ap (λ (a : Reading). a.answer.number) r))
        q)
    go (fault n p) q = ap₂ (λ (i j : ℕ). fault i j) (ap (λ (a : Reading). a.answer.number) q) (ap (λ (a : Reading). a.answer.place) q)

pub judged : (bytes schedule : List ℕ) (number place : ℕ) → 3 ≤ number → number ≤ 5
    → reading bytes schedule ≡ refused_read number place schedule → Judged bytes schedule number place
judged bytes schedule number place lo hi e =
    from_blame bytes schedule number place (blame_file bytes 0 number place lo (refused_file bytes schedule number place lo hi e))
