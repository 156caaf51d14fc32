-- How far a rule looks. An accepted value spends at most c bytes, and no answer goes by a byte that is more than a number and its separator past them.
use Prim.Native.Nat.{ℕ, zero, suc, ◌+◌, ◌-◌, ◌*◌, ◌^◌, ◌≤◌, ◌<◌}
use mathlib.Core.Path.{◌≡◌, refl, ap}
use mathlib.Core.List.{List, [], ◌∷◌, ◌++◌}
use mathlib.Core.Bool.{Bool, true, false, ◌&&◌, ◌||◌}
use lib.ListN.{length, length-append}
use lib.Dec.{ltb, leb, eqb}
use borrow.Author.Tests.{ltb-true}
use native.Mathlib.Nat.{suc-mul}
use native.Mathlib.Omega.{arith}
use Rattle.rules.specs.Memory.{pick}
use Rattle.rules.specs.Bounds.{most_procs, most_turns, most_letters, most_digits}
use Rattle.rules.specs.Machines.{named, known}
use Rattle.rules.specs.Rule.{Got, ok, fault, Rule, after, ◌>>=◌, give, checked, feed, comma, is_digit, is_lower, lit, letters, word, digits, number}
use Rattle.rules.specs.File.{name, ranged, items, turns}
use Rattle.rules.proofs.Store.{by_test, either, left_of, false_true}
use Rattle.laws.specs.Laws.{Separator}
use Rattle.laws.proofs.Exact.{on-after, Exact, exact_lit}
use Rattle.laws.proofs.Numbers.{room_after, room_fits}
use Rattle.laws.proofs.Names.{longest_name, name_length, exact_name}
use Rattle.laws.proofs.Whole.{exact_ranged}
use Rattle.laws.proofs.Turns.{exact_item}
use Rattle.laws.proofs.Parts.{width, width_most, turn_most, plain, Kept}

-- a number and its separator
abbrev pub slack : ℕ
slack = most_digits + 1

-- the answer where there are more bytes at the end
abbrev pub extend : {A : Type 0} → List ℕ → Got A → Got A
extend more (ok v left at) = ok v (left ++ more) at
extend more (fault n p) = fault n p

-- it goes by the first m bytes
pub record Cuts {A : Type 0} (m : ℕ) (r : Rule A) : Type 0 where
  pub same : (left more : List ℕ) (at : ℕ) → m ≤ length left → r (left ++ more) at ≡ extend more (r left at)

pub record Near {A : Type 0} (c : ℕ) (r : Rule A) : Type 0 where
  pub spends : (left : List ℕ) (at : ℕ) (v : A) (left' : List ℕ) (at' : ℕ) → r left at ≡ ok v left' at' → length left ≤ c + length left'
  pub cuts : Cuts (c + slack) r

-- ---- rules put together

-- the second rule may go by what the first one's value is known to be
module _ {A B : Type 0} {r : Rule A} {w : A → List ℕ} {P : A → Type 0} {f : A → Rule B} {c d : ℕ}
    (er : Exact r w P) (nr : Near c r) (nf : (a : A) → P a → Near d (f a)) where
  then_cuts : (left more : List ℕ) (at : ℕ) → c + d + slack ≤ length left → ◌>>=◌ r f (left ++ more) at ≡ extend more (◌>>=◌ r f left at)
  then_cuts left more at h = rw (nr.cuts.same left more at (omega arith)) (go (r left at) refl)
    where
      go : (g : Got A) → r left at ≡ g → after (extend more g) f ≡ extend more (after g f)
      go (ok a left' at') e = (nf a (er.was left at a left' at' e).1).cuts.same left' more at' (omega (arith, nr.spends left at a left' at' e))
      go (fault n p) e = refl

  near_then : Near (c + d) (◌>>=◌ r f)
  near_then = record {
    spends = λ left at b left'' at'' e.
        on-after b left'' at'' (r left at) f e
        (λ a left' at' g h. omega (arith, nr.spends left at a left' at' g, (nf a (er.was left at a left' at' g).1).spends left' at' b left'' at'' h));
    cuts = record { same = then_cuts };
  }

near_give : {A : Type 0} (v : A) → Near 0 (give v)
near_give v = record {
  spends = λ left at w left' at' e. let z : left ≡ left' = cc in omega (arith, ap length z);
  cuts = record { same = λ left more at h. refl };
}

cuts_as : {A : Type 0} {r : Rule A} {m k : ℕ} → m ≤ k → Cuts m r → Cuts k r
cuts_as h c = record { same = λ left more at l. c.same left more at (omega arith) }

pub near_as : {A : Type 0} {r : Rule A} {c d : ℕ} → c ≤ d → Near c r → Near d r
near_as h n = record { spends = λ left at v left' at' e. omega (arith, n.spends left at v left' at' e); cuts = cuts_as (omega arith) n.cuts }

-- where the texts have at most c bytes
near_exact : {A : Type 0} {r : Rule A} {w : A → List ℕ} {P : A → Type 0} {c : ℕ}
    → Exact r w P → ((v : A) → P v → length (w v) ≤ c) → Cuts (c + slack) r → Near c r
near_exact {w = w} er h k = record {
  spends = λ left at v left' at' e. let x = er.was left at v left' at' e in omega (arith, ap length x.0, length-append (w v) left', h v x.1);
  cuts = k;
}

-- of two answers
cuts_pick : {A : Type 0} (b : Bool) (more : List ℕ) (g h g' h' : Got A)
    → (b ≡ true → g' ≡ extend more g) → h' ≡ extend more h → pick b g' h' ≡ extend more (pick b g h)
cuts_pick true more g h g' h' p q = p refl
cuts_pick false more g h g' h' p q = q

cuts_check : {A : Type 0} {r : Rule A} {m : ℕ} (n : ℕ) (test : A → Bool) → Cuts m r → Cuts m (checked n test r)
cuts_check {A} {r} n test k = record { same = λ left more at h. rw (k.same left more at h) (go more at (r left at)) }
  where
    judge : ℕ → A → Rule A
    judge at v s at' = pick (test v) (ok v s at') (fault n at)

    go : (more : List ℕ) (at : ℕ) (g : Got A) → after (extend more g) (judge at) ≡ extend more (after g (judge at))
    go more at (ok v s at') = cuts_pick (test v) more _ _ _ _ (λ t. refl) refl
    go more at (fault m p) = refl

cuts_map : {A B : Type 0} {r : Rule A} {m : ℕ} (f : A → B) → Cuts m r → Cuts m (◌>>=◌ r (λ v. give (f v)))
cuts_map {A} {B} {r} f k = record { same = λ left more at h. rw (k.same left more at h) (go more (r left at)) }
  where
    go : (more : List ℕ) (g : Got A) → after (extend more g) (λ v. give (f v)) ≡ extend more (after g (λ v. give (f v)))
    go more (ok v s at') = refl
    go more (fault m p) = refl

-- ---- bytes

lit_same : (bs left more : List ℕ) (at : ℕ) → length bs ≤ length left → lit bs (left ++ more) at ≡ extend more (lit bs left at)
unfolding lit
lit_same [] left more at h = refl
lit_same (b ∷ bs) [] more at h = absurd (omega arith)
lit_same (b ∷ bs) (x ∷ left) more at h = cuts_pick (eqb x b) more _ _ _ _ (λ t. lit_same bs left more (at + 1) (omega arith)) refl

cuts_lit : (bs : List ℕ) → Cuts (length bs) (lit bs)
cuts_lit bs = record { same = lit_same bs }

near_lit : (bs : List ℕ) → Near (length bs) (lit bs)
near_lit bs = near_exact (exact_lit bs) (λ v p. omega arith) (cuts_as (omega arith) (cuts_lit bs))

letters_same : (k : ℕ) (w left more : List ℕ) (at : ℕ) → k + 1 ≤ length left → letters k w (left ++ more) at ≡ extend more (letters k w left at)
unfolding letters
letters_same k w [] more at h = absurd (omega arith)
letters_same k w (x ∷ left) more at h =
    cuts_pick (eqb x feed) more _ _ _ _ (λ t. refl)
    (cuts_pick (ltb 0 k && is_lower x) more _ _ _ _
    (λ t. letters_same (k - 1) (w ++ x ∷ []) left more (at + 1) (omega (arith, ltb-true 0 k (left_of (ltb 0 k) (is_lower x) t)))) refl)

word_same : (left more : List ℕ) (at : ℕ) → most_letters + 1 ≤ length left → word (left ++ more) at ≡ extend more (word left at)
unfolding word
word_same [] more at h = absurd (omega arith)
word_same (x ∷ left) more at h = cuts_pick (is_lower x) more _ _ _ _ (λ t. letters_same (most_letters - 1) (x ∷ []) left more (at + 1) (omega arith)) refl

cuts_word : Cuts (most_letters + 1) word
cuts_word = record { same = word_same }

digits_same : (a b k n : ℕ) (left more : List ℕ) (at : ℕ) → k + 1 ≤ length left → digits a b k n (left ++ more) at ≡ extend more (digits a b k n left at)
unfolding digits
digits_same a b k n [] more at h = absurd (omega arith)
digits_same a b k n (x ∷ left) more at h =
    cuts_pick (eqb x a || eqb x b) more _ _ _ _ (λ t. refl)
    (cuts_pick (ltb 0 k && is_digit x) more _ _ _ _
    (λ t. digits_same a b (k - 1) (n * 10 + (x - 48)) left more (at + 1) (omega (arith, ltb-true 0 k (left_of (ltb 0 k) (is_digit x) t)))) refl)

number_same : (a b : ℕ) (left more : List ℕ) (at : ℕ) → slack ≤ length left → number a b (left ++ more) at ≡ extend more (number a b left at)
unfolding number
number_same a b [] more at h = absurd (omega arith)
number_same a b (x ∷ left) more at h =
    cuts_pick (is_digit x) more _ _ _ _ (λ t. digits_same a b (room_after x) (x - 48) left more (at + 1) (omega (arith, room_fits x))) refl

cuts_number : (a b : ℕ) → Cuts slack (number a b)
cuts_number a b = record { same = number_same a b }

-- ---- a name, a number in its range

near_name : Near (longest_name + 1) name
near_name =
    near_exact exact_name (λ m k. simp length-append (omega (arith, name_length m k)))
    (cuts_as (omega arith) (cuts_map (λ w. (named w).number) (cuts_check 2 (λ w. known (named w)) cuts_word)))

-- a number from lo to hi, where hi is at most `most`
near_ranged : (x lo hi most : ℕ) → Separator x → hi ≤ most → most < 10 ^ 5 → Near (width most + 1) (ranged x lo hi)
near_ranged x lo hi most sx h m =
    near_exact (exact_ranged x lo hi (plain x sx) (omega arith)) (λ n p. simp length-append (omega (arith, width_most n most (omega (arith, p.1)) (omega arith))))
    (cuts_as (omega arith) (cuts_map (λ v. v.0) (cuts_check 3 (λ v. leb lo v.0 && leb v.0 hi) (cuts_number x x))))

-- ---- turns

near_turn : (procs : ℕ) → procs ≤ most_procs → Near turn_most (checked 4 (λ v. ltb v.0 procs) (number comma feed))
near_turn procs h =
    near_exact (exact_item 4 (λ v. ltb v.0 procs) (omega arith))
    (λ v p. simp length-append (omega (arith, width_most v.0 (most_procs - 1) (omega (arith, ltb-true v.0 procs p.1)) (omega arith))))
    (cuts_as (omega arith) (cuts_check 4 (λ v. ltb v.0 procs) (cuts_number comma feed)))

near_items : (k procs : ℕ) (ts : List ℕ) → procs ≤ most_procs → Near (k * turn_most) (items k procs ts)
unfolding items
near_items zero procs ts h = record {
  spends = λ left at us left' at' e.
      on-after us left' at' (checked 5 (λ v. false) (number comma feed) left at) _ e
      (λ v s at'' f g. absurd (false_true ((exact_item 5 (λ v. false) (omega arith)).was left at v s at'' f).1.1));
  cuts = cuts_as (omega arith) (cuts_map (λ v. ts) (cuts_check 5 (λ v. false) (cuts_number comma feed)));
}
near_items (suc k) procs ts h =
    near_as (omega (arith, suc-mul k turn_most))
    (near_then (exact_item 4 (λ v. ltb v.0 procs) (omega arith)) (near_turn procs h)
    (λ v p.
    either (λ (r : Rule (List ℕ)). Near (k * turn_most) r) (eqb v.1 feed) _ _ (near_as (omega arith) (near_give (ts ++ v.0 ∷ [])))
    (near_items k procs (ts ++ v.0 ∷ []) h)))

pub near_turns : (procs : ℕ) → procs ≤ most_procs → Near (most_turns * turn_most) (turns procs)
unfolding turns
near_turns procs h = record { spends = spends; cuts = record { same = cuts } }
  where
    spends : (left : List ℕ) (at : ℕ) (ts left' : List ℕ) (at' : ℕ) → turns procs left at ≡ ok ts left' at' → length left ≤ most_turns * turn_most + length left'
    spends [] at ts left' at' e = omega arith
    spends (x ∷ left) at ts left' at' e =
        by_test (λ (g : Got (List ℕ)). g ≡ ok ts left' at' → length (x ∷ left) ≤ most_turns * turn_most + length left') (eqb x feed) _ _
        (λ t q. let z : left ≡ left' = cc in omega (arith, ap length z))
        (λ t q. (near_items most_turns procs [] h).spends (x ∷ left) at ts left' at' q)
        e

    cuts : (left more : List ℕ) (at : ℕ) → most_turns * turn_most + slack ≤ length left → turns procs (left ++ more) at ≡ extend more (turns procs left at)
    cuts [] more at l = absurd (omega arith)
    cuts (x ∷ left) more at l = cuts_pick (eqb x feed) more _ _ _ _ (λ t. refl) ((near_items most_turns procs [] h).cuts.same (x ∷ left) more at l)

-- ---- every part of a file

pub near : Kept (λ A c r. Near c r)
near = record {
  one_then = near_then;
  of_give = near_give;
  wider = near_as;
  of_lit = near_lit;
  of_name = near_name;
  of_ranged = near_ranged;
}
