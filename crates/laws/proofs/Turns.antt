-- The turns: they are read exactly where they are written.
use Prim.Native.Nat.{ℕ, zero, suc, ◌+◌, ◌-◌, ◌^◌, ◌≤◌, ◌<◌}
use mathlib.Core.Path.{◌≡◌, refl, sym, ◌∙◌}
use mathlib.Core.List.{List, [], ◌∷◌, ◌++◌, append_assoc}
use mathlib.Core.Bool.{Bool, true, false}
use mathlib.Core.Logic.{◌⊎◌, inl, inr}
use lib.ListN.{length, length-append}
use lib.Dec.{ltb, eqb}
use borrow.Author.Tests.{ne_eqb, eqb-true, eqb-false, lt-ltb, ltb-true}
use native.Mathlib.Omega.{arith}
use Rattle.rules.specs.Memory.{pick}
use Rattle.rules.specs.Bounds.{most_turns, most_digits}
use Rattle.rules.specs.Rule.{Got, ok, fault, Rule, give, feed, comma, checked, number}
use Rattle.rules.specs.File.{decimal, items, turns, turns_text}
use Rattle.rules.proofs.Store.{by_test, false_true}
use Rattle.rules.proofs.Accepted.{Below}
use Rattle.laws.proofs.Exact.{not_fault, not_ok, on-after, pick_refuses, after-refuses, checked_refuses, same_number, Exact, exact_check}
use Rattle.laws.proofs.Decimal.{first_digit}
use Rattle.laws.proofs.Numbers.{IsSep, Number, number_text, number_refuses, exact_number}

-- a number of the schedule, and its separator, where the number passes a test
pub exact_item : (n : ℕ) (test : ℕ × ℕ → Bool) → 0 < n → Exact (checked n test (number comma feed)) number_text (λ v. Number comma feed v × (test v ≡ true))
exact_item n test z = exact_check n test z (exact_number comma feed refl refl)

abbrev turn : ℕ → ℕ × ℕ → Bool
turn procs v = ltb v.0 procs

exact_turn : (procs : ℕ) → Exact (checked 4 (turn procs) (number comma feed)) number_text (λ v. Number comma feed v × (turn procs v ≡ true))
exact_turn procs = exact_item 4 (turn procs) (omega arith)

-- ---- what is read

turn_reads : (procs t x : ℕ) (s : List ℕ) (at : ℕ) → procs ≤ 10 ^ most_digits → t < procs → IsSep comma feed x
    → checked 4 (turn procs) (number comma feed) (decimal t ++ x ∷ s) at ≡ ok (t, x) s (at + (length (decimal t) + 1))
turn_reads procs t x s at hp h p =
    rw (append_assoc (decimal t) (x ∷ []) s, length-append (decimal t) (x ∷ [])) at
    ((exact_turn procs).reads (t, x) ((omega arith, p), lt-ltb t procs h) s at)

-- the turns' text without its line feed
unfoldable pub listed : List ℕ → List ℕ
listed [] = []
listed (t ∷ []) = decimal t
listed (t ∷ u ∷ ts) = decimal t ++ comma ∷ listed (u ∷ ts)

pub listed_feed : (ts : List ℕ) → turns_text ts ≡ listed ts ++ feed ∷ []
unfolding turns_text listed
listed_feed [] = refl
listed_feed (t ∷ []) = refl
listed_feed (t ∷ u ∷ ts) = rw (listed_feed (u ∷ ts)) (simp append_assoc)

-- after these turns and x: with a line feed they were all, with a comma there are more
items_go : (k procs : ℕ) (ts : List ℕ) (t : ℕ) (us : List ℕ) (x : ℕ) → procs ≤ 10 ^ most_digits → Below procs (t ∷ us) → length (t ∷ us) ≤ k → IsSep comma feed x
    → (s : List ℕ) (at : ℕ) → items k procs ts (listed (t ∷ us) ++ x ∷ s) at
    ≡ pick (eqb x feed) (give (ts ++ t ∷ us)) (items (k - length (t ∷ us)) procs (ts ++ t ∷ us)) s (at + (length (listed (t ∷ us)) + 1))
unfolding items listed
items_go zero procs ts t us x hp b c e s at = absurd (omega arith)
items_go (suc k) procs ts t [] x hp b c e s at = let z : suc k - 1 ≡ k = omega arith in rw (turn_reads procs t x s at hp b.0 e, z)
items_go (suc k) procs ts t (u ∷ us) x hp b c e s at =
    let z : suc k - length (t ∷ u ∷ us) ≡ k - length (u ∷ us) = omega arith in
    let place : at + (length (decimal t ++ comma ∷ listed (u ∷ us)) + 1) ≡ at + (length (decimal t) + 1) + (length (listed (u ∷ us)) + 1) =
    simp length-append (omega arith)
    in
    rw (
      z,
      place,
      append_assoc (decimal t) (comma ∷ listed (u ∷ us)) (x ∷ s),
      turn_reads procs t comma (listed (u ∷ us) ++ x ∷ s) at hp b.0 (inl refl),
      items_go k procs (ts ++ t ∷ []) u us x hp b.1 (omega arith) e s (at + (length (decimal t) + 1)),
      append_assoc ts (t ∷ []) (u ∷ us),
    )

-- ---- what was read

-- us is ts and then those that were read from s
record Items (k procs : ℕ) (ts us s s' : List ℕ) : Type 0 where
  head : ℕ
  tail : List ℕ
  whole : us ≡ ts ++ head ∷ tail
  cut : s ≡ turns_text (head ∷ tail) ++ s'
  below : Below procs (head ∷ tail)
  few : length (head ∷ tail) ≤ k

sep_comma : (x : ℕ) → IsSep comma feed x → (x ≡ feed → ⊥) → x ≡ comma
sep_comma x (inl e) n = e
sep_comma x (inr e) n = absurd (n e)

module _ (k procs : ℕ) (ts us s s'' s' : List ℕ) (v : ℕ × ℕ) (c : s ≡ number_text v ++ s'') (l : v.0 < procs) where
  item_last : v.1 ≡ feed → ts ++ v.0 ∷ [] ≡ us → s'' ≡ s' → Items (suc k) procs ts us s s'
  unfolding turns_text
  item_last x w e = record { head = v.0; tail = []; whole = sym w; cut = rw (← x, ← e) c; below = (l, tt); few = omega arith }

  item_more : v.1 ≡ comma → Items k procs (ts ++ v.0 ∷ []) us s'' s' → Items (suc k) procs ts us s s'
  unfolding turns_text
  item_more x i = record {
    head = v.0;
    tail = i.head ∷ i.tail;
    whole = i.whole ∙ append_assoc ts (v.0 ∷ []) (i.head ∷ i.tail);
    cut = c ∙ rw (x, i.cut) (sym (append_assoc (decimal v.0 ++ comma ∷ []) (turns_text (i.head ∷ i.tail)) s'));
    below = (l, i.below);
    few = omega (arith, i.few);
  }

items_was : (k procs : ℕ) (ts s : List ℕ) (at : ℕ) (us s' : List ℕ) (at' : ℕ) → items k procs ts s at ≡ ok us s' at' → Items k procs ts us s s'
unfolding items
items_was zero procs ts s at us s' at' e =
    on-after us s' at' (checked 5 (λ v. false) (number comma feed) s at) _ e
    (λ v s'' at'' f g. absurd (false_true ((exact_item 5 (λ v. false) (omega arith)).was s at v s'' at'' f).1.1))
items_was (suc k) procs ts s at us s' at' e =
    on-after us s' at' (checked 4 (turn procs) (number comma feed) s at) _ e
    (λ v s'' at'' f g.
    let x = (exact_turn procs).was s at v s'' at'' f in
    let l = ltb-true v.0 procs x.1.1 in
    by_test (λ (r : Rule (List ℕ)). r s'' at'' ≡ ok us s' at' → Items (suc k) procs ts us s s') (eqb v.1 feed) _ _
    (λ t q. item_last k procs ts us s s'' s' v x.0 l (eqb-true _ _ t) (cc) (cc))
    (λ t q.
    item_more k procs ts us s s'' s' v x.0 l (sep_comma v.1 x.1.0.1 (eqb-false _ _ t)) (items_was k procs (ts ++ v.0 ∷ []) s'' at'' us s' at' q))
    g)

-- a refusal of a turn is 1, 4 or 5
abbrev pub OfTurns : ℕ → Type 0
OfTurns n = (n ≡ 1) ⊎ (4 ≤ n)

item_refuses : (m : ℕ) (test : ℕ × ℕ → Bool) (s : List ℕ) (at n p : ℕ) → 4 ≤ m → checked m test (number comma feed) s at ≡ fault n p → OfTurns n
item_refuses m test s at n p h e =
    checked_refuses m test (number comma feed) s at n p e (λ g. inl (number_refuses comma feed s at n p g)) (λ v s' at' g q o. inr (omega arith))

items_refuses : (k procs : ℕ) (ts s : List ℕ) (at n p : ℕ) → items k procs ts s at ≡ fault n p → OfTurns n
unfolding items
items_refuses zero procs ts s at n p e =
    after-refuses (checked 5 (λ v. false) (number comma feed) s at) _ n p e (item_refuses 5 (λ v. false) s at n p (omega arith))
    (λ v s' at' h q. absurd (not_ok ts s' at' n p q))
items_refuses (suc k) procs ts s at n p e =
    after-refuses (checked 4 (turn procs) (number comma feed) s at) _ n p e (item_refuses 4 (turn procs) s at n p (omega arith))
    (λ v s' at' h q.
    by_test (λ (r : Rule (List ℕ)). r s' at' ≡ fault n p → OfTurns n) (eqb v.1 feed) _ _ (λ t g. absurd (not_ok (ts ++ v.0 ∷ []) s' at' n p g))
    (λ t g. items_refuses k procs (ts ++ v.0 ∷ []) s' at' n p g)
    q)

-- ---- the turns' line

abbrev pub Turns : ℕ → List ℕ → Type 0
Turns procs ts = Below procs ts × (length ts ≤ most_turns)

from_items : (procs : ℕ) (ts s s' : List ℕ) → Items most_turns procs [] ts s s' → (s ≡ turns_text ts ++ s') × Turns procs ts
from_items procs ts s s' i = rw i.whole (i.cut, (i.below, i.few))

no_turns : (procs x : ℕ) (ts s s' : List ℕ) → x ≡ feed → ts ≡ [] → s ≡ s' → (x ∷ s ≡ turns_text ts ++ s') × Turns procs ts
unfolding turns_text
no_turns procs x ts s s' e f g = rw (e, f, g) (refl, (tt, omega arith))

-- nothing, or a line feed: no turn starts here
abbrev pub bare : List ℕ → Bool
bare [] = true
bare (x ∷ s) = eqb x feed

pub turns_items : (procs : ℕ) (s : List ℕ) (at : ℕ) → bare s ≡ false → turns procs s at ≡ items most_turns procs [] s at
unfolding turns
turns_items procs [] at e = absurd (false_true (sym e))
turns_items procs (x ∷ s) at e = rw e

pub digit_not_bare : (t : ℕ) (s : List ℕ) → bare (decimal t ++ s) ≡ false
digit_not_bare t s = let f = first_digit t in rw f.spelled (ne_eqb (48 + f.digit) feed (λ e. omega arith))

listed_not_bare : (t : ℕ) (us s : List ℕ) → bare (listed (t ∷ us) ++ s) ≡ false
unfolding listed
listed_not_bare t [] s = digit_not_bare t s
listed_not_bare t (u ∷ us) s = rw (append_assoc (decimal t) (comma ∷ listed (u ∷ us)) s) (digit_not_bare t _)

pub turns_refuses : (procs : ℕ) (s : List ℕ) (at n p : ℕ) → turns procs s at ≡ fault n p → OfTurns n
unfolding turns
turns_refuses procs [] at n p e = inl (same_number 1 at n p e)
turns_refuses procs (x ∷ s) at n p e =
    pick_refuses (eqb x feed) _ _ n p e (λ q. absurd (not_ok [] s (at + 1) n p q)) (λ q. items_refuses most_turns procs [] (x ∷ s) at n p q)

module _ (procs : ℕ) (hp : procs ≤ 10 ^ most_digits) where
  pub turns_go : (t : ℕ) (us : List ℕ) (x : ℕ) → Turns procs (t ∷ us) → IsSep comma feed x → (s : List ℕ) (at : ℕ) → turns procs (listed (t ∷ us) ++ x ∷ s) at
      ≡ pick (eqb x feed) (give (t ∷ us)) (items (most_turns - length (t ∷ us)) procs (t ∷ us)) s (at + (length (listed (t ∷ us)) + 1))
  turns_go t us x h e s at = turns_items procs _ at (listed_not_bare t us (x ∷ s)) ∙ items_go most_turns procs [] t us x hp h.0 h.1 e s at

  turns_reads : (ts : List ℕ) → Turns procs ts → (s : List ℕ) (at : ℕ) → turns procs (turns_text ts ++ s) at ≡ ok ts s (at + length (turns_text ts))
  unfolding turns turns_text
  turns_reads [] h s at = refl
  turns_reads (t ∷ ts) h s at =
      rw (listed_feed (t ∷ ts), append_assoc (listed (t ∷ ts)) (feed ∷ []) s, length-append (listed (t ∷ ts)) (feed ∷ [])) (turns_go t ts feed h (inr refl) s at)

  turns_was : (s : List ℕ) (at : ℕ) (ts s' : List ℕ) (at' : ℕ) → turns procs s at ≡ ok ts s' at' → (s ≡ turns_text ts ++ s') × Turns procs ts
  unfolding turns turns_text
  turns_was [] at ts s' at' e = absurd (not_fault ts s' at' 1 at e)
  turns_was (x ∷ s) at ts s' at' e =
      by_test (λ (g : Got (List ℕ)). g ≡ ok ts s' at' → (x ∷ s ≡ turns_text ts ++ s') × Turns procs ts) (eqb x feed) _ _
      (λ t q. no_turns procs x ts s s' (eqb-true x feed t) (cc) (cc))
      (λ t q. from_items procs ts (x ∷ s) s' (items_was most_turns procs [] (x ∷ s) at ts s' at' q))
      e

  pub exact_turns : Exact (turns procs) turns_text (Turns procs)
  exact_turns = record { reads = turns_reads; was = turns_was; refuses = λ s at n p e. positive n (turns_refuses procs s at n p e) }
    where
      positive : (n : ℕ) → OfTurns n → 0 < n
      positive n (inl e) = omega arith
      positive n (inr h) = omega arith
