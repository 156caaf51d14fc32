-- What is read at a place has one outcome: the promises name the value, the bytes that are left and their place, or the fault, and leave no choice.
use Rattle.std.proofs.Common.{◌≡◌, ℕ, Result, Ok, Err, sym, ◌∙◌}
use Rattle.rules.specs.Rule.{Got, fault}
use Rattle.settings.specs.Numbers.{refusal_number}
use Rattle.settings.proofs.Outcome.{same_refusal}
use Rattle.tokens.specs.declared.fault.Fault.{Fault}
use Rattle.tokens.specs.declared.numbers.Numeral.{Numeral}
use Rattle.tokens.specs.declared.place.Place.{Place}
use Rattle.tokens.specs.TokenView.{got_of, place_of, numeral_of}

-- two places are the same but for where in memory the bytes are
abbrev pub SamePlace : Place → Place → Type 0
SamePlace p q = (p.rest.now ≡ q.rest.now) × (p.at ≡ q.at)

abbrev pub Same : {T : Type 0} → (T → T → Type 0) → Result T Fault → Result T Fault → Type 0
Same S (Ok v) (Ok w) = S v w
Same S (Ok v) (Err e) = ⊥
Same S (Err e) (Ok v) = ⊥
Same S (Err e) (Err d) = e ≡ d

pub one_fault : {A : Type 0} (e d : Fault) → ◌≡◌ {A = Got A} (fault (refusal_number e.refusal) e.place) (fault (refusal_number d.refusal) d.place) → e ≡ d
one_fault e d h =
    let f : refusal_number e.refusal ≡ refusal_number d.refusal = cc in
    let k : e.place ≡ d.place = cc in
    let r = same_refusal e.refusal d.refusal f in
    λ i. record { refusal = r i; place = k i }

-- `label` and `end`
pub one_place : (g : Got (Unit {0})) (r q : Result Place Fault) → place_of r ≡ g → place_of q ≡ g → Same SamePlace r q
one_place g (Ok p) (Ok q) x y = let e = x ∙ sym y in (cc, cc)
one_place g (Ok p) (Err d) x y = let e = x ∙ sym y in cc
one_place g (Err e) (Ok q) x y = let e = x ∙ sym y in cc
one_place g (Err e) (Err d) x y = one_fault e d (x ∙ sym y)

-- `name`, `number`, `ranged` and `field`, whose values f tells apart
pub one_value : {T A : Type 0} (f : T → A) → ((v w : T) → f v ≡ f w → v ≡ w) → (g : Got A) (r q : Result (T × Place) Fault) → got_of f r ≡ g → got_of f q ≡ g
    → Same (λ v w. (v.0 ≡ w.0) × SamePlace v.1 w.1) r q
one_value f t g (Ok v) (Ok w) x y = let e = x ∙ sym y in (t v.0 w.0 cc, (cc, cc))
one_value f t g (Ok v) (Err d) x y = let e = x ∙ sym y in cc
one_value f t g (Err e) (Ok w) x y = let e = x ∙ sym y in cc
one_value f t g (Err e) (Err d) x y = one_fault e d (x ∙ sym y)

-- `number`: its value and its separator are the numeral
same_numeral : (v w : Numeral) → numeral_of v ≡ numeral_of w → v ≡ w
same_numeral v w e = λ i. record { value = (e i).0; separator = (e i).1 }

pub one_numeral : (g : Got (ℕ × ℕ)) (r q : Result (Numeral × Place) Fault) → got_of numeral_of r ≡ g → got_of numeral_of q ≡ g
    → Same (λ v w. (v.0 ≡ w.0) × SamePlace v.1 w.1) r q
one_numeral = one_value numeral_of same_numeral
