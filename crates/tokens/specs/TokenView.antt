-- What is read from a place on, as the rules' rules have it: the value, what is left of the file and the place of that; or the number of refusal and its place.
use Rattle.std.specs.Prelude.{ℕ, Result, Ok, Err}
use Rattle.rules.specs.Rule.{Got, ok, fault}
use Rattle.settings.specs.Numbers.{refusal_number}
use Rattle.tokens.specs.declared.fault.Fault.{Fault}
use Rattle.tokens.specs.declared.numbers.Numeral.{Numeral}
use Rattle.tokens.specs.declared.place.Place.{Place}

-- a value that f gives the rules' value of, and the place after it
abbrev pub got_of : {T A : Type 0} → (T → A) → Result (T × Place) Fault → Got A
got_of f (Ok v) = ok (f v.0) v.1.rest.now v.1.at
got_of f (Err e) = fault (refusal_number e.refusal) e.place

-- the place after what has no value
abbrev pub place_of : Result Place Fault → Got (Unit {0})
place_of (Ok p) = ok tt p.rest.now p.at
place_of (Err e) = fault (refusal_number e.refusal) e.place

abbrev pub numeral_of : Numeral → ℕ × ℕ
numeral_of n = (n.value, n.separator)
