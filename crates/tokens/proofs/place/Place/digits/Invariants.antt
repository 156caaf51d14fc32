-- `tokens::place::Place::digits` meets its contract. The loop keeps: the whole is what is left after the digits so far.
use Rattle.std.proofs.Common.{◌≡◌, ◌+◌, ◌-◌, ◌^◌, ◌<◌, ◌≤◌, drop}
use Rattle.rules.specs.Bounds.{most_digits}
use Rattle.rules.specs.Rule.{digits}
use Rattle.tokens.proofs.place.Place.digits.Given as goal

abbrev pub invariant-loop-i : goal.invariant-loop-i
invariant-loop-i l =
    (l.i ≤ l.room) × (l.value < 10 ^ (most_digits - (l.room - l.i)))
    × (digits l.a l.b l.room l.said l.self.rest.now l.self.at ≡ digits l.a l.b (l.room - l.i) l.value (drop l.i l.self.rest.now) (l.self.at + l.i))
