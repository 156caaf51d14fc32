-- `tokens::place::Place::digits` meets its contract.
use Rattle.std.proofs.Common.{inl, inr, ap, rules}
use Rattle.settings.specs.Numbers.{refusal_number}
use Rattle.tokens.proofs.Numerals.{digits_stop}
use Rattle.tokens.proofs.place.Place.digits.Goals as goal
use Rattle.tokens.proofs.place.Place.digits.Goals.{then-i-room-via-then-i-room, then-i-room-via-else-i-room+then-not-is_ascii_digit}

pub returns-then-i-room : goal.returns-then-i-room
returns-then-i-room c =
    digits_stop _ _ _ _ _ _ _ _ c.loop-i.invariant.2 c.loop-i-test.true c.if-x-a.false c.if-x-b.false
    (elim c.then-i-room.branch [ then-i-room-via-then-i-room w ↦ inl w.if-i-room.true | then-i-room-via-else-i-room+then-not-is_ascii_digit w ↦ inr (search rules) ])
    _ _ (ap refusal_number c.malformed.ensures.refusal) c.malformed.ensures.place
