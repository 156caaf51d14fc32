-- `tokens::place::Place::number` meets its contract.
use Rattle.std.proofs.Common.{◌≡◌, ◌-◌, eqb, get_or, rules, ◌∙◌, eq-eqb, ne_eqb}
use Rattle.rules.specs.Memory.{pick}
use Rattle.rules.specs.Bounds.{most_digits}
use Rattle.tokens.proofs.Numerals.{number_digits}
use Rattle.tokens.proofs.place.Place.number.Goals as goal
use Rattle.tokens.proofs.place.Place.number.Goals.{After-digits, then-first-eq48, else-first-eq48}

room : (c : After-digits) → c.if-first-eq48.room ≡ pick (eqb (get_or c.args.self.rest.now 0 0) 48) 0 (most_digits - 1)
room c =
    elim c.if-first-eq48.branch [
      | then-first-eq48 w ↦ w.room-is ∙ rw (eq-eqb _ _ w.if-first-eq48.true)
      | else-first-eq48 w ↦ w.room-is ∙ rw (ne_eqb _ _ w.if-first-eq48.false)
    ]

pub returns : goal.returns
returns c = number_digits _ _ _ _ c.in-len1-up.len_at_least (search rules) _ (room c) _ _ c.after.ensures.rest c.after.ensures.at _ c.digits.ensures
