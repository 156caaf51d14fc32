-- `tokens::place::Place::word` meets its contract.
use Rattle.std.proofs.Common.{rules}
use Rattle.tokens.proofs.Spelling.{word_unfed}
use Rattle.tokens.proofs.place.Place.word.Goals as goal

pub returns-in_err-after : goal.returns-in_err-after
returns-in_err-after c = let e = word_unfed _ _ _ c.letters-n.ensures c.if-n-eq0.false _ _ c.after.ensures.rest c.after.ensures.at _ _ c.in_err-after.ensures in search (rules, e)
