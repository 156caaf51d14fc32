-- `turns::step::Step::stay` meets its contract: the course stays as it was.
use Rattle.turns.proofs.Turning.{stays_there}
use Rattle.turns.proofs.step.Step.stay.Goals as goal

pub returns-clause-course : goal.returns-clause-course
returns-clause-course g c = stays_there _ _ c.args.self.hold c.args.self.none_left
