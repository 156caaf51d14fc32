-- `turns::course::Course::start` meets its contract.
use Rattle.rules.proofs.Views.{view_blank}
use Rattle.turns.proofs.Courses.{same_course, first_steps, first_lefts}
use Rattle.turns.proofs.course.Course.start.Goals as goal

pub returns : goal.returns
returns c = same_course _ _ (first_steps 64) (first_lefts 64) (view_blank 64 0)
