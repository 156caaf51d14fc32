-- `turns::course::Course::due` meets its contract.
use Rattle.std.proofs.Common.{rules}
use Rattle.turns.proofs.Courses.{due_hold, due_idle, due_first, due_step}
use Rattle.turns.proofs.course.Course.due.Goals as goal

pub returns-then-step-ge-HOLDS : goal.returns-then-step-ge-HOLDS
returns-then-step-ge-HOLDS c = search (due_hold, rules)

pub returns-then-done-i : goal.returns-then-done-i
returns-then-done-i c = search (due_idle, rules)

pub returns-else-done-i : goal.returns-else-done-i
returns-else-done-i c = search (due_first, rules)

pub returns-else-step-eq1 : goal.returns-else-step-eq1
returns-else-step-eq1 c = search (due_step, rules)
