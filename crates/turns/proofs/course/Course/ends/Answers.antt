-- `turns::course::Course::ends` meets its contract.
use Rattle.std.proofs.Common.{rules, refl}
use Rattle.rules.proofs.Views.{view, view_put, view_at}
use Rattle.turns.proofs.Courses.{Rows, same_course}
use Rattle.turns.proofs.course.Course.ends.Goals as goal

pub overflow_add-done : goal.overflow_add-done
unfolding view
overflow_add-done c = search rules

pub returns : goal.returns
returns c =
    let r : Rows c.args.self c.args.w.number = search rules in
    same_course _ _ refl refl (view_put 0 r.done (rw (view_at 0 r.done)))
