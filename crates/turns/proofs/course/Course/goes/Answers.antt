-- `turns::course::Course::goes` meets its contract.
use Rattle.std.proofs.Common.{refl, rules}
use Rattle.turns.proofs.Courses.{Rows, same_course, steps_put, lefts_put, after_step, after_left}
use Rattle.turns.proofs.course.Course.goes.Goals as goal

pub returns : goal.returns
returns c =
    let r : Rows c.args.self c.args.w.number = search rules in
    same_course _ _ (steps_put _ _ r _ _ (after_step _ c.args.hold _ c.requires c.after_hold.ensures))
    (rw c.saturating_sub.ensures (lefts_put _ _ r _ _ _ (after_left _ c.args.hold _ c.requires c.after_hold.ensures))) refl
