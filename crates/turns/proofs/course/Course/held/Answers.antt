-- `turns::course::Course::held` meets its contract.
use Rattle.std.proofs.Common.{refl, rules}
use Rattle.turns.proofs.Courses.{Rows, same_course, held_steps, held_lefts, held_some}
use Rattle.turns.proofs.course.Course.held.Goals as goal

pub returns : goal.returns
returns c =
    let r : Rows c.args.self c.args.w.number = search rules in
    let h = held_some c.args.self.at c.args.self.left c.args.w.number c.requires in
    same_course _ _ (held_steps _ _ r h _ c.after_hold.ensures) (rw c.saturating_sub.ensures (held_lefts _ _ r h _ c.after_hold.ensures)) refl
