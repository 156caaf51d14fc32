-- `turns::playing::play` meets its contract.
use Rattle.std.proofs.Common.{◌-◌, length}
use Rattle.settings.specs.View.{settings_of}
use Rattle.turns.specs.View.{course_of}
use Rattle.turns.proofs.Looping.{Held}
use Rattle.turns.proofs.playing.play.Given as goal

abbrev pub invariant-loop-turn : goal.invariant-loop-turn
invariant-loop-turn g l =
    Held g.M.Machine.rules (settings_of l.trial.settings) l.trial.schedule.now l.initial.events l.events (g.M.Machine.memory l.state.memory) (course_of l.state.course) l.sums l.total l.n l.k
    × g.M.Machine.sound (settings_of l.trial.settings) l.state.memory (course_of l.state.course).at

abbrev pub decreases-loop-turn : goal.decreases-loop-turn
decreases-loop-turn g l = length l.trial.schedule.now - l.k
