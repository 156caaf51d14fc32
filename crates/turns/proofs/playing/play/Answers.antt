-- `turns::playing::play` meets its contract.
use Rattle.std.proofs.Common.{refl, ap, arith}
use Rattle.settings.specs.View.{settings_of}
use Rattle.turns.specs.View.{course_of, told_of}
use Rattle.turns.proofs.Turning.{Turns, turns_hold, turns_idle, turns_step}
use Rattle.settings.proofs.Trials.{trial_accepted}
use Rattle.turns.proofs.Looping.{held_first, held_known, held_all, held_made}
use Rattle.turns.proofs.playing.play.Given.{Over}
use Rattle.turns.proofs.playing.play.Goals as goal
use Rattle.turns.proofs.playing.play.Goals.{After-far_of, in-Hold, in-Idle, in-Step}

pub start-state-requires : goal.start-state-requires
start-state-requires g c =
    let ok = trial_accepted c.args.trial in
    record { procs_low = ok.procs_low; procs_high = ok.procs_high; ticket = ok.ticket }

pub loop-turn-init : goal.loop-turn-init
loop-turn-init g c = (
  held_first (trial_accepted c.args.trial) c.requires c.start-state.ensures.memory c.start-state.ensures.course,
  c.start-state.ensures.sound,
)

pub bounds-trial-w : goal.bounds-trial-w
bounds-trial-w g c = (held_known c.loop-turn.invariant.0 c.in-Some.ensures.lookup.3).low

pub invariant_of-w : goal.invariant_of-w
invariant_of-w g c = record { below = (held_known c.loop-turn.invariant.0 c.in-Some.ensures.lookup.3).low }

pub invariant_of-step : goal.invariant_of-step
invariant_of-step g c =
    let h = held_known c.loop-turn.invariant.0 c.in-Some.ensures.lookup.3 in
    let d = rw c.in-Step.is at c.due.ensures in
    record { here = d.1; none_left = d.0; few = h.done }

pub step-state-requires-clause-asked : goal.step-state-requires-clause-asked
step-state-requires-clause-asked g c =
    let h = held_known c.loop-turn.invariant.0 c.in-Some.ensures.lookup.3 in
    record { below = h.below; home = h.home; procs = h.procs; hold = refl }

-- the turn that is made, and that what steps keep holds after it
turns : (g : Over) (c : After-far_of g)
    → Turns g.M.Machine.rules g.M.Machine.memory g.M.Machine.sound (settings_of c.args.trial.settings) c.loop-turn.state.memory (course_of c.loop-turn.state.course)
    c.in-Some.field-0.now c.match-due.state.memory (course_of c.match-due.state.course)
    (told_of c.in-Some.field-0.now c.match-due.state.made)
turns g c = elim c.match-due.branch [
  | in-Hold w ↦
      let e = w.holds-state.ensures in
      rw w.state-is (turns_hold c.due.ensures w.in-Hold.is e.memory e.course e.tells c.loop-turn.invariant.1)
  | in-Idle w ↦
      let e = w.idles-state.ensures in
      rw w.state-is (turns_idle c.due.ensures w.in-Idle.is e.memory (ap course_of e.course) e.tells c.loop-turn.invariant.1)
  | in-Step w ↦
      let e = w.step-state.ensures in
      rw w.state-is (turns_step c.due.ensures w.in-Step.at w.in-Step.is e.stepped e.sound)
]

pub tell-n-requires : goal.tell-n-requires
tell-n-requires g c =
    (held_made c.loop-turn.invariant.0 c.in-Some.ensures.lookup.3 (turns g (goal.at.tell-n-requires g c).After-far_of).turned c.far_of.ensures.is).tell

pub loop-turn-preserved : goal.loop-turn-preserved
loop-turn-preserved g c =
    let t = turns g (goal.at.loop-turn-preserved g c).After-far_of in
    ((held_made c.loop-turn.invariant.0 c.in-Some.ensures.lookup.3 t.turned c.far_of.ensures.is).on (omega (arith, c.if-trial-paid.false)) c.tell-n.ensures c.tell-n.auto.sums, t.keeps)

pub returns-in_default : goal.returns-in_default
returns-in_default g c = held_all c.loop-turn.invariant.0 c.in_default.ensures.lookup.0

pub returns-then-trial-paid : goal.returns-then-trial-paid
returns-then-trial-paid g c =
    (held_made c.loop-turn.invariant.0 c.in-Some.ensures.lookup.3 (turns g (goal.at.returns-then-trial-paid g c).After-far_of).turned c.far_of.ensures.is).past
    (omega (arith, c.if-trial-paid.true))
