-- `machine::decide::core` meets its contract.
use Rattle.std.proofs.Common.{refl}
use Rattle.machine.proofs.Deciding.{plays}
use Rattle.machine.proofs.decide.core.Goals as goal

pub play_named-requires : goal.play_named-requires
play_named-requires c = let k = c.in_ok-trial.ensures in rw (k.schedule _ refl) c.if-events-schedule.false

pub returns : goal.returns
returns c = plays _ _ _ _ c.in_ok-trial.trial c.in_ok-trial.ensures c.if-room-s.false c.if-events-schedule.false _ _ c.play_named.ensures
