-- The MCS lock's `start` meets its contract.
use Rattle.std.proofs.Common.{refl, arith}
use Rattle.rules.proofs.Views.{view_blank}
use Rattle.mcs.proofs.lock.McsMachine.start.Goals as goal

pub returns-clause-memory : goal.returns-clause-memory
returns-clause-memory c = rw (view_blank 64 0) refl

pub returns-clause-sound : goal.returns-clause-sound
returns-clause-sound c =
    rw (view_blank 64 0) (record { tail = omega arith; next = λ j. omega arith; pred = λ j. omega arith; succ = λ j. omega arith })
