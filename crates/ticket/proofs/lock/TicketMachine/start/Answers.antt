-- The ticket lock's `start` meets its contract.
use Rattle.std.proofs.Common.{refl}
use Rattle.rules.proofs.Views.{view_blank}
use Rattle.ticket.proofs.lock.TicketMachine.start.Goals as goal

pub returns-clause-memory : goal.returns-clause-memory
returns-clause-memory c = rw (view_blank 64 0) refl
