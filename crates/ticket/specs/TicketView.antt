-- What the code's ticket lock stands for in the rules.
use Rattle.rules.specs.Ticket.{State}
use Rattle.rules.proofs.Views.{view}
use Rattle.ticket.specs.declared.lock.Ticket.{Ticket}

abbrev pub memory_of : Ticket → State
memory_of t = record { request = t.request; release = t.release; mine = view 0 t.mine; found = view 0 t.found }
