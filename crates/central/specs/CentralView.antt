-- What the code's central barrier stands for in the rules.
use Rattle.rules.specs.Central.{State}
use Rattle.rules.proofs.Views.{view}
use Rattle.central.specs.declared.barrier.Central.{Central}

-- every local sense starts true
abbrev pub memory_of : Central → State
memory_of c = record { count = c.count; sense = c.sense; local = view 1 c.local }
