-- `machine::table::fill` meets its contract: so many records are written.
use Rattle.std.proofs.Common.{◌≡◌, map, take}
use Rattle.machine.specs.RunView.{record_of, records_at}
use Rattle.machine.proofs.table.fill.Given as goal

abbrev pub invariant-loop-i : goal.invariant-loop-i
invariant-loop-i l = map record_of (take l.i l.table) ≡ records_at l.sums l.i
