-- `reader::lines::lines` meets its contract. The loop keeps: all the lines are what is left of them, on the rows so far.
use Rattle.std.proofs.Common.{◌≡◌, ◌-◌, length}
use Rattle.rules.specs.Bounds.{most_procs}
use Rattle.rules.specs.Settings.{zeros}
use Rattle.rules.specs.File.{rows}
use Rattle.reader.proofs.lines.lines.Given as goal

abbrev pub invariant-loop-i : goal.invariant-loop-i
invariant-loop-i l =
    (length l.rounds ≡ most_procs) × (length l.hold ≡ most_procs)
    × (rows l.h.procs 0 zeros zeros l.first.rest.now l.first.at ≡ rows (l.h.procs - l.i) l.i l.rounds l.hold l.p.rest.now l.p.at)
