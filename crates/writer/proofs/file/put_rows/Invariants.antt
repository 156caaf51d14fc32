-- `writer::file::put_rows` meets its contract.
use Rattle.std.proofs.Common.{◌-◌, length}
use Rattle.rules.specs.File.{rows_text}
use Rattle.writer.proofs.Left.{Left}
use Rattle.writer.proofs.file.put_rows.Given as goal

abbrev pub invariant-loop-i : goal.invariant-loop-i
invariant-loop-i g l =
    let s = g.S.Sink in
    let n = length l.yielded in
    (goal.iterator-loop-i g).can_next l.i-iterator
    × (goal.iterator-loop-i g).is_finite l.i-iterator
    × Left s.room s.put (rows_text l.fn.s.procs 0 l.fn.s.rounds l.fn.s.hold) l.initial.sink (rows_text (l.fn.s.procs - n) n l.fn.s.rounds l.fn.s.hold) l.sink
