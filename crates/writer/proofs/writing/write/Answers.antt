-- `writer::writing::write` meets its contract: each return is one way out.
use Rattle.std.proofs.Common.{rules, ap, sym, arith}
use Rattle.writer.specs.declared.pen.Pen.{Pen}
use Rattle.writer.proofs.Short.{few_procs}
use Rattle.writer.proofs.Writes.{write_short, write_done}
use Rattle.writer.proofs.writing.write.Goals as goal

pub returns-then-out-file_length : goal.returns-then-out-file_length
returns-then-out-file_length c = write_short _ _ _ c.in_ok-trial.trial c.in_ok-trial.ensures (omega arith)

pub put_file-requires-clause-procs : goal.put_file-requires-clause-procs
put_file-requires-clause-procs c = few_procs c.in_ok-trial.trial

pub returns : goal.returns
returns c =
    let known = write_done c.args.s c.args.schedule.now c.args.out.now c.in_ok-trial.trial c.in_ok-trial.ensures (omega arith) in
    let same = sym (ap (λ (p : Pen). p.out.ghost_name) c.put_file.ensures) in
    let bytes = ap (λ (p : Pen). p.out.now) c.put_file.ensures in
    let count = ap (λ (p : Pen). p.at) c.put_file.ensures in
    known c.put_file.new.sink.out.now _ _ bytes (search rules) (search rules)
