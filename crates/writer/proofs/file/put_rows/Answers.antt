-- `writer::file::put_rows` meets its contract.
use Rattle.std.proofs.Common.{rules, arith}
use Rattle.std.proofs.lemmas.Iterator.Consumers.{YieldsList-turn, YieldsList-end}
use Rattle.std.proofs.lemmas.List.{length_push}
use Rattle.writer.proofs.Rows.{road, rows_done, row_fits, row_next}
use Rattle.writer.proofs.file.put_rows.Goals as goal

pub put_entries-requires : goal.put_entries-requires
put_entries-requires g c =
    let a = c.args.s.now in
    let l = c.loop-i in
    let t = YieldsList-turn (road a.procs a.rounds a.hold (cc) (cc) (cc) (cc)) l.yielded l.i-iterator l.yielded_by _ c.next.new.self _ c.in-Some.is c.next.ensures.steps in
    row_fits _ _ _ c.requires.procs (omega arith) (omega arith) g.met.S.Sink.laws _ _ _ _ l.invariant.2 _ t.0 t.1

pub loop-i-preserved : goal.loop-i-preserved
loop-i-preserved g c =
    let a = c.args.s.now in
    let l = c.loop-i in
    let t = YieldsList-turn (road a.procs a.rounds a.hold (cc) (cc) (cc) (cc)) l.yielded l.i-iterator l.yielded_by _ c.next.new.self _ c.in-Some.is c.next.ensures.steps in (
      search rules,
      search rules,
      rw length_push (row_next _ _ _ c.requires.procs (omega arith) (omega arith) g.met.S.Sink.laws _ _ _ _ l.invariant.2 _ t.0 t.1 _ c.put_entries.ensures),
    )

pub returns : goal.returns
returns g c =
    let a = c.args.s.now in
    let l = c.loop-i in
    let t = YieldsList-end (road a.procs a.rounds a.hold (cc) (cc) (cc) (cc)) l.yielded l.i-iterator l.yielded_by _ c.next.new.self c.in-None.is c.next.ensures.steps in
    rows_done _ _ _ c.requires.procs (omega arith) (omega arith) g.met.S.Sink.laws _ _ _ _ l.invariant.2 t.1
