-- `writer::file::put_turns` meets its contract.
use Rattle.std.proofs.Common.{length, ap, arith}
use Rattle.writer.proofs.Turns.{no_turns, turn_fits, turn_next, last_fits, last_done}
use Rattle.writer.proofs.file.put_turns.Goals as goal

pub byte-requires : goal.byte-requires
byte-requires g c = let e = ap length (no_turns _ c.in_default.ensures.cases) in omega arith

pub returns-in_default : goal.returns-in_default
returns-in_default g c = rw (no_turns c.args.turns.now c.in_default.ensures.cases) c.byte.ensures

pub number-requires : goal.number-requires
number-requires g c = turn_fits _ _ _ g.met.S.Sink.laws _ _ _ c.loop-turn.invariant c.loop-turn-test.true

pub loop-turn-preserved : goal.loop-turn-preserved
loop-turn-preserved g c = turn_next _ _ _ g.met.S.Sink.laws _ _ _ c.loop-turn.invariant c.loop-turn-test.true _ c.number.ensures

pub number-requires-2 : goal.number-requires-2
number-requires-2 g c = last_fits _ _ _ g.met.S.Sink.laws _ _ _ c.loop-turn.invariant c.loop-turn-test.false

pub returns : goal.returns
returns g c = last_done _ _ _ g.met.S.Sink.laws _ _ _ c.loop-turn.invariant c.loop-turn-test.false _ c.number-2.ensures
