-- `reader::lines::lines` meets its contract.
use Rattle.std.proofs.Common.{rules}
use Rattle.reader.proofs.Lining.{lines_next}
use Rattle.reader.proofs.lines.lines.Goals as goal

pub loop-i-preserved : goal.loop-i-preserved
loop-i-preserved c = (search rules, search rules, lines_next _ _ _ _ _ _ _ c.loop-i.invariant.2 c.loop-i-test.true _ _ _ c.in_ok-its_rounds.ensures)
