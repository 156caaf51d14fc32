-- `reader::reading::read` meets its contract.
use Rattle.reader.proofs.Answering.{ends}
use Rattle.reader.proofs.reading.read.Goals as goal

pub returns : goal.returns
returns c = ends _ _ _ _ c.start.ensures.rest c.start.ensures.at c.in_ok-head.head _ _ c.in_ok-head.ensures c.in_ok-settings.settings _ _ c.in_ok-settings.ensures _ _ c.in_ok-label.ensures _ _ c.closing.ensures
