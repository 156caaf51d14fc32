-- The byte stands at its place.
use Rattle.writer.proofs.Over.{byte_put}
use Rattle.writer.proofs.pen.PenSink.byte.Goals as goal

pub returns : goal.returns
returns c = byte_put c.args.self.now c.args.byte c.requires
