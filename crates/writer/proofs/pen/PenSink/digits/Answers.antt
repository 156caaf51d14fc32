-- One digit.
use Rattle.std.proofs.Common.{length, ap, arith}
use Rattle.laws.proofs.Decimal.{decimal_one}
use Rattle.writer.proofs.pen.PenSink.digits.Goals as goal

pub byte-requires : goal.byte-requires
byte-requires c = let e = ap length (decimal_one c.args.n c.if-n-lt10.true) in omega (arith, c.requires)

pub returns-then-n-lt10 : goal.returns-then-n-lt10
returns-then-n-lt10 c = rw (decimal_one c.args.n c.if-n-lt10.true) c.byte.ensures
