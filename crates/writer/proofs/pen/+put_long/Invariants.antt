-- Its depth is less than the number of digits.
use Rattle.writer.proofs.pen.+put_long.Given as goal

abbrev pub decreases-put_long : goal.decreases-put_long
decreases-put_long l = l.n
