-- It ends since four digits fewer are left.
use Rattle.writer.proofs.count.+digits_of.Given as goal

abbrev pub decreases-digits_of : goal.decreases-digits_of
decreases-digits_of l = l.n
