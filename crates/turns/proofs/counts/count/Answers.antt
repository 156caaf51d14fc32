-- `turns::counts::count` meets its contract.
use Rattle.turns.proofs.Counting.{counted_all}
use Rattle.turns.proofs.counts.count.Goals as goal

pub returns : goal.returns
returns c =
    counted_all _ c.args.made _ _ c.requires c.begin.ensures _ c.count_far.ensures _ c.count_went.ensures
