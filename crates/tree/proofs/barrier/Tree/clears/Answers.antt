-- `tree::barrier::Tree::clears` meets its contract.
use Rattle.std.proofs.Common.{rules}
use Rattle.rules.proofs.Views.{Place}
use Rattle.tree.proofs.TreeWords.{flag_cleared}
use Rattle.tree.proofs.barrier.Tree.clears.Goals as goal

pub returns : goal.returns
returns c =
    let p : Place c.args.self.words c.args.w.number = search rules in
    flag_cleared p _ _ c.with_bit.ensures
