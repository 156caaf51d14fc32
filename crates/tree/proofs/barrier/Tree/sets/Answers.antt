-- `tree::barrier::Tree::sets` meets its contract.
use Rattle.std.proofs.Common.{refl, rules}
use Rattle.rules.proofs.Views.{Place}
use Rattle.tree.proofs.TreeWords.{flags_set}
use Rattle.tree.proofs.barrier.Tree.sets.Goals as goal

pub returns : goal.returns
returns c =
    let p : Place c.args.self.words c.args.w.number = search rules in
    flags_set p _ refl
