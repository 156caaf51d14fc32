-- `tree::barrier::Tree::toggles` meets its contract.
use Rattle.std.proofs.Common.{arith, rules}
use Rattle.rules.proofs.Views.{Place}
use Rattle.turns.proofs.Words.{bit<}
use Rattle.tree.proofs.TreeWords.{sense_stored, sense_is}
use Rattle.tree.proofs.barrier.Tree.toggles.Goals as goal

pub overflow_sub-bit : goal.overflow_sub-bit
overflow_sub-bit c =
    omega (arith, bit< _ _ _ c.bit.ensures)

pub returns : goal.returns
returns c =
    let p : Place c.args.self.words c.args.w.number = search rules in
    rw (sense_is p _ c.bit.ensures) (sense_stored p _ _ c.with_bit.ensures)
