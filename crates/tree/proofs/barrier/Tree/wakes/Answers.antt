-- `tree::barrier::Tree::wakes` meets its contract.
use Rattle.std.proofs.Common.{rules}
use Rattle.rules.proofs.Views.{Place}
use Rattle.turns.proofs.Words.{bit<}
use Rattle.tree.proofs.TreeWords.{wake_stored, sense_is}
use Rattle.tree.proofs.barrier.Tree.wakes.Goals as goal

pub with_bit-requires : goal.with_bit-requires
with_bit-requires c =
    (search rules, bit< _ _ _ c.bit.ensures)

pub returns : goal.returns
returns c =
    let p : Place c.args.self.words c.args.c.number = search rules in
    let q : Place c.args.self.words c.args.w.number = search rules in
    rw (sense_is q _ c.bit.ensures) (wake_stored p _ _ c.with_bit.ensures)
