-- `dissem::barrier::Dissem::leaves` meets its contract.
use Rattle.std.proofs.Common.{refl, rules}
use Rattle.rules.proofs.Views.{Place, view_at, view_part}
use Rattle.dissem.specs.DissemView.{sense_of, parity_of, round_of}
use Rattle.dissem.proofs.DissemStates.{same_state}
use Rattle.dissem.proofs.barrier.Dissem.leaves.Goals as goal

pub returns-clause-memory : goal.returns-clause-memory
returns-clause-memory c =
    let p : Place c.args.self.own c.args.w.number = search rules in
    same_state _ _ refl (view_part sense_of 1 p (rw (view_at 1 p) c.left.ensures.sense)) (view_part parity_of 1 p (rw (view_at 1 p) c.left.ensures.parity))
    (view_part round_of 1 p c.left.ensures.round)
