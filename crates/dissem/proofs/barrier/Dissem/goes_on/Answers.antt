-- `dissem::barrier::Dissem::goes_on` meets its contract.
use Rattle.std.proofs.Common.{refl, arith, rules}
use Rattle.rules.proofs.Views.{Place, view_at, view_part, view_rest}
use Rattle.dissem.specs.DissemView.{sense_of, parity_of, round_of}
use Rattle.dissem.proofs.DissemStates.{same_state}
use Rattle.dissem.proofs.barrier.Dissem.goes_on.Goals as goal

pub overflow_add-own : goal.overflow_add-own
overflow_add-own c =
    let p : Place c.args.self.own c.args.w.number = search rules in
    omega (arith, view_at 1 p)

pub returns-clause-memory : goal.returns-clause-memory
returns-clause-memory c =
    let p : Place c.args.self.own c.args.w.number = search rules in
    same_state _ _ refl (view_rest sense_of 1 p (rw (view_at 1 p) (omega arith))) (view_rest parity_of 1 p (rw (view_at 1 p) (omega arith)))
    (view_part round_of 1 p (rw (view_at 1 p) (omega arith)))
