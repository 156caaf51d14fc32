-- `dissem::barrier::Dissem::tells` meets its contract.
use Rattle.std.proofs.Common.{refl, arith, rules}
use Rattle.rules.proofs.Views.{Place, view_at, view_part}
use Rattle.turns.specs.BitView.{bits}
use Rattle.dissem.proofs.DissemStates.{same_state}
use Rattle.dissem.proofs.barrier.Dissem.tells.Goals as goal

pub with_bit-requires : goal.with_bit-requires
with_bit-requires c =
    let p : Place c.args.self.own c.args.w.number = search rules in
    (omega (arith, c.variable.ensures, view_at 1 p), omega (arith, c.sense.ensures))

pub returns-clause-memory : goal.returns-clause-memory
returns-clause-memory c =
    let p : Place c.args.self.own c.args.w.number = search rules in
    let q : Place c.args.self.flags c.args.j.number = search rules in
    same_state _ _ (view_part bits 0 q (rw (view_at 0 q, view_at 1 p, ← c.variable.ensures, ← c.sense.ensures) c.with_bit.ensures)) refl refl refl
