-- `machine::running::run` meets its contract.
use Rattle.std.proofs.Common.{◌≡◌, Err, arith}
use Rattle.machine.proofs.Tables.{refused_is, played_is}
use Rattle.machine.proofs.running.run.Goals as goal

pub returns-in_err-p : goal.returns-in_err-p
returns-in_err-p c =
    let e : c.from_residual.result ≡ Err c.in_err-p.field-0.0 = grind arith in
    rw e (refused_is _ _ _ _ _ _ c.in_err-p.ensures)

pub returns : goal.returns
returns c = played_is _ _ _ _ _ _ c.in_ok-p.ensures _ c.fill.ensures
