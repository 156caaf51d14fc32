-- `dissem::doublings::levels` meets its contract.
-- the leading zeros of p - 1 and its length in bits make 16, and that length is the least r with p ≤ 2 ^ r
use Rattle.std.proofs.Common.{◌-◌, arith}
use Rattle.std.proofs.lemmas.Nat.{leading_length}
use Rattle.rules.proofs.Levels.{doublings_is}
use Rattle.dissem.proofs.doublings.levels.Goals as goal

pub returns-then-procs-eq1 : goal.returns-then-procs-eq1
returns-then-procs-eq1 c = doublings_is c.args.procs 0 (omega arith) (omega arith)

pub returns : goal.returns
returns c =
    let length = leading_length 16 (c.args.procs - 1) (omega arith) in
    let least = doublings_is c.args.procs length.0 (omega (arith, length.2)) (omega (arith, length.3)) in
    omega (arith, length.1, least)
