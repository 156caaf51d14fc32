-- `readings::sum::sum` meets its contract: every sum is below the modulus.
use Rattle.std.proofs.Common.{◌≤◌}
use Rattle.readings.proofs.sum.sum.Given as goal

abbrev pub invariant-loop-n : goal.invariant-loop-n
invariant-loop-n l = l.sum ≤ 65520
