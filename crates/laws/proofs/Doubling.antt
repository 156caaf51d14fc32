-- The smallest number of doublings of 1 that reaches p.
use native.Mathlib.Omega.{arith}
use Rattle.rules.proofs.Levels.{last_reaches, doublings_least}
use Rattle.laws.specs.Laws.{Doublings}

pub doublings_hold : Doublings
doublings_hold = record { reach = λ p. omega (arith, last_reaches p); least = doublings_least }
