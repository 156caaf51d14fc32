-- The number of why a run ended.
use Rattle.std.specs.Prelude.{ℕ}
use Rattle.turns.specs.declared.played.Stop.{Stop}
use Rattle.turns.specs.declared.played.Stop.TheVariants.{UsedUp, Budget}

abbrev pub stop_number : Stop → ℕ
stop_number UsedUp = 0
stop_number Budget = 1
