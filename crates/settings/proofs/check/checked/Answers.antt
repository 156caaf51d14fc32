-- `settings::check::checked` meets its contract: the number of the settings is known where try_from gave a machine.
use Rattle.std.proofs.Common.{refl}
use Rattle.std.proofs.lemmas.Result.{err_from_is_err_and}
use Rattle.settings.proofs.Checks.{known_one, by_2, numbers}
use Rattle.settings.proofs.Checks.{refuses, passes}
use Rattle.settings.proofs.check.checked.Goals as goal

pub returns-in_err-algo : goal.returns-in_err-algo
returns-in_err-algo c =
    let p = err_from_is_err_and c.from_residual.result c.from_residual.ensures.1 in
    let h = c.in_err-algo.ensures in
    rw (p.1, p.2) (refuses _ (rw h.0 (by_2 _ _ h.1)))

pub returns-then-not-in_range : goal.returns-then-not-in_range
returns-then-not-in_range c = let k = known_one _ c.in_ok-algo.ensures in refuses _ (search numbers)

pub returns-then-schedule-gt-MOST_TURNS : goal.returns-then-schedule-gt-MOST_TURNS
returns-then-schedule-gt-MOST_TURNS c = let k = known_one _ c.in_ok-algo.ensures in refuses _ (search numbers)

pub returns-then-not-all_below : goal.returns-then-not-all_below
returns-then-not-all_below c = let k = known_one _ c.in_ok-algo.ensures in refuses _ (search numbers)

pub invariant_of-result : goal.invariant_of-result
invariant_of-result c = let k = known_one _ c.in_ok-algo.ensures in record { named = c.in_ok-algo.ensures; in_order = search numbers }

pub returns : goal.returns
returns c = passes _ refl refl
