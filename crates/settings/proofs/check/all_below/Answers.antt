-- `settings::check::all_below` meets its contract.
use Rattle.std.proofs.Common.{ltb, ◌&&◌, refl, rules, tests, ◌∙◌}
use Rattle.std.proofs.lemmas.Iterator.{YieldsList-from_slice}
use Rattle.std.proofs.lemmas.Iterator.Search.{all_from_yields_List}
use Rattle.std.proofs.lemmas.List.Recursion.{same_from_clauses}
use Rattle.std.specs.List.{list_all}
use Rattle.rules.specs.Calls.{all_below}
use Rattle.settings.proofs.check.all_below.Goals as goal

pub returns : goal.returns
unfolding all_below
returns c =
    let procs = c.args.procs in
    let t = c.args.schedule.now in
    all_from_yields_List (λ i. ltb i procs) _ _ _ c.all.ensures.ran (YieldsList-from_slice t (cc)) (λ x b q k. search (rules, tests))
    ∙ same_from_clauses (list_all (λ i. ltb i procs)) (all_below procs) (λ i r. ltb i procs && r) refl (λ i t. refl) (λ i t. refl) t
