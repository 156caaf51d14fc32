-- `settings::algo::Algo::named` meets its contract.
use Rattle.std.proofs.Common.{◌∷◌, [], nat_eq, rules, tests}
use lib.Pointwise.{pointwise}
use Rattle.std.proofs.lemmas.Iterator.{YieldsList-from_slice}
use Rattle.std.proofs.lemmas.Iterator.Consumers.{YieldsList-from_copied}
use Rattle.std.proofs.lemmas.Iterator.Search.{find_from_yields_List}
use Rattle.settings.specs.Numbers.{algo_name}
use Rattle.settings.proofs.Naming.{named_by}
use Rattle.settings.specs.declared.algo.Algo.TheVariants.{Ticket, Mcs, Central, Dissem, Tree}
use Rattle.settings.proofs.algo.Algo.named.Goals as goal

pub returns : goal.returns
returns c =
    let name = c.args.name.now in
    named_by name _ (
    find_from_yields_List {all = Ticket ∷ Mcs ∷ Central ∷ Dissem ∷ Tree ∷ []} (λ a. pointwise nat_eq name (algo_name a)) _ _ c.find.result
    c.find.ensures.ran (YieldsList-from_copied (YieldsList-from_slice _ (cc))) (λ x b q k. search (rules, tests)))
