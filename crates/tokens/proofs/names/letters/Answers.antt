-- `tokens::names::letters` meets its contract.
use Rattle.std.proofs.Common.{take, rules, tests, ◌∙◌}
use Rattle.std.proofs.lemmas.Iterator.{YieldsList-from_slice, YieldsList-from_take}
use Rattle.std.proofs.lemmas.Iterator.Consumers.{count_from_yields_List}
use Rattle.std.proofs.lemmas.Iterator.Search.{YieldsList-from_take_while}
use Rattle.std.proofs.lemmas.List.Folds.{length-prefix_len}
use Rattle.rules.specs.Bounds.{most_letters}
use Rattle.rules.specs.Rule.{is_lower}
use Rattle.tokens.proofs.names.letters.Goals as goal

pub returns : goal.returns
returns c =
    let text = c.args.text.now in
    count_from_yields_List c.take_while.result _ c.count.ensures.ran
    (YieldsList-from_take_while _ is_lower (YieldsList-from_take most_letters (YieldsList-from_slice text (cc)) (cc)) (cc) (cc) (λ x t q k. search (rules, tests)))
    ∙ length-prefix_len is_lower (take most_letters text)
