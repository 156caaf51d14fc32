-- `tokens::place::alike` meets its contract.
use Rattle.std.proofs.Common.{ℕ, Bool, eqb, rules, tests, ◌∙◌}
use Rattle.std.proofs.lemmas.Iterator.{YieldsList-from_slice, YieldsList-from_zip}
use Rattle.std.proofs.lemmas.Iterator.Consumers.{count_from_yields_List}
use Rattle.std.proofs.lemmas.Iterator.Search.{YieldsList-from_take_while}
use Rattle.std.proofs.lemmas.List.Folds.{length-prefix_len}
use Rattle.std.specs.List.{zip}
use Rattle.tokens.proofs.Stepping.{alike_pairs}
use Rattle.tokens.proofs.place.alike.Goals as goal

pub returns : goal.returns
returns c =
    let a = c.args.a.now in
    let b = c.args.b.now in
    let same : ℕ × ℕ → Bool = λ p. eqb p.0 p.1 in
    count_from_yields_List c.take_while.result _ c.count.ensures.ran
    (YieldsList-from_take_while _ same (YieldsList-from_zip (YieldsList-from_slice a (cc)) (YieldsList-from_slice b (cc))) (cc) (cc) (λ x t q k. search (rules, tests)))
    ∙ length-prefix_len same (zip a b) ∙ alike_pairs a b
