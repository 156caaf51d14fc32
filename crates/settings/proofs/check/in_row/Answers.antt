-- `settings::check::in_row` meets its contract.
use Rattle.std.proofs.Common.{leb, eqb, refl, arith, rules, tests}
use Rattle.std.proofs.lemmas.Iterator.{YieldsList-from_slice}
use Rattle.std.proofs.lemmas.Iterator.Search.{all_from_yields_List}
use Rattle.settings.proofs.Checks.{row_parts}
use Rattle.settings.proofs.check.in_row.Goals as goal

pub returns-then-all : goal.returns-then-all
returns-then-all c =
    let row = c.args.row in
    let below = c.split_at.result.0.now in
    let past = c.split_at.result.1.now in
    let parts = row_parts c.args.procs c.args.most row below past c.split_at.ensures.by_index.0 (omega arith) (λ p. omega arith) in
    let first = all_from_yields_List (λ x. leb x c.args.most) _ _ _ c.all.ensures.ran (YieldsList-from_slice below (cc)) (λ x b q k. search (rules, tests)) in
    let second = all_from_yields_List (λ x. eqb x 0) _ _ _ c.all-then-all.ensures.ran (YieldsList-from_slice past (cc)) (λ x b q k. search (rules, tests)) in
    rw (← parts, ← first, c.if-all.true) second

pub returns-else-all : goal.returns-else-all
returns-else-all c =
    let row = c.args.row in
    let below = c.split_at.result.0.now in
    let past = c.split_at.result.1.now in
    let parts = row_parts c.args.procs c.args.most row below past c.split_at.ensures.by_index.0 (omega arith) (λ p. omega arith) in
    let first = all_from_yields_List (λ x. leb x c.args.most) _ _ _ c.all.ensures.ran (YieldsList-from_slice below (cc)) (λ x b q k. search (rules, tests)) in
    rw (← parts, ← first, c.if-all.false) refl
