use Rattle.std.proofs.Common.{◌*◌, ◌^◌, ◌≤◌, sym, ◌∙◌, subst, rules, tests, arith}
use Rattle.std.specs.List.{zip}
use Rattle.std.proofs.lemmas.Iterator.{YieldsList-from_slice, YieldsList-from_map, YieldsList-from_zip}
use Rattle.std.proofs.lemmas.Iterator.Consumers.{YieldsList-at, sum_by_from_yields_List, fits_by_from_yields_list}
use Rattle.round.proofs.Totals.{price_sum, price_small}
use Rattle.round.proofs.closed_round.questions.total_price.Goals as goal

pub sum-requires-clause-fits : goal.sum-requires-clause-fits
sum-requires-clause-fits c =
    let ls = c.args.lines.now in
    let arcs = c.args.arcs.now in
    fits_by_from_yields_list (λ p. p.0.price * p.1.flow) (zip ls arcs) c.map.result (2 ^ 64)
    (YieldsList-from_map _ (λ p. p.0.price * p.1.flow) (YieldsList-at c.map.ensures.source (YieldsList-from_zip (YieldsList-from_slice ls (cc)) (YieldsList-from_slice arcs (cc)))) c.map.ensures.closure (λ x r q k. search (rules, tests)))
    (omega (arith, price_sum ls arcs c.requires, price_small ls arcs c.requires))

pub returns : goal.returns
returns c =
    let ls = c.args.lines.now in
    let arcs = c.args.arcs.now in
    let e = sum_by_from_yields_List (λ p. p.0.price * p.1.flow) (zip ls arcs) c.map.result c.sum.result c.sum.ensures.ran
    (YieldsList-from_map _ (λ p. p.0.price * p.1.flow) (YieldsList-at c.map.ensures.source (YieldsList-from_zip (YieldsList-from_slice ls (cc)) (YieldsList-from_slice arcs (cc)))) c.map.ensures.closure (λ x r q k. search (rules, tests))) ∙ price_sum ls arcs c.requires in
    record { sum = e; bound = subst (λ n. n ≤ 256000000000) (sym e) (price_small ls arcs c.requires) }
