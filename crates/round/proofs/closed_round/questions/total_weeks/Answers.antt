use Rattle.std.proofs.Common.{◌^◌, not, eqb, ◌∙◌, rules, tests, arith}
use Rattle.std.specs.List.{zip, filter}
use Rattle.std.proofs.lemmas.Iterator.{YieldsList-from_slice, YieldsList-from_map, YieldsList-from_zip}
use Rattle.std.proofs.lemmas.Iterator.Consumers.{YieldsList-at, YieldsList-from_filter, sum_by_from_yields_List, fits_by_from_yields_list}
use Rattle.round.proofs.Totals.{weeks_sum, weeks_small}
use Rattle.round.proofs.closed_round.questions.total_weeks.Goals as goal

pub sum-requires-clause-fits : goal.sum-requires-clause-fits
sum-requires-clause-fits c =
    let ls = c.args.lines.now in
    let arcs = c.args.arcs.now in
    fits_by_from_yields_list (λ p. p.1.flow) (filter (λ p. not (eqb p.0.item 0)) (zip ls arcs)) c.map.result (2 ^ 32)
    (YieldsList-from_map _ (λ p. p.1.flow) (YieldsList-at c.map.ensures.source (YieldsList-from_filter _ (λ p. not (eqb p.0.item 0)) (YieldsList-at c.filter.ensures.source (YieldsList-from_zip (YieldsList-from_slice ls (cc)) (YieldsList-from_slice arcs (cc)))) c.filter.ensures.closure (λ x r q k. search (rules, tests)))) c.map.ensures.closure (λ x r q k. search (rules, tests)))
    (omega (arith, weeks_sum ls arcs c.requires, weeks_small ls arcs c.requires))

pub returns : goal.returns
returns c =
    let ls = c.args.lines.now in
    let arcs = c.args.arcs.now in
    sum_by_from_yields_List (λ p. p.1.flow) (filter (λ p. not (eqb p.0.item 0)) (zip ls arcs)) c.map.result c.sum.result c.sum.ensures.ran
    (YieldsList-from_map _ (λ p. p.1.flow) (YieldsList-at c.map.ensures.source (YieldsList-from_filter _ (λ p. not (eqb p.0.item 0)) (YieldsList-at c.filter.ensures.source (YieldsList-from_zip (YieldsList-from_slice ls (cc)) (YieldsList-from_slice arcs (cc)))) c.filter.ensures.closure (λ x r q k. search (rules, tests)))) c.map.ensures.closure (λ x r q k. search (rules, tests)))
    ∙ weeks_sum ls arcs c.requires
