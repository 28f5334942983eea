use Rattle.std.proofs.Common.{eqb, ◌∙◌, rules}
use Rattle.std.proofs.lemmas.Iterator.{YieldsList-from_slice, YieldsList-from_zip, YieldsList-from_map}
use Rattle.std.proofs.lemmas.Iterator.Consumers.{YieldsList-at, YieldsList-from_filter, fits_from_yields_list, sum_from_yields_List}
use borrow.Author.Tests.{tests}
use Rattle.record.proofs.Giving.{item_fits, item_summed}
use Rattle.record.proofs.record_network.filled.FilledOffer.given_of.Goals as goal

pub sum-requires-clause-fits : goal.sum-requires-clause-fits
sum-requires-clause-fits c =
    let f = c.args.self in
    let j = c.args.item in
    fits_from_yields_list c.map.result _ (YieldsList-from_map _ (λ p. p.1) (YieldsList-at c.map.ensures.source (YieldsList-from_filter _ (λ p. eqb p.0.item j) (YieldsList-at c.filter.ensures.source (YieldsList-from_zip (YieldsList-at c.zip.ensures.first (YieldsList-from_slice f.offer.give.now (cc))) (YieldsList-from_slice f.given.now (cc)))) c.filter.ensures.closure (λ x r q k. search (rules, tests)))) c.map.ensures.closure (λ x r q k. search (rules, tests))) (item_fits j f.offer.give.now f.given.now f.gives)

pub returns : goal.returns
returns c =
    let f = c.args.self in
    let j = c.args.item in
    sum_from_yields_List c.map.result c.sum.result c.sum.ensures.ran (YieldsList-from_map _ (λ p. p.1) (YieldsList-at c.map.ensures.source (YieldsList-from_filter _ (λ p. eqb p.0.item j) (YieldsList-at c.filter.ensures.source (YieldsList-from_zip (YieldsList-at c.zip.ensures.first (YieldsList-from_slice f.offer.give.now (cc))) (YieldsList-from_slice f.given.now (cc)))) c.filter.ensures.closure (λ x r q k. search (rules, tests)))) c.map.ensures.closure (λ x r q k. search (rules, tests))) ∙ item_summed j f.offer.give.now f.given.now f.gives.long
