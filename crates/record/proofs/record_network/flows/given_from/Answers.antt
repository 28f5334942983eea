use Rattle.std.proofs.Common.{◌≡◌, eqb, get_or, sym, ◌∙◌, rules}
use Rattle.std.proofs.lemmas.Iterator.{YieldsList-from_map}
use Rattle.std.proofs.lemmas.Iterator.Consumers.{YieldsList-at, YieldsList-from_first, fits_by_from_yields_list, sum_by_from_yields_List}
use borrow.Author.Tests.{tests}
use Rattle.flow.specs.Graphs.{when}
use Rattle.book.specs.Allotments.{of_item}
use Rattle.reading.specs.Contents.{contents}
use Rattle.record.specs.Filled.{filled, left, given_in}
use Rattle.record.proofs.Giving.{given_fits, given_shown, given_sum}
use Rattle.record.proofs.Showing.{bounded}
use Rattle.record.proofs.record_network.flows.given_from.Goals as goal

pub sum-requires-clause-fits : goal.sum-requires-clause-fits
sum-requires-clause-fits c =
    let r = c.args.record.now in
    let h = c.args.h in
    fits_by_from_yields_list (given_in h) (contents r).offers c.map.result _ (YieldsList-from_map _ (given_in h) (YieldsList-at c.map.ensures.source (YieldsList-from_first filled left (contents r).offers c.of.ensures)) c.map.ensures.closure (λ x r q k. let gave : r ≡ when (eqb x.offer.member h.member) (of_item h.item x.offer.give.now (λ t. get_or x.given.now t 0)) = search (rules, tests) in (search (rules, tests), gave ∙ sym (given_shown h x)))) (given_fits h (contents r) (bounded r))

pub returns : goal.returns
returns c =
    let r = c.args.record.now in
    let h = c.args.h in
    sum_by_from_yields_List (given_in h) (contents r).offers c.map.result c.sum.result c.sum.ensures.ran (YieldsList-from_map _ (given_in h) (YieldsList-at c.map.ensures.source (YieldsList-from_first filled left (contents r).offers c.of.ensures)) c.map.ensures.closure (λ x r q k. let gave : r ≡ when (eqb x.offer.member h.member) (of_item h.item x.offer.give.now (λ t. get_or x.given.now t 0)) = search (rules, tests) in (search (rules, tests), gave ∙ sym (given_shown h x)))) ∙ given_sum h (contents r).offers
