use Rattle.std.proofs.Common.{arith}
use Rattle.record.proofs.Showing.{number_fits, gives_fit, gets_fit, parted}
use Rattle.record.proofs.record_network.filled.FilledOffersIterator.next.Goals as goal

pub split_at-requires : goal.split_at-requires
split_at-requires c = gives_fit c.args.self.now c.terms.ensures c.in_ok-offer.offer c.in_ok-offer.ensures

pub split_at-requires-2 : goal.split_at-requires-2
split_at-requires-2 c = gets_fit c.args.self.now c.terms.ensures c.in_ok-offer.offer c.in_ok-offer.ensures c.split_at.ensures.back

pub overflow_add-self : goal.overflow_add-self
overflow_add-self c = omega (arith, number_fits c.args.self.now c.terms.ensures c.in_ok-offer.offer c.in_ok-offer.ensures)

pub invariant_of-self : goal.invariant_of-self
invariant_of-self c =
    let p = parted c.args.self.now c.terms.ensures c.in_ok-offer.offer c.in_ok-offer.ensures c.split_at.ensures.back c.split_at.ensures.front c.split_at-2.ensures.front c.split_at-2.ensures.back in
    record { own = p.own }

pub invariant_of-result : goal.invariant_of-result
invariant_of-result c =
    let p = parted c.args.self.now c.terms.ensures c.in_ok-offer.offer c.in_ok-offer.ensures c.split_at.ensures.back c.split_at.ensures.front c.split_at-2.ensures.front c.split_at-2.ensures.back in
    record { gives = p.gives; gets = p.gets }

pub returns-clause-steps : goal.returns-clause-steps
returns-clause-steps c =
    let p = parted c.args.self.now c.terms.ensures c.in_ok-offer.offer c.in_ok-offer.ensures c.split_at.ensures.back c.split_at.ensures.front c.split_at-2.ensures.front c.split_at-2.ensures.back in
    p.first
