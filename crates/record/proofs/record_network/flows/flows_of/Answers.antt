use Rattle.reading.specs.Contents.{contents}
use Rattle.record.specs.Filled.{filled, left}
use Rattle.record.proofs.Flowing.{room}
use Rattle.record.proofs.Showing.{bounded}
use Rattle.record.proofs.record_network.flows.flows_of.Goals as goal

pub add_to-requires : goal.add_to-requires
add_to-requires c =
    let r = c.args.record.now in
    room (contents r) (bounded r) c.loop-offer.flows (left c.loop-offer.offer-iterator) c.loop-offer.invariant (filled c.in-Some.offer) _ c.in-Some.ensures.steps
