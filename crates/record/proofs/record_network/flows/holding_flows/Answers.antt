use Rattle.std.proofs.Common.{[], ◌∷◌, length, take, ap, arith}
use Rattle.std.proofs.lemmas.List.{length-map, length-take}
use Rattle.reading.specs.Contents.{contents}
use Rattle.round.proofs.Calls.{went_in}
use Rattle.record.specs.Flows.{given_from}
use Rattle.record.proofs.Showing.{bounded}
use Rattle.record.proofs.record_network.flows.holding_flows.Goals as goal

pub unwrap-requires : goal.unwrap-requires
unwrap-requires c =
    let x = contents c.args.record.now in
    let i = c.loop-h.h-index in
    went_in 448 c.loop-h.flows c.push.new.self (c.given_from.result ∷ []) c.push.result c.push.ensures
    (omega (arith, ap length c.loop-h.invariant, length-map (take i x.holdings) (given_from x), length-take i x.holdings, (bounded c.args.record.now).holdings))
