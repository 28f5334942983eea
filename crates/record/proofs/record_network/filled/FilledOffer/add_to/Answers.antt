use Rattle.std.proofs.Common.{[], ◌∷◌, length, arith}
use Rattle.round.proofs.Calls.{went_in}
use Rattle.record.proofs.Flowing.{longer, parts_fit, offer_added}
use Rattle.record.proofs.Giving.{total_fits}
use Rattle.record.proofs.record_network.filled.FilledOffer.add_to.Goals as goal

pub unwrap-requires : goal.unwrap-requires
unwrap-requires c =
    let few = parts_fit c.args.self (length c.args.flows.now) c.requires in
    went_in 448 c.args.flows.now c.extend.new.self c.args.self.given.now c.extend.result c.extend.ensures (omega arith)

pub total-requires : goal.total-requires
total-requires c = total_fits c.args.self.offer.give.now c.args.self.given.now c.args.self.gives

pub unwrap-requires-2 : goal.unwrap-requires-2
unwrap-requires-2 c =
    let few = parts_fit c.args.self (length c.args.flows.now) c.requires in
    let one = longer c.args.flows.now c.extend.new.self c.args.self.given.now c.extend.result c.extend.ensures (omega arith) in
    went_in 448 c.extend.new.self c.push.new.self (c.total.result ∷ []) c.push.result c.push.ensures (omega arith)

pub unwrap-requires-3 : goal.unwrap-requires-3
unwrap-requires-3 c =
    let few = parts_fit c.args.self (length c.args.flows.now) c.requires in
    let one = longer c.args.flows.now c.extend.new.self c.args.self.given.now c.extend.result c.extend.ensures (omega arith) in
    let two = longer c.extend.new.self c.push.new.self (c.total.result ∷ []) c.push.result c.push.ensures (omega arith) in
    went_in 448 c.push.new.self c.extend-2.new.self c.args.self.got.now c.extend-2.result c.extend-2.ensures (omega arith)

pub returns : goal.returns
returns c = offer_added c.args.self c.total.result c.total.ensures c.args.flows.now c.extend.new.self c.push.new.self c.extend-2.new.self c.extend.result c.push.result c.extend-2.result c.requires c.extend.ensures c.push.ensures c.extend-2.ensures
