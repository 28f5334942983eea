use Rattle.std.proofs.Common.{arith}
use Rattle.round.specs.Offering.{made}
use Rattle.round.specs.Rounds.{book}
use Rattle.reading.proofs.Taken.{taken, takable_first, last_withdrawn}
use Rattle.reading.proofs.draft.offers.add_offer.Goals as goal

pub unwrap-requires : goal.unwrap-requires
unwrap-requires c =
    let head = c.args.head in
    taken (book c.args.round.now) (made head.member head.limit c.args.give.now c.args.get.now) c.requires (omega (arith, c.if-head-gt0.true)) (book c.offer.new.self) c.offer.result c.offer.ensures.outcome

pub unwrap-number-requires : goal.unwrap-number-requires
unwrap-number-requires c =
    let b = book c.args.round.now in
    let head = c.args.head in
    let give = c.args.give.now in
    let get = c.args.get.now in
    taken b (made head.member 1 give get) (takable_first b head.member head.limit give get c.if-head-gt0.false c.requires) (omega arith) (book c.offer-else-head-gt0.new.self) c.offer-else-head-gt0.result c.offer-else-head-gt0.ensures.outcome

pub returns-else-head-gt0 : goal.returns-else-head-gt0
returns-else-head-gt0 c =
    let head = c.args.head in
    last_withdrawn (book c.args.round.now) head.member head.limit c.args.give.now c.args.get.now c.if-head-gt0.false (book c.offer-else-head-gt0.new.self) (book c.withdraw.new.self) c.unwrap-number.result c.offer-else-head-gt0.result c.withdraw.result c.offer-else-head-gt0.ensures.outcome c.unwrap-number.ensures c.withdraw.ensures.outcome
