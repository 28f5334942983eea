use Rattle.std.proofs.Common.{ℕ, ◌+◌, [], ◌∷◌, ◌++◌, map, length, ap, ◌∙◌, arith}
use Rattle.std.proofs.lemmas.List.{take_all}
use Rattle.flow.specs.declared.arc.Arc.{Arc}
use Rattle.book.specs.Arcs.{give_arc, own_arc, get_arc}
use Rattle.book.specs.declared.line.Line.{Line}
use Rattle.round.specs.Rounds.{book}
use Rattle.round.specs.Views.{seen}
use Rattle.round.specs.declared.offer_view.OfferView.{OfferView}
use Rattle.round.specs.declared.open_round.OpenRound.{OpenRound}
use Rattle.round.proofs.Calls.{went_in}
use Rattle.round.proofs.Drawn.{line_room, line_more, own_room, own_more, offer_parts}
use Rattle.round.proofs.open_round.OpenRound.add_offer.Goals as goal

-- the arc of a give line
abbrev give : OpenRound → OfferView → ℕ → Line → Arc
give r o inside l = give_arc (length (book r).items) (book r).holdings o.member inside l 0

pub unwrap-requires : goal.unwrap-requires
unwrap-requires c =
    let o = c.args.offer.now in
    let f = give c.args.self.now o c.args.inside in
    went_in 448 c.loop-l.arcs c.push.new.self (c.give_arc-arc.result ∷ []) c.push.result c.push.ensures
    (omega (arith, line_room f o.give.now c.loop-l.l-index c.args.arcs.now c.loop-l.arcs c.loop-l-test.true (omega arith) c.loop-l.invariant))

pub loop-l-preserved : goal.loop-l-preserved
loop-l-preserved c =
    let o = c.args.offer.now in
    let f = give c.args.self.now o c.args.inside in
    line_more f o.give.now c.loop-l.l-index c.args.arcs.now c.loop-l.arcs c.loop-l-test.true (omega arith) c.loop-l.invariant _ c.push.new.self c.give_arc-arc.result c.push.result c.give_arc-arc.ensures c.push.ensures

pub unwrap-requires-2 : goal.unwrap-requires-2
unwrap-requires-2 c =
    let o = c.args.offer.now in
    let f = give c.args.self.now o c.args.inside in
    went_in 448 c.loop-l.arcs c.push-2.new.self (c.new-own.result ∷ []) c.push-2.result c.push-2.ensures
    (omega (arith, own_room f o.give.now c.loop-l.l-index c.args.arcs.now c.loop-l.arcs (omega arith) (omega arith) c.loop-l.invariant))

pub unwrap-requires-in-loop-l-2 : goal.unwrap-requires-in-loop-l-2
unwrap-requires-in-loop-l-2 c =
    let o = c.args.offer.now in
    let f = give c.args.self.now o c.args.inside in
    let own = own_more f o.give.now c.loop-l.l-index c.args.arcs.now c.loop-l.arcs (omega arith) (omega arith) c.loop-l.invariant c.push-2.new.self c.new-own.result (own_arc c.args.inside o.limit 0) c.push-2.result c.new-own.ensures c.push-2.ensures in
    went_in 448 c.loop-l-2.arcs c.push-in-loop-l-2.new.self (c.get_arc.result ∷ []) c.push-in-loop-l-2.result c.push-in-loop-l-2.ensures
    (omega (arith, line_room (λ l. get_arc (c.args.inside + 1) l 0) o.get.now c.loop-l-2.l-index c.push-2.new.self c.loop-l-2.arcs c.loop-l-2-test.true (omega (arith, own.1)) c.loop-l-2.invariant))

pub loop-l-2-preserved : goal.loop-l-2-preserved
loop-l-2-preserved c =
    let o = c.args.offer.now in
    let f = give c.args.self.now o c.args.inside in
    let own = own_more f o.give.now c.loop-l.l-index c.args.arcs.now c.loop-l.arcs (omega arith) (omega arith) c.loop-l.invariant c.push-2.new.self c.new-own.result (own_arc c.args.inside o.limit 0) c.push-2.result c.new-own.ensures c.push-2.ensures in
    line_more (λ l. get_arc (c.args.inside + 1) l 0) o.get.now c.loop-l-2.l-index c.push-2.new.self c.loop-l-2.arcs c.loop-l-2-test.true (omega (arith, own.1)) c.loop-l-2.invariant _
    c.push-in-loop-l-2.new.self c.get_arc.result c.push-in-loop-l-2.result c.get_arc.ensures c.push-in-loop-l-2.ensures

pub returns : goal.returns
returns c =
    let o = c.args.offer.now in
    let f = give c.args.self.now o c.args.inside in
    let own = own_more f o.give.now c.loop-l.l-index c.args.arcs.now c.loop-l.arcs (omega arith) (omega arith) c.loop-l.invariant c.push-2.new.self c.new-own.result (own_arc c.args.inside o.limit 0) c.push-2.result c.new-own.ensures c.push-2.ensures in
    let b = book c.args.self.now in
    offer_parts (length b.items) b.holdings c.args.inside (seen o) c.args.arcs.now c.push-2.new.self c.loop-l-2.arcs own.0
    (c.loop-l-2.invariant ∙ ap (λ xs. c.push-2.new.self ++ map (λ l. get_arc (c.args.inside + 1) l 0) xs) (take_all c.loop-l-2.l-index o.get.now (omega arith)))
