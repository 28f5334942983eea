use Rattle.std.proofs.Common.{◌≡◌, ◌+◌, ◌≤◌, true, List, ◌++◌, map, length, sym, ap, ◌∙◌, subst, arith}
use Rattle.std.proofs.lemmas.List.{append-nil, take_all}
use Rattle.book.specs.Arcs.{holding_arcs, offers_arcs, no_flows}
use Rattle.round.specs.Kept.{offer_of, in_rows}
use Rattle.round.specs.Rounds.{book}
use Rattle.round.specs.declared.entry.Entry.{Entry}
use Rattle.round.proofs.Sounds.{few_holdings, few_offers, few_lines}
use Rattle.round.proofs.Drawn.{rows_at, front_room, front_more}
use Rattle.round.proofs.open_round.OpenRound.arcs.Goals as goal

pub loop-k-init : goal.loop-k-init
loop-k-init c =
    let b = book c.args.self.now in
    let held = holding_arcs (length b.items) b.holdings no_flows.held in
    c.add_holdings.ensures ∙ ap (λ xs. xs ++ held) c.default-arcs.ensures ∙ sym (append-nil held)

pub show-offer-requires : goal.show-offer-requires
show-offer-requires c =
    let r = c.args.self.now in
    let rows = subst (λ (xs : List Entry). in_rows 0 xs (length r.lines) ≡ true) (sym c.as_slice-entry-items.ensures) r.rows in
    (rows_at 0 c.as_slice-entry-items.result.now r.lines c.loop-k.k _ rows c.loop-k-test.true).1

pub add_offer-requires : goal.add_offer-requires
add_offer-requires c =
    let r = c.args.self.now in
    let b = book r in
    let es = c.as_slice-entry-items.result.now in
    let rows = subst (λ (xs : List Entry). in_rows 0 xs (length r.lines) ≡ true) (sym c.as_slice-entry-items.ensures) r.rows in
    let few : length es ≤ 64 = omega (arith, ap length c.as_slice-entry-items.ensures, few_offers r) in
    record {
      small = omega arith;
      room = front_room (length b.items) b.holdings r.lines es c.loop-k.k _ c.loop-k.arcs c.loop-k.invariant c.loop-k-test.true _ c.show-offer.ensures (few_holdings r) (few_lines r) few rows;
    }

pub loop-k-preserved : goal.loop-k-preserved
loop-k-preserved c =
    let b = book c.args.self.now in
    front_more (length b.items) b.holdings c.args.self.now.lines c.as_slice-entry-items.result.now c.loop-k.k _ c.loop-k.arcs c.loop-k.invariant c.loop-k-test.true _ c.show-offer.ensures c.add_offer.new.arcs _ (omega arith) c.add_offer.ensures

pub returns : goal.returns
returns c =
    let r = c.args.self.now in
    let b = book r in
    let held = holding_arcs (length b.items) b.holdings no_flows.held in
    c.loop-k.invariant ∙ ap (λ xs. held ++ offers_arcs (length b.items) b.holdings (length b.items + length b.holdings) (map (offer_of r.lines) xs) no_flows.offers) (take_all c.loop-k.k c.as_slice-entry-items.result.now (omega arith) ∙ c.as_slice-entry-items.ensures)
