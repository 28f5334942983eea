use Rattle.std.proofs.Common.{◌≡◌, ◌+◌, ◌≤◌, ◌++◌, map, length, refl, sym, ap, ◌∙◌, arith}
use Rattle.std.proofs.lemmas.List.{length_push}
use Rattle.std.proofs.lemmas.Result.{err_from_is_err_and}
use Rattle.tables.proofs.Entries.{grew}
use Rattle.book.specs.Books.{line_count}
use Rattle.layout.specs.Records.{offer_of}
use Rattle.round.specs.Rounds.{book}
use Rattle.reading.specs.Drafts.{so_far}
use Rattle.reading.specs.declared.entry.Entry.TheVariants.{Offer}
use Rattle.reading.proofs.Gains.{one_more}
use Rattle.reading.proofs.Helds.{book_held, units_held, units_counted}
use Rattle.reading.proofs.Offered.{units_long, Begun, begun, give_stops, get_stops, OfferRead, takable, all_read, with_said, offer_held, offer_counted}
use Rattle.reading.proofs.draft.Draft.next_offer.Goals as goal
use Rattle.reading.proofs.draft.Draft.next_offer.Goals.{In_ok-head, After-extend}

pub returns-in_err-head : goal.returns-in_err-head
returns-in_err-head c =
    let p = err_from_is_err_and c.from_residual.result c.from_residual.ensures.1 in
    let d = c.args.self.now in
    let us = d.units in
    let x = so_far d in
    let names = c.member_names.result.now in
    let members : length x.members ≡ length names = ap length (sym c.member_names.ensures) in
    let lines : line_count (map offer_of x.offers) ≡ c.len-lines.result = sym (units_counted x.offers) ∙ ap length (units_held (book d.round).offers us d.counted) ∙ sym c.len-lines.ensures.count in
    rw (p.1, p.2) (c.in_err-head.ensures.read x members lines)

-- the head was read
after-head : (c : goal.In_ok-head) → Begun (so_far c.args.self.now) c.args.self.now.units c.in_ok-head.head (length c.item_names.result.now) c.args.self.now.reader c.next_offer_head.new.reader
after-head c =
    let d = c.args.self.now in
    let b = book d.round in
    let us = d.units in
    let items = c.item_names.result.now in
    let members = c.member_names.result.now in
    let head = c.in_ok-head.ensures in
    begun (so_far d) b us (length items) (length members) c.len-lines.result c.in_ok-head.head d.reader c.next_offer_head.new.reader (book_held d.kind b us d.levels) (units_held b.offers us d.counted) c.requires (ap length c.item_names.ensures) (ap length c.member_names.ensures) c.len-lines.ensures.count head.fair head.read

pub returns-in_err-give : goal.returns-in_err-give
returns-in_err-give c =
    let p = err_from_is_err_and c.from_residual-in_err-give.result c.from_residual-in_err-give.ensures.1 in
    rw (p.1, p.2) (give_stops (after-head (goal.at.returns-in_err-give c).In_ok-head) _ c.in_err-give.ensures)

pub returns-in_err-get : goal.returns-in_err-get
returns-in_err-get c =
    let p = err_from_is_err_and c.from_residual-in_err-get.result c.from_residual-in_err-get.ensures.1 in
    rw (p.1, p.2) (get_stops (after-head (goal.at.returns-in_err-get c).In_ok-head) c.in_ok-give.ensures c.as_slice.ensures _ c.in_err-get.ensures)

pub add_offer-requires : goal.add_offer-requires
add_offer-requires c =
    let d = c.args.self.now in
    takable (after-head (goal.at.add_offer-requires c).In_ok-head) c.in_ok-give.ensures c.as_slice.ensures c.in_ok-get.ensures (book d.round) c.as_slice-2.result.now c.as_slice-3.result.now (book_held d.kind (book d.round) d.units d.levels) c.as_slice-2.ensures c.as_slice-3.ensures

-- all of it was
after-lines : (c : goal.After-extend) → OfferRead (so_far c.args.self.now) c.args.self.now.reader c.next_lines-2.new.reader (book c.add_offer.new.round) c.extend.new.self
after-lines c =
    let d = c.args.self.now in
    let b = book d.round in
    let us = d.units in
    let g = c.in_ok-give.ensures in
    let w = c.in_ok-get.ensures in
    let more = c.as_slice-4.result.now in
    let room : length us + length more ≤ 256 = omega (arith, c.in_ok-head.ensures.fair.room, c.len-lines.ensures.count, units_long g, units_long w, ap length c.default-units.ensures, ap length c.as_slice-4.ensures) in
    let row = grew 256 us c.extend.new.self more c.extend.result c.extend.ensures room ∙ ap (λ ns. us ++ ns) c.as_slice-4.ensures in
    all_read (after-head (goal.at.invariant_of-self-2 c).In_ok-head) g c.as_slice.ensures w b (book c.add_offer.new.round) c.as_slice-2.result.now c.as_slice-3.result.now c.extend.new.self (book_held d.kind b us d.levels) c.as_slice-2.ensures c.as_slice-3.ensures c.add_offer.ensures c.default-units.ensures row

pub invariant_of-self-2 : goal.invariant_of-self-2
invariant_of-self-2 c =
    let d = c.args.self.now in
    record { counted = offer_counted d.kind d.levels (book d.round) (book c.add_offer.new.round) d.units c.extend.new.self d.reader c.next_lines-2.new.reader (after-lines c); flat = d.flat }

pub returns : goal.returns
returns c =
    let d = c.args.self.now in
    let x = so_far d in
    let ls = d.levels in
    let b = book d.round in
    let b' = book c.add_offer.new.round in
    let us = d.units in
    let us' = c.extend.new.self in
    let after = c.next_lines-2.new.reader in
    let r = after-lines (goal.at.returns c).After-extend in
    one_more Offer d _ (with_said d.kind ls b b' us us' d.reader after r) r.onward (offer_held d.kind ls b b' us us' d.reader after r) refl (length_push x.offers r.said)
