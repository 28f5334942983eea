use Rattle.std.proofs.Common.{◌≡◌, codes, refl}
use Rattle.std.proofs.lemmas.Result.{err_from_is_err_and}
use Rattle.layout.specs.Layout.{item, with_line, nothing}
use Rattle.round.specs.Rounds.{book}
use Rattle.reading.specs.Held.{held}
use Rattle.reading.specs.Kinds.{of_kind}
use Rattle.reading.specs.declared.entry.Entry.TheVariants.{Item}
use Rattle.reading.proofs.Gains.{headed, no_cash, not_begun, begun}
use Rattle.reading.proofs.draft.Draft.begin.Goals as goal

pub returns-in_err-next_cash : goal.returns-in_err-next_cash
returns-in_err-next_cash c =
    let p = err_from_is_err_and c.from_residual-in_err-next_cash.result c.from_residual-in_err-next_cash.ensures.1 in
    let k = c.args.kind in
    let x = of_kind k nothing in
    let n = c.in_ok-n.n in
    let h = c.in_ok-n.ensures in
    let on = headed Item n x c.args.reader c.next_count.new.reader (h.read x refl) in
    rw (p.1, p.2) (no_cash k n (h.fair.allowed x refl) c.args.reader c.next_count.new.reader on _ (c.in_err-next_cash.ensures x refl))

pub overflow_sub-n : goal.overflow_sub-n
overflow_sub-n c = c.in_ok-n.ensures.fair.allowed (of_kind c.args.kind nothing) refl

pub returns-in_err-next_entries : goal.returns-in_err-next_entries
returns-in_err-next_entries c =
    let p = err_from_is_err_and c.from_residual-in_err-next_entries.result c.from_residual-in_err-next_entries.ensures.1 in
    let k = c.args.kind in
    let x = of_kind k nothing in
    let n = c.in_ok-n.n in
    let h = c.in_ok-n.ensures in
    let on = headed Item n x c.args.reader c.next_count.new.reader (h.read x refl) in
    let fresh : held k (book c.open.result) c.default.result c.default-2.result ≡ with_line item (codes "cash") x = λ i. held k (c.open.ensures.outcome i) (c.default.ensures i) (c.default-2.ensures i) in
    rw (p.1, p.2) (not_begun k n (h.fair.allowed x refl) c.args.reader c.next_count.new.reader on _ c.next_cash.new.reader (c.in_ok-next_cash.ensures x refl) fresh _ c.in_err-next_entries.ensures)

pub returns : goal.returns
returns c =
    let k = c.args.kind in
    let x = of_kind k nothing in
    let n = c.in_ok-n.n in
    let h = c.in_ok-n.ensures in
    let on = headed Item n x c.args.reader c.next_count.new.reader (h.read x refl) in
    let fresh : held k (book c.open.result) c.default.result c.default-2.result ≡ with_line item (codes "cash") x = λ i. held k (c.open.ensures.outcome i) (c.default.ensures i) (c.default-2.ensures i) in
    let g = c.in_ok-next_entries.ensures.0 in
    begun k n (h.fair.allowed x refl) c.args.reader c.next_count.new.reader on _ c.next_cash.new.reader (c.in_ok-next_cash.ensures x refl) fresh c.next_entries.new.self g.onward g.only
