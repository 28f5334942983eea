use Rattle.std.proofs.Common.{◌≡◌, [], ◌∷◌, get_or, ap, arith, rules}
use Rattle.std.proofs.lemmas.Grind.{same_number_lists}
use borrow.Author.Tests.{tests}
use Rattle.text.specs.Numbers.{unsigned}
use Rattle.text.specs.Rows.{row_spelt}
use Rattle.book.specs.Books.{no_holding}
use Rattle.layout.specs.Layout.{holding, spell}
use Rattle.record.proofs.Adding.{adds_none, adds_then, adds_more, adds_all}
use Rattle.record.proofs.file.draft.Draft.holdings.Goals as goal

pub loop-h-init : goal.loop-h-init
loop-h-init c = adds_none _ c.head.new.self.few

pub loop-h-preserved : goal.loop-h-preserved
loop-h-preserved c =
    let h = get_or c.args.holdings.now c.loop-h.h-index no_holding in
    let items = c.map.ensures.items in
    let row : c.map.result ≡ h.member ∷ h.item ∷ h.units ∷ [] = same_number_lists c.map.result (h.member ∷ h.item ∷ h.units ∷ []) items.long (λ i lt. let q = items.at i 0 0 (omega arith) in search (rules, tests)) in
    adds_more (spell holding) c.args.holdings.now c.loop-h.h-index no_holding c.loop-h-test.true (ap (row_spelt unsigned) row) c.loop-h.invariant c.row.ensures

pub returns : goal.returns
returns c = adds_then c.head.ensures (adds_all (spell holding) c.args.holdings.now c.loop-h.h-index c.loop-h-test.false c.loop-h.invariant)
