use Rattle.std.proofs.Common.{◌≡◌, ◌<◌, [], ◌∷◌, length, get_or, is_ok, ap, ◌∙◌, subst, arith, rules}
use Rattle.std.proofs.lemmas.Grind.{same_number_lists}
use borrow.Author.Tests.{tests}
use Rattle.text.specs.Numbers.{unsigned}
use Rattle.text.specs.Rows.{row_spelt}
use Rattle.book.specs.Books.{no_line}
use Rattle.round.specs.Closed.{closed_book, closed_allotment}
use Rattle.round.specs.Questions.{units_on}
use Rattle.record.proofs.Adding.{adds_none}
use Rattle.record.proofs.Offered.{few_lines, units_known, adds_side_line, adds_side}
use Rattle.record.proofs.file.draft.Draft.side.Goals as goal

pub overflow_cast-i : goal.overflow_cast-i
overflow_cast-i g c = omega (arith, ap length c.requires.1, few_lines c.args.round.now c.args.side c.args.offer c.requires.0)

pub loop-i-init : goal.loop-i-init
loop-i-init g c = adds_none _ c.args.self.now.few

pub unwrap-units-requires : goal.unwrap-units-requires
unwrap-units-requires g c =
    let round = c.args.round.now in
    let there = subst (λ ls. c.loop-i.i < length ls) c.requires.1 c.loop-i-test.true in
    ap is_ok (units_known (closed_book round) (closed_allotment round) c.args.offer c.args.side c.loop-i.i _ c.units.ensures c.requires.0 there).1

pub loop-i-preserved : goal.loop-i-preserved
loop-i-preserved g c =
    let round = c.args.round.now in
    let side = c.args.side in
    let k = c.args.offer in
    let i = c.loop-i.i in
    let there = subst (λ ls. i < length ls) c.requires.1 c.loop-i-test.true in
    let known = units_known (closed_book round) (closed_allotment round) k side i _ c.units.ensures c.requires.0 there in
    let same : c.unwrap-units.result ≡ known.0 = cc (c.unwrap-units.ensures, known.1) in
    let l = get_or c.args.lines.now i no_line in
    let n = c.unwrap-units.result in
    let items = c.map.ensures.items in
    let row : c.map.result ≡ l.item ∷ l.limit ∷ l.price ∷ n ∷ [] = same_number_lists c.map.result (l.item ∷ l.limit ∷ l.price ∷ n ∷ []) items.long (λ i lt. let q = items.at i 0 0 (omega arith) in search (rules, tests)) in
    adds_side_line c.args.lines.now (units_on side (closed_allotment round k)) i no_line c.loop-i-test.true (ap (row_spelt unsigned) (row ∙ ap (λ m. l.item ∷ l.limit ∷ l.price ∷ m ∷ []) (same ∙ known.2))) c.loop-i.invariant c.row.ensures

pub returns : goal.returns
returns g c = adds_side c.args.lines.now (units_on c.args.side (closed_allotment c.args.round.now c.args.offer)) c.loop-i.i c.loop-i-test.false c.loop-i.invariant
