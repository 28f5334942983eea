use Rattle.std.proofs.Common.{refl}
use Rattle.std.proofs.lemmas.Result.{err_from_is_err_and}
use Rattle.tables.specs.Refusals.{refusal}
use Rattle.text.specs.Numbers.{unsigned}
use Rattle.text.specs.Rows.{SpellsRow}
use Rattle.layout.specs.Layout.{holding}
use Rattle.round.specs.Rounds.{book}
use Rattle.reading.specs.Drafts.{so_far}
use Rattle.reading.specs.declared.entry.Entry.TheVariants.{Holding}
use Rattle.reading.proofs.Gains.{told}
use Rattle.reading.proofs.HoldingLines.{said, same_rules, line_held, row_lies, row_from}
use Rattle.reading.proofs.Steps.{missed}
use Rattle.reading.proofs.Taken.{few_items, few_members}
use Rattle.reading.proofs.draft.Draft.next_holding.Goals as goal

pub returns-in_err-row : goal.returns-in_err-row
returns-in_err-row c =
    let p = err_from_is_err_and c.from_residual.result c.from_residual.ensures.1 in
    rw (p.1, p.2) (missed holding (so_far c.args.self.now) (SpellsRow unsigned 3) c.in_err-row.ensures row_from)

pub returns : goal.returns
returns c =
    let d = c.args.self.now in
    let b = book d.round in
    let row = c.in_ok-row.row.said in
    let n = c.in_ok-row.ensures in
    let h = c.clamped.result in
    let r = c.hold_first.result in
    let t = c.hold_first.ensures in
    let f = few_items d.round in
    let g = few_members d.round in
    let first = same_rules b f g (said row) h c.clamped.ensures (refusal r) t.refused in
    told Holding d _ (SpellsRow unsigned 3) (said row) refl n.1 (row_lies row _ (so_far d) n.1.is) _ n.0 r first (line_held b f g (said row) h c.clamped.ensures d.kind d.units d.levels (book c.hold_first.new.round) r t) _ c.at_line.ensures
