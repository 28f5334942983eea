use Rattle.std.proofs.Common.{rules}
use Rattle.text.specs.Rows.{SpellsRow}
use Rattle.reading.specs.Reading.{RowOf}
use Rattle.reading.proofs.Nexts.{taken, row_to, row_from, row_line}
use Rattle.reading.proofs.next.next_row.Goals as goal

pub returns : goal.returns
returns g c =
    let notation = g.T.Numeral.notation in
    taken (RowOf notation g.row.N) (SpellsRow notation g.row.N) (λ l t p. search rules) (row_to notation g.row.N) (row_from notation g.row.N) (row_line notation g.row.N c.args.reader.now.rest) _ c.next.ensures
