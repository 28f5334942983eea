use Rattle.std.proofs.Common.{take}
use Rattle.book.specs.Rows.{map_with}
use Rattle.layout.specs.Records.{fill_line}
use Rattle.round.specs.Closed.{closed_allotment}
use Rattle.round.specs.Questions.{units_on}
use Rattle.record.specs.Writing.{Adds, side_lines}
use Rattle.record.proofs.file.draft.Draft.side.Given as goal

abbrev pub invariant-loop-i : goal.invariant-loop-i
invariant-loop-i g l = Adds l.initial.self.text l.self.text (side_lines (map_with fill_line (take l.i l.lines) (units_on l.side (closed_allotment l.round l.offer))))
