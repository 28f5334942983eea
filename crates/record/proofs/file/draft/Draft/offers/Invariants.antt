use Rattle.std.proofs.Common.{take}
use Rattle.book.specs.Rows.{map_with}
use Rattle.layout.specs.Records.{fill_offer}
use Rattle.layout.specs.Render.{offers_lines}
use Rattle.round.specs.Closed.{closed_book, closed_allotment}
use Rattle.record.specs.Writing.{Adds}
use Rattle.record.proofs.file.draft.Draft.offers.Given as goal

abbrev pub invariant-loop-k : goal.invariant-loop-k
invariant-loop-k g l = Adds l.initial.self.text l.self.text (offers_lines (map_with fill_offer (take l.k (closed_book l.round).offers) (closed_allotment l.round)))
