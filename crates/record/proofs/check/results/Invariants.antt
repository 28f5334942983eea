use Rattle.std.proofs.Common.{◌≡◌, take}
use Rattle.book.specs.Rows.{map_with}
use Rattle.round.specs.Closed.{closed_book, closed_allotment}
use Rattle.record.specs.Checks.{result_of}
use Rattle.record.proofs.check.results.Given as goal

abbrev pub invariant-loop-k : goal.invariant-loop-k
invariant-loop-k g l = l.results ≡ map_with result_of (take l.k (closed_book l.round).offers) (closed_allotment l.round)
