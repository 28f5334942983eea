use Rattle.std.proofs.Common.{◌-◌}
use Rattle.std.specs.Slice.Iter.{split_rest, split_done}
use Rattle.text.proofs.Rows.{Reading}
use Rattle.text.proofs.row.Row.read.Given as goal

abbrev pub invariant-loop-number : goal.invariant-loop-number
invariant-loop-number g l = Reading g.T.Numeral.notation g.row.N l.self.bytes.now l.number-index l.number-items (split_done l.parts) (split_rest l.parts)

-- of the rows' own count, and not of the parts that are left
abbrev pub decreases-loop-number : goal.decreases-loop-number
decreases-loop-number g l = l.number-index-end - l.number-index
