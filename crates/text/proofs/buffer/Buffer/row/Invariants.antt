use Rattle.std.proofs.Common.{take, Ok}
use Rattle.text.specs.Buffers.{Put}
use Rattle.text.specs.Rows.{spaced}
use Rattle.text.proofs.buffer.Buffer.row.Given as goal

abbrev pub invariant-loop-x : goal.invariant-loop-x
invariant-loop-x g l = Put l.initial.self l.self (spaced g.T.Numeral.notation (take l.x-index l.others)) (Ok tt)
