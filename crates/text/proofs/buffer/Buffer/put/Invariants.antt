use Rattle.std.proofs.Common.{take, Ok}
use Rattle.text.specs.Buffers.{Put}
use Rattle.text.proofs.buffer.Buffer.put.Given as goal

abbrev pub invariant-loop-b : goal.invariant-loop-b
invariant-loop-b l = Put l.initial.self-inside.bytes l.self-inside.bytes (take l.b-index l.bytes) (Ok tt)
