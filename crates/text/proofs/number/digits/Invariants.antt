use Rattle.text.proofs.Parsing.{Read}
use Rattle.text.proofs.number.digits.Given as goal

abbrev pub invariant-loop-byte : goal.invariant-loop-byte
invariant-loop-byte g l = Read l.bytes l.byte-index l.value
