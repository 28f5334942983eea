use Rattle.reading.specs.Offers.{LinesRead}
use Rattle.reading.proofs.side.Side.next_lines.Given as goal

abbrev pub invariant-loop : goal.invariant-loop
invariant-loop l = LinesRead l.self.items l.self.other.now l.counter l.lines l.initial.units l.units l.initial.reader l.reader
