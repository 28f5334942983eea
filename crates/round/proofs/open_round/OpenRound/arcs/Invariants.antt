use Rattle.std.proofs.Common.{◌≡◌, length}
use Rattle.round.specs.Rounds.{book}
use Rattle.round.proofs.Drawn.{front}
use Rattle.round.proofs.open_round.OpenRound.arcs.Given as goal

abbrev pub invariant-loop-k : goal.invariant-loop-k
invariant-loop-k l = l.arcs ≡ front (length (book l.self).items) (book l.self).holdings l.self.lines l.entry-items l.k
