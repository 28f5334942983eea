use Rattle.std.proofs.Common.{◌≡◌, ◌++◌, map, length, take}
use Rattle.book.specs.Arcs.{give_arc, get_arc}
use Rattle.round.specs.Rounds.{book}
use Rattle.round.proofs.open_round.OpenRound.add_offer.Given as goal

abbrev pub invariant-loop-l : goal.invariant-loop-l
invariant-loop-l l = let b = book l.self in l.arcs ≡ l.initial.arcs ++ map (λ x. give_arc (length b.items) b.holdings l.offer.member l.inside x 0) (take l.l-index l.offer.give.now)

abbrev pub invariant-loop-l-2 : goal.invariant-loop-l-2
invariant-loop-l-2 l = l.arcs ≡ l.initial.arcs ++ map (λ x. get_arc l.outside x 0) (take l.l-index l.offer.get.now)
