-- What a closed round holds, and what close does.
use Rattle.std.specs.Prelude.{◌≡◌}
use Rattle.flow.specs.Arcs.{SameArcs}
use Rattle.network.specs.Networks.{Net, flow_in}
use Rattle.book.specs.Books.{Book}
use Rattle.book.specs.Allotments.{Allotment}
use Rattle.book.specs.Arcs.{nodes, net_of, allotment_of}
use Rattle.round.specs.Rounds.{book}
use Rattle.round.specs.declared.closed_round.ClosedRound.{ClosedRound}

-- the book that it was closed with
abbrev pub closed_book : {W : Type 0} → ClosedRound W → Book
closed_book r = book r.round

-- its network, with the flows that stand on it
abbrev pub closed_net : {W : Type 0} → ClosedRound W → Net
closed_net r = record { nodes = nodes (book r.round); arcs = r.arcs }

-- its allotment: the flows on the lines
abbrev pub closed_allotment : {W : Type 0} → ClosedRound W → Allotment
closed_allotment r = allotment_of (closed_book r) (flow_in (closed_net r))

-- what close does: the book stays as it is, and no flow stands on its network
pub record Closes (before after : Book) (n : Net) : Type 0 where
  pub book : after ≡ before
  pub net : n ≡ net_of before

-- the same but for flows
pub record Alike {W : Type 0} (x y : ClosedRound W) : Type 0 where
  pub round : x.round ≡ y.round
  pub arcs : SameArcs x.arcs y.arcs
