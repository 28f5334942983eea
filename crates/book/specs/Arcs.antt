-- The network of a book, and the flows that an allotment fills it with.
use Rattle.std.specs.Prelude.{◌≡◌, ℕ, zero, suc, ◌+◌, ◌*◌, cond, List, [], ◌∷◌, ◌++◌, length, get_or, pos, neg_ℤ, Some, None, Option, ◌==◌}
use Rattle.flow.specs.declared.arc.Arc.{Arc}
use Rattle.flow.specs.Arcs.{SameArcs, with_flow}
use Rattle.network.specs.Networks.{Net}
use Rattle.book.specs.Rows.{map_with}
use Rattle.book.specs.Books.{Book, Offer, spot_of, no_holding, no_offer, offer_at}
use Rattle.book.specs.Allotments.{Allotment, all_of, given_by}
use Rattle.book.specs.declared.line.Line.{Line}
use Rattle.book.specs.declared.holding.Holding.{Holding}

-- the flows on the arcs of one offer: on its give lines, on its own arc and on its get lines
pub record OfferFlows : Type 0 where
  pub give : ℕ → ℕ
  pub own : ℕ
  pub get : ℕ → ℕ

-- the flows on all arcs of a book, by what they stand for
pub record Flows : Type 0 where
  pub held : ℕ → ℕ
  pub offers : ℕ → OfferFlows

-- the node that a line of item j leaves from: the member's holding, where the holdings' nodes begin at n, or the item where there is none
abbrev pub source : Option ℕ → ℕ → ℕ → ℕ
source (Some k) n j = n + k
source None n j = j

-- how much may leave on a give line: its limit, but nothing where an item other than cash has no holding
abbrev pub give_capacity : Option ℕ → Line → ℕ
give_capacity (Some k) l = l.limit
give_capacity None l = cond (l.item == 0) l.limit 0

-- from an item to the holding at node q
abbrev pub holding_arc : ℕ → Holding → ℕ → Arc
holding_arc q h x = record { from = h.item; to = q; capacity = h.units; flow = x; price = pos 0; weeks = 0 }

-- the arcs of all holdings, whose nodes are q and the next
abbrev pub holding_arcs : ℕ → List Holding → (ℕ → ℕ) → List Arc
holding_arcs q [] x = []
holding_arcs q (h ∷ hs) x = holding_arc q h (x 0) ∷ holding_arcs (q + 1) hs (λ k. x (suc k))

-- a give line of member m, from its holding or from the item to the offer's inside; there are n items
abbrev pub give_arc : ℕ → List Holding → ℕ → ℕ → Line → ℕ → Arc
give_arc n hs m inside l x = record { from = source (spot_of hs m l.item) n l.item; to = inside; capacity = give_capacity (spot_of hs m l.item) l; flow = x; price = neg_ℤ (pos l.price); weeks = 0 }

-- the offer's own arc, from its inside to its outside
abbrev pub own_arc : ℕ → ℕ → ℕ → Arc
own_arc inside limit x = record { from = inside; to = inside + 1; capacity = limit; flow = x; price = pos 0; weeks = 0 }

-- a get line, from the offer's outside to the item
abbrev pub get_arc : ℕ → Line → ℕ → Arc
get_arc outside l x = record { from = outside; to = l.item; capacity = l.limit; flow = x; price = pos l.price; weeks = cond (l.item == 0) 0 1 }

-- the arcs of one offer in order: give lines, its own, get lines
abbrev pub offer_arcs : ℕ → List Holding → ℕ → Offer → OfferFlows → List Arc
offer_arcs n hs inside o f = map_with (give_arc n hs o.member inside) o.give f.give ++ (own_arc inside o.limit f.own ∷ map_with (get_arc (inside + 1)) o.get f.get)

-- the arcs of all offers; the first one's inside is node p
abbrev pub offers_arcs : ℕ → List Holding → ℕ → List Offer → (ℕ → OfferFlows) → List Arc
offers_arcs n hs p [] f = []
offers_arcs n hs p (o ∷ os) f = offer_arcs n hs p o (f 0) ++ offers_arcs n hs (p + 2) os (λ k. f (suc k))

-- the arcs of a book in order, with flows on them
abbrev pub laid : Book → Flows → List Arc
laid b f = holding_arcs (length b.items) b.holdings f.held ++ offers_arcs (length b.items) b.holdings (length b.items + length b.holdings) b.offers f.offers

-- the nodes: the items, the holdings, and each offer's inside and outside
abbrev pub nodes : Book → ℕ
nodes b = length b.items + length b.holdings + 2 * length b.offers

abbrev pub no_flows : Flows
no_flows = record { held = λ k. 0; offers = λ k. record { give = λ t. 0; own = 0; get = λ t. 0 } }

-- the arcs of a book, with no flow
abbrev pub arcs_of : Book → List Arc
arcs_of b = laid b no_flows

-- the network of a book, with no flow
abbrev pub net_of : Book → Net
net_of b = record { nodes = nodes b; arcs = arcs_of b }

-- the same network with flow y i on arc i
abbrev pub flowing : Book → (ℕ → ℕ) → Net
flowing b y = record { nodes = nodes b; arcs = map_with (λ a x. with_flow x a) (arcs_of b) y }

-- n is the network of the book, with whatever flows
pub record NetworkOf (b : Book) (n : Net) : Type 0 where
  pub same_nodes : n.nodes ≡ nodes b
  pub same_arcs : SameArcs (arcs_of b) n.arcs

-- an allotment's units on an offer's lines; its own arc has all units that it gives
abbrev pub offer_flows : List Offer → Allotment → ℕ → OfferFlows
offer_flows os a k = record { give = (a k).give; own = all_of (get_or os k no_offer).give (a k).give; get = (a k).get }

-- a holding's arc has all units given from it
abbrev pub held_flows : List Holding → List Offer → Allotment → ℕ → ℕ
held_flows hs os a k = given_by os a (get_or hs k no_holding).member (get_or hs k no_holding).item

-- the flows that an allotment fills the network with
abbrev pub filling : Book → Allotment → Flows
filling b a = record { held = held_flows b.holdings b.offers a; offers = offer_flows b.offers a }

-- the network filled by an allotment
abbrev pub filled : Book → Allotment → Net
filled b a = record { nodes = nodes b; arcs = laid b (filling b a) }

-- the node of offer k's inside; its outside is the next
abbrev pub inside : Book → ℕ → ℕ
inside b k = length b.items + length b.holdings + 2 * k

-- how many arcs the offers before offer k have
abbrev pub arcs_before : List Offer → ℕ → ℕ
arcs_before [] k = 0
arcs_before (o ∷ os) zero = 0
arcs_before (o ∷ os) (suc k) = length o.give + suc (length o.get + arcs_before os k)

-- the number of the arc of give line t of offer k
abbrev pub give_at : Book → ℕ → ℕ → ℕ
give_at b k t = length b.holdings + (arcs_before b.offers k + t)

-- the number of offer k's own arc
abbrev pub own_at : Book → ℕ → ℕ
own_at b k = length b.holdings + (arcs_before b.offers k + length (offer_at b k).give)

-- the number of the arc of get line t of offer k
abbrev pub get_at : Book → ℕ → ℕ → ℕ
get_at b k t = length b.holdings + (arcs_before b.offers k + (length (offer_at b k).give + suc t))

-- the allotment that a row of flows puts on the lines
abbrev pub allotment_of : Book → (ℕ → ℕ) → Allotment
allotment_of b y k = record { give = λ t. y (give_at b k t); get = λ t. y (get_at b k t) }
