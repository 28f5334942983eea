-- How allotments and the network of a book agree: where each arc stands, what is allowed, what it is worth, and what is best.
use Rattle.std.specs.Prelude.{◌≡◌, ℕ, ◌+◌, ◌<◌, ◌≤◌, ◌↔◌, length, pos, slice_index_or}
use Rattle.worth.specs.Kinds.{Ops}
use Rattle.worth.specs.Money.{money}
use Rattle.worth.specs.Weeks.{weeks}
use Rattle.worth.specs.Lexicographic.{pile}
use Rattle.flow.specs.Groups.{Le}
use Rattle.flow.specs.Graphs.{Circulation, Within, Fits}
use Rattle.flow.specs.Optimality.{Best, Potentials}
use Rattle.flow.specs.Arcs.{arc_at}
use Rattle.network.specs.Networks.{Net, flow_in, graph, value}
use Rattle.network.specs.Networks as networks
use Rattle.book.specs.Books.{Book, Sound, line_count, no_line, no_holding, offer_at}
use Rattle.book.specs.Allotments.{Allotment, Allowed, Alike, payoffs, weeks_got}
use Rattle.book.specs.Arcs.{Flows, holding_arc, give_arc, own_arc, get_arc, laid, arcs_of, net_of, flowing, NetworkOf, filled, inside, give_at, own_at, get_at, allotment_of}

-- there is an arc for each holding, each line and each offer; where it stands, and what it is
pub record Placed (b : Book) (f : Flows) : Type 0 where
  pub count : length (laid b f) ≡ length b.holdings + (line_count b.offers + length b.offers)
  pub held : (k : ℕ) → k < length b.holdings → arc_at (laid b f) k ≡ holding_arc (length b.items + k) (slice_index_or b.holdings k no_holding) (f.held k)
  pub give : (k t : ℕ) → k < length b.offers → t < length (offer_at b k).give → arc_at (laid b f) (give_at b k t) ≡ give_arc (length b.items) b.holdings (offer_at b k).member (inside b k) (slice_index_or (offer_at b k).give t no_line) ((f.offers k).give t)
  pub own : (k : ℕ) → k < length b.offers → arc_at (laid b f) (own_at b k) ≡ own_arc (inside b k) (offer_at b k).limit (f.offers k).own
  pub get : (k t : ℕ) → k < length b.offers → t < length (offer_at b k).get → arc_at (laid b f) (get_at b k t) ≡ get_arc (inside b k + 1) (slice_index_or (offer_at b k).get t no_line) ((f.offers k).get t)

abbrev pub ArcsArePlaced : Type 0
ArcsArePlaced = (b : Book) (f : Flows) → Placed b f

module _ {W : Type 0} (o : Ops W) where
  -- the flows y stay within the capacities of the book's network and form a circulation
  pub record Circulates (b : Book) (y : ℕ → ℕ) : Type 0 where
    pub within : Within (graph o (net_of b)) y
    pub balanced : Circulation (graph o (net_of b)) y

  -- an allotment is allowed exactly when the flows that it fills the network with do so
  abbrev pub AllowedIsCirculation : Type 0
  AllowedIsCirculation = (b : Book) (a : Allotment) → Sound b → Allowed b a ↔ Circulates b (flow_in (filled b a))

  -- flows that do so are those of the allotment that they put on the lines, and it is allowed
  abbrev pub CirculationIsFilled : Type 0
  CirculationIsFilled = (b : Book) (y : ℕ → ℕ) → Sound b → Circulates b y → Allowed b (allotment_of b y) × (flowing b y ≡ filled b (allotment_of b y))

  -- every allowed allotment is worth at most as much
  abbrev pub BestAllotment : Book → Allotment → Type 0
  BestAllotment b a = (c : Allotment) → Allowed b c → Le o (value o (filled b c)) (value o (filled b a))

  -- an allowed allotment is best exactly when its flows are best among the circulations within the capacities
  abbrev pub BestIsBestCirculation : Type 0
  BestIsBestCirculation = (b : Book) (a : Allotment) → Sound b → Allowed b a → BestAllotment b a ↔ Best o (graph o (net_of b)) (flow_in (filled b a))

  -- potentials that fit its flows show that an allowed allotment is best, and a best one has such potentials, each of size at most the number of nodes
  pub record HasPotentials (b : Book) (a : Allotment) : Type 0 where
    pub show : (L : ℕ → W) → Fits o (graph o (net_of b)) L (flow_in (filled b a)) → BestAllotment b a
    pub exist : BestAllotment b a → Potentials o (graph o (net_of b)) (flow_in (filled b a))

  abbrev pub BestHasPotentials : Type 0
  BestHasPotentials = (b : Book) (a : Allotment) → Sound b → Allowed b a → HasPotentials b a

  -- what a network of the book stands for, where its flows are a circulation within the capacities: an allowed allotment
  -- that fills it, and that is best exactly when the flows are
  pub record StandsFor (b : Book) (n : Net) : Type 0 where
    pub allowed : Allowed b (allotment_of b (flow_in n))
    pub fills : n ≡ filled b (allotment_of b (flow_in n))
    pub best : Best o (graph o n) (flow_in n) ↔ BestAllotment b (allotment_of b (flow_in n))

  abbrev pub NetworkStandsFor : Type 0
  NetworkStandsFor = (b : Book) (n : Net) → Sound b → NetworkOf b n → Within (graph o n) (flow_in n) → Circulation (graph o n) (flow_in n) → StandsFor b n

-- by money an allotment is worth the sum of the payoffs, in cents
abbrev pub MoneyIsPayoffs : Type 0
MoneyIsPayoffs = (b : Book) (a : Allotment) → (value money (filled b a)).cents ≡ payoffs b.offers a

-- by money then weeks it is worth that and the weeks got
abbrev pub MoneyThenWeeks : Type 0
MoneyThenWeeks = (b : Book) (a : Allotment) → ((value (pile money weeks) (filled b a)).first.cents ≡ payoffs b.offers a) × ((value (pile money weeks) (filled b a)).second.count ≡ pos (weeks_got b.offers a))

-- the units that an allotment fills the network with are those that it puts on the lines
abbrev pub FillingKeepsUnits : Type 0
FillingKeepsUnits = (b : Book) (a : Allotment) → Alike b.offers (allotment_of b (flow_in (filled b a))) a

-- allotments that are alike on the lines fill the network alike, and if one is allowed then so is the other
abbrev pub AlikeAreFilledAlike : Type 0
AlikeAreFilledAlike = (b : Book) (a c : Allotment) → Alike b.offers a c → (filled b a ≡ filled b c) × (Sound b → Allowed b a → Allowed b c)

-- the network of a book is within the bounds of networks, and there is no flow on it
abbrev pub NetworkIsSound : Type 0
NetworkIsSound = (b : Book) → Sound b → networks.Sound (net_of b) × ((i : ℕ) → flow_in (net_of b) i ≡ 0)

-- so it is with flows within the capacities
abbrev pub FlowingIsSound : Type 0
FlowingIsSound = (b : Book) (y : ℕ → ℕ) → Sound b → ((i : ℕ) → i < length (arcs_of b) → y i ≤ (arc_at (arcs_of b) i).capacity) → networks.Sound (flowing b y)
