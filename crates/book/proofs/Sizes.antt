-- The network of a sound book is within the bounds of networks.
use Rattle.std.proofs.Common.{◌≡◌, ℕ, suc, ◌+◌, ◌*◌, ◌<◌, ◌≤◌, Bool, true, false, cond, eqb, List, [], ◌∷◌, length, pos, negsuc, neg_ℤ, ◌≤ℤ◌, sym, refl, ap, subst, ⊎_elim, arith}
use Rattle.std.specs.List.{AllByRecursion}
use Rattle.std.proofs.ByRecursion.{All-append, All-get_or, All-weaker}
use Rattle.std.proofs.lemmas.List.{get_or_past}
use Rattle.std.proofs.lemmas.Int.{ints}
use Rattle.std.proofs.lemmas.Bool.{cases_lt}
use Rattle.worth.specs.Kinds.{Ops, Laws}
use Rattle.flow.specs.Graphs.{Sound as SoundGraph}
use Rattle.flow.specs.Arcs.{blank, arc_at}
use Rattle.flow.specs.declared.arc.Arc.{Arc}
use Rattle.network.specs.Networks.{SoundArc, graph}
use Rattle.network.specs.Networks as networks
use Rattle.book.specs.Books.{Book, Offer, Fair, FairHolding, FairOffer, Sound}
use Rattle.book.specs.Arcs.{Flows, OfferFlows, holding_arcs, give_arc, get_arc, offer_arcs, offers_arcs, laid, nodes, no_flows, arcs_of, net_of}
use Rattle.book.specs.Agreement.{NetworkIsSound, FlowingIsSound}
use Rattle.book.specs.declared.line.Line.{Line}
use Rattle.book.specs.declared.holding.Holding.{Holding}
use Rattle.book.proofs.Each.{with_from_all, with_from_at, all_offer}
use Rattle.book.proofs.Holdings.{leaves_under}
use Rattle.book.proofs.Rules.{Fits, Fitting, capacity_le}
use Rattle.book.proofs.Filled.{length_arcs, flows_laid_book}
use Rattle.book.proofs.Networks.{fitting_to}

-- the bounds of an arc that its flow does not touch
pub record Good (n : ℕ) (a : Arc) : Type 0 where
  pub from_in : a.from < n
  pub to_in : a.to < n
  pub small : a.capacity ≤ 1000
  pub low : negsuc 999999 ≤ℤ a.price
  pub high : a.price ≤ℤ pos 1000000
  pub light : a.weeks ≤ 1

weekly : (b : Bool) → cond b 0 1 ≤ 1
weekly true = omega arith
weekly false = omega arith

low_price : (p : ℕ) → p ≤ 1000000 → negsuc 999999 ≤ℤ neg_ℤ (pos p)
low_price p h = omega (arith, ints)

high_price : (p : ℕ) → p ≤ 1000000 → pos p ≤ℤ pos 1000000
high_price p h = omega (arith, ints)

neg_high : (p : ℕ) → neg_ℤ (pos p) ≤ℤ pos 1000000
neg_high p = omega (arith, ints)

pos_low : (p : ℕ) → negsuc 999999 ≤ℤ pos p
pos_low p = omega (arith, ints)

good_held : (n m items q : ℕ) (hs : List Holding) (x : ℕ → ℕ) → items ≤ n → q + length hs ≤ n → AllByRecursion (FairHolding items m) hs → AllByRecursion (Good n) (holding_arcs q hs x)
good_held n m items q [] x k l e = tt
good_held n m items q (h ∷ hs) x k l e = (record { from_in = omega (arith, e.0.1); to_in = omega arith; small = e.0.2; low = pos_low 0; high = high_price 0 (omega arith); light = omega arith }, good_held n m items (q + 1) hs (λ k. x (suc k)) k (omega arith) e.1)

module _ (items m : ℕ) (hs : List Holding) (n : ℕ) where
  good_offers : (p : ℕ) (os : List Offer) (f : ℕ → OfferFlows) → items + length hs ≤ p → p + 2 * length os ≤ n → AllByRecursion (FairOffer items m) os → AllByRecursion (Good n) (offers_arcs items hs p os f)
  good_offers p [] f l h e = tt
  good_offers p (o ∷ os) f l h e =
      All-append (Good n) (offer_arcs items hs p o (f 0)) (offers_arcs items hs (p + 2) os (λ k. f (suc k)))
      (all_offer (Good n) items hs p o (f 0) (
        with_from_all (Fair items) (λ w y. Good n (give_arc items hs o.member p w y)) given o.give (f 0).give e.0.gives.fair,
        record { from_in = omega arith; to_in = omega arith; small = e.0.most; low = pos_low 0; high = high_price 0 (omega arith); light = omega arith },
        with_from_all (Fair items) (λ w y. Good n (get_arc (p + 1) w y)) gotten o.get (f 0).get e.0.gets.fair,
      ))
      (good_offers (p + 2) os (λ k. f (suc k)) (omega arith) (omega arith) e.1)
    where
      given : (w : Line) (y : ℕ) → Fair items w → Good n (give_arc items hs o.member p w y)
      given w y r = record { from_in = omega (arith, leaves_under items hs o.member w.item (omega arith)); to_in = omega arith; small = omega (arith, capacity_le hs o.member w); low = low_price w.price r.price; high = neg_high w.price; light = omega arith }

      gotten : (w : Line) (y : ℕ) → Fair items w → Good n (get_arc (p + 1) w y)
      gotten w y r = record { from_in = omega arith; to_in = omega arith; small = r.most; low = pos_low w.price; high = high_price w.price r.price; light = weekly (eqb w.item 0) }

good : (b : Book) (f : Flows) → Sound b → AllByRecursion (Good (nodes b)) (laid b f)
good b f s =
    All-append (Good (nodes b)) (holding_arcs (length b.items) b.holdings f.held) (offers_arcs (length b.items) b.holdings (length b.items + length b.holdings) b.offers f.offers)
    (good_held (nodes b) (length b.members) (length b.items) (length b.items) b.holdings f.held (omega arith) (omega arith) s.holdings_fair)
    (good_offers (length b.items) (length b.members) b.holdings (nodes b) (length b.items + length b.holdings) b.offers f.offers (omega arith) (omega arith) s.offers_fair)

pub graph_sound : {W : Type 0} (o : Ops W) (b : Book) → Sound b → SoundGraph (graph o (net_of b))
graph_sound o b s = record { frm_in = λ i l. (All-get_or (Good (nodes b)) (arcs_of b) i blank l (good b no_flows s)).from_in; to_in = λ i l. (All-get_or (Good (nodes b)) (arcs_of b) i blank l (good b no_flows s)).to_in }

-- a unit on an arc of the book has a size of at most 1
pub unit_small : {W : Type 0} (o : Ops W) → Laws o → (b : Book) → Sound b → (i : ℕ) → i < length (arcs_of b) → o.size ((graph o (net_of b)).unit i) ≤ 1
unit_small o laws b s i l =
    let g = All-get_or (Good (nodes b)) (arcs_of b) i blank l (good b no_flows s) in
    laws.size_unit (arc_at (arcs_of b) i).price (arc_at (arcs_of b) i).weeks g.low g.high g.light

-- with flows within the capacities
sound_laid : (b : Book) (f : Flows) → Sound b → Fitting (laid b f) → networks.Sound (record { nodes = nodes b; arcs = laid b f })
sound_laid b f s w = record {
  few_nodes = omega (arith, s.items_few, s.holdings_few, s.offers_few);
  few_arcs = omega (arith, length_arcs b f, s.holdings_few, s.lines_few, s.offers_few);
  each = λ i l. sound_arc (arc_at (laid b f) i) (All-get_or (Good (nodes b)) (laid b f) i blank l (good b f s)) (All-get_or Fits (laid b f) i blank l w);
}
  where
    sound_arc : (a : Arc) → Good (nodes b) a → Fits a → SoundArc (nodes b) a
    sound_arc a g h = record { from_in = g.from_in; to_in = g.to_in; small = g.small; held = h; low = g.low; high = g.high; light = g.light }

-- no flow
abbrev Empty : Arc → Type 0
Empty a = a.flow ≡ 0

empty_held : (q : ℕ) (hs : List Holding) → AllByRecursion Empty (holding_arcs q hs no_flows.held)
empty_held q [] = tt
empty_held q (h ∷ hs) = (refl, empty_held (q + 1) hs)

empty_offers : (n : ℕ) (hs : List Holding) (p : ℕ) (os : List Offer) → AllByRecursion Empty (offers_arcs n hs p os no_flows.offers)
empty_offers n hs p [] = tt
empty_offers n hs p (o ∷ os) = All-append Empty (offer_arcs n hs p o (no_flows.offers 0)) (offers_arcs n hs (p + 2) os no_flows.offers) (all_offer Empty n hs p o (no_flows.offers 0) (with_from_at (λ l y. y ≡ 0) o.give (λ t. 0) (λ k d l. refl), refl, with_from_at (λ l y. y ≡ 0) o.get (λ t. 0) (λ k d l. refl))) (empty_offers n hs (p + 2) os)

empty : (b : Book) → AllByRecursion Empty (arcs_of b)
empty b = All-append Empty (holding_arcs (length b.items) b.holdings no_flows.held) (offers_arcs (length b.items) b.holdings (length b.items + length b.holdings) b.offers no_flows.offers) (empty_held (length b.items) b.holdings) (empty_offers (length b.items) b.holdings (length b.items + length b.holdings) b.offers)

pub network_is_sound_lem : NetworkIsSound
network_is_sound_lem b s = (sound_laid b no_flows s (All-weaker Empty Fits (λ a e. omega (arith, e)) (arcs_of b) (empty b)), λ i. ⊎_elim (λ l. All-get_or Empty (arcs_of b) i blank l (empty b)) (λ l. ap (λ a. a.flow) (get_or_past (arcs_of b) i blank l)) (cases_lt i (length (arcs_of b))))

pub flowing_is_sound : FlowingIsSound
flowing_is_sound b y s w =
    let e = flows_laid_book b y in
    subst (λ xs. networks.Sound (record { nodes = nodes b; arcs = xs })) (sym e.1) (sound_laid b e.0 s (subst Fitting e.1 (fitting_to (arcs_of b) y w)))
