-- The law over whole uses of a round, from open on.
use Rattle.std.specs.Prelude.{◌≡◌, ℕ, ◌<◌, ◌↔◌, Bool, ◌==◌, ◌&&◌, List, [], ◌∷◌, map, length, reverse, filter_map, find, Contains, codes, slice_index_or, Some, None, Option, option_map, Ok, Err, Result}
use Rattle.std.specs.Set.{unique_keys}
use Rattle.tables.specs.declared.refusal.Refusal.{Refusal}
use Rattle.worth.specs.Kinds.{Ops, Laws}
use Rattle.network.specs.Networks.{Net, flow_in, value}
use Rattle.search.specs.Outcomes.{Improving, Clearing}
use Rattle.search.specs.Uses.{risen, summed}
use Rattle.book.specs.Books.{Book, Offer, Sound, no_offer, pair, is_of, held_by}
use Rattle.book.specs.Allotments.{Allotment, Allowed}
use Rattle.book.specs.Arcs.{filled, allotment_of}
use Rattle.book.specs.Agreement.{BestAllotment}
use Rattle.book.specs.declared.holding.Holding.{Holding}
use Rattle.round.specs.Rounds.{book, fresh}
use Rattle.round.specs.Naming.{TakesItem, TakesMember}
use Rattle.round.specs.Holdings.{Holds}
use Rattle.round.specs.Offering.{TakesOffer, withdrawn, Withdraws}
use Rattle.round.specs.Closed.{Closes}
use Rattle.round.specs.Piles.{Piled, ops_of}
use Rattle.round.specs.declared.open_round.OpenRound.{OpenRound}

-- a call that an open round accepted
pub data Accepted : Type 0 where
  an_item : List ℕ → Accepted
  a_member : List ℕ → Accepted
  a_holding : Holding → Accepted
  an_offer : Offer → Accepted
  a_withdrawal : ℕ → Accepted

-- the name that an accepted call gave an item, if it is one of item; the next four likewise
abbrev pub item_named : Accepted → Option (List ℕ)
item_named (an_item s) = Some s
item_named call = None

-- the name that it gave a member
abbrev pub member_named : Accepted → Option (List ℕ)
member_named (a_member s) = Some s
member_named call = None

-- the holding that it set
abbrev pub held : Accepted → Option Holding
held (a_holding h) = Some h
held call = None

-- the offer that it made
abbrev pub offered : Accepted → Option Offer
offered (an_offer o) = Some o
offered call = None

-- the number of the offer that it withdrew
abbrev pub number_withdrawn : Accepted → Option ℕ
number_withdrawn (a_withdrawal k) = Some k
number_withdrawn call = None

-- the same member and the same item
abbrev pub same_pair : ℕ × ℕ → ℕ × ℕ → Bool
same_pair p q = p.0 == q.0 && p.1 == q.1

-- what accepted calls, the latest first, leave in a round that held nothing but cash
pub record Left (calls : List Accepted) (b : Book) : Type 0 where
  -- cash, then the names that item took, in the order of the calls
  pub items : b.items ≡ codes "cash" ∷ reverse (filter_map item_named calls)
  -- the names that member took, in the order of the calls
  pub members : b.members ≡ reverse (filter_map member_named calls)
  -- each pair of a member and an item that was held, once, in the order of the first hold for it
  pub pairs : map pair b.holdings ≡ reverse (unique_keys same_pair (map pair (filter_map held calls)))
  -- of each pair the units of the latest hold for it, or none where there was no hold for it
  pub units : (m i : ℕ) → held_by b.holdings m i ≡ option_map (λ h. h.units) (find (λ h. is_of h m i) (filter_map held calls))
  -- as many offers as were made
  pub count : length b.offers ≡ length (filter_map offered calls)
  -- the offers in the order made, counted from 0: offer k as it was made where no call withdrew it
  pub standing : (k : ℕ) → k < length b.offers → (Contains (filter_map number_withdrawn calls) k → ⊥) → slice_index_or b.offers k no_offer ≡ slice_index_or (reverse (filter_map offered calls)) k no_offer
  -- and with limit 0 where a call did
  pub gone : (k : ℕ) → k < length b.offers → Contains (filter_map number_withdrawn calls) k → slice_index_or b.offers k no_offer ≡ withdrawn (slice_index_or (reverse (filter_map offered calls)) k no_offer)

-- the book holds just what accepted calls leave: they leave no other
pub record JustLeft (calls : List Accepted) (b : Book) : Type 0 where
  pub left : Left calls b
  pub alone : (c : Book) → Left calls c → c ≡ b
  -- an offer has limit 0 exactly where one of them withdrew it
  pub limits : (k : ℕ) → k < length b.offers → ((slice_index_or b.offers k no_offer).limit ≡ 0) ↔ Contains (filter_map number_withdrawn calls) k

-- a refused call is not among the accepted ones
abbrev pub noted : {X : Type 0} → Result X Refusal → Accepted → List Accepted → List Accepted
noted (Ok x) call calls = call ∷ calls
noted (Err e) call calls = calls

-- calls on one open round from open on, refused ones among them, with the accepted ones and the book that they leave
pub data Opened : List Accepted → Book → Type 0 where
  begun : (b : Book) → b ≡ fresh → Opened [] b
  item : {calls : List Accepted} {b : Book} (b' : Book) (s : List ℕ) (r : Result ℕ Refusal) → Opened calls b → TakesItem b b' s r → Opened (noted r (an_item s) calls) b'
  member : {calls : List Accepted} {b : Book} (b' : Book) (s : List ℕ) (r : Result ℕ Refusal) → Opened calls b → TakesMember b b' s r → Opened (noted r (a_member s) calls) b'
  hold : {calls : List Accepted} {b : Book} (b' : Book) (h : Holding) (r : Result (Unit {0}) Refusal) → Opened calls b → Holds b b' h r → Opened (noted r (a_holding h) calls) b'
  offer : {calls : List Accepted} {b : Book} (b' : Book) (o : Offer) (r : Result ℕ Refusal) → Opened calls b → TakesOffer b b' o r → Opened (noted r (an_offer o) calls) b'
  withdraw : {calls : List Accepted} {b : Book} (b' : Book) (k : ℕ) (r : Result (Unit {0}) Refusal) → Opened calls b → Withdraws b b' k r → Opened (noted r (a_withdrawal k) calls) b'

-- wherever it stops, an open round holds just what the accepted calls leave in it, and its book is sound
abbrev pub OpenLaw : Type 0
OpenLaw = (calls : List Accepted) (b : Book) → Opened calls b → JustLeft calls b × Sound b

-- such calls, then close, then calls of improve and clear, with the calls accepted before close, the book, the network and the sum of the rises
pub data Use {W : Type 0} (o : Ops W) : List Accepted → Book → Net → W → Type 0 where
  closed : {calls : List Accepted} {b : Book} (b' : Book) (n : Net) → Opened calls b → Closes b b' n → Use o calls b' n o.none
  improved : {calls : List Accepted} {b : Book} {s : Net} {sum : W} (b' : Book) (t : Net) (work work' : List W) (r : Result (Option W) Refusal) → Use o calls b s sum → b' ≡ b → Improving o s t work work' r → Use o calls b' t (o.plus sum (risen o r))
  cleared : {calls : List Accepted} {b : Book} {s : Net} {sum : W} (b' : Book) (t : Net) (work work' : List W) (r : Result W Refusal) → Use o calls b s sum → b' ≡ b → Clearing o s t work work' r → Use o calls b' t (o.plus sum (summed o r))

-- the allotment of a book whose network is n: the flows on the lines
abbrev pub allotted : Book → Net → Allotment
allotted b n = allotment_of b (flow_in n)

module _ {W : Type 0} (o : Ops W) where
  -- what holds wherever a use stops after close: the round holds still just what the calls accepted before close leave, and its book is sound;
  -- the allotment fills the network, is allowed, and is worth the sum of the rises;
  -- improve, unless refused, answers best exactly where every allowed allotment is worth at most as much, and clear, unless refused, ends there
  pub record Standing (calls : List Accepted) (b : Book) (n : Net) (sum : W) : Type 0 where
    pub kept : JustLeft calls b
    pub sound : Sound b
    pub fills : n ≡ filled b (allotted b n)
    pub allowed : Allowed b (allotted b n)
    pub worth : value o (filled b (allotted b n)) ≡ sum
    pub best : (t : Net) (work work' : List W) (r : Option W) → Improving o n t work work' (Ok r) → (r ≡ None) ↔ BestAllotment o b (allotted b n)
    pub ends : (t : Net) (work work' : List W) (rise : W) → Clearing o n t work work' (Ok rise) → BestAllotment o b (allotted b t)

  abbrev pub Law : Type 0
  Law = (calls : List Accepted) (b : Book) (n : Net) (sum : W) → Use o calls b n sum → Standing calls b n sum

-- what holds over whole uses: the calls of an open round know no kind, so it stands on them for each kind that is piled up from money and weeks, and
-- for each whose worths are numbered by the whole numbers; on close, improve, clear and worth it stands for any
abbrev pub RoundLaw : Type 0
RoundLaw = OpenLaw × ((kind : Piled) → Law (ops_of kind)) × ((o : Ops ℕ) → Laws o → Law o)

-- some calls from open on leave this book
abbrev pub Built : Book → Type 0
Built b = (calls : List Accepted) × Opened calls b

-- each sound book is left by some calls
abbrev pub EachBuilt : Type 0
EachBuilt = (b : Book) → Sound b → Built b

-- so each open round, however a program came by it, holds what some calls leave
abbrev pub RoundsBuilt : Type 0
RoundsBuilt = (r : OpenRound) → Built (book r)
