-- Reading the offers of a record: the head of each, and under it the lines of its sides.
use Rattle.std.specs.Prelude.{◌≡◌, ℕ, ◌+◌, ◌<◌, ◌≤◌, List, [], ◌∷◌, ◌++◌, map, length, replicate, IfOk, Result, MatchResult, slice_index}
use Rattle.std.specs.List.{ContainsAt as Has, AllByRecursion}
use Rattle.tables.specs.Refusals.{when, First, refusal}
use Rattle.tables.specs.declared.refusal.Refusal.{Refusal}
use Rattle.text.specs.declared.fault.Fault.{Fault}
use Rattle.text.specs.declared.reader.Reader.{Reader}
use Rattle.book.specs.Books.{Book, Offer, Distinct, Loop, Fair, FairOffer, item_of, line_count}
use Rattle.book.specs.declared.line.Line.{Line}
use Rattle.layout.specs.Layout.{Slot, offer, give, get, HeadOfOffer, line_rules, rules, with_offers}
use Rattle.layout.specs.Records.{LineWithUnits, OfferWithUnits, Contents, line_of, units_of, offer_of}
use Rattle.round.specs.Rounds.{with_offers as book_with}
use Rattle.reading.specs.Reading.{Onward, Stops}
use Rattle.reading.specs.declared.offer_head.OfferHead.{OfferHead}
use Rattle.reading.specs.declared.side.FilledLine.{FilledLine}

-- what the head of an offer says
abbrev pub head_said : OfferHead → HeadOfOffer
head_said h = record { member = h.member; limit = h.limit; gives = h.gives; gets = h.gets }

-- what a line of a side says
abbrev pub line_said : FilledLine → LineWithUnits
line_said l = record { line = l.line; units = l.units }

-- what a row of four numbers says as the head of an offer
abbrev pub as_head : List ℕ → HeadOfOffer
as_head ns = record { member = slice_index ns 0; limit = slice_index ns 1; gives = slice_index ns 2; gets = slice_index ns 3 }

-- what it says as a line of a side
abbrev pub as_line : List ℕ → LineWithUnits
as_line ns = record { line = record { item = slice_index ns 0; limit = slice_index ns 1; price = slice_index ns 2 }; units = slice_index ns 3 }

-- the head of an offer by one of so many members, which so many lines leave room for
pub record FairHead (members lines : ℕ) (h : OfferHead) : Type 0 where
  pub known : h.member < members
  pub room : lines + (h.gives + h.gets) ≤ 256
  pub most : h.limit ≤ 1000
  pub gives : 1 ≤ h.gives
  pub gets : 1 ≤ h.gets

-- numbers were tested as the head of an offer by one of so many members, below so many lines
pub record HeadTested (members lines : ℕ) (ns : List ℕ) (r : Result OfferHead Refusal) : Type 0 where
  pub fair : IfOk r (λ h. FairHead members lines h)
  pub same : IfOk r (λ h. head_said h ≡ as_head ns)
  pub refused : (x : Contents) → length x.members ≡ members → line_count (map offer_of x.offers) ≡ lines → First (rules offer x (as_head ns)) (refusal r)

-- a line of one of so many items that may stand below these lines of its side, where these lines are given
pub record FairBelow (items : ℕ) (given above : List Line) (l : Line) : Type 0 where
  pub fair : Fair items l
  pub apart : Has (map item_of above) l.item → ⊥
  pub no_loop : Loop given (l ∷ []) → ⊥

-- numbers were tested as a line of such an offer, below these lines of its side
pub record LineTested (items : ℕ) (given above : List Line) (ns : List ℕ) (r : Result FilledLine Refusal) : Type 0 where
  pub fair : IfOk r (λ l. FairBelow items given above l.line)
  pub same : IfOk r (λ l. line_said l ≡ as_line ns)
  pub refused : (x : Contents) (ls : List LineWithUnits) → length x.items ≡ items → map line_of ls ≡ above → First (line_rules x ls (as_line ns) ++ when 8 (Loop given ((as_line ns).line ∷ [])) ∷ []) (refusal r)

-- the lines of an offer that are being read: those that it gives, or those that it gets for given ones
pub data Part : Type 0 where
  give_lines : Part
  get_lines : List LineWithUnits → Part

-- the sort of its lines
abbrev pub slot : Part → Slot
slot give_lines = give
slot (get_lines gs) = get

-- the lines that are given
abbrev pub given : Part → List LineWithUnits
given give_lines = []
given (get_lines gs) = gs

-- the offer with this head, of which these lines are read
abbrev pub offer_with : Part → HeadOfOffer → List LineWithUnits → OfferWithUnits
offer_with give_lines h ls = record { member = h.member; limit = h.limit; give = ls; get = [] }
offer_with (get_lines gs) h ls = record { member = h.member; limit = h.limit; give = gs; get = ls }

-- the contents with one offer more, of which these lines are read
abbrev pub with_part : Part → Contents → HeadOfOffer → List LineWithUnits → Contents
with_part p x h ls = with_offers x (x.offers ++ offer_with p h ls ∷ [])

-- the part is of an offer over so many items, and these lines are given
abbrev pub Within : Part → Contents → ℕ → List Line → Type 0
Within p x items lines = (length x.items ≡ items) × (map line_of (given p) ≡ lines)

-- a line was read that stands below the others of its part; or the text is refused there
abbrev pub LineAdded : Part → Contents → HeadOfOffer → List LineWithUnits → Reader → Reader → Result FilledLine Fault → Type 0
LineAdded p x h ls before after r = MatchResult r (λ l. (due : List Slot) → Onward (slot p ∷ due) (with_part p x h ls) before due (with_part p x h (ls ++ line_said l ∷ [])) after) (λ f. (due : List Slot) → Stops (slot p ∷ due) (with_part p x h ls) before f)

-- n lines of a part were read: they keep the rules and are these, and their units came to the end of a row
pub record LinesRead (items : ℕ) (gs : List Line) (n : ℕ) (lines : List Line) (units units' : List ℕ) (before after : Reader) : Type 0 where
  pub said : List LineWithUnits
  pub many : length said ≡ n
  pub lines_are : map line_of said ≡ lines
  pub units_are : units ++ map units_of said ≡ units'
  pub fair : AllByRecursion (Fair items) lines
  pub apart : Distinct (map item_of lines)
  pub no_loop : Loop gs lines → ⊥
  pub onward : (p : Part) (x : Contents) (h : HeadOfOffer) (due : List Slot) → Within p x items gs → Onward (replicate n (slot p) ++ due) (with_part p x h []) before due (with_part p x h said) after

-- the text is refused at one of n lines of a part
abbrev pub LinesStop : ℕ → List Line → ℕ → Reader → Fault → Type 0
LinesStop items gs n before f = (p : Part) (x : Contents) (h : HeadOfOffer) (due : List Slot) → Within p x items gs → Stops (replicate n (slot p) ++ due) (with_part p x h []) before f

-- an offer that keeps the rules of a book, with room for it there; a withdrawn one has the limit 0
pub record Takable (b : Book) (o : Offer) : Type 0 where
  pub fair : FairOffer (length b.items) (length b.members) o
  pub few : length b.offers < 64
  pub room : line_count b.offers + (length o.give + length o.get) ≤ 256

-- the offer comes to the end of a book
abbrev pub OfferAdded : Book → Book → Offer → Type 0
OfferAdded before after o = after ≡ book_with before (before.offers ++ o ∷ [])
