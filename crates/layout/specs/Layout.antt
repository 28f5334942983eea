-- The layout: which lines a record has, what each says and how it is spelt, which lines it calls for, and which rules it may break.
use Rattle.std.specs.Prelude.{◌≡◌, ℕ, ◌+◌, ◌<◌, ◌≤◌, ◌⊎◌, List, [], ◌∷◌, ◌++◌, map, length, replicate, ℤ, codes, ◌≢◌}
use Rattle.std.specs.List.{ContainsAt as Has, AllByRecursion}
use Rattle.tables.specs.Refusals.{Row, when}
use Rattle.text.specs.Numbers.{spelt, unsigned, signed, Notation}
use Rattle.text.specs.Rows.{row_spelt}
use Rattle.text.specs.Sections.{letter}
use Rattle.text.specs.declared.section.Section.{Section}
use Rattle.text.specs.declared.section.Section.TheVariants.{Kinds, Items, Members, Holdings, Offers, Levels}
use Rattle.book.specs.Arcs.{nodes}
use Rattle.book.specs.Books.{item_of, line_count, Loop, pair}
use Rattle.book.specs.Spelling.{Spelt}
use Rattle.book.specs.declared.holding.Holding.{Holding}
use Rattle.layout.specs.Records.{by_money, words, parts, kind_of, LineWithUnits, OfferWithUnits, no_filled_offer, Contents, line_of, offer_of, book_of, level_size}

-- the sorts of lines: the head of a section, a word of the kind, a name, a holding, the head of an offer, a line of one of its sides, a level
pub data Slot : Type 0 where
  head : Section → Slot
  word : List ℕ → Slot
  item : Slot
  member : Slot
  holding : Slot
  offer : Slot
  give : Slot
  get : Slot
  level : Slot

-- the head of an offer: member, limit, number of give lines and of get lines
pub record HeadOfOffer : Type 0 where
  pub member : ℕ
  pub limit : ℕ
  pub gives : ℕ
  pub gets : ℕ

-- what a line of each sort says
abbrev pub Says : Slot → Type 0
Says (head s) = ℕ
Says (word w) = Unit {0}
Says item = List ℕ
Says member = List ℕ
Says holding = Holding
Says offer = HeadOfOffer
Says give = LineWithUnits
Says get = LineWithUnits
Says level = List ℤ

-- the numbers of a row
abbrev pub holding_row : Holding → List ℕ
holding_row h = h.member ∷ h.item ∷ h.units ∷ []

-- the numbers of an offer's head
abbrev pub offer_row : HeadOfOffer → List ℕ
offer_row o = o.member ∷ o.limit ∷ o.gives ∷ o.gets ∷ []

-- the numbers of a line
abbrev pub line_row : LineWithUnits → List ℕ
line_row l = l.line.item ∷ l.line.limit ∷ l.line.price ∷ l.units ∷ []

-- the bytes of a line, without the byte 10 that ends it
abbrev pub spell : (s : Slot) → Says s → List ℕ
spell (head s) n = letter s ∷ 32 ∷ spelt n
spell (word w) c = w
spell item name = name
spell member name = name
spell holding h = row_spelt unsigned (holding_row h)
spell offer o = row_spelt unsigned (offer_row o)
spell give l = row_spelt unsigned (line_row l)
spell get l = row_spelt unsigned (line_row l)
spell level zs = row_spelt signed zs

-- numbers of at most 13 digits
abbrev pub Short : {X : Type 0} → Notation X → List X → Type 0
Short notation xs = AllByRecursion (λ x. notation.digit_count x ≤ 13) xs

-- the counts that the head of a section may have after these contents
abbrev pub Counts : Section → Contents → ℕ → Type 0
Counts Kinds x n = (n ≡ 1) ⊎ (n ≡ 2)
Counts Items x n = 0 < n
Counts Members x n = Unit {0}
Counts Holdings x n = Unit {0}
Counts Offers x n = Unit {0}
Counts Levels x n = (n ≡ 0) ⊎ (n ≡ nodes (book_of x))

-- what the layout asks of a line of each sort, besides its spelling
abbrev pub Fits : (s : Slot) → Contents → Says s → Type 0
Fits (head s) x n = Counts s x n × Short unsigned (n ∷ [])
Fits (word w) x c = Unit {0}
Fits item x name = Unit {0}
Fits member x name = Unit {0}
Fits holding x h = Short unsigned (holding_row h)
Fits offer x o = Short unsigned (offer_row o)
Fits give x l = Short unsigned (line_row l)
Fits get x l = Short unsigned (line_row l)
Fits level x zs = (length zs ≡ parts x.kind) × Short signed zs

-- the last offer so far
abbrev pub last : List OfferWithUnits → OfferWithUnits
last [] = no_filled_offer
last (o ∷ []) = o
last (o ∷ p ∷ os) = last (p ∷ os)

-- the rules that a line of an offer may break, below the lines above it on its side
abbrev pub line_rules : Contents → List LineWithUnits → LineWithUnits → List Row
line_rules x above l =
    when 1 (length x.items ≤ l.line.item)
    ∷ when 3 ((l.line.limit < 1) ⊎ ((1000 < l.line.limit) ⊎ (1000 < l.units)))
    ∷ when 4 (1000000 < l.line.price)
    ∷ when 6 (Has (map item_of (map line_of above)) l.line.item)
    ∷ []

-- the rules that a line may break after these contents, in the order of their numbers
abbrev pub rules : (s : Slot) → Contents → Says s → List Row
rules (head Kinds) x n = []
rules (head Items) x n = when 2 (16 < n) ∷ []
rules (head Members) x n = when 2 (32 < n) ∷ []
rules (head Holdings) x n = when 2 (128 < n) ∷ []
rules (head Offers) x n = when 2 (64 < n) ∷ []
rules (head Levels) x n = []
rules (word w) x c = []
rules item x name = when 5 ((Spelt name → ⊥) ⊎ ((length x.items ≡ 0) × (name ≢ codes "cash"))) ∷ when 6 (Has x.items name) ∷ []
rules member x name = when 5 (Spelt name → ⊥) ∷ when 6 (Has x.members name) ∷ []
rules holding x h =
    when 1 ((length x.members ≤ h.member) ⊎ (length x.items ≤ h.item))
    ∷ when 3 (1000 < h.units)
    ∷ when 6 (Has (map pair x.holdings) (pair h))
    ∷ []
rules offer x o =
    when 1 (length x.members ≤ o.member)
    ∷ when 2 (256 < line_count (map offer_of x.offers) + (o.gives + o.gets))
    ∷ when 3 (1000 < o.limit)
    ∷ when 7 ((o.gives ≡ 0) ⊎ (o.gets ≡ 0))
    ∷ []
rules give x l = line_rules x (last x.offers).give l
rules get x l = line_rules x (last x.offers).get l ++ when 8 (Loop (map line_of (last x.offers).give) (l.line ∷ [])) ∷ []
rules level x zs = when 3 (1000000 < level_size zs) ∷ []

-- the lines that a line calls for
abbrev pub calls_for : (s : Slot) → Says s → List Slot
calls_for (head Kinds) n = map word (words (kind_of n))
calls_for (head Items) n = replicate n item
calls_for (head Members) n = replicate n member
calls_for (head Holdings) n = replicate n holding
calls_for (head Offers) n = replicate n offer
calls_for (head Levels) n = replicate n level
calls_for (word w) c = []
calls_for item name = []
calls_for member name = []
calls_for holding h = []
calls_for offer o = replicate o.gives give ++ replicate o.gets get
calls_for give l = []
calls_for get l = []
calls_for level zs = []

-- the last offer changed
abbrev pub on_last : (OfferWithUnits → OfferWithUnits) → List OfferWithUnits → List OfferWithUnits
on_last f [] = []
on_last f (o ∷ []) = f o ∷ []
on_last f (o ∷ p ∷ os) = o ∷ on_last f (p ∷ os)

-- a line more on a side
abbrev pub giving : LineWithUnits → OfferWithUnits → OfferWithUnits
giving l o = record { member = o.member; limit = o.limit; give = o.give ++ l ∷ []; get = o.get }

abbrev pub getting : LineWithUnits → OfferWithUnits → OfferWithUnits
getting l o = record { member = o.member; limit = o.limit; give = o.give; get = o.get ++ l ∷ [] }

abbrev pub with_offers : Contents → List OfferWithUnits → Contents
with_offers x os = record { kind = x.kind; items = x.items; members = x.members; holdings = x.holdings; offers = os; levels = x.levels }

-- the contents with what a line says
abbrev pub with_line : (s : Slot) → Says s → Contents → Contents
with_line (head Kinds) n x = record { kind = kind_of n; items = x.items; members = x.members; holdings = x.holdings; offers = x.offers; levels = x.levels }
with_line (head Items) n x = x
with_line (head Members) n x = x
with_line (head Holdings) n x = x
with_line (head Offers) n x = x
with_line (head Levels) n x = x
with_line (word w) c x = x
with_line item name x = record { kind = x.kind; items = x.items ++ name ∷ []; members = x.members; holdings = x.holdings; offers = x.offers; levels = x.levels }
with_line member name x = record { kind = x.kind; items = x.items; members = x.members ++ name ∷ []; holdings = x.holdings; offers = x.offers; levels = x.levels }
with_line holding h x = record { kind = x.kind; items = x.items; members = x.members; holdings = x.holdings ++ h ∷ []; offers = x.offers; levels = x.levels }
with_line offer o x = with_offers x (x.offers ++ record { member = o.member; limit = o.limit; give = []; get = [] } ∷ [])
with_line give l x = with_offers x (on_last (giving l) x.offers)
with_line get l x = with_offers x (on_last (getting l) x.offers)
with_line level zs x = record { kind = x.kind; items = x.items; members = x.members; holdings = x.holdings; offers = x.offers; levels = x.levels ++ zs ∷ [] }

-- before the first line: nothing is held (the kind is that of the head of K), and the six heads are due
abbrev pub nothing : Contents
nothing = record { kind = by_money; items = []; members = []; holdings = []; offers = []; levels = [] }

abbrev pub heads : List Slot
heads = head Kinds ∷ head Items ∷ head Members ∷ head Holdings ∷ head Offers ∷ head Levels ∷ []
