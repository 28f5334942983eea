-- The flows of a record's network in the order of its arcs.
use Rattle.std.proofs.Common.{◌≡◌, ℕ, zero, suc, ◌+◌, ◌≤◌, List, [], ◌∷◌, ◌++◌, map, length, get_or, sum, Result, sym, refl, ap, ◌∙◌, ap₂, arith}
use mathlib.Core.Path.{fun_ext}
use Rattle.std.specs.List.{flat_map}
use Rattle.std.proofs.lemmas.List.{append_assoc, length-append, length-map, map-append}
use Rattle.std.proofs.lemmas.List.Sums.{sum_by-cons}
use Rattle.tables.specs.Tables.{Added}
use Rattle.tables.specs.declared.refusal.Refusal.{Refusal}
use Rattle.tables.proofs.Entries.{grew}
use Rattle.flow.specs.Arcs.{flow_of, with_flow}
use Rattle.flow.specs.declared.arc.Arc.{Arc}
use Rattle.network.specs.Networks.{Net}
use Rattle.book.specs.Allotments.{Allotment, all_of}
use Rattle.book.specs.Arcs.{holding_arcs, give_arc, own_arc, get_arc, offer_arcs, offers_arcs, laid, nodes, no_flows, arcs_of, net_of, offer_flows, filling}
use Rattle.book.specs.Books.{no_holding}
use Rattle.book.specs.Rows.{map_with}
use Rattle.book.specs.declared.holding.Holding.{Holding}
use Rattle.book.specs.declared.line.Line.{Line}
use Rattle.book.proofs.Filled.{laid_as_row, length_arcs}
use Rattle.layout.specs.Records.{LineWithUnits, OfferWithUnits, Contents, no_filled_offer, line_of, units_of, units_on, offer_of, book_of, allotted}
use Rattle.reading.specs.Held.{units_in}
use Rattle.record.specs.Evidence.{network_of}
use Rattle.record.specs.Filled.{filled}
use Rattle.record.specs.Flows.{flow_row, given_from, flows_of, with_flows}
use Rattle.record.specs.declared.record_network.filled.FilledOffer.{FilledOffer}
use Rattle.record.proofs.Showing.{Bounded, units_back}

-- the flows of a list of arcs
abbrev pub flows : List Arc → List ℕ
flows xs = map (λ a. a.flow) xs

flows_held : (q : ℕ) (hs : List Holding) (f : Holding → ℕ) → flows (holding_arcs q hs (λ k. f (get_or hs k no_holding))) ≡ map f hs
flows_held q [] f = refl
flows_held q (h ∷ hs) f = ap (λ ys. f h ∷ ys) (flows_held (q + 1) hs f)

flows_side : (arc : Line → ℕ → Arc) → ((l : Line) (y : ℕ) → (arc l y).flow ≡ y) → (ls : List LineWithUnits) → flows (map_with arc (map line_of ls) (units_on ls)) ≡ map units_of ls
flows_side arc own [] = refl
flows_side arc own (l ∷ ls) = ap₂ ◌∷◌ (own l.line l.units) (flows_side arc own ls)

all_given : (ls : List LineWithUnits) → all_of (map line_of ls) (units_on ls) ≡ sum (map units_of ls)
all_given [] = refl
all_given (l ∷ ls) = ap (λ n. l.units + n) (all_given ls) ∙ sym (sum_by-cons (λ n. n) l.units (map units_of ls))

-- the units on the lines of offers
abbrev pub allotment : List OfferWithUnits → Allotment
allotment os k = record { give = units_on (get_or os k no_filled_offer).give; get = units_on (get_or os k no_filled_offer).get }

module _ (n : ℕ) (hs : List Holding) where
  flows_offer : (p : ℕ) (o : OfferWithUnits) → flows (offer_arcs n hs p (offer_of o) (record { give = units_on o.give; own = all_of (map line_of o.give) (units_on o.give); get = units_on o.get })) ≡ flow_row o
  flows_offer p o =
      map-append (λ a. a.flow) (map_with (give_arc n hs o.member p) (map line_of o.give) (units_on o.give)) (own_arc p o.limit (all_of (map line_of o.give) (units_on o.give)) ∷ map_with (get_arc (p + 1)) (map line_of o.get) (units_on o.get))
      ∙ ap₂ ◌++◌ (flows_side (give_arc n hs o.member p) (λ l y. refl) o.give) (ap₂ ◌∷◌ (all_given o.give) (flows_side (get_arc (p + 1)) (λ l y. refl) o.get))

  flows_offers : (p : ℕ) (os : List OfferWithUnits) → flows (offers_arcs n hs p (map offer_of os) (offer_flows (map offer_of os) (allotment os))) ≡ flat_map flow_row os
  flows_offers p [] = refl
  flows_offers p (o ∷ os) =
      map-append (λ a. a.flow) (offer_arcs n hs p (offer_of o) (offer_flows (map offer_of (o ∷ os)) (allotment (o ∷ os)) 0)) (offers_arcs n hs (p + 2) (map offer_of os) (offer_flows (map offer_of os) (allotment os)))
      ∙ ap₂ ◌++◌ (flows_offer p o) (flows_offers (p + 2) os)

pub flows_filled : (x : Contents) → flows (network_of x).arcs ≡ flows_of x
flows_filled x =
    let n = length x.items in
    let hs = x.holdings in
    let p = n + length hs in
    let os = (book_of x).offers in
    map-append (λ a. a.flow) (holding_arcs n hs (filling (book_of x) (allotted x)).held) (offers_arcs n hs p os (offer_flows os (allotted x)))
    ∙ ap₂ ◌++◌ (flows_held n hs (given_from x)) (flows_offers n hs p x.offers)

pub flows_long : (x : Contents) → length (flows_of x) ≡ length (arcs_of (book_of x))
flows_long x =
    let b = book_of x in
    let f = filling b (allotted x) in
    ap length (sym (flows_filled x)) ∙ length-map (laid b f) (λ a. a.flow) ∙ length_arcs b f ∙ sym (length_arcs b no_flows)

flow_at : (xs : List Arc) (i : ℕ) → get_or (flows xs) i 0 ≡ flow_of xs i
flow_at [] i = refl
flow_at (a ∷ xs) zero = refl
flow_at (a ∷ xs) (suc i) = flow_at xs i

-- the network of the round with these flows on it
pub flows_fill : (x : Contents) (n : Net) (ys : List ℕ) → n ≡ net_of (book_of x) → ys ≡ flows_of x → with_flows n ys ≡ network_of x
flows_fill x n ys en ey =
    let b = book_of x in
    let xs = (network_of x).arcs in
    let row = ap (map_with (λ a y. with_flow y a) (arcs_of b)) (fun_ext (flow_at xs)) ∙ laid_as_row b (filling b (allotted x)) in
    ap₂ with_flows en (ey ∙ sym (flows_filled x)) ∙ (λ j. record { nodes = nodes b; arcs = row j })

-- the flows of an offer, by its rows of units
pub row_shown : (v : FilledOffer) → flow_row (filled v) ≡ v.given.now ++ (sum v.given.now ∷ v.got.now)
row_shown v =
    let given = units_back v.offer.give.now v.given.now v.gives.long in
    let got = units_back v.offer.get.now v.got.now v.gets.long in
    (λ i. given i ++ (sum (given i) ∷ got i))

-- where there is room, a table is longer by what was added
pub longer : (before after more : List ℕ) (r : Result (Unit {0}) Refusal) → Added 448 before after more r → length before + length more ≤ 448 → length after ≡ length before + length more
longer before after more r a h = ap length (grew 448 before after more r a h) ∙ length-append before more

-- there is room for the flows of one offer in three parts
pub parts_fit : (v : FilledOffer) (n : ℕ) → n + length (flow_row (filled v)) ≤ 448 → n + (length v.given.now + (1 + length v.got.now)) ≤ 448
parts_fit v n room = omega (arith, ap length (row_shown v), length-append v.given.now (sum v.given.now ∷ v.got.now))

-- and so they are added
pub offer_added : (v : FilledOffer) (y : ℕ) → y ≡ sum v.given.now → (a b c d : List ℕ) (r s t : Result (Unit {0}) Refusal) → length a + length (flow_row (filled v)) ≤ 448 → Added 448 a b v.given.now r → Added 448 b c (y ∷ []) s → Added 448 c d v.got.now t → d ≡ a ++ flow_row (filled v)
offer_added v y ey a b c d r s t room ab bc cd =
    let given = v.given.now in
    let got = v.got.now in
    let row : flow_row (filled v) ≡ given ++ (y ∷ got) = row_shown v ∙ ap (λ n. given ++ (n ∷ got)) (sym ey) in
    let few = parts_fit v (length a) room in
    let eb = grew 448 a b given r ab (omega arith) in
    let lb = longer a b given r ab (omega arith) in
    let ec = grew 448 b c (y ∷ []) s bc (omega arith) in
    let lc = longer b c (y ∷ []) s bc (omega arith) in
    grew 448 c d got t cd (omega arith) ∙ ap (λ ys. ys ++ got) (ec ∙ ap (λ ys. ys ++ y ∷ []) eb) ∙ append_assoc (a ++ given) (y ∷ []) got ∙ append_assoc a given (y ∷ got) ∙ ap (λ ys. a ++ ys) (sym row)

rows_few : (os : List OfferWithUnits) → length (flat_map flow_row os) ≡ length (units_in os) + length os
rows_few [] = refl
rows_few (o ∷ os) =
    let given = map units_of o.give in
    let got = map units_of o.get in
    omega (arith, length-append (flow_row o) (flat_map flow_row os), length-append given (sum given ∷ got), length-append given (got ++ units_in os), length-append got (units_in os), rows_few os)

-- there is room for the flows of the next of the offers to come
pub room : (x : Contents) → Bounded x → (row : List ℕ) (before : List OfferWithUnits) → row ++ flat_map flow_row before ≡ flows_of x → (o : OfferWithUnits) (os : List OfferWithUnits) → before ≡ o ∷ os → length row + length (flow_row o) ≤ 448
room x bs row before q o os e =
    let all = ap (λ fs. length (row ++ flat_map flow_row fs)) (sym e) ∙ ap length q in
    omega (arith, all, bs.holdings, bs.lines, bs.offers, length-append row (flow_row o ++ flat_map flow_row os), length-append (flow_row o) (flat_map flow_row os), length-append (map (given_from x) x.holdings) (flat_map flow_row x.offers), length-map x.holdings (given_from x), rows_few x.offers)
