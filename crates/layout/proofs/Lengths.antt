-- No record is longer than 15,000 bytes.
use Rattle.std.proofs.Common.{◌≡◌, ℕ, suc, ◌+◌, ◌*◌, ◌<◌, ◌≤◌, ◌⊎◌, ◌≢◌, List, [], ◌∷◌, ◌++◌, map, length, get_or, ℤ, pos, negsuc, nat_abs, ap, ◌∙◌, inl, inr, arith}
use Rattle.std.specs.List.{AllByRecursion}
use Rattle.std.proofs.ByRecursion.{All-weaker}
use Rattle.std.proofs.lemmas.List.{length-append, length-map}
use Rattle.flow.specs.Steps.{Fresh, Apart}
use Rattle.flow.proofs.Holes.{pigeonhole}
use Rattle.text.specs.Numbers.{spelt, level_spelt, unsigned}
use Rattle.text.specs.NumbersLemmas.{few_digits}
use Rattle.text.specs.Rows.{spaced, row_spelt}
use Rattle.text.specs.declared.section.Section.{Section}
use Rattle.text.specs.declared.section.Section.TheVariants.{Items, Members, Holdings, Levels}
use Rattle.book.specs.Arcs.{nodes}
use Rattle.book.specs.Books.{Distinct, Fair, FairHolding, Side, FairOffer, item_of, line_count}
use Rattle.book.specs.Spelling.{Spelt}
use Rattle.book.specs.declared.holding.Holding.{Holding}
use Rattle.book.specs.declared.line.Line.{Line}
use Rattle.layout.specs.Records.{Kind, by_money, by_money_then_weeks, LineWithUnits, OfferWithUnits, Contents, line_of, offer_of, book_of, FairLevel, FairUnits}
use Rattle.layout.specs.Layout.{Slot, item, member, holding, offer, give, get, level, Says, spell}
use Rattle.layout.specs.Render.{ended, section, kind_section, head_of, offers_lines, offers_section, AllShort}
use Rattle.layout.proofs.Offers.{count_cons}

-- the bytes of lines of at most b bytes each
ended_length : {X : Type 0} (b : ℕ) (f : X → List ℕ) (xs : List X) → AllByRecursion (λ x. length (f x) ≤ b) xs → length (ended (map f xs)) ≤ (b + 1) * length xs
ended_length b f [] h = omega arith
ended_length b f (x ∷ xs) h = omega (arith, h.0, ended_length b f xs h.1, length-append (f x) (10 ∷ ended (map f xs)))

ended_append : (ls ms : List (List ℕ)) → length (ended (ls ++ ms)) ≡ length (ended ls) + length (ended ms)
ended_append [] ms = omega arith
ended_append (l ∷ ls) ms = omega (arith, ended_append ls ms, length-append l (10 ∷ ended (ls ++ ms)), length-append l (10 ∷ ended ls))

-- the bytes of a row, number by number
row_bytes : (n : ℕ) (ns : List ℕ) → length (row_spelt unsigned (n ∷ ns)) ≡ length (spelt n) + length (spaced unsigned ns)
row_bytes n ns = length-append (spelt n) (spaced unsigned ns)

spaced_bytes : (n : ℕ) (ns : List ℕ) → length (spaced unsigned (n ∷ ns)) ≡ suc (length (spelt n) + length (spaced unsigned ns))
spaced_bytes n ns = ap suc (length-append (spelt n) (spaced unsigned ns))

-- Sections of one line for each entry

-- a section whose count has at most w digits, and whose lines have at most b bytes each
section_length : (which : Section) (s : Slot) (w b : ℕ) (cs : List (Says s)) → length (spelt (length cs)) ≤ w → AllByRecursion (λ c. length (spell s c) ≤ b) cs → length (ended (section which s cs)) ≤ (3 + w) + (b + 1) * length cs
section_length which s w b cs h a = omega (arith, length-append (spelt (length cs)) (10 ∷ ended (map (spell s) cs)), ended_length b (spell s) cs a)

kind_length : (k : Kind) → length (ended (kind_section k)) ≤ 16
kind_length by_money = omega arith
kind_length by_money_then_weeks = omega arith

items_length : (names : List (List ℕ)) → length names ≤ 16 → AllByRecursion Spelt names → length (ended (section Items item names)) ≤ 5 + 13 * length names
items_length names few h = section_length Items item 2 12 names (few_digits 2 (length names) (omega arith) (omega arith) (omega arith)) (All-weaker _ _ (λ c p. p.1) names h)

members_length : (names : List (List ℕ)) → length names ≤ 32 → AllByRecursion Spelt names → length (ended (section Members member names)) ≤ 5 + 13 * length names
members_length names few h = section_length Members member 2 12 names (few_digits 2 (length names) (omega arith) (omega arith) (omega arith)) (All-weaker _ _ (λ c p. p.1) names h)

holding_length : (n m : ℕ) → n ≤ 16 → m ≤ 32 → (h : Holding) → FairHolding n m h → length (spell holding h) ≤ 10
holding_length n m few_items few_members h p =
    let a : length (spelt h.member) ≤ 2 = few_digits 2 h.member (omega arith) (omega (arith, p.0)) (omega (arith, p.0)) in
    let b : length (spelt h.item) ≤ 2 = few_digits 2 h.item (omega arith) (omega (arith, p.1)) (omega (arith, p.1)) in
    let c : length (spelt h.units) ≤ 4 = few_digits 4 h.units (omega arith) (omega (arith, p.2)) (omega (arith, p.2)) in
    omega (arith, row_bytes h.member (h.item ∷ h.units ∷ []), spaced_bytes h.item (h.units ∷ []), spaced_bytes h.units [])

holdings_length : (n m : ℕ) → n ≤ 16 → m ≤ 32 → (hs : List Holding) → length hs ≤ 128 → AllByRecursion (FairHolding n m) hs → length (ended (section Holdings holding hs)) ≤ 6 + 11 * length hs
holdings_length n m few_items few_members hs few h = section_length Holdings holding 3 10 hs (few_digits 3 (length hs) (omega arith) (omega arith) (omega arith)) (All-weaker _ _ (holding_length n m few_items few_members) hs h)

-- the bytes of a level's number, of at most w digits
signed_bytes : (w : ℕ) (z : ℤ) → length (spelt (nat_abs z)) ≤ w → length (level_spelt z) ≤ w + 1
signed_bytes w (pos n) h = omega arith
signed_bytes w (negsuc n) h = omega arith

level_length : (k : Kind) (zs : List ℤ) → FairLevel k zs → length (spell level zs) ≤ 23
level_length k [] p = omega arith
level_length k (a ∷ []) (n, s) =
    let b = signed_bytes 13 a (few_digits 13 (nat_abs a) (omega arith) (omega arith) (omega arith)) in
    omega (arith, length-append (level_spelt a) [])
level_length k (a ∷ c ∷ []) (n, s) =
    let b = signed_bytes 13 a (few_digits 13 (nat_abs a) (omega arith) (omega arith) (omega arith)) in
    let d = signed_bytes 7 c (few_digits 7 (nat_abs c) (omega arith) (omega arith) (omega arith)) in
    omega (arith, length-append (level_spelt a) (32 ∷ (level_spelt c ++ [])), length-append (level_spelt c) [])
level_length by_money (a ∷ b ∷ c ∷ zs) (n, s) = absurd (omega arith)
level_length by_money_then_weeks (a ∷ b ∷ c ∷ zs) (n, s) = absurd (omega arith)

levels_length : (k : Kind) (ls : List (List ℤ)) → length ls ≤ 272 → AllByRecursion (FairLevel k) ls → length (ended (section Levels level ls)) ≤ 6 + 24 * length ls
levels_length k ls few h = section_length Levels level 3 23 ls (few_digits 3 (length ls) (omega arith) (omega arith) (omega arith)) (All-weaker _ _ (level_length k) ls h)

-- Offers

fresh_from : (x : ℕ) (xs : List ℕ) → ((j : ℕ) → j < length xs → x ≢ get_or xs j 0) → Fresh x xs
fresh_from x [] h = tt
fresh_from x (y ∷ xs) h = (h 0 (omega arith), fresh_from x xs (λ j lt. h (suc j) (omega arith)))

apart_from : (xs : List ℕ) → Distinct xs → Apart xs
apart_from [] h = tt
apart_from (x ∷ xs) h = (fresh_from x xs (λ j lt. h 0 (suc j) 0 (omega arith) (omega arith)), apart_from xs (λ i j d l m. h (suc i) (suc j) d (omega arith) (omega arith)))

known_items : (n : ℕ) (ls : List Line) → AllByRecursion (Fair n) ls → AllByRecursion (λ i. i < n) (map item_of ls)
known_items n [] h = tt
known_items n (l ∷ ls) h = (h.0.known, known_items n ls h.1)

-- a side has at most a line for each item
side_few : (n : ℕ) (ls : List LineWithUnits) → Side n (map line_of ls) → length ls ≤ n
side_few n ls p = omega (arith, pigeonhole n (map item_of (map line_of ls)) (known_items n (map line_of ls) p.fair) (apart_from (map item_of (map line_of ls)) p.apart), length-map (map line_of ls) item_of, length-map ls line_of)

line_length : (n : ℕ) → n ≤ 16 → (l : LineWithUnits) → Fair n l.line → l.units ≤ 1000 → length (spell give l) ≤ 20
line_length n few l p u =
    let a : length (spelt l.line.item) ≤ 2 = few_digits 2 l.line.item (omega arith) (omega (arith, p.known)) (omega (arith, p.known)) in
    let b : length (spelt l.line.limit) ≤ 4 = few_digits 4 l.line.limit (omega arith) (omega (arith, p.most)) (omega (arith, p.most)) in
    let c : length (spelt l.line.price) ≤ 7 = few_digits 7 l.line.price (omega arith) (omega (arith, p.price)) (omega (arith, p.price)) in
    let d : length (spelt l.units) ≤ 4 = few_digits 4 l.units (omega arith) (omega arith) (omega arith) in
    omega (arith, row_bytes l.line.item (l.line.limit ∷ l.line.price ∷ l.units ∷ []), spaced_bytes l.line.limit (l.line.price ∷ l.units ∷ []), spaced_bytes l.line.price (l.units ∷ []), spaced_bytes l.units [])

-- the lines of a side; those of both sides are spelt alike
side_length : (n : ℕ) → n ≤ 16 → (ls : List LineWithUnits) → AllByRecursion (Fair n) (map line_of ls) → FairUnits ls → length (ended (map (spell give) ls)) ≤ 21 * length ls
side_length n few [] h u = omega arith
side_length n few (l ∷ ls) h u = omega (arith, line_length n few l h.0 u.0, side_length n few ls h.1 u.1, length-append (spell give l) (10 ∷ ended (map (spell give) ls)))

module _ (n m : ℕ) (few_items : n ≤ 16) (few_members : m ≤ 32) where
  head_length : (f : OfferWithUnits) → FairOffer n m (offer_of f) → length (spell offer (head_of f)) ≤ 13
  head_length f p =
      let gives = side_few n f.give p.gives in
      let gets = side_few n f.get p.gets in
      let a : length (spelt f.member) ≤ 2 = few_digits 2 f.member (omega arith) (omega (arith, p.known)) (omega (arith, p.known)) in
      let b : length (spelt f.limit) ≤ 4 = few_digits 4 f.limit (omega arith) (omega (arith, p.most)) (omega (arith, p.most)) in
      let c : length (spelt (length f.give)) ≤ 2 = few_digits 2 (length f.give) (omega arith) (omega arith) (omega arith) in
      let d : length (spelt (length f.get)) ≤ 2 = few_digits 2 (length f.get) (omega arith) (omega arith) (omega arith) in
      omega (arith, row_bytes f.member (f.limit ∷ length f.give ∷ length f.get ∷ []), spaced_bytes f.limit (length f.give ∷ length f.get ∷ []), spaced_bytes (length f.give) (length f.get ∷ []), spaced_bytes (length f.get) [])

  offers_lines_length : (fs : List OfferWithUnits) → AllByRecursion (FairOffer n m) (map offer_of fs) → AllByRecursion (λ f. FairUnits f.give × FairUnits f.get) fs → length (ended (offers_lines fs)) ≤ 14 * length fs + 21 * line_count (map offer_of fs)
  offers_lines_length [] h u = omega arith
  offers_lines_length (f ∷ fs) h u =
      let ls = map (spell give) f.give in
      let ms = map (spell get) f.get in
      sum (length (spell offer (head_of f))) (length f.give) (length f.get) (length fs) (line_count (map offer_of fs)) (length (ended ls)) (length (ended ms)) (length (ended (offers_lines fs))) _ _ (head_length f h.0) (side_length n few_items f.give h.0.gives.fair u.0.0) (side_length n few_items f.get h.0.gets.fair u.0.1) (offers_lines_length fs h.1 u.1) (length-append (spell offer (head_of f)) (10 ∷ ended (ls ++ (ms ++ offers_lines fs))) ∙ ap (λ n. length (spell offer (head_of f)) + suc n) (ended_append ls (ms ++ offers_lines fs) ∙ ap (λ n. length (ended ls) + n) (ended_append ms (offers_lines fs)))) (count_cons f fs)
    where
      sum : (o a b n c la lb lt all count : ℕ) → o ≤ 13 → la ≤ 21 * a → lb ≤ 21 * b → lt ≤ 14 * n + 21 * c → all ≡ o + suc (la + (lb + lt)) → count ≡ (a + b) + c → all ≤ 14 * suc n + 21 * count
      sum o a b n c la lb lt all count p q r s e f = omega arith

  offers_length : (fs : List OfferWithUnits) → length fs ≤ 64 → AllByRecursion (FairOffer n m) (map offer_of fs) → AllByRecursion (λ f. FairUnits f.give × FairUnits f.get) fs → length (ended (offers_section fs)) ≤ 5 + (14 * length fs + 21 * line_count (map offer_of fs))
  offers_length fs few h u =
      let c : length (spelt (length fs)) ≤ 2 = few_digits 2 (length fs) (omega arith) (omega arith) (omega arith) in
      omega (arith, length-append (spelt (length fs)) (10 ∷ ended (offers_lines fs)), offers_lines_length fs h u)

-- The whole

-- at most 272 levels
few_levels : (x : Contents) → length x.items ≤ 16 → length x.holdings ≤ 128 → length x.offers ≤ 64 → (length x.levels ≡ 0) ⊎ (length x.levels ≡ nodes (book_of x)) → length x.levels ≤ 272
few_levels x i h o (inl e) = omega arith
few_levels x i h o (inr e) = omega (arith, length-map x.offers offer_of)

pub short_record : AllShort
short_record x v =
    let b = v.sound in
    let few_offers : length x.offers ≤ 64 = omega (arith, b.offers_few, length-map x.offers offer_of) in
    let k = kind_length x.kind in
    let i = items_length x.items b.items_few b.items_spelt in
    let m = members_length x.members b.members_few b.members_spelt in
    let h = holdings_length (length x.items) (length x.members) b.items_few b.members_few x.holdings b.holdings_few b.holdings_fair in
    let o = offers_length (length x.items) (length x.members) b.items_few b.members_few x.offers few_offers b.offers_fair v.units in
    let few : length x.levels ≤ 272 = few_levels x b.items_few b.holdings_few few_offers v.levelled in
    let z = levels_length x.kind x.levels few v.levels in
    let ks = kind_section x.kind in
    let is = section Items item x.items in
    let ms = section Members member x.members in
    let hs = section Holdings holding x.holdings in
    let os = offers_section x.offers in
    let zs = section Levels level x.levels in
    omega (arith, ended_append ks (is ++ (ms ++ (hs ++ (os ++ zs)))), ended_append is (ms ++ (hs ++ (os ++ zs))), ended_append ms (hs ++ (os ++ zs)), ended_append hs (os ++ zs), ended_append os zs)
