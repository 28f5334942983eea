-- Offers with the units of their lines in one row.
use Rattle.std.proofs.Common.{◌≡◌, ℕ, suc, ◌+◌, ◌<◌, ◌≤◌, List, [], ◌∷◌, ◌++◌, map, length, get_or, drop, sym, refl, ap, ◌∙◌, arith}
use Rattle.std.proofs.lemmas.List.{length-map, length-append, length-drop, drop_at, drop_more, get_or_append_left, get_or-append-add, append_assoc, nil_from_length}
use Rattle.book.specs.Books.{Book, Offer, line_count}
use Rattle.book.specs.Rows.{map_with}
use Rattle.book.specs.declared.line.Line.{Line}
use Rattle.layout.specs.Records.{LineWithUnits, OfferWithUnits, line_of, units_of, offer_of, book_of, fill_line}
use Rattle.layout.proofs.Recorded.{lines_same}
use Rattle.reading.specs.Held.{units_in, filled_offers, held}
use Rattle.reading.specs.declared.kind.Kind.{Kind}
use Rattle.reading.specs.declared.level.Level.{Level}

-- the offers are the same without the units
pub offers_held : (os : List Offer) (us : List ℕ) → map offer_of (filled_offers os us) ≡ os
offers_held [] us = refl
offers_held (o ∷ os) us =
    let g = lines_same o.give (λ t. get_or us t 0) in
    let w = lines_same o.get (λ t. get_or us (length o.give + t) 0) in
    let t = offers_held os (drop (length o.give + length o.get) us) in
    (λ i. record { member = o.member; limit = o.limit; give = g i; get = w i } ∷ t i)

pub book_held : (k : Kind) (b : Book) (us : List ℕ) (ls : List Level) → book_of (held k b us ls) ≡ b
book_held k b us ls = let t = offers_held b.offers us in λ i. record { items = b.items; members = b.members; holdings = b.holdings; offers = t i }

-- units taken from a row, from place a on, and what is left of it
row : (ls : List Line) (u : ℕ → ℕ) (us : List ℕ) (a : ℕ) → ((t : ℕ) → u t ≡ get_or us (a + t) 0) → a + length ls ≤ length us → map units_of (map_with fill_line ls u) ++ drop (a + length ls) us ≡ drop a us
row [] u us a h le = let e : a + 0 ≡ a = omega arith in ap (λ n. drop n us) e
row (l ∷ ls) u us a h le =
    let e : a + suc (length ls) ≡ (a + 1) + length ls = omega arith in
    let z : a + 0 ≡ a = omega arith in
    let first : u 0 ≡ get_or us a 0 = h 0 ∙ ap (λ n. get_or us n 0) z in
    let rest = row ls (λ k. u (suc k)) us (a + 1) (λ t. let q : a + suc t ≡ (a + 1) + t = omega arith in h (suc t) ∙ ap (λ n. get_or us n 0) q) (omega arith) in
    let tail = ap (λ n. map units_of (map_with fill_line ls (λ k. u (suc k))) ++ drop n us) e ∙ rest in
    (λ i. first i ∷ tail i) ∙ sym (drop_more us a 0 (omega arith))

-- offers have the units that are put on them
pub units_held : (os : List Offer) (us : List ℕ) → length us ≡ line_count os → units_in (filled_offers os us) ≡ us
units_held [] us e = sym (nil_from_length us e)
units_held (o ∷ os) us e =
    let g = length o.give in
    let w = length o.get in
    let rest = units_held os (drop (g + w) us) (omega (arith, length-drop (g + w) us)) in
    let gets = row o.get (λ t. get_or us (g + t) 0) us g (λ t. refl) (omega arith) in
    let gives = row o.give (λ t. get_or us t 0) us 0 (λ t. let q : t ≡ 0 + t = omega arith in ap (λ n. get_or us n 0) q) (omega arith) in
    let z : g ≡ 0 + g = omega arith in
    ap (λ r. map units_of (map_with fill_line o.give (λ t. get_or us t 0)) ++ (map units_of (map_with fill_line o.get (λ t. get_or us (g + t) 0)) ++ r)) rest
    ∙ ap (λ r. map units_of (map_with fill_line o.give (λ t. get_or us t 0)) ++ r) (gets ∙ ap (λ n. drop n us) z)
    ∙ gives

-- lines and their units put together again
refill : (ls : List LineWithUnits) (u : ℕ → ℕ) → ((t : ℕ) → t < length ls → u t ≡ get_or (map units_of ls) t 0) → map_with fill_line (map line_of ls) u ≡ ls
refill [] u h = refl
refill (l ∷ ls) u h =
    let first = h 0 (omega arith) in
    let rest = refill ls (λ k. u (suc k)) (λ t lt. h (suc t) (omega arith)) in
    (λ i. record { line = l.line; units = first i } ∷ rest i)

-- offers put together again from their lines and units
pub refilled : (fs : List OfferWithUnits) → filled_offers (map offer_of fs) (units_in fs) ≡ fs
refilled [] = refl
refilled (f ∷ fs) =
    let g = map units_of f.give in
    let w = map units_of f.get in
    let rest = units_in fs in
    let us = g ++ (w ++ rest) in
    let n = length (map line_of f.give) in
    let a = length-map f.give units_of in
    let b = length-map f.give line_of in
    let c = length-map f.get units_of in
    let d = length-map f.get line_of in
    let give = refill f.give (λ t. get_or us t 0) (λ t lt. get_or_append_left g (w ++ rest) 0 t (omega arith)) in
    let get = refill f.get (λ t. get_or us (n + t) 0) (λ t lt. let q : n + t ≡ length g + t = omega arith in ap (λ k. get_or us k 0) q ∙ get_or-append-add g (w ++ rest) t 0 ∙ get_or_append_left w rest 0 t (omega arith)) in
    let left : drop (n + length (map line_of f.get)) us ≡ rest = ap (drop (n + length (map line_of f.get))) (sym (append_assoc g w rest)) ∙ drop_at (g ++ w) rest (n + length (map line_of f.get)) (omega (arith, length-append g w)) in
    let more = ap (filled_offers (map offer_of fs)) left ∙ refilled fs in
    (λ i. record { member = f.member; limit = f.limit; give = give i; get = get i } ∷ more i)

-- as many units as lines
pub units_counted : (fs : List OfferWithUnits) → length (units_in fs) ≡ line_count (map offer_of fs)
units_counted [] = refl
units_counted (f ∷ fs) =
    let g = map units_of f.give in
    let w = map units_of f.get in
    omega (arith, units_counted fs, length-append g (w ++ units_in fs), length-append w (units_in fs), length-map f.give units_of, length-map f.get units_of, length-map f.give line_of, length-map f.get line_of)
