-- The arcs of a book, drawn one after the other.
use Rattle.std.proofs.Common.{◌≡◌, ℕ, zero, suc, ◌+◌, ◌*◌, ◌<◌, ◌≤◌, true, eqb, List, [], ◌∷◌, ◌++◌, map, length, get_or, take, Result, sym, refl, ap, ◌∙◌, ap₂, append_assoc, arith}
use Rattle.std.proofs.lemmas.List.{append-nil, length-append, length-map, length_push, length-take-le, map_more, take_more, take_all}
use Rattle.std.proofs.lemmas.Bool.{and_parts, eqb-true}
use Rattle.tables.specs.declared.refusal.Refusal.{Refusal}
use Rattle.tables.specs.Tables.{Added}
use Rattle.tables.proofs.Entries.{grew}
use Rattle.flow.specs.declared.arc.Arc.{Arc}
use Rattle.book.specs.Rows.{map_with}
use Rattle.book.specs.Books.{Offer, line_count, no_holding}
use Rattle.book.specs.Arcs.{holding_arc, holding_arcs, give_arc, own_arc, get_arc, offer_arcs, offers_arcs, no_flows}
use Rattle.book.specs.declared.line.Line.{Line}
use Rattle.book.specs.declared.holding.Holding.{Holding}
use Rattle.book.proofs.Filled.{length_held, length_offer}
use Rattle.round.specs.Kept.{offer_of, in_rows}
use Rattle.round.specs.declared.entry.Entry.{Entry}
use Rattle.round.proofs.Rows.{rows_le, gives_length, gets_length}

-- one more arc
one_more : (start before drawn after : List Arc) (a x : Arc) (r : Result (Unit {0}) Refusal) → before ≡ start ++ drawn → length before < 448 → a ≡ x → Added 448 before after (a ∷ []) r → after ≡ start ++ (drawn ++ x ∷ [])
one_more start before drawn after a x r e l is added = grew 448 before after (a ∷ []) r added (omega arith) ∙ ap₂ (λ xs y. xs ++ y ∷ []) e is ∙ append_assoc start drawn (x ∷ [])

module _ (f : Line → Arc) (ls : List Line) (i : ℕ) (start before : List Arc) (l : i < length ls) (room : length start + length ls ≤ 448) (e : before ≡ start ++ map f (take i ls)) where
  -- there is room for the arc of one more line
  pub line_room : length before < 448
  line_room = omega (arith, ap length e, length-append start (map f (take i ls)), length-map (take i ls) f, length-take-le i ls (omega arith))

  pub line_more : (d : Line) (after : List Arc) (a : Arc) (r : Result (Unit {0}) Refusal) → a ≡ f (get_or ls i d) → Added 448 before after (a ∷ []) r → after ≡ start ++ map f (take (i + 1) ls)
  line_more d after a r is added =
      one_more start before (map f (take i ls)) after a (f (get_or ls i d)) r e line_room is added
      ∙ ap (λ ys. start ++ ys) (sym (map_more f ls i d l))

-- the lines of a side with the same flow on each
pub map_with_same : {X U Y : Type 0} (f : X → U → Y) (xs : List X) (z : U) → map_with f xs (λ k. z) ≡ map (λ x. f x z) xs
map_with_same f [] z = refl
map_with_same f (x ∷ xs) z = ap (λ ys. f x z ∷ ys) (map_with_same f xs z)

holding_push : (q : ℕ) (hs : List Holding) (h : Holding) (n : ℕ) → n ≡ q + length hs → holding_arcs q (hs ++ h ∷ []) no_flows.held ≡ holding_arcs q hs no_flows.held ++ holding_arc n h 0 ∷ []
holding_push q [] h n e =
    let f : q ≡ n = omega arith in
    ap (λ m. holding_arc m h 0 ∷ []) f
holding_push q (x ∷ hs) h n e = ap (λ ys. holding_arc q x 0 ∷ ys) (holding_push (q + 1) hs h n (omega arith))

module _ (q : ℕ) (hs : List Holding) (k : ℕ) (start before : List Arc) (l : k < length hs) (room : length start + length hs ≤ 448) (e : before ≡ start ++ holding_arcs q (take k hs) no_flows.held) where
  -- there is room for the arc of one more holding
  pub holding_room : length before < 448
  holding_room = omega (arith, ap length e, length-append start (holding_arcs q (take k hs) no_flows.held), length_held q (take k hs) no_flows.held, length-take-le k hs (omega arith))

  pub holding_more : (after : List Arc) (a : Arc) (r : Result (Unit {0}) Refusal) → a ≡ holding_arc (q + k) (get_or hs k no_holding) 0 → Added 448 before after (a ∷ []) r → after ≡ start ++ holding_arcs q (take (k + 1) hs) no_flows.held
  holding_more after a r is added =
      let long = length-take-le k hs (omega arith) in
      one_more start before (holding_arcs q (take k hs) no_flows.held) after a (holding_arc (q + k) (get_or hs k no_holding) 0) r e holding_room is added
      ∙ ap (λ ys. start ++ ys) (sym (ap (λ xs. holding_arcs q xs no_flows.held) (take_more hs k no_holding l) ∙ holding_push q (take k hs) (get_or hs k no_holding) (q + k) (omega arith)))

module _ (f : Line → Arc) (give : List Line) (i : ℕ) (start before : List Arc) (end : length give ≤ i) (room : length start + length give < 448) (e : before ≡ start ++ map f (take i give)) where
  gave : before ≡ start ++ map f give
  gave = e ∙ ap (λ ls. start ++ map f ls) (take_all i give end)

  -- there is room for an offer's own arc behind those of its give lines
  pub own_room : length before ≡ length start + length give
  own_room = omega (arith, ap length gave, length-append start (map f give), length-map give f)

  pub own_more : (after : List Arc) (a own : Arc) (r : Result (Unit {0}) Refusal) → a ≡ own → Added 448 before after (a ∷ []) r → (after ≡ start ++ (map f give ++ own ∷ [])) × (length after ≡ length start + (length give + 1))
  own_more after a own r is added =
      let grown = one_more start before (map f give) after a own r gave (omega (arith, own_room)) is added in
      (grown, omega (arith, ap length grown, length-append start (map f give ++ own ∷ []), length_push (map f give) own, length-map give f))

-- the three parts of an offer's arcs
pub offer_parts : (n : ℕ) (hs : List Holding) (p : ℕ) (o : Offer) (a b c : List Arc) → b ≡ a ++ (map (λ l. give_arc n hs o.member p l 0) o.give ++ own_arc p o.limit 0 ∷ []) → c ≡ b ++ map (λ l. get_arc (p + 1) l 0) o.get → c ≡ a ++ offer_arcs n hs p o (no_flows.offers 0)
offer_parts n hs p o a b c eb ec =
    let gives = map (λ l. give_arc n hs o.member p l 0) o.give in
    let own = own_arc p o.limit 0 in
    let gets = map (λ l. get_arc (p + 1) l 0) o.get in
    ec ∙ ap (λ ys. ys ++ gets) eb ∙ append_assoc a (gives ++ own ∷ []) gets ∙ ap (λ ys. a ++ ys) (append_assoc gives (own ∷ []) gets)
    ∙ ap (λ ys. a ++ ys) (ap₂ (λ ys zs. ys ++ (own ∷ zs)) (sym (map_with_same (give_arc n hs o.member p) o.give 0)) (sym (map_with_same (get_arc (p + 1)) o.get 0)))

module _ (n : ℕ) (hs : List Holding) where
  pub offers_push : (p : ℕ) (os : List Offer) (o : Offer) (q : ℕ) → q ≡ p + 2 * length os → offers_arcs n hs p (os ++ o ∷ []) no_flows.offers ≡ offers_arcs n hs p os no_flows.offers ++ offer_arcs n hs q o (no_flows.offers 0)
  offers_push p [] o q e =
      let f : p ≡ q = omega arith in
      append-nil (offer_arcs n hs p o (no_flows.offers 0)) ∙ ap (λ m. offer_arcs n hs m o (no_flows.offers 0)) f
  offers_push p (x ∷ os) o q e =
      ap (λ ys. offer_arcs n hs p x (no_flows.offers 0) ++ ys) (offers_push (p + 2) os o q (omega arith))
      ∙ sym (append_assoc (offer_arcs n hs p x (no_flows.offers 0)) (offers_arcs n hs (p + 2) os no_flows.offers) (offer_arcs n hs q o (no_flows.offers 0)))

  pub offers_length : (p : ℕ) (os : List Offer) → length (offers_arcs n hs p os no_flows.offers) ≡ line_count os + length os
  offers_length p [] = refl
  offers_length p (o ∷ os) = omega (arith, length-append (offer_arcs n hs p o (no_flows.offers 0)) (offers_arcs n hs (p + 2) os no_flows.offers), length_offer n hs p o (no_flows.offers 0), offers_length (p + 2) os)

-- where an entry's lines begin and end
pub rows_at : (n : ℕ) (es : List Entry) (ls : List Line) (k : ℕ) (d : Entry) → in_rows n es (length ls) ≡ true → k < length es → (n + line_count (map (offer_of ls) (take k es)) ≡ (get_or es k d).first) × ((get_or es k d).first + ((get_or es k d).gives + (get_or es k d).gets) ≤ length ls)
rows_at n [] ls k d h l = absurd (omega arith)
rows_at n (e ∷ es) ls zero d h l =
    let p = and_parts (eqb e.first n) (in_rows (n + (e.gives + e.gets)) es (length ls)) h in
    let f = eqb-true e.first n p.0 in
    let m = rows_le (n + (e.gives + e.gets)) es (length ls) p.1 in
    (omega arith, omega arith)
rows_at n (e ∷ es) ls (suc k) d h l =
    let p = and_parts (eqb e.first n) (in_rows (n + (e.gives + e.gets)) es (length ls)) h in
    let f = eqb-true e.first n p.0 in
    let m = rows_le (n + (e.gives + e.gets)) es (length ls) p.1 in
    let r = rows_at (n + (e.gives + e.gets)) es ls k d p.1 (omega arith) in
    (omega (arith, r.0, gives_length ls e (omega arith), gets_length ls e (omega arith)), r.1)

-- the arcs of the holdings and of the first k offers
abbrev pub front : ℕ → List Holding → List Line → List Entry → ℕ → List Arc
front n hs ls es k = holding_arcs n hs no_flows.held ++ offers_arcs n hs (n + length hs) (map (offer_of ls) (take k es)) no_flows.offers

module _ (n : ℕ) (hs : List Holding) (ls : List Line) (es : List Entry) (k : ℕ) (d : Entry) (before : List Arc) (drawn : before ≡ front n hs ls es k) (lt : k < length es) (o : Offer) (shown : o ≡ offer_of ls (get_or es k d)) where
  -- there is room for the arcs of one more
  pub front_room : length hs ≤ 128 → length ls ≤ 256 → length es ≤ 64 → in_rows 0 es (length ls) ≡ true → length before + (length o.give + length o.get) < 448
  front_room lh ll le h =
      let os = map (offer_of ls) (take k es) in
      let e = get_or es k d in
      let at = rows_at 0 es ls k d h lt in
      let a = length-append (holding_arcs n hs no_flows.held) (offers_arcs n hs (n + length hs) os no_flows.offers) in
      let b = length_held n hs no_flows.held in
      let c = offers_length n hs (n + length hs) os in
      let gives = ap (λ x. length x.give) shown ∙ gives_length ls e at.1 in
      let gets = ap (λ x. length x.get) shown ∙ gets_length ls e at.1 in
      omega (arith, ap length drawn, at.0, at.1, length-map (take k es) (offer_of ls), length-take-le k es (omega arith))

  pub front_more : (after : List Arc) (q : ℕ) → q ≡ (n + length hs) + 2 * k → after ≡ before ++ offer_arcs n hs q o (no_flows.offers 0) → after ≡ front n hs ls es (k + 1)
  front_more after q e added =
      let os = map (offer_of ls) (take k es) in
      let held = holding_arcs n hs no_flows.held in
      let many : q ≡ (n + length hs) + 2 * length os = omega (arith, length-map (take k es) (offer_of ls), length-take-le k es (omega arith)) in
      added ∙ ap₂ (λ xs x. xs ++ offer_arcs n hs q x (no_flows.offers 0)) drawn shown
      ∙ append_assoc held (offers_arcs n hs (n + length hs) os no_flows.offers) (offer_arcs n hs q (offer_of ls (get_or es k d)) (no_flows.offers 0))
      ∙ ap (λ xs. held ++ xs) (sym (ap (λ xs. offers_arcs n hs (n + length hs) xs no_flows.offers) (map_more (offer_of ls) es k d lt) ∙ offers_push n hs (n + length hs) os (offer_of ls (get_or es k d)) q many))
