-- Offers, each its head and under it its lines.
use Rattle.std.proofs.Common.{◌≡◌, ℕ, ◌+◌, ◌<◌, ◌≤◌, List, [], ◌∷◌, ◌++◌, map, length, replicate, sym, refl, ap, ◌∙◌, subst, subst₂, append_assoc, append-nil, arith}
use Rattle.std.proofs.lemmas.List.{length-map, length-append, map_push}
use Rattle.text.specs.declared.fault.Fault.{Fault}
use Rattle.text.specs.declared.reader.Reader.{Reader}
use Rattle.book.specs.Books.{Book, Offer, Loop, Side, FairOffer, line_count}
use Rattle.book.specs.declared.line.Line.{Line}
use Rattle.layout.specs.Layout.{Slot, offer, give, get, calls_for, with_line, with_offers}
use Rattle.layout.specs.Records.{OfferWithUnits, Contents, units_of, line_of, offer_of, book_of}
use Rattle.round.specs.Offering.{made}
use Rattle.reading.specs.Held.{units_in, filled_offers, held}
use Rattle.reading.specs.Kinds.{kind as kind_as}
use Rattle.reading.specs.Levels.{numbers}
use Rattle.reading.specs.Offers.{head_said, FairHead, give_lines, get_lines, with_part, LinesRead, LinesStop, Takable, OfferAdded}
use Rattle.reading.specs.Reading.{Onward, Stops}
use Rattle.reading.specs.declared.kind.Kind.{Kind}
use Rattle.reading.specs.declared.level.Level.{Level}
use Rattle.reading.specs.declared.offer_head.OfferHead.{OfferHead}
use Rattle.reading.proofs.Helds.{refilled, units_counted}

-- the units of one offer more
units_push : (os : List OfferWithUnits) (o : OfferWithUnits) → units_in (os ++ o ∷ []) ≡ (units_in os ++ map units_of o.give) ++ map units_of o.get
units_push [] o = ap (λ us. map units_of o.give ++ us) (append-nil (map units_of o.get))
units_push (p ∷ os) o =
    let g = map units_of p.give in
    let w = map units_of p.get in
    let rest = units_in os in
    let a = map units_of o.give in
    let b = map units_of o.get in
    ap (λ us. g ++ (w ++ us)) (units_push os o)
    ∙ ap (λ us. g ++ us) (sym (append_assoc w (rest ++ a) b) ∙ ap (λ us. us ++ b) (sym (append_assoc w rest a)))
    ∙ sym (append_assoc g ((w ++ rest) ++ a) b)
    ∙ ap (λ us. us ++ b) (sym (append_assoc g (w ++ rest) a))

-- how many lines were read, and how long the row of units is then
lines_long : {items : ℕ} {gs : List Line} {n : ℕ} {lines : List Line} {units units' : List ℕ} {before after : Reader} → LinesRead items gs n lines units units' before after → length lines ≡ n
lines_long d = omega (arith, d.many, length-map d.said line_of, ap length d.lines_are)

pub units_long : {items : ℕ} {gs : List Line} {n : ℕ} {lines : List Line} {units units' : List ℕ} {before after : Reader} → LinesRead items gs n lines units units' before after → length units' ≡ length units + n
units_long {units = units} d = omega (arith, d.many, ap length d.units_are, length-append units (map units_of d.said), length-map d.said units_of)

-- a side that was read
side_read : {items : ℕ} {gs : List Line} {n : ℕ} {lines : List Line} {units units' : List ℕ} {before after : Reader} → LinesRead items gs n lines units units' before after → 1 ≤ n → Side items lines
side_read d some = record { some = omega (arith, lines_long d); fair = d.fair; apart = d.apart }

-- an offer was read, and the round and the row of units hold it besides these contents
pub record OfferRead (x : Contents) (before after : Reader) (held : Book) (units : List ℕ) : Type 0 where
  pub said : OfferWithUnits
  pub onward : (due : List Slot) → Onward (offer ∷ due) x before due (with_offers x (x.offers ++ said ∷ [])) after
  pub holds : book_of (with_offers x (x.offers ++ said ∷ [])) ≡ held
  pub row : units_in (x.offers ++ said ∷ []) ≡ units

-- the head of an offer was read after these contents, whose units are in a row
pub record Begun (x : Contents) (units : List ℕ) (h : OfferHead) (items : ℕ) (before middle : Reader) : Type 0 where
  pub onward : (due : List Slot) → Onward (offer ∷ due) x before (calls_for offer (head_said h) ++ due) (with_line offer (head_said h) x) middle
  pub known : length x.items ≡ items
  pub fair : FairHead (length x.members) (line_count (map offer_of x.offers)) h
  pub row : units_in x.offers ≡ units
  pub few : length x.offers < 64

pub begun : (x : Contents) (b : Book) (units : List ℕ) (items members lines : ℕ) (h : OfferHead) (before middle : Reader) → book_of x ≡ b → units_in x.offers ≡ units → length x.offers < 64 → items ≡ length b.items → members ≡ length b.members → lines ≡ length units → FairHead members lines h → ((y : Contents) → length y.members ≡ members → line_count (map offer_of y.offers) ≡ lines → (due : List Slot) → Onward (offer ∷ due) y before (calls_for offer (head_said h) ++ due) (with_line offer (head_said h) y) middle) → Begun x units h items before middle
begun x b units items members lines h before middle e u few ei em el fair on =
    let m = ap (λ c. length c.members) e ∙ sym em in
    let l = sym (units_counted x.offers) ∙ ap length u ∙ sym el in
    record {
      onward = on x m l;
      known = ap (λ c. length c.items) e ∙ sym ei;
      fair = subst₂ (λ i j. FairHead i j h) (sym m) (sym l) fair;
      row = u;
      few = few;
    }

module _ {x : Contents} {units : List ℕ} {h : OfferHead} {items : ℕ} {before middle : Reader} (b : Begun x units h items before middle) where
  to_gives : (due : List Slot) → Onward (offer ∷ due) x before (replicate h.gives give ++ (replicate h.gets get ++ due)) (with_part give_lines x (head_said h) []) middle
  to_gives due = subst (λ ss. Onward (offer ∷ due) x before ss (with_part give_lines x (head_said h) []) middle) (append_assoc (replicate h.gives give) (replicate h.gets get) due) (b.onward due)

  -- the text is refused at a line that it gives
  pub give_stops : (f : Fault) → LinesStop items [] h.gives middle f → (due : List Slot) → Stops (offer ∷ due) x before f
  give_stops f stop due = to_gives due _ (stop give_lines x (head_said h) (replicate h.gets get ++ due) (b.known, refl))

  module _ {lines gs : List Line} {none units' : List ℕ} {later : Reader} (g : LinesRead items [] h.gives lines none units' middle later) (same : gs ≡ lines) where
    to_gets : (due : List Slot) → Onward (offer ∷ due) x before (replicate h.gets get ++ due) (with_part (get_lines g.said) x (head_said h) []) later
    to_gets due o r = to_gives due o (g.onward give_lines x (head_said h) (replicate h.gets get ++ due) (b.known, refl) o r)

    -- at a line that it gets
    pub get_stops : (f : Fault) → LinesStop items gs h.gets later f → (due : List Slot) → Stops (offer ∷ due) x before f
    get_stops f stop due = to_gets due _ (stop (get_lines g.said) x (head_said h) due (b.known, g.lines_are ∙ sym same))

    module _ {lines' : List Line} {units'' : List ℕ} {after : Reader} (w : LinesRead items gs h.gets lines' units' units'' later after) where
      abbrev this : OfferWithUnits
      this = record { member = h.member; limit = h.limit; give = g.said; get = w.said }

      abbrev that : Offer
      that = made h.member h.limit lines lines'

      same_offers : map offer_of (x.offers ++ this ∷ []) ≡ map offer_of x.offers ++ that ∷ []
      same_offers = map_push offer_of x.offers this ∙ (λ i. map offer_of x.offers ++ made h.member h.limit (g.lines_are i) (w.lines_are i) ∷ [])

      fair_offer : FairOffer (length x.items) (length x.members) that
      fair_offer = subst (λ n. FairOffer n (length x.members) that) (sym b.known) (record { known = b.fair.known; most = b.fair.most; gives = side_read g b.fair.gives; gets = side_read w b.fair.gets; no_loop = subst (λ ls. Loop ls lines' → ⊥) same w.no_loop })

      room : line_count (map offer_of x.offers) + (length lines + length lines') ≤ 256
      room = omega (arith, b.fair.room, lines_long g, lines_long w)

      -- the round has room for it
      pub takable : (old : Book) (ls ls' : List Line) → book_of x ≡ old → ls ≡ lines → ls' ≡ lines' → Takable old (made h.member h.limit ls ls')
      takable old ls ls' e eg ew =
          let whole : Takable (book_of x) that = record { fair = fair_offer; few = omega (arith, b.few, length-map x.offers offer_of); room = room } in
          subst (λ c. Takable c (made h.member h.limit ls ls')) e (subst₂ (λ gs ws. Takable (book_of x) (made h.member h.limit gs ws)) (sym eg) (sym ew) whole)

      -- it is read, the round has taken it, and its units have come to the row
      pub all_read : (old held : Book) (ls ls' : List Line) (row : List ℕ) → book_of x ≡ old → ls ≡ lines → ls' ≡ lines' → OfferAdded old held (made h.member h.limit ls ls') → none ≡ [] → row ≡ units ++ units'' → OfferRead x before after held row
      all_read old held ls ls' row e eg ew added en er = record {
        said = this;
        onward = λ due o r. to_gets due o (w.onward (get_lines g.said) x (head_said h) due (b.known, g.lines_are ∙ sym same) o r);
        holds = (λ i. record { items = x.items; members = x.members; holdings = x.holdings; offers = same_offers i }) ∙ sym add;
        row =
            units_push x.offers this
            ∙ (λ i. (b.row i ++ gives i) ++ map units_of w.said)
            ∙ append_assoc units units' (map units_of w.said)
            ∙ ap (λ us. units ++ us) w.units_are
            ∙ sym er;
      }
        where
          gives : map units_of g.said ≡ units'
          gives = ap (λ us. us ++ map units_of g.said) (sym en) ∙ g.units_are

          add : OfferAdded (book_of x) held that
          add = subst (λ c. OfferAdded c held that) (sym e) (subst₂ (λ gs ws. OfferAdded old held (made h.member h.limit gs ws)) eg ew added)

-- the contents of a draft with one offer more
module _ (k : Kind) (ls : List Level) (old b : Book) (us us' : List ℕ) (before after : Reader) (r : OfferRead (held k old us ls) before after b us') where
  abbrev pub with_said : Contents
  with_said = let x = held k old us ls in with_offers x (x.offers ++ r.said ∷ [])

  pub offer_held : with_said ≡ held k b us' ls
  offer_held = let y = with_said in let filled : y.offers ≡ filled_offers b.offers us' = sym (refilled y.offers) ∙ (λ i. filled_offers (r.holds i).offers (r.row i)) in (λ i. record { kind = kind_as k; items = (r.holds i).items; members = (r.holds i).members; holdings = (r.holds i).holdings; offers = filled i; levels = map (numbers (kind_as k)) ls })

  pub offer_counted : length us' ≡ line_count b.offers
  offer_counted = sym (ap length r.row) ∙ units_counted with_said.offers ∙ ap (λ c. line_count c.offers) r.holds
