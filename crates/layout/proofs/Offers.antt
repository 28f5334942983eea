-- The offers of a record: each its head, and under it its lines.
use Rattle.std.proofs.Common.{◌≡◌, ℕ, zero, suc, ◌+◌, ◌≤◌, ◌⊎◌, List, [], ◌∷◌, ◌++◌, map, length, replicate, sym, refl, ap, ◌∙◌, subst, inl, inr, append_assoc, append-nil, arith}
use Rattle.std.specs.List.{AllByRecursion}
use Rattle.std.proofs.ByRecursion.{All-push}
use Rattle.std.proofs.lemmas.List.{length-map}
use Rattle.tables.proofs.Firsts.{next, not_first, not_rest}
use Rattle.text.specs.NumbersLemmas.{legible_unsigned}
use Rattle.book.specs.Books.{line_count, Fair, FairOffer, Side}
use Rattle.book.specs.declared.holding.Holding.{Holding}
use Rattle.layout.specs.Records.{Kind, LineWithUnits, OfferWithUnits, Contents, line_of, offer_of, FairUnits}
use Rattle.layout.specs.Layout.{Slot, offer, give, get, HeadOfOffer, offer_row, spell}
use Rattle.layout.specs.Runs.{ComesTo, reads}
use Rattle.layout.specs.Render.{ended, head_of, offers_lines}
use Rattle.layout.proofs.Lines.{row_free}
use Rattle.layout.proofs.Lists.{below, at_most, all_mid}
use Rattle.layout.proofs.Sections.{Kept, ReadsFrom, cons_text, join_text, take_line, put_line, take_lines, put_lines}
use Rattle.layout.proofs.Kept.{holds, short, FairFilled, SideWhole, gives_list, gets_list}

-- an offer over n items by one of m members, with at most 1,000 units on each line
abbrev pub FairFilledOffer : ℕ → ℕ → OfferWithUnits → Type 0
FairFilledOffer n m f = FairOffer n m (offer_of f) × (FairUnits f.give × FairUnits f.get)

abbrev pub OffersWhole : ℕ → ℕ → List OfferWithUnits → Type 0
OffersWhole n m fs = AllByRecursion (FairFilledOffer n m) fs × (line_count (map offer_of fs) ≤ 256)

lines_fair : (n : ℕ) (ls : List LineWithUnits) → AllByRecursion (FairFilled n) ls → AllByRecursion (Fair n) (map line_of ls) × FairUnits ls
lines_fair n [] h = (tt, tt)
lines_fair n (l ∷ ls) h = let t = lines_fair n ls h.1 in ((h.0.0, t.0), (h.0.1, t.1))

lines_filled : (n : ℕ) (ls : List LineWithUnits) → AllByRecursion (Fair n) (map line_of ls) → FairUnits ls → AllByRecursion (FairFilled n) ls
lines_filled n [] h u = tt
lines_filled n (l ∷ ls) h u = ((h.0, u.0), lines_filled n ls h.1 u.1)

side_from : (n : ℕ) (ls : List LineWithUnits) → 1 ≤ length ls → SideWhole n ls → Side n (map line_of ls)
side_from n ls some w = record { some = omega (arith, length-map ls line_of); fair = (lines_fair n ls w.0).0; apart = w.1 }

whole_from : (n : ℕ) (ls : List LineWithUnits) → Side n (map line_of ls) → FairUnits ls → SideWhole n ls
whole_from n ls p u = (lines_filled n ls p.fair u, p.apart)

-- the lines of offers, counted
pub count_append : (fs gs : List OfferWithUnits) → line_count (map offer_of (fs ++ gs)) ≡ line_count (map offer_of fs) + line_count (map offer_of gs)
count_append [] gs = omega arith
count_append (f ∷ fs) gs = omega (arith, count_append fs gs)

pub count_cons : (f : OfferWithUnits) (fs : List OfferWithUnits) → line_count (map offer_of (f ∷ fs)) ≡ (length f.give + length f.get) + line_count (map offer_of fs)
count_cons f fs = omega (arith, length-map f.give line_of, length-map f.get line_of)

-- the head of an offer with its lines counted
counted : (o : HeadOfOffer) (gives gets : ℕ) (text rest : List ℕ) → gives ≡ o.gives → gets ≡ o.gets → text ≡ spell offer o ++ 10 ∷ rest → text ≡ spell offer (record { member = o.member; limit = o.limit; gives = gives; gets = gets }) ++ 10 ∷ rest
counted o gives gets text rest e f h = h ∙ (λ i. spell offer (record { member = o.member; limit = o.limit; gives = sym e i; gets = sym f i }) ++ 10 ∷ rest)

-- offers with one more
offers_push : (n m : ℕ) (above : List OfferWithUnits) (f : OfferWithUnits) → OffersWhole n m above → FairFilledOffer n m f → line_count (map offer_of above) + (length f.give + length f.get) ≤ 256 → OffersWhole n m (above ++ f ∷ [])
offers_push n m above f w p le = (All-push (FairFilledOffer n m) above f w.0 p, omega (arith, count_append above (f ∷ []), count_cons f []))

module _ (k : Kind) (items members : List (List ℕ)) (hs : List Holding) (few_items : length items ≤ 16) (few_members : length members ≤ 32) where
  abbrev pub at_offers : List OfferWithUnits → Contents
  at_offers fs = holds k items members hs fs []

  -- one offer
  record NextOffer (due : List Slot) (above : List OfferWithUnits) (text : List ℕ) (out : Contents) : Type 0 where
    says : OfferWithUnits
    fair : FairFilledOffer (length items) (length members) says
    count : line_count (map offer_of above) + (length says.give + length says.get) ≤ 256
    rest : List ℕ
    line : ℕ
    text_is : text ≡ ended (spell offer (head_of says) ∷ (map (spell give) says.give ++ map (spell get) says.get)) ++ rest
    then : ComesTo due (at_offers (above ++ says ∷ [])) rest line (reads out)

  take_offer : (due : List Slot) (above : List OfferWithUnits) (text : List ℕ) (line : ℕ) (out : Contents) → ComesTo (offer ∷ due) (at_offers above) text line (reads out) → NextOffer due above text out
  take_offer due above text line out r =
      let h = take_line r in
      let o : HeadOfOffer = h.says in
      let f = h.kept.1 in
      let gl = gives_list k items members hs few_items above o.member o.limit in
      let g = take_lines gl o.gives (replicate o.gets get ++ due) h.rest h.line out (subst (λ d. ComesTo d (gl.at []) h.rest h.line (reads out)) (append_assoc (replicate o.gives give) (replicate o.gets get) due) h.then) in
      let w = take_lines (gets_list k items members hs few_items above o.member o.limit g.says) o.gets due g.rest g.line out g.then in
      let bare = not_first (not_rest (not_rest (not_rest f))) in
      record {
        says = record { member = o.member; limit = o.limit; give = g.says; get = w.says };
        fair = (
          record {
            known = below o.member (length members) (not_first f);
            most = at_most o.limit 1000 (not_first (not_rest (not_rest f)));
            gives = side_from (length items) g.says (at_most 1 (length g.says) (λ l. bare (inl (omega arith)))) g.whole;
            gets = side_from (length items) w.says (at_most 1 (length w.says) (λ l. bare (inr (omega arith)))) w.whole.0;
            no_loop = w.whole.1;
          },
          ((lines_fair (length items) g.says g.whole.0).1, (lines_fair (length items) w.says w.whole.0.0).1),
        );
        count = at_most (line_count (map offer_of above) + (length g.says + length w.says)) 256 (λ l. not_first (not_rest f) (omega arith));
        rest = w.rest;
        line = w.line;
        text_is = cons_text (spell offer (record { member = o.member; limit = o.limit; gives = length g.says; gets = length w.says })) h.rest w.rest text (map (spell give) g.says ++ map (spell get) w.says) (counted o (length g.says) (length w.says) text h.rest g.many w.many h.text_is) (join_text h.rest g.rest w.rest (map (spell give) g.says) (map (spell get) w.says) g.text_is w.text_is);
        then = w.then;
      }

  pub record NextOffers (n : ℕ) (due : List Slot) (above : List OfferWithUnits) (text : List ℕ) (out : Contents) : Type 0 where
    pub says : List OfferWithUnits
    pub many : length says ≡ n
    pub whole : OffersWhole (length items) (length members) (above ++ says)
    pub rest : List ℕ
    pub line : ℕ
    pub text_is : text ≡ ended (offers_lines says) ++ rest
    pub then : ComesTo due (at_offers (above ++ says)) rest line (reads out)

  -- the lines of one offer and then of others
  offer_text : (f : OfferWithUnits) (fs : List OfferWithUnits) (text rest more : List ℕ) → text ≡ ended (spell offer (head_of f) ∷ (map (spell give) f.give ++ map (spell get) f.get)) ++ rest → rest ≡ ended (offers_lines fs) ++ more → text ≡ ended (offers_lines (f ∷ fs)) ++ more
  offer_text f fs text rest more e g = join_text text rest more (spell offer (head_of f) ∷ (map (spell give) f.give ++ map (spell get) f.get)) (offers_lines fs) e g ∙ ap (λ ls. ended (spell offer (head_of f) ∷ ls) ++ more) (append_assoc (map (spell give) f.give) (map (spell get) f.get) (offers_lines fs))

  pub take_offers : (n : ℕ) (due : List Slot) (above : List OfferWithUnits) (text : List ℕ) (line : ℕ) (out : Contents) → OffersWhole (length items) (length members) above → ComesTo (replicate n offer ++ due) (at_offers above) text line (reads out) → NextOffers n due above text out
  take_offers zero due above text line out w r = record {
    says = [];
    many = refl;
    whole = subst (OffersWhole (length items) (length members)) (sym (append-nil above)) w;
    rest = text;
    line = line;
    text_is = refl;
    then = subst (λ fs. ComesTo due (at_offers fs) text line (reads out)) (sym (append-nil above)) r;
  }
  take_offers (suc n) due above text line out w r =
      let h = take_offer (replicate n offer ++ due) above text line out r in
      let f = h.says in
      let t = take_offers n due (above ++ f ∷ []) h.rest h.line out (offers_push (length items) (length members) above f w h.fair h.count) h.then in
      let e = append_assoc above (f ∷ []) t.says in
      record {
        says = f ∷ t.says;
        many = ap suc t.many;
        whole = subst (OffersWhole (length items) (length members)) e t.whole;
        rest = t.rest;
        line = t.line;
        text_is = offer_text f t.says text h.rest t.rest h.text_is t.text_is;
        then = subst (λ fs. ComesTo due (at_offers fs) t.rest t.line (reads out)) e t.then;
      }

  -- the head of an offer that keeps the rules
  head_kept : (above : List OfferWithUnits) (f : OfferWithUnits) (fs : List OfferWithUnits) → OffersWhole (length items) (length members) (above ++ f ∷ fs) → Kept offer (at_offers above) (head_of f)
  head_kept above f fs w =
      let p = all_mid (FairFilledOffer (length items) (length members)) above fs f w.0 in
      let fo = p.0 in
      let few : line_count (map offer_of above) + (length f.give + length f.get) ≤ 256 = omega (arith, w.1, count_append above (f ∷ fs), count_cons f fs) in (
        (short f.member (omega (arith, fo.known)), (short f.limit (omega (arith, fo.most)), (short (length f.give) (omega arith), (short (length f.get) (omega arith), tt)))),
        next (λ l. omega (arith, fo.known)) (next (λ l. omega arith) (next (λ l. omega (arith, fo.most)) (next (bare (omega (arith, fo.gives.some, length-map f.give line_of)) (omega (arith, fo.gets.some, length-map f.get line_of))) refl))),
      )
    where
      bare : 1 ≤ length f.give → 1 ≤ length f.get → (length f.give ≡ 0) ⊎ (length f.get ≡ 0) → ⊥
      bare a b (inl e) = omega arith
      bare a b (inr e) = omega arith

  pub put_offers : (fs : List OfferWithUnits) (due : List Slot) (above : List OfferWithUnits) (rest : List ℕ) (out : Contents) → OffersWhole (length items) (length members) (above ++ fs) → ReadsFrom due (at_offers (above ++ fs)) rest out → ReadsFrom (replicate (length fs) offer ++ due) (at_offers above) (ended (offers_lines fs) ++ rest) out
  put_offers [] due above rest out w r = subst (λ fs. ReadsFrom due (at_offers fs) rest out) (append-nil above) r
  put_offers (f ∷ fs) due above rest out w r =
      let e = sym (append_assoc above (f ∷ []) fs) in
      let p = all_mid (FairFilledOffer (length items) (length members)) above fs f w.0 in
      let after = replicate (length fs) offer ++ due in
      let t = put_offers fs due (above ++ f ∷ []) rest out (subst (OffersWhole (length items) (length members)) e w) (subst (λ fs. ReadsFrom due (at_offers fs) rest out) e r) in
      let gl = gives_list k items members hs few_items above f.member f.limit in
      let wl = gets_list k items members hs few_items above f.member f.limit f.give in
      let a = put_lines wl f.get after (ended (offers_lines fs) ++ rest) out (whole_from (length items) f.get p.0.gets p.1.1, p.0.no_loop) t in
      let b = put_lines gl f.give (replicate (length f.get) get ++ after) (ended (map (spell get) f.get) ++ (ended (offers_lines fs) ++ rest)) out (whole_from (length items) f.give p.0.gives p.1.0) a in
      let c = put_line {s = offer} {due = after} {x = at_offers above} {rest = ended (map (spell give) f.give) ++ (ended (map (spell get) f.get) ++ (ended (offers_lines fs) ++ rest))} (head_of f) (row_free legible_unsigned (offer_row (head_of f))) (head_kept above f fs w) (subst (λ d. ReadsFrom d (gl.at []) (ended (map (spell give) f.give) ++ (ended (map (spell get) f.get) ++ (ended (offers_lines fs) ++ rest))) out) (sym (append_assoc (replicate (length f.give) give) (replicate (length f.get) get) after)) b) in
      subst (λ text. ReadsFrom (offer ∷ after) (at_offers above) text out) (whole_text f fs rest) c
    where
      whole_text : (f : OfferWithUnits) (fs : List OfferWithUnits) (rest : List ℕ) → spell offer (head_of f) ++ 10 ∷ (ended (map (spell give) f.give) ++ (ended (map (spell get) f.get) ++ (ended (offers_lines fs) ++ rest))) ≡ ended (offers_lines (f ∷ fs)) ++ rest
      whole_text f fs rest = cons_text (spell offer (head_of f)) _ rest _ (map (spell give) f.give ++ (map (spell get) f.get ++ offers_lines fs)) refl (join_text _ _ rest (map (spell give) f.give) (map (spell get) f.get ++ offers_lines fs) refl (join_text _ _ rest (map (spell get) f.get) (offers_lines fs) refl refl))
