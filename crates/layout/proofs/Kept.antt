-- The lines of each sort are kept just where the whole list of them keeps the rules.
use Rattle.std.proofs.Common.{◌≡◌, ℕ, ◌<◌, ◌≤◌, ◌⊎◌, List, [], ◌∷◌, ◌++◌, map, length, get_or, ℤ, nat_abs, None, codes, sym, refl, ap, ◌∙◌, subst, inl, inr, arith}
use Rattle.std.specs.List.{ContainsAt as Has, AllByRecursion}
use Rattle.std.proofs.ByRecursion.{All-push}
use Rattle.std.proofs.lemmas.List.{length-append, get_or_at, map_push, map-append}
use Rattle.tables.specs.Refusals.{Row, when, First}
use Rattle.tables.proofs.Firsts.{next, not_first, not_rest}
use Rattle.text.specs.Numbers.{spelt, unsigned, signed}
use Rattle.text.specs.NumbersLemmas.{few_digits, legible_unsigned, legible_signed}
use Rattle.book.specs.Books.{Distinct, Loop, Fair, FairHolding, item_of, pair}
use Rattle.book.specs.Spelling.{Spelt}
use Rattle.book.specs.declared.holding.Holding.{Holding}
use Rattle.book.proofs.Apart.{distinct_push}
use Rattle.layout.specs.Records.{Kind, by_money, by_money_then_weeks, LineWithUnits, OfferWithUnits, Contents, line_of, level_size, FairLevel}
use Rattle.layout.specs.Layout.{item, member, holding, give, get, level, holding_row, line_row, Short, last, line_rules, on_last, giving, getting, with_offers}
use Rattle.layout.proofs.Lines.{row_free}
use Rattle.layout.proofs.Lists.{below, at_most, same_bytes, spelt_stable, free_name, all_mid, none_apart, distinct_mid, apart_push, apart_mid, loop_push, loop_mid}
use Rattle.layout.proofs.Sections.{Kept, Listing}

-- contents, part by part
abbrev pub holds : Kind → List (List ℕ) → List (List ℕ) → List Holding → List OfferWithUnits → List (List ℤ) → Contents
holds k items members hs os zs = record { kind = k; items = items; members = members; holdings = hs; offers = os; levels = zs }

-- a number that is not too large has at most 13 digits
pub short : (n : ℕ) → n ≤ 1000000000000 → length (spelt n) ≤ 13
short n le = few_digits 13 n (omega arith) (omega arith) (omega arith)

-- Items

abbrev pub ItemsWhole : List (List ℕ) → Type 0
ItemsWhole names = AllByRecursion Spelt names × Distinct names × (0 < length names → get_or names 0 [] ≡ codes "cash")

module _ (k : Kind) where
  abbrev at_items : List (List ℕ) → Contents
  at_items names = holds k names [] [] [] []

  pub item_spelt : (above : List (List ℕ)) (name : List ℕ) → Kept item (at_items above) name → Spelt name
  item_spelt above name (_, f) = spelt_stable name (λ h. not_first f (inl h))

  pub items_grow : (above : List (List ℕ)) (name : List ℕ) → ItemsWhole above → Kept item (at_items above) name → ItemsWhole (above ++ name ∷ [])
  items_grow above name (spelt-all, apart, cash) (u, f) = (
    All-push Spelt above name spelt-all (item_spelt above name (u, f)),
    distinct_push above name apart (not_first (not_rest f)),
    first above cash (λ n h. not_first f (inr (n, h))),
  )
    where
      first : (above : List (List ℕ)) → (0 < length above → get_or above 0 [] ≡ codes "cash") → (length above ≡ 0 → (name ≡ codes "cash" → ⊥) → ⊥) → 0 < length (above ++ name ∷ []) → get_or (above ++ name ∷ []) 0 [] ≡ codes "cash"
      first [] c n l = elim (same_bytes name (codes "cash")) [ inl e ↦ e | inr g ↦ absurd (n refl g) ]
      first (a ∷ above) c n l = c (omega arith)

  pub items_shrink : (above : List (List ℕ)) (name : List ℕ) (names : List (List ℕ)) → ItemsWhole (above ++ name ∷ names) → Kept item (at_items above) name
  items_shrink above name names (spelt-all, apart, cash) = (tt, next well (next (distinct_mid above names name apart) refl))
    where
      first : length above ≡ 0 → name ≡ codes "cash"
      first e = sym (get_or_at above name names [] 0 e) ∙ cash (omega (arith, length-append above (name ∷ names)))

      well : (Spelt name → ⊥) ⊎ ((length above ≡ 0) × (name ≡ codes "cash" → ⊥)) → ⊥
      well (inl h) = h (all_mid Spelt above names name spelt-all)
      well (inr h) = h.1 (first h.0)

  abbrev pub items_list : Listing item
  items_list = record {
    leaf = λ c. refl;
    at = at_items;
    grows = λ above c. refl;
    free = λ above c p. free_name c (item_spelt above c p).2;
    Whole = ItemsWhole;
    none = (tt, none_apart, λ l. absurd (omega arith));
    grow = items_grow;
    shrink = items_shrink;
  }

-- Members

abbrev pub MembersWhole : List (List ℕ) → Type 0
MembersWhole names = AllByRecursion Spelt names × Distinct names

module _ (k : Kind) (items : List (List ℕ)) where
  abbrev at_members : List (List ℕ) → Contents
  at_members names = holds k items names [] [] []

  pub members_grow : (above : List (List ℕ)) (name : List ℕ) → MembersWhole above → Kept member (at_members above) name → MembersWhole (above ++ name ∷ [])
  members_grow above name (spelt-all, apart) (_, f) = (All-push Spelt above name spelt-all (spelt_stable name (not_first f)), distinct_push above name apart (not_first (not_rest f)))

  pub members_shrink : (above : List (List ℕ)) (name : List ℕ) (names : List (List ℕ)) → MembersWhole (above ++ name ∷ names) → Kept member (at_members above) name
  members_shrink above name names (spelt-all, apart) = (tt, next (λ h. h (all_mid Spelt above names name spelt-all)) (next (distinct_mid above names name apart) refl))

  abbrev pub members_list : Listing member
  members_list = record {
    leaf = λ c. refl;
    at = at_members;
    grows = λ above c. refl;
    free = λ above c p. free_name c (spelt_stable c (not_first p.1)).2;
    Whole = MembersWhole;
    none = (tt, none_apart);
    grow = members_grow;
    shrink = members_shrink;
  }

-- Holdings

abbrev pub HoldingsWhole : ℕ → ℕ → List Holding → Type 0
HoldingsWhole n m hs = AllByRecursion (FairHolding n m) hs × Distinct (map pair hs)

module _ (k : Kind) (items members : List (List ℕ)) where
  abbrev at_holdings : List Holding → Contents
  at_holdings hs = holds k items members hs [] []

  pub holdings_grow : (above : List Holding) (h : Holding) → HoldingsWhole (length items) (length members) above → Kept holding (at_holdings above) h → HoldingsWhole (length items) (length members) (above ++ h ∷ [])
  holdings_grow above h (fair, apart) (_, f) = (
    All-push (FairHolding (length items) (length members)) above h fair (
      below h.member (length members) (λ l. not_first f (inl l)),
      below h.item (length items) (λ l. not_first f (inr l)),
      at_most h.units 1000 (not_first (not_rest f)),
    ),
    apart_push pair above h apart (not_first (not_rest (not_rest f))),
  )

  module _ (few_items : length items ≤ 16) (few_members : length members ≤ 32) where
    pub holdings_shrink : (above : List Holding) (h : Holding) (hs : List Holding) → HoldingsWhole (length items) (length members) (above ++ h ∷ hs) → Kept holding (at_holdings above) h
    holdings_shrink above h hs (fair, apart) =
        let p = all_mid (FairHolding (length items) (length members)) above hs h fair in (
          (short h.member (omega (arith, p.0)), (short h.item (omega (arith, p.1)), (short h.units (omega (arith, p.2)), tt))),
          next (known p) (next (λ l. omega (arith, p.2)) (next (apart_mid pair above hs h apart) refl)),
        )
      where
        known : FairHolding (length items) (length members) h → (length members ≤ h.member) ⊎ (length items ≤ h.item) → ⊥
        known p (inl l) = omega (arith, p.0)
        known p (inr l) = omega (arith, p.1)

    abbrev pub holdings_list : Listing holding
    holdings_list = record {
      leaf = λ h. refl;
      at = at_holdings;
      grows = λ above h. refl;
      free = λ above h p. row_free legible_unsigned (holding_row h);
      Whole = HoldingsWhole (length items) (length members);
      none = (tt, none_apart);
      grow = holdings_grow;
      shrink = holdings_shrink;
    }

-- Lines of an offer

pub last_push : (os : List OfferWithUnits) (o : OfferWithUnits) → last (os ++ o ∷ []) ≡ o
last_push [] o = refl
last_push (p ∷ []) o = refl
last_push (p ∷ q ∷ os) o = last_push (q ∷ os) o

pub on_last_push : (f : OfferWithUnits → OfferWithUnits) (os : List OfferWithUnits) (o : OfferWithUnits) → on_last f (os ++ o ∷ []) ≡ os ++ f o ∷ []
on_last_push f [] o = refl
on_last_push f (p ∷ []) o = refl
on_last_push f (p ∷ q ∷ os) o = ap (λ l. p ∷ l) (on_last_push f (q ∷ os) o)

-- a line of one of n items, within the bounds
abbrev pub FairFilled : ℕ → LineWithUnits → Type 0
FairFilled n l = Fair n l.line × (l.units ≤ 1000)

abbrev pub SideWhole : ℕ → List LineWithUnits → Type 0
SideWhole n ls = AllByRecursion (FairFilled n) ls × Distinct (map item_of (map line_of ls))

abbrev item_on : LineWithUnits → ℕ
item_on l = l.line.item

items_on : (ls : List LineWithUnits) → map item_of (map line_of ls) ≡ map item_on ls
items_on [] = refl
items_on (l ∷ ls) = ap (λ is. l.line.item ∷ is) (items_on ls)

side_grow : (x : Contents) (above : List LineWithUnits) (l : LineWithUnits) → SideWhole (length x.items) above → First (line_rules x above l) None → SideWhole (length x.items) (above ++ l ∷ [])
side_grow x above l (fair, apart) f = (
  All-push (FairFilled (length x.items)) above l fair (
    record {
      known = below l.line.item (length x.items) (not_first f);
      least = at_most 1 l.line.limit (λ h. not_first (not_rest f) (inl h));
      most = at_most l.line.limit 1000 (λ h. not_first (not_rest f) (inr (inl h)));
      price = at_most l.line.price 1000000 (not_first (not_rest (not_rest f)));
    },
    at_most l.units 1000 (λ h. not_first (not_rest f) (inr (inr h))),
  ),
  subst Distinct (sym (items_on (above ++ l ∷ []))) (apart_push item_on above l (subst Distinct (items_on above) apart) (λ h. not_first (not_rest (not_rest (not_rest f))) (subst (λ is. Has is l.line.item) (sym (items_on above)) h))),
)

side_shrink : (x : Contents) (above : List LineWithUnits) (l : LineWithUnits) (ls : List LineWithUnits) → SideWhole (length x.items) (above ++ l ∷ ls) → First (line_rules x above l) None
side_shrink x above l ls (fair, apart) =
    let p = all_mid (FairFilled (length x.items)) above ls l fair in
    next (λ h. omega (arith, p.0.known)) (next (bounds p) (next (λ h. omega (arith, p.0.price)) (next (λ h. apart_mid item_on above ls l (subst Distinct (items_on (above ++ l ∷ ls)) apart) (subst (λ is. Has is l.line.item) (items_on above) h)) refl)))
  where
    bounds : FairFilled (length x.items) l → (l.line.limit < 1) ⊎ ((1000 < l.line.limit) ⊎ (1000 < l.units)) → ⊥
    bounds p (inl h) = omega (arith, p.0.least)
    bounds p (inr (inl h)) = omega (arith, p.0.most)
    bounds p (inr (inr h)) = omega (arith, p.1)

line_short : (n : ℕ) (l : LineWithUnits) → n ≤ 16 → FairFilled n l → Short unsigned (line_row l)
line_short n l le p = (short l.line.item (omega (arith, p.0.known)), (short l.line.limit (omega (arith, p.0.most)), (short l.line.price (omega (arith, p.0.price)), (short l.units (omega (arith, p.1)), tt))))

-- rules, and then others
kept_both : (rows more : List Row) → First rows None → First more None → First (rows ++ more) None
kept_both [] more f g = g
kept_both (when n P ∷ rows) more f g = next (not_first f) (kept_both rows more (not_rest f) g)

kept_left : (rows more : List Row) → First (rows ++ more) None → First rows None
kept_left [] more f = refl
kept_left (when n P ∷ rows) more f = next (not_first f) (kept_left rows more (not_rest f))

kept_right : (rows more : List Row) → First (rows ++ more) None → First more None
kept_right [] more f = f
kept_right (when n P ∷ rows) more f = kept_right rows more (not_rest f)

-- the offer of member m is being read, below those above it
module _ (k : Kind) (items members : List (List ℕ)) (hs : List Holding) (few_items : length items ≤ 16) (os : List OfferWithUnits) (m limit : ℕ) where
  abbrev at_lines : List LineWithUnits → List LineWithUnits → Contents
  at_lines gs ws = holds k items members hs (os ++ record { member = m; limit = limit; give = gs; get = ws } ∷ []) []

  -- the last offer is this one
  this : (gs ws : List LineWithUnits) → last (at_lines gs ws).offers ≡ record { member = m; limit = limit; give = gs; get = ws }
  this gs ws = last_push os (record { member = m; limit = limit; give = gs; get = ws })

  pub gives_grow : (above : List LineWithUnits) (l : LineWithUnits) → SideWhole (length items) above → Kept give (at_lines above []) l → SideWhole (length items) (above ++ l ∷ [])
  gives_grow above l w (_, f) = side_grow (at_lines above []) above l w (subst (λ o. First (line_rules (at_lines above []) o.give l) None) (this above []) f)

  pub gives_shrink : (above : List LineWithUnits) (l : LineWithUnits) (ls : List LineWithUnits) → SideWhole (length items) (above ++ l ∷ ls) → Kept give (at_lines above []) l
  gives_shrink above l ls w = (line_short (length items) l few_items (all_mid (FairFilled (length items)) above ls l w.0), subst (λ o. First (line_rules (at_lines above []) o.give l) None) (sym (this above [])) (side_shrink (at_lines above []) above l ls w))

  abbrev pub gives_list : Listing give
  gives_list = record {
    leaf = λ l. refl;
    at = λ gs. at_lines gs [];
    grows = λ gs l. ap (with_offers (at_lines gs [])) (on_last_push (giving l) os (record { member = m; limit = limit; give = gs; get = [] }));
    free = λ above l p. row_free legible_unsigned (line_row l);
    Whole = SideWhole (length items);
    none = (tt, none_apart);
    grow = gives_grow;
    shrink = gives_shrink;
  }

  module _ (gs : List LineWithUnits) where
    abbrev pub GetsWhole : List LineWithUnits → Type 0
    GetsWhole ws = SideWhole (length items) ws × (Loop (map line_of gs) (map line_of ws) → ⊥)

    abbrev loop_rule : OfferWithUnits → LineWithUnits → List Row
    loop_rule o l = when 8 (Loop (map line_of o.give) (l.line ∷ [])) ∷ []

    abbrev get_rules : List LineWithUnits → LineWithUnits → OfferWithUnits → List Row
    get_rules above l o = line_rules (at_lines gs above) o.get l ++ loop_rule o l

    pub gets_grow : (above : List LineWithUnits) (l : LineWithUnits) → GetsWhole above → Kept get (at_lines gs above) l → GetsWhole (above ++ l ∷ [])
    gets_grow above l (w, no_loop) (_, f) =
        let o : OfferWithUnits = record { member = m; limit = limit; give = gs; get = above } in
        let g = subst (λ o. First (get_rules above l o) None) (this gs above) f in (
          side_grow (at_lines gs above) above l w (kept_left (line_rules (at_lines gs above) above l) (loop_rule o l) g),
          λ h. elim (loop_push (map line_of gs) (map line_of above) l.line (subst (Loop (map line_of gs)) (map_push line_of above l) h)) [
            | inl p ↦ no_loop p
            | inr p ↦ not_first (kept_right (line_rules (at_lines gs above) above l) (loop_rule o l) g) p
          ],
        )

    pub gets_shrink : (above : List LineWithUnits) (l : LineWithUnits) (ls : List LineWithUnits) → GetsWhole (above ++ l ∷ ls) → Kept get (at_lines gs above) l
    gets_shrink above l ls (w, no_loop) =
        let o : OfferWithUnits = record { member = m; limit = limit; give = gs; get = above } in
        let none : Loop (map line_of gs) (l.line ∷ []) → ⊥ = λ p. no_loop (subst (Loop (map line_of gs)) (sym (map-append line_of above (l ∷ ls))) (loop_mid (map line_of gs) (map line_of above) (map line_of ls) l.line p)) in
        (line_short (length items) l few_items (all_mid (FairFilled (length items)) above ls l w.0), subst (λ o. First (get_rules above l o) None) (sym (this gs above)) (kept_both (line_rules (at_lines gs above) above l) (loop_rule o l) (side_shrink (at_lines gs above) above l ls w) (next none refl)))

    pub no_loop_yet : Loop (map line_of gs) [] → ⊥
    no_loop_yet (i, lt, at) = omega (arith, (at (record { item = 0; limit = 0; price = 0 })).1.1)

    abbrev pub gets_list : Listing get
    gets_list = record {
      leaf = λ l. refl;
      at = at_lines gs;
      grows = λ ws l. ap (with_offers (at_lines gs ws)) (on_last_push (getting l) os (record { member = m; limit = limit; give = gs; get = ws }));
      free = λ above l p. row_free legible_unsigned (line_row l);
      Whole = GetsWhole;
      none = ((tt, none_apart), no_loop_yet);
      grow = gets_grow;
      shrink = gets_shrink;
    }

-- Levels

level_short : (k : Kind) (zs : List ℤ) → FairLevel k zs → Short signed zs
level_short k [] p = tt
level_short k (a ∷ []) (n, s) = (short (nat_abs a) (omega arith), tt)
level_short k (a ∷ b ∷ []) (n, s) = (short (nat_abs a) (omega arith), (short (nat_abs b) (omega arith), tt))
level_short by_money (a ∷ b ∷ c ∷ zs) (n, s) = absurd (omega arith)
level_short by_money_then_weeks (a ∷ b ∷ c ∷ zs) (n, s) = absurd (omega arith)

module _ (k : Kind) (items members : List (List ℕ)) (hs : List Holding) (os : List OfferWithUnits) where
  abbrev at_levels : List (List ℤ) → Contents
  at_levels zs = holds k items members hs os zs

  pub levels_grow : (above : List (List ℤ)) (zs : List ℤ) → AllByRecursion (FairLevel k) above → Kept level (at_levels above) zs → AllByRecursion (FairLevel k) (above ++ zs ∷ [])
  levels_grow above zs fair (p, f) = All-push (FairLevel k) above zs fair (p.0, at_most (level_size zs) 1000000 (not_first f))

  pub levels_shrink : (above : List (List ℤ)) (zs : List ℤ) (more : List (List ℤ)) → AllByRecursion (FairLevel k) (above ++ zs ∷ more) → Kept level (at_levels above) zs
  levels_shrink above zs more fair = let p = all_mid (FairLevel k) above more zs fair in ((p.0, level_short k zs p), next (λ l. omega (arith, p.1)) refl)

  abbrev pub levels_list : Listing level
  levels_list = record {
    leaf = λ zs. refl;
    at = at_levels;
    grows = λ above zs. refl;
    free = λ above zs p. row_free legible_signed zs;
    Whole = AllByRecursion (FairLevel k);
    none = tt;
    grow = levels_grow;
    shrink = levels_shrink;
  }
