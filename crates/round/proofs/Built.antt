-- Each sound book is left by some calls: its items, its members, its holdings and its offers, each in their order.
use Rattle.std.proofs.Common.{◌≡◌, ℕ, ◌+◌, ◌<◌, ◌≤◌, ◌⊎◌, List, [], ◌∷◌, ◌++◌, map, length, get_or, set, Some, None, Ok, Option, sym, refl, ap, ◌∙◌, subst, inl, inr, codes, arith, ⊎_elim, append_assoc, length-append}
use Rattle.std.specs.List.{ContainsAt as Has, AllByRecursion}
use Rattle.std.proofs.lemmas.List.{length-map, length_push, get_or_append_left, append-nil, get_or-map, map-append}
use Rattle.std.proofs.Math.Seq.{get_or-append_seam, set-append_seam}
use Rattle.std.proofs.ByRecursion.{All-get_or}
use Rattle.std.proofs.lemmas.Bool.{cases_lt}
use Rattle.tables.specs.Refusals.{First}
use Rattle.tables.proofs.Firsts.{next}
use Rattle.book.specs.Spelling.{Spelt}
use Rattle.book.specs.Books.{Book, Offer, no_offer, no_line, no_holding, pair, spot_of, Distinct, Twice, Any, item_of, line_count, FairHolding, Fair, FairOffer, Sound}
use Rattle.book.specs.declared.line.Line.{Line}
use Rattle.book.specs.declared.holding.Holding.{Holding}
use Rattle.terms.specs.Lines.{Out}
use Rattle.terms.proofs.Spots.{spot_some}
use Rattle.round.specs.Rounds.{book, fresh}
use Rattle.round.specs.Naming.{naming}
use Rattle.round.specs.Holdings.{put_at}
use Rattle.round.specs.Offering.{made, offering, withdrawn}
use Rattle.round.specs.Uses.{begun, item, member, hold, offer, withdraw, Built, EachBuilt, RoundsBuilt}
use Rattle.round.proofs.Unique.{book_sound}

-- a list is made entry by entry, from what begins it
grown : {X : Type 0} (P : List X → Type 0) (whole : List X) → ((xs ys : List X) (x : X) → xs ++ x ∷ ys ≡ whole → P xs → P (xs ++ x ∷ [])) → (xs ys : List X) → xs ++ ys ≡ whole → P xs → P whole
grown P whole step xs [] e p = subst P (sym (append-nil xs) ∙ e) p
grown P whole step xs (y ∷ ys) e p = grown P whole step (xs ++ y ∷ []) ys (append_assoc xs (y ∷ []) ys ∙ e) (step xs ys y e p)

-- an entry and those before it, in the whole list
module _ {X : Type 0} (xs ys whole : List X) (x : X) (e : xs ++ x ∷ ys ≡ whole) where
  sooner : length xs < length whole
  sooner = omega (arith, length-append xs (x ∷ ys), ap length e)

  at_seam : (d : X) → get_or whole (length xs) d ≡ x
  at_seam d = ap (λ zs. get_or zs (length xs) d) (sym e) ∙ get_or-append_seam xs x ys d

  before_seam : (i : ℕ) (d : X) → i < length xs → get_or whole i d ≡ get_or xs i d
  before_seam i d l = ap (λ zs. get_or zs i d) (sym e) ∙ get_or_append_left xs (x ∷ ys) d i l

  -- where no entry stands twice it is not among those before it
  is_new : Distinct whole → Has xs x → ⊥
  is_new h f = h f.0 (length xs) x f.1 sooner (before_seam f.0 x f.1 ∙ f.2 x ∙ sym (at_seam x))

  has_it : (P : X → Type 0) → AllByRecursion P whole → P x
  has_it P h = subst P (at_seam x) (All-get_or P whole (length xs) x sooner h)

-- a name for which there is room, and that is spelt and new, is not refused
named : (n : ℕ) (xs : List (List ℕ)) (s : List ℕ) → length xs < n → Spelt s → (Has xs s → ⊥) → First (naming n xs s) None
named n xs s room spelt new = next (λ l. omega arith) (next (λ f. f spelt) (next new refl))

-- what holds of each entry rules out that one has another property
not_any : {X : Type 0} (P Q : X → Type 0) (xs : List X) (d : X) → ((x : X) → P x → Q x → ⊥) → AllByRecursion P xs → Any Q xs → ⊥
not_any P Q xs d f h a = f (get_or xs a.0 d) (All-get_or P xs a.0 d a.1 h) (a.2 d)

neither : {A B : Type 0} → (A → ⊥) → (B → ⊥) → A ⊎ B → ⊥
neither f g (inl a) = f a
neither f g (inr b) = g b

not_twice : {X : Type 0} (xs : List X) (d : X) → Distinct xs → Twice xs → ⊥
not_twice xs d h t = h t.2 t.0 d t.3 t.1 (t.4 d)

-- a fair offer with a limit of at least 1, for which there is room, is not refused
module _ (b : Book) (o : Offer) (f : FairOffer (length b.items) (length b.members) o) where
  no_side : (Q : Line → Type 0) → ((l : Line) → Fair (length b.items) l → Q l → ⊥) → Any Q o.give ⊎ Any Q o.get → ⊥
  no_side Q g = neither (not_any (Fair (length b.items)) Q o.give no_line g f.gives.fair) (not_any (Fair (length b.items)) Q o.get no_line g f.gets.fair)

  taken : 1 ≤ o.limit → length b.offers < 64 → line_count b.offers + (length o.give + length o.get) ≤ 256 → First (offering b o) None
  taken least room lines =
      next (neither (λ l. let k = f.known in omega arith) (no_side (λ l. length b.items ≤ l.item) (λ l g h. let k = g.known in omega arith)))
      (next (neither (λ l. omega arith) (λ l. omega arith))
      (next (neither (neither (λ l. omega arith) (λ l. let k = f.most in omega arith)) (no_side (λ l. Out l.limit) (λ l g. neither (λ h. let k = g.least in omega arith) (λ h. let k = g.most in omega arith))))
      (next (no_side (λ l. 1000000 < l.price) (λ l g h. let k = g.price in omega arith))
      (next (neither (not_twice (map item_of o.give) 0 f.gives.apart) (not_twice (map item_of o.get) 0 f.gets.apart))
      (next (neither (λ e. let k = f.gives.some in omega arith) (λ e. let k = f.gets.some in omega arith))
      (next f.no_loop refl))))))

-- the lines of the offers before an entry and of that entry are among those of all
count_seam : (os : List Offer) (o : Offer) (more : List Offer) → line_count (os ++ o ∷ more) ≡ line_count os + ((length o.give + length o.get) + line_count more)
count_seam [] o more = omega arith
count_seam (x ∷ os) o more = omega (arith, count_seam os o more)

-- a holding whose pair is new comes to the end
spotless : (hs : List Holding) (h : Holding) (spot : Option ℕ) → spot ≡ spot_of hs h.member h.item → (Has (map pair hs) (pair h) → ⊥) → spot ≡ None
spotless hs h None e f = refl
spotless hs h (Some k) e f =
    let s = spot_some hs h.member h.item k e in
    absurd (f (k, omega (arith, s.0, length-map hs pair), λ d. get_or-map pair hs k no_holding d s.0 ∙ s.1 no_holding))

-- these lists as a book
abbrev listed : List (List ℕ) → List (List ℕ) → List Holding → List Offer → Book
listed items members holdings offers = record { items = items; members = members; holdings = holdings; offers = offers }

-- cash comes first
after_first : (xs : List (List ℕ)) (s : List ℕ) → 0 < length xs → get_or xs 0 [] ≡ s → (ys : List (List ℕ)) × (s ∷ ys ≡ xs)
after_first [] s l e = absurd (omega arith)
after_first (x ∷ xs) s l e = (xs, ap (λ y. y ∷ xs) (sym e))

module _ (b : Book) (k : Sound b) where
  with_item : (xs ys : List (List ℕ)) (s : List ℕ) → xs ++ s ∷ ys ≡ b.items → Built (listed xs [] [] []) → Built (listed (xs ++ s ∷ []) [] [] [])
  with_item xs ys s e p =
      let few = k.items_few in
      let room : length xs < 16 = omega (arith, sooner xs ys b.items s e) in
      (_, item (listed (xs ++ s ∷ []) [] [] []) s (Ok (length xs)) p.1 (record { refused = named 16 xs s room (has_it xs ys b.items s e Spelt k.items_spelt) (is_new xs ys b.items s e k.items_apart); outcome = (refl, refl) }))

  items_built : Built (listed b.items [] [] [])
  items_built =
      let c = after_first b.items (codes "cash") k.cash.0 k.cash.1 in
      grown (λ xs. Built (listed xs [] [] [])) b.items with_item (codes "cash" ∷ []) c.0 c.1 ([], begun fresh refl)

  with_member : (xs ys : List (List ℕ)) (s : List ℕ) → xs ++ s ∷ ys ≡ b.members → Built (listed b.items xs [] []) → Built (listed b.items (xs ++ s ∷ []) [] [])
  with_member xs ys s e p =
      let few = k.members_few in
      let room : length xs < 32 = omega (arith, sooner xs ys b.members s e) in
      (_, member (listed b.items (xs ++ s ∷ []) [] []) s (Ok (length xs)) p.1 (record { refused = named 32 xs s room (has_it xs ys b.members s e Spelt k.members_spelt) (is_new xs ys b.members s e k.members_apart); outcome = (refl, refl) }))

  members_built : Built (listed b.items b.members [] [])
  members_built = grown (λ xs. Built (listed b.items xs [] [])) b.members with_member [] b.members refl items_built

  with_holding : (hs more : List Holding) (h : Holding) → hs ++ h ∷ more ≡ b.holdings → Built (listed b.items b.members hs []) → Built (listed b.items b.members (hs ++ h ∷ []) [])
  with_holding hs more h e p =
      let few = k.holdings_few in
      let fair = has_it hs more b.holdings h e (FairHolding (length b.items) (length b.members)) k.holdings_fair in
      let room : length hs < 128 = omega (arith, sooner hs more b.holdings h e) in
      let pairs : map pair hs ++ pair h ∷ map pair more ≡ map pair b.holdings = sym (map-append pair hs (h ∷ more)) ∙ ap (map pair) e in
      let spot : spot_of hs h.member h.item ≡ None = spotless hs h _ refl (is_new (map pair hs) (map pair more) (map pair b.holdings) (pair h) pairs k.holdings_apart) in (
        _,
        hold (listed b.items b.members (hs ++ h ∷ []) []) h (Ok tt) p.1 (record {
          refused = next (neither (λ l. let m = fair.0 in omega arith) (λ l. let i = fair.1 in omega arith)) (next (λ c. let l = c.0 in omega arith) (next (λ l. let u = fair.2 in omega arith) refl));
          outcome = ap (λ o. listed b.items b.members (put_at o hs h) []) (sym spot);
        }),
      )

  holdings_built : Built (listed b.items b.members b.holdings [])
  holdings_built = grown (λ hs. Built (listed b.items b.members hs [])) b.holdings with_holding [] b.holdings refl members_built

  -- an offer that was not withdrawn is made as it is; one that was is made with limit 1, and then withdrawn
  module _ (os more : List Offer) (o : Offer) (e : os ++ o ∷ more ≡ b.offers) where
    fair : FairOffer (length b.items) (length b.members) o
    fair = has_it os more b.offers o e (FairOffer (length b.items) (length b.members)) k.offers_fair

    standing : (n : ℕ) → 1 ≤ n → n ≤ 1000 → Built (listed b.items b.members b.holdings os) → Built (listed b.items b.members b.holdings (os ++ made o.member n o.give o.get ∷ []))
    standing n least most p =
        let few = k.offers_few in
        let lines = k.lines_few in
        let o' = made o.member n o.give o.get in
        let f : FairOffer (length b.items) (length b.members) o' = record { known = fair.known; most = most; gives = fair.gives; gets = fair.gets; no_loop = fair.no_loop } in (
          _,
          offer (listed b.items b.members b.holdings (os ++ o' ∷ [])) o' (Ok (length os)) p.1 (record {
            refused = taken (listed b.items b.members b.holdings os) o' f least (omega (arith, sooner os more b.offers o e)) (omega (arith, count_seam os o more, ap line_count e));
            outcome = (refl, refl);
          }),
        )

    stopped : o.limit ≡ 0 → Built (listed b.items b.members b.holdings os) → Built (listed b.items b.members b.holdings (os ++ o ∷ []))
    stopped z p =
        let o' = made o.member 1 o.give o.get in
        let at : (d : Offer) → get_or (os ++ o' ∷ []) (length os) d ≡ o' = get_or-append_seam os o' [] in
        let q = standing 1 (omega arith) (omega arith) p in
        let same : withdrawn (get_or (os ++ o' ∷ []) (length os) no_offer) ≡ o = ap withdrawn (at no_offer) ∙ ap (λ n. made o.member n o.give o.get) (sym z) in (
          _,
          withdraw (listed b.items b.members b.holdings (os ++ o ∷ [])) (length os) (Ok tt) q.1 (record {
            refused = next (λ l. omega (arith, length_push os o')) (next (λ h. let l = ap (λ x. x.limit) (at no_offer) in omega arith) refl);
            outcome = ap (λ xs. listed b.items b.members b.holdings xs) (sym (ap (set (os ++ o' ∷ []) (length os)) same ∙ set-append_seam os o' [] o));
          }),
        )

    with_offer : Built (listed b.items b.members b.holdings os) → Built (listed b.items b.members b.holdings (os ++ o ∷ []))
    with_offer p = ⊎_elim (λ l. stopped (omega arith) p) (λ l. standing o.limit l fair.most p) (cases_lt o.limit 1)

  book_built : Built b
  book_built = grown (λ os. Built (listed b.items b.members b.holdings os)) b.offers (λ os more o. with_offer os more o) [] b.offers refl holdings_built

pub each_built : EachBuilt
each_built = book_built

pub rounds_built : RoundsBuilt
rounds_built r = book_built (book r) (book_sound (book r) r.sound)
