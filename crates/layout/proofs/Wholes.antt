-- Contents keep the rules where each section does.
use Rattle.std.proofs.Common.{◌≡◌, ℕ, ◌≤◌, ◌⊎◌, List, [], ◌∷◌, map, length, refl, inl, inr, arith}
use Rattle.std.specs.List.{AllByRecursion}
use Rattle.std.proofs.lemmas.List.{length-map}
use Rattle.tables.proofs.Firsts.{next, not_first}
use Rattle.text.specs.declared.section.Section.TheVariants.{Items, Members, Holdings, Offers, Levels}
use Rattle.book.specs.Arcs.{nodes}
use Rattle.book.specs.Books.{FairOffer}
use Rattle.layout.specs.Records.{OfferWithUnits, Contents, offer_of, book_of, FairUnits, FairLevel, Valid}
use Rattle.layout.specs.Layout.{head}
use Rattle.layout.proofs.Lists.{at_most}
use Rattle.layout.proofs.Sections.{Kept}
use Rattle.layout.proofs.Kept.{holds, short, ItemsWhole, MembersWhole, HoldingsWhole}
use Rattle.layout.proofs.Offers.{FairFilledOffer, OffersWhole}

-- what is asked of each section
pub record SectionsWhole (x : Contents) : Type 0 where
  pub items_kept : Kept (head Items) (holds x.kind [] [] [] [] []) (length x.items)
  pub items : ItemsWhole x.items
  pub members_kept : Kept (head Members) (holds x.kind x.items [] [] [] []) (length x.members)
  pub members : MembersWhole x.members
  pub holdings_kept : Kept (head Holdings) (holds x.kind x.items x.members [] [] []) (length x.holdings)
  pub holdings : HoldingsWhole (length x.items) (length x.members) x.holdings
  pub offers_kept : Kept (head Offers) (holds x.kind x.items x.members x.holdings [] []) (length x.offers)
  pub offers : OffersWhole (length x.items) (length x.members) x.offers
  pub levels_kept : Kept (head Levels) (holds x.kind x.items x.members x.holdings x.offers []) (length x.levels)
  pub levels : AllByRecursion (FairLevel x.kind) x.levels

offers_fair : (n m : ℕ) (fs : List OfferWithUnits) → AllByRecursion (FairFilledOffer n m) fs → AllByRecursion (FairOffer n m) (map offer_of fs) × AllByRecursion (λ f. FairUnits f.give × FairUnits f.get) fs
offers_fair n m [] h = (tt, tt)
offers_fair n m (f ∷ fs) h = let t = offers_fair n m fs h.1 in ((h.0.0, t.0), (h.0.1, t.1))

offers_filled : (n m : ℕ) (fs : List OfferWithUnits) → AllByRecursion (FairOffer n m) (map offer_of fs) → AllByRecursion (λ f. FairUnits f.give × FairUnits f.get) fs → AllByRecursion (FairFilledOffer n m) fs
offers_filled n m [] h u = tt
offers_filled n m (f ∷ fs) h u = ((h.0, u.0), offers_filled n m fs h.1 u.1)

-- sections that keep the rules are contents that do
pub valid_from_sections : (x : Contents) → SectionsWhole x → Valid x
valid_from_sections x w =
    let few_items = at_most (length x.items) 16 (not_first w.items_kept.1) in
    let few_members = at_most (length x.members) 32 (not_first w.members_kept.1) in
    let few-holdings = at_most (length x.holdings) 128 (not_first w.holdings_kept.1) in
    let few_offers = at_most (length x.offers) 64 (not_first w.offers_kept.1) in
    let fair = offers_fair (length x.items) (length x.members) x.offers w.offers.0 in
    record {
      sound = record {
        cash = (w.items_kept.0.0, w.items.2 w.items_kept.0.0);
        items_spelt = w.items.0;
        items_apart = w.items.1;
        items_few = few_items;
        members_spelt = w.members.0;
        members_apart = w.members.1;
        members_few = few_members;
        holdings_fair = w.holdings.0;
        holdings_apart = w.holdings.1;
        holdings_few = few-holdings;
        offers_fair = fair.0;
        offers_few = omega (arith, length-map x.offers offer_of);
        lines_few = w.offers.1;
      };
      units = fair.1;
      levels = w.levels;
      levelled = w.levels_kept.0.0;
    }

-- and back
pub sections_from_valid : (x : Contents) → Valid x → SectionsWhole x
sections_from_valid x v =
    let b = v.sound in
    let few_items = b.items_few in
    let few_members = b.members_few in
    let few-holdings = b.holdings_few in
    let few_offers : length x.offers ≤ 64 = omega (arith, b.offers_few, length-map x.offers offer_of) in
    record {
      items_kept = ((b.cash.0, (short (length x.items) (omega arith), tt)), next (λ l. omega arith) refl);
      items = (b.items_spelt, b.items_apart, λ l. b.cash.1);
      members_kept = ((tt, (short (length x.members) (omega arith), tt)), next (λ l. omega arith) refl);
      members = (b.members_spelt, b.members_apart);
      holdings_kept = ((tt, (short (length x.holdings) (omega arith), tt)), next (λ l. omega arith) refl);
      holdings = (b.holdings_fair, b.holdings_apart);
      offers_kept = ((tt, (short (length x.offers) (omega arith), tt)), next (λ l. omega arith) refl);
      offers = (offers_filled (length x.items) (length x.members) x.offers b.offers_fair v.units, b.lines_few);
      levels_kept = ((v.levelled, (short (length x.levels) (few_levels few_items few-holdings few_offers v.levelled), tt)), refl);
      levels = v.levels;
    }
  where
    few_levels : length x.items ≤ 16 → length x.holdings ≤ 128 → length x.offers ≤ 64 → (length x.levels ≡ 0) ⊎ (length x.levels ≡ nodes (book_of x)) → length x.levels ≤ 1000000000000
    few_levels a b c (inl e) = omega arith
    few_levels a b c (inr e) = omega (arith, length-map x.offers offer_of)
