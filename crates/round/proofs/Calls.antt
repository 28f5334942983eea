-- What a call does to one table is what it does to the book.
use Rattle.std.proofs.Common.{◌≡◌, ℕ, ◌+◌, ◌<◌, ◌≤◌, true, List, [], ◌∷◌, ◌++◌, map, length, get_or, Some, None, Ok, Err, Result, IsOk, sym, refl, ap, ◌∙◌, arith}
use Rattle.std.proofs.lemmas.List.{length-map, length-append}
use Rattle.tables.specs.Refusals.{number, First}
use Rattle.tables.specs.Tables.{Replaced, Added}
use Rattle.tables.specs.declared.refusal.Refusal.{Refusal}
use Rattle.tables.specs.declared.refusal.Refusal.TheVariants.{Withdrawn}
use Rattle.tables.proofs.Firsts.{here, next}
use Rattle.tables.proofs.Entries.{grew}
use Rattle.book.specs.Books.{Book, Offer, no_offer, spot_of}
use Rattle.book.specs.declared.line.Line.{Line}
use Rattle.book.specs.declared.holding.Holding.{Holding}
use Rattle.round.specs.Kept.{offer_of, in_rows}
use Rattle.round.specs.Rounds.{with_items, with_members, with_holdings, with_offers}
use Rattle.round.specs.Naming.{Listed, TakesItem, TakesMember}
use Rattle.round.specs.Holdings.{put_at, Strange, Put, Holds}
use Rattle.round.specs.Offering.{made, offering, TakesOffer, Withdraws}
use Rattle.round.specs.declared.entry.Entry.{Entry}
use Rattle.terms.proofs.Spots.{no_none, spot_some}
use Rattle.round.proofs.Rows.{entry, count_rows, grown_offers, grown_rows, stopped, offer_at, offers_stopped}
use Rattle.round.proofs.Sounds.{room}

-- where there is room, nothing is refused
pub went_in : {X : Type 0} (n : ℕ) (before after more : List X) (r : Result (Unit {0}) Refusal) → Added n before after more r → length before + length more ≤ n → IsOk r
went_in n before after more (Ok u) a h = refl
went_in n before after more (Err e) a h = absurd (no_none (number e) (a.refused.1 (λ p. omega arith)))

pub item_listed : (b : Book) (xs : List (List ℕ)) (s : List ℕ) (r : Result ℕ Refusal) → Listed 16 b.items xs s r → TakesItem b (with_items b xs) s r
item_listed b xs s (Ok k) t = record { refused = t.refused; outcome = (t.outcome.0, ap (with_items b) t.outcome.1) }
item_listed b xs s (Err e) t = record { refused = t.refused; outcome = ap (with_items b) t.outcome }

pub member_listed : (b : Book) (xs : List (List ℕ)) (s : List ℕ) (r : Result ℕ Refusal) → Listed 32 b.members xs s r → TakesMember b (with_members b xs) s r
member_listed b xs s (Ok k) t = record { refused = t.refused; outcome = (t.outcome.0, ap (with_members b) t.outcome.1) }
member_listed b xs s (Err e) t = record { refused = t.refused; outcome = ap (with_members b) t.outcome }

-- a holding in the place that was found
pub put_there : (hs hs' : List Holding) (h : Holding) (k : ℕ) (r : Result (Unit {0}) Refusal) → Some k ≡ spot_of hs h.member h.item → h.units ≤ 1000 → Replaced hs hs' k h r → Put hs hs' h r
put_there hs hs' h k (Ok u) e l t = record {
  refused = next (λ p. no_none k (e ∙ p.1)) (next (λ p. omega arith) refl);
  outcome = t.outcome ∙ ap (λ spot. put_at spot hs h) e;
}
put_there hs hs' h k (Err x) e l t = absurd (no_none (number x) (t.refused.1 (λ p. omega (arith, (spot_some hs h.member h.item k e).0))))

pub holding_put : (b : Book) (hs : List Holding) (h : Holding) (r : Result (Unit {0}) Refusal) → (Strange b h.member h.item → ⊥) → Put b.holdings hs h r → Holds b (with_holdings b hs) h r
holding_put b hs h (Ok u) f t = record { refused = next f t.refused; outcome = ap (with_holdings b) t.outcome }
holding_put b hs h (Err e) f t = record { refused = next f t.refused; outcome = ap (with_holdings b) t.outcome }

module _ (b : Book) (ls : List Line) (es : List Entry) (k : ℕ) (e : Entry) (l : k < length es) (f : (d : Entry) → e ≡ get_or es k d) where
  known : length (map (offer_of ls) es) ≤ k → ⊥
  known p = omega (arith, length-map es (offer_of ls))

  limit_is : (get_or (map (offer_of ls) es) k no_offer).limit ≡ e.limit
  limit_is = ap (λ (o : Offer). o.limit) (offer_at ls es k e l f)

  pub withdrawn_already : e.limit ≡ 0 → Withdraws (with_offers b (map (offer_of ls) es)) (with_offers b (map (offer_of ls) es)) k (Err Withdrawn)
  withdrawn_already z = record { refused = next known (here (limit_is ∙ z)); outcome = refl }

  -- an entry whose limit is set to 0 is an offer withdrawn
  pub entry_stopped : (es' : List Entry) (r : Result (Unit {0}) Refusal) → (e.limit ≡ 0 → ⊥) → Replaced es es' k (stopped e) r → Withdraws (with_offers b (map (offer_of ls) es)) (with_offers b (map (offer_of ls) es')) k r
  entry_stopped es' (Ok u) z t = record {
    refused = next known (next (λ p. z (sym limit_is ∙ p)) refl);
    outcome = ap (λ xs. with_offers b (map (offer_of ls) xs)) t.outcome ∙ ap (with_offers b) (offers_stopped ls es k e l f);
  }
  entry_stopped es' (Err x) z t = absurd (no_none (number x) (t.refused.1 (λ p. omega arith)))

-- an offer that nothing speaks against has room
module _ (b : Book) (es : List Entry) (ls give get : List Line) (m l : ℕ) (h : in_rows 0 es (length ls) ≡ true) (f : First (offering (with_offers b (map (offer_of ls) es)) (made m l give get)) None) where
  pub fits : (length es < 64) × (length ls + (length give + length get) ≤ 256)
  fits =
      let rm = room (with_offers b (map (offer_of ls) es)) (made m l give get) f in
      let c = count_rows 0 es ls h in
      (omega (arith, rm.0, length-map es (offer_of ls)), omega (arith, rm.1))

  -- its lines and its entry are put at the ends of their tables
  module _ (es' : List Entry) (ls1 ls2 : List Line) (k : ℕ) (r1 r2 r3 : Result (Unit {0}) Refusal) (ek : k ≡ length ls)
      (a1 : Added 256 ls ls1 give r1) (a2 : Added 256 ls1 ls2 get r2) (a3 : Added 64 es es' (entry m l k give get ∷ []) r3) where
    e1 : ls1 ≡ ls ++ give
    e1 = grew 256 ls ls1 give r1 a1 (omega (arith, fits.1))

    e2 : ls2 ≡ ls1 ++ get
    e2 = grew 256 ls1 ls2 get r2 a2 (omega (arith, fits.1, ap length e1, length-append ls give))

    e3 : es' ≡ es ++ entry m l k give get ∷ []
    e3 = grew 64 es es' (entry m l k give get ∷ []) r3 a3 (omega (arith, fits.0))

    -- the lines still stand one behind the other, and the offer comes to the end
    pub offer_taken : (n : ℕ) → n ≡ length es → (in_rows 0 es' (length ls2) ≡ true) × TakesOffer (with_offers b (map (offer_of ls) es)) (with_offers b (map (offer_of ls2) es')) (made m l give get) (Ok n)
    offer_taken n en = (
      grown_rows es es' ls ls1 ls2 give get m l k h ek e1 e2 e3,
      record { refused = f; outcome = (en ∙ sym (length-map es (offer_of ls)), ap (with_offers b) (grown_offers es es' ls ls1 ls2 give get m l k h ek e1 e2 e3)) },
    )
