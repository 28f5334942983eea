-- What holds of each entry of a list, and of each entry with what goes with it by number.
use Rattle.std.proofs.Common.{◌≡◌, ℕ, zero, suc, ◌+◌, ◌<◌, List, [], ◌∷◌, ◌++◌, length, get_or, refl, ap₂, arith}
use Rattle.std.specs.List.{AllByRecursion}
use Rattle.std.proofs.ByRecursion.{All-append}
use Rattle.flow.specs.declared.arc.Arc.{Arc}
use Rattle.book.specs.Rows.{sum_with, AllWith, map_with}
use Rattle.book.specs.Books.{Offer}
use Rattle.book.specs.Allotments.{Allotment, Units, all_of}
use Rattle.book.specs.Arcs.{OfferFlows, give_arc, own_arc, get_arc, offer_arcs, offer_flows}
use Rattle.book.specs.declared.holding.Holding.{Holding}

module _ {X : Type 0} where
  pub all_left : (P : X → Type 0) (xs ys : List X) → AllByRecursion P (xs ++ ys) → AllByRecursion P xs
  all_left P [] ys p = tt
  all_left P (x ∷ xs) ys p = (p.0, all_left P xs ys p.1)

  pub all_right : (P : X → Type 0) (xs ys : List X) → AllByRecursion P (xs ++ ys) → AllByRecursion P ys
  all_right P [] ys p = p
  all_right P (x ∷ xs) ys p = all_right P xs ys p.1

  pub all_both : (P Q R : X → Type 0) → ((x : X) → P x → Q x → R x) → (xs : List X) → AllByRecursion P xs → AllByRecursion Q xs → AllByRecursion R xs
  all_both P Q R h [] p q = tt
  all_both P Q R h (x ∷ xs) p q = (h x p.0 q.0, all_both P Q R h xs p.1 q.1)

module _ {X U : Type 0} where
  -- from what holds of the entries alone
  pub with_from_all : (P : X → Type 0) (Q : X → U → Type 0) → ((x : X) (v : U) → P x → Q x v) → (xs : List X) (u : ℕ → U) → AllByRecursion P xs → AllWith Q xs u
  with_from_all P Q h [] u e = tt
  with_from_all P Q h (x ∷ xs) u e = (h x (u 0) e.0, with_from_all P Q h xs (λ k. u (suc k)) e.1)

  pub with_weaker : (P Q : X → U → Type 0) → ((x : X) (v : U) → P x v → Q x v) → (xs : List X) (u : ℕ → U) → AllWith P xs u → AllWith Q xs u
  with_weaker P Q h [] u e = tt
  with_weaker P Q h (x ∷ xs) u e = (h x (u 0) e.0, with_weaker P Q h xs (λ k. u (suc k)) e.1)

  pub sum_with_none : (f : X → U → ℕ) (xs : List X) (u : ℕ → U) → AllWith (λ x v. f x v ≡ 0) xs u → sum_with f xs u ≡ 0
  sum_with_none f [] u e = refl
  sum_with_none f (x ∷ xs) u e = ap₂ ◌+◌ e.0 (sum_with_none f xs (λ k. u (suc k)) e.1)

  -- by the entry's number
  pub with_at : (P : X → U → Type 0) (xs : List X) (u : ℕ → U) → AllWith P xs u → (k : ℕ) (d : X) → k < length xs → P (get_or xs k d) (u k)
  with_at P [] u e k d l = absurd (omega arith)
  with_at P (x ∷ xs) u e zero d l = e.0
  with_at P (x ∷ xs) u e (suc k) d l = with_at P xs (λ i. u (suc i)) e.1 k d (omega arith)

  pub with_from_at : (P : X → U → Type 0) (xs : List X) (u : ℕ → U) → ((k : ℕ) (d : X) → k < length xs → P (get_or xs k d) (u k)) → AllWith P xs u
  with_from_at P [] u h = tt
  with_from_at P (x ∷ xs) u h = (h 0 x (omega arith), with_from_at P xs (λ i. u (suc i)) (λ k d l. h (suc k) d (omega arith)))

module _ {X U Y : Type 0} (P : Y → Type 0) (f : X → U → Y) where
  pub all_map_with : (xs : List X) (u : ℕ → U) → AllWith (λ x v. P (f x v)) xs u → AllByRecursion P (map_with f xs u)
  all_map_with [] u e = tt
  all_map_with (x ∷ xs) u e = (e.0, all_map_with xs (λ k. u (suc k)) e.1)

  pub with_map_with : (xs : List X) (u : ℕ → U) → AllByRecursion P (map_with f xs u) → AllWith (λ x v. P (f x v)) xs u
  with_map_with [] u e = tt
  with_map_with (x ∷ xs) u e = (e.0, with_map_with xs (λ k. u (suc k)) e.1)

-- the arcs of one offer
module _ (P : Arc → Type 0) (n : ℕ) (hs : List Holding) where
  abbrev pub Parts : ℕ → Offer → OfferFlows → Type 0
  Parts p o g = AllWith (λ l y. P (give_arc n hs o.member p l y)) o.give g.give × P (own_arc p o.limit g.own) × AllWith (λ l y. P (get_arc (p + 1) l y)) o.get g.get

  pub all_offer : (p : ℕ) (o : Offer) (g : OfferFlows) → Parts p o g → AllByRecursion P (offer_arcs n hs p o g)
  all_offer p o g e = All-append P (map_with (give_arc n hs o.member p) o.give g.give) (own_arc p o.limit g.own ∷ map_with (get_arc (p + 1)) o.get g.get) (all_map_with P (give_arc n hs o.member p) o.give g.give e.0) (e.1, all_map_with P (get_arc (p + 1)) o.get g.get e.2)

  pub parts_offer : (p : ℕ) (o : Offer) (g : OfferFlows) → AllByRecursion P (offer_arcs n hs p o g) → Parts p o g
  parts_offer p o g e =
      let gives : List Arc = map_with (give_arc n hs o.member p) o.give g.give in
      let gets : List Arc = own_arc p o.limit g.own ∷ map_with (get_arc (p + 1)) o.get g.get in
      let r = all_right P gives gets e in
      (with_map_with P (give_arc n hs o.member p) o.give g.give (all_left P gives gets e), r.0, with_map_with P (get_arc (p + 1)) o.get g.get r.1)

-- an offer's flows as its units fill them
abbrev pub as_filled : Offer → Units → OfferFlows
as_filled o u = record { give = u.give; own = all_of o.give u.give; get = u.get }

module _ (P : Offer → OfferFlows → Type 0) where
  pub to_filled : (os : List Offer) (a : Allotment) → AllWith (λ o u. P o (as_filled o u)) os a → AllWith P os (offer_flows os a)
  to_filled [] a e = tt
  to_filled (o ∷ os) a e = (e.0, to_filled os (λ k. a (suc k)) e.1)

  pub from_filled : (os : List Offer) (a : Allotment) → AllWith P os (offer_flows os a) → AllWith (λ o u. P o (as_filled o u)) os a
  from_filled [] a e = tt
  from_filled (o ∷ os) a e = (e.0, from_filled os (λ k. a (suc k)) e.1)
