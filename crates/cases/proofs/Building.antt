-- Single calls that are accepted, and the one that is refused, by tests that compute.
use Rattle.std.proofs.Common.{◌≡◌, ℕ, zero, suc, ◌+◌, ◌<◌, ◌≤◌, Bool, true, false, not, ◌&&◌, eqb, ltb, leb, T, List, [], ◌∷◌, ◌++◌, map, length, ℤ, pos, negsuc, int_lt, ◌<ℤ◌, Ok, Err, Some, None, Option, ◌⊎◌, refl, subst, ⊎_elim, arith}
use Rattle.std.proofs.lemmas.Bool.{both_ways, and_parts, and_from, not-true, ltb-true, leb-true, eqb-true, eqb-false, eq-eqb, lt-ltb}
use Rattle.std.proofs.ByRecursion.{All-weaker}
use Rattle.std.specs.List.{AllByRecursion}
use Rattle.tables.specs.Refusals.{Row, when, First, number}
use Rattle.tables.specs.declared.refusal.Refusal.TheVariants.{Bounds, Price, Loop}
use Rattle.flow.specs.declared.arc.Arc.{Arc}
use Rattle.network.specs.Networks.{Net}
use Rattle.book.specs.Spelling.{Spelt, name_bytes}
use Rattle.book.specs.Books.{Book, Offer, Any, Twice, item_of, line_count, spot_of}
use Rattle.book.specs.Books as books
use Rattle.book.specs.declared.line.Line.{Line}
use Rattle.book.specs.declared.holding.Holding.{Holding}
use Rattle.terms.specs.Lines.{Out, EitherSide}
use Rattle.round.specs.Rounds.{with_items, with_members, with_holdings, with_offers}
use Rattle.round.specs.Naming.{naming}
use Rattle.round.specs.Holdings.{placed, Strange, Crowded}
use Rattle.round.specs.Offering.{made, offering}
use Rattle.haul_table.specs.Roads.{with_arc, road_rows, Roaded}
use Rattle.cases.specs.Calls.{numbered, done, refused, item, member, hold, offer, Calls, Roads}

-- tests, all of them
abbrev pub all_true : List Bool → Bool
all_true [] = true
all_true (b ∷ bs) = b && all_true bs

abbrev EachTrue : List Bool → Type 0
EachTrue [] = Unit {0}
EachTrue (b ∷ bs) = (b ≡ true) × EachTrue bs

each_true : (bs : List Bool) → all_true bs ≡ true → EachTrue bs
each_true [] h = tt
each_true (b ∷ bs) h = let p = and_parts b (all_true bs) h in (p.0, each_true bs p.1)

-- a test of each entry
abbrev pub all_pass : {X : Type 0} → (X → Bool) → List X → Bool
all_pass t [] = true
all_pass t (x ∷ xs) = t x && all_pass t xs

pub each_passes : {X : Type 0} (t : X → Bool) (xs : List X) → all_pass t xs ≡ true → AllByRecursion (λ x. t x ≡ true) xs
each_passes t [] h = tt
each_passes t (x ∷ xs) h = let p = and_parts (t x) (all_pass t xs) h in (p.0, each_passes t xs p.1)

-- no row holds
abbrev pub NoneOf : List Row → Type 0
NoneOf [] = Unit {0}
NoneOf (when n P ∷ rows) = (P → ⊥) × NoneOf rows

pub first_none : (rows : List Row) → NoneOf rows → First rows None
first_none [] h = refl
first_none (when n P ∷ rows) h = (λ p. absurd (h.0 p), λ _. first_none rows h.1)

not_below : (a b : ℕ) → ltb b a ≡ true → a ≤ b → ⊥
not_below a b h l = let k = ltb-true b a h in omega arith

not_over : (a b : ℕ) → leb b a ≡ true → a < b → ⊥
not_over a b h l = let k = leb-true b a h in omega arith

neither : {P Q : Type 0} → (P → ⊥) → (Q → ⊥) → P ⊎ Q → ⊥
neither f g h = ⊎_elim f g h

pub no_any : {X : Type 0} (P : X → Type 0) (xs : List X) → AllByRecursion (λ x. P x → ⊥) xs → Any P xs → ⊥
no_any P [] h (k, l, f) = omega arith
no_any P (x ∷ xs) h (zero, l, f) = h.0 (f x)
no_any P (x ∷ xs) h (suc k, l, f) = no_any P xs h.1 (k, (let m : suc k < suc (length xs) = l in omega arith), f)

-- names

abbrev same_bytes : List ℕ → List ℕ → Bool
same_bytes [] [] = true
same_bytes [] (y ∷ ys) = false
same_bytes (x ∷ xs) [] = false
same_bytes (x ∷ xs) (y ∷ ys) = eqb x y && same_bytes xs ys

same_bytes_refl : (xs : List ℕ) → same_bytes xs xs ≡ true
same_bytes_refl [] = refl
same_bytes_refl (x ∷ xs) = and_from (eqb x x) (same_bytes xs xs) (eq-eqb x x refl) (same_bytes_refl xs)

differ : (x s : List ℕ) → not (same_bytes x s) ≡ true → x ≡ s → ⊥
differ x s h e = both_ways (same_bytes x s) (not-true (same_bytes x s) h) (subst (λ y. same_bytes x y ≡ true) e (same_bytes_refl x))

abbrev name_tests : ℕ → List (List ℕ) → List ℕ → List Bool
name_tests n names s = ltb (length names) n ∷ leb 1 (length s) ∷ leb (length s) 12 ∷ name_bytes s ∷ all_pass (λ x. not (same_bytes x s)) names ∷ []

name_free : (n : ℕ) (names : List (List ℕ)) (s : List ℕ) → all_true (name_tests n names s) ≡ true → First (naming n names s) None
name_free n names s h =
    let t = each_true (name_tests n names s) h in
    let spelt : Spelt s = (leb-true 1 (length s) t.1.0, leb-true (length s) 12 t.1.1.0, t.1.1.1.0) in
    let others = All-weaker (λ x. not (same_bytes x s) ≡ true) (λ x. x ≡ s → ⊥) (λ x k. differ x s k) names (each_passes (λ x. not (same_bytes x s)) names t.1.1.1.1.0) in
    first_none (naming n names s) (not_below n (length names) t.0, ((λ f. f spelt), (no_any (λ x. x ≡ s) names others, tt)))

pub takes_item : (b : Book) (s : List ℕ) → all_true (name_tests 16 b.items s) ≡ true → Calls b (item s) (numbered (length b.items)) (with_items b (b.items ++ s ∷ []))
takes_item b s h = (Ok (length b.items), record { refused = name_free 16 b.items s h; outcome = (refl, refl) }, refl)

pub takes_member : (b : Book) (s : List ℕ) → all_true (name_tests 32 b.members s) ≡ true → Calls b (member s) (numbered (length b.members)) (with_members b (b.members ++ s ∷ []))
takes_member b s h = (Ok (length b.members), record { refused = name_free 32 b.members s h; outcome = (refl, refl) }, refl)

-- holdings

abbrev holding_tests : Book → ℕ → ℕ → ℕ → List Bool
holding_tests b m i units = ltb m (length b.members) ∷ ltb i (length b.items) ∷ ltb (length b.holdings) 128 ∷ leb units 1000 ∷ []

pub takes_holding : (b : Book) (m i units : ℕ) → all_true (holding_tests b m i units) ≡ true → Calls b (hold m i units) done (with_holdings b (placed b.holdings (record { member = m; item = i; units = units })))
takes_holding b m i units h =
    let l : Holding = record { member = m; item = i; units = units } in
    let t = each_true (holding_tests b m i units) h in
    let rows : List Row = when 1 (Strange b m i) ∷ when 2 (Crowded b.holdings l) ∷ when 3 (1000 < units) ∷ [] in
    let none : NoneOf rows = (neither (not_below (length b.members) m t.0) (not_below (length b.items) i t.1.0), ((λ c. not_below 128 (length b.holdings) t.1.1.0 c.0), (not_over 1000 units t.1.1.1.0, tt))) in
    (Ok tt, record { refused = first_none rows none; outcome = refl }, refl)

-- offers

abbrev pub is_limit : ℕ → Bool
is_limit n = leb 1 n && leb n 1000

limit_in : (n : ℕ) → is_limit n ≡ true → Out n → ⊥
limit_in n h = let p = and_parts (leb 1 n) (leb n 1000) h in neither (not_over n 1 p.0) (not_over 1000 n p.1)

abbrev line_tests : ℕ → Line → List Bool
line_tests items l = ltb l.item items ∷ is_limit l.limit ∷ leb l.price 1000000 ∷ []

abbrev fair : ℕ → Line → Bool
fair items l = all_true (line_tests items l)

-- no line that passes has the property, so none of either side has
module _ (items : ℕ) (give get : List Line) (g : all_pass (fair items) give ≡ true) (w : all_pass (fair items) get ≡ true) where
  none_has : (P : Line → Type 0) → ((l : Line) → EachTrue (line_tests items l) → P l → ⊥) → EitherSide P give get → ⊥
  none_has P f = neither (on give g) (on get w)
    where
      on : (ls : List Line) → all_pass (fair items) ls ≡ true → Any P ls → ⊥
      on ls h = no_any P ls (All-weaker (λ l. fair items l ≡ true) (λ l. P l → ⊥) (λ l k. f l (each_true (line_tests items l) k)) ls (each_passes (fair items) ls h))

abbrev are_apart : List ℕ → Bool
are_apart [] = true
are_apart (x ∷ xs) = all_pass (λ y. not (eqb x y)) xs && are_apart xs

not_twice : (xs : List ℕ) → are_apart xs ≡ true → Twice xs → ⊥
not_twice [] h (j, l, i, k, f) = omega arith
not_twice (x ∷ xs) h (zero, l, i, k, f) = omega arith
not_twice (x ∷ xs) h (suc j, l, zero, k, f) =
    let p = and_parts (all_pass (λ y. not (eqb x y)) xs) (are_apart xs) h in
    let others = All-weaker (λ y. not (eqb x y) ≡ true) (λ y. x ≡ y → ⊥) (λ y n. eqb-false x y (not-true (eqb x y) n)) xs (each_passes (λ y. not (eqb x y)) xs p.0) in
    no_any (λ y. x ≡ y) xs others (j, (let m : suc j < suc (length xs) = l in omega arith), f)
not_twice (x ∷ xs) h (suc j, l, suc i, k, f) = not_twice xs (and_parts (all_pass (λ y. not (eqb x y)) xs) (are_apart xs) h).1 (j, (let m : suc j < suc (length xs) = l in omega arith), i, omega arith, f)

abbrev offer_tests : Book → ℕ → ℕ → List Line → List Line → List Bool
offer_tests b m limit give get =
    ltb m (length b.members) ∷ ltb (length b.offers) 64 ∷ leb (line_count b.offers + (length give + length get)) 256 ∷ is_limit limit
    ∷ all_pass (fair (length b.items)) give ∷ all_pass (fair (length b.items)) get
    ∷ are_apart (map item_of give) ∷ are_apart (map item_of get) ∷ leb 1 (length give) ∷ leb 1 (length get) ∷ []

-- the rows above the last hold of no offer that passes
above_loop : (b : Book) (m limit : ℕ) (give get : List Line) → all_true (offer_tests b m limit give get) ≡ true → (r : Option ℕ) → First (when 8 (books.Loop give get) ∷ []) r → First (offering b (made m limit give get)) r
above_loop b m limit give get h r last =
    let t = each_true (offer_tests b m limit give get) h in
    let few = t.1 in
    let sides = few.1.1.1 in
    let rest = sides.1.1 in
    let has = none_has (length b.items) give get sides.0 sides.1.0 in (
      λ p. absurd (neither (not_below (length b.members) m t.0) (has (λ l. length b.items ≤ l.item) (λ l f. not_below (length b.items) l.item f.0)) p),
      λ _. (
        λ p. absurd (neither (not_below 64 (length b.offers) few.0) (not_over 256 (line_count b.offers + (length give + length get)) few.1.0) p),
        λ _. (
          λ p. absurd (neither (limit_in limit few.1.1.0) (has (λ l. Out l.limit) (λ l f. limit_in l.limit f.1.0)) p),
          λ _. (
            λ p. absurd (has (λ l. 1000000 < l.price) (λ l f. not_over 1000000 l.price f.1.1.0) p),
            λ _. (
              λ p. absurd (neither (not_twice (map item_of give) rest.0) (not_twice (map item_of get) rest.1.0) p),
              λ _.
                  (λ p. absurd (neither (λ e. let k = leb-true 1 (length give) rest.1.1.0 in omega arith) (λ e. let k = leb-true 1 (length get) rest.1.1.1.0 in omega arith) p), λ _. last),
            ),
          ),
        ),
      ),
    )

abbrev loops : Line → Line → Bool
loops g w = eqb g.item 0 && (eqb w.item 0 && ltb g.price w.price)

abbrev no_loops : List Line → List Line → Bool
no_loops give get = all_pass (λ g. all_pass (λ w. not (loops g w)) get) give

no_loop : (give get : List Line) → no_loops give get ≡ true → books.Loop give get → ⊥
no_loop give get h =
    no_any (λ g. (g.item ≡ 0) × Any (λ w. (w.item ≡ 0) × (g.price < w.price)) get) give
    (All-weaker (λ g. all_pass (λ w. not (loops g w)) get ≡ true) (λ g. (g.item ≡ 0) × Any (λ w. (w.item ≡ 0) × (g.price < w.price)) get → ⊥) with_none give (each_passes (λ g. all_pass (λ w. not (loops g w)) get) give h))
  where
    holds : (g w : Line) → g.item ≡ 0 → w.item ≡ 0 → g.price < w.price → loops g w ≡ true
    holds g w e f l = and_from (eqb g.item 0) (eqb w.item 0 && ltb g.price w.price) (eq-eqb g.item 0 e) (and_from (eqb w.item 0) (ltb g.price w.price) (eq-eqb w.item 0 f) (lt-ltb g.price w.price l))

    with_none : (g : Line) → all_pass (λ w. not (loops g w)) get ≡ true → (g.item ≡ 0) × Any (λ w. (w.item ≡ 0) × (g.price < w.price)) get → ⊥
    with_none g k p =
        no_any (λ w. (w.item ≡ 0) × (g.price < w.price)) get
        (All-weaker (λ w. not (loops g w) ≡ true) (λ w. (w.item ≡ 0) × (g.price < w.price) → ⊥) (λ w n q. both_ways (loops g w) (not-true (loops g w) n) (holds g w p.0 q.0 q.1)) get (each_passes (λ w. not (loops g w)) get k))
        p.1

pub takes_offer : (b : Book) (m limit : ℕ) (give get : List Line) → all_true (offer_tests b m limit give get) ≡ true → no_loops give get ≡ true → Calls b (offer m limit give get) (numbered (length b.offers)) (with_offers b (b.offers ++ made m limit give get ∷ []))
takes_offer b m limit give get h k = (Ok (length b.offers), record { refused = above_loop b m limit give get h None ((λ p. absurd (no_loop give get k p)), λ _. refl); outcome = (refl, refl) }, refl)

-- one line on each side, of cash
a_loop : (g w : Line) → loops g w ≡ true → books.Loop (g ∷ []) (w ∷ [])
a_loop g w h =
    let p = and_parts (eqb g.item 0) (eqb w.item 0 && ltb g.price w.price) h in
    let q = and_parts (eqb w.item 0) (ltb g.price w.price) p.1 in
    (0, omega arith, λ d. (eqb-true g.item 0 p.0, (0, omega arith, λ e. (eqb-true w.item 0 q.0, ltb-true g.price w.price q.1))))

pub refuses_loop : (b : Book) (m limit : ℕ) (g w : Line) → all_true (offer_tests b m limit (g ∷ []) (w ∷ [])) ≡ true → loops g w ≡ true → Calls b (offer m limit (g ∷ []) (w ∷ [])) (refused (number Loop)) b
refuses_loop b m limit g w h k = (Err Loop, record { refused = above_loop b m limit (g ∷ []) (w ∷ []) h (Some 8) ((λ p. refl), λ f. absurd (f (a_loop g w k))); outcome = refl }, refl)

-- limits and prices out of bounds

abbrev pub place_tests : Book → ℕ → List Line → List Line → List Bool
place_tests b m give get = ltb m (length b.members) ∷ ltb (length b.offers) 64 ∷ leb (line_count b.offers + (length give + length get)) 256 ∷ all_pass (λ l. ltb l.item (length b.items)) give ∷ all_pass (λ l. ltb l.item (length b.items)) get ∷ []

-- no line of a side that passes has the property
side_lacks : (t : Line → Bool) (P : Line → Type 0) → ((l : Line) → t l ≡ true → P l → ⊥) → (ls : List Line) → all_pass t ls ≡ true → Any P ls → ⊥
side_lacks t P f ls h = no_any P ls (All-weaker (λ l. t l ≡ true) (λ l. P l → ⊥) f ls (each_passes t ls h))

-- where a limit is out, that is the first row that holds
module _ (b : Book) (m limit : ℕ) (give get : List Line) (h : all_true (place_tests b m give get) ≡ true) where
  in_place : EachTrue (place_tests b m give get)
  in_place = each_true (place_tests b m give get) h

  not_unknown : (length b.members ≤ m) ⊎ EitherSide (λ l. length b.items ≤ l.item) give get → ⊥
  not_unknown =
      let lacks = side_lacks (λ l. ltb l.item (length b.items)) (λ l. length b.items ≤ l.item) (λ l k. not_below (length b.items) l.item k) in
      neither (not_below (length b.members) m in_place.0) (neither (lacks give in_place.1.1.1.0) (lacks get in_place.1.1.1.1.0))

  not_full : (64 ≤ length b.offers) ⊎ (256 < line_count b.offers + (length give + length get)) → ⊥
  not_full = neither (not_below 64 (length b.offers) in_place.1.0) (not_over 256 (line_count b.offers + (length give + length get)) in_place.1.1.0)

  pub refuses_limit : Out limit ⊎ EitherSide (λ l. Out l.limit) give get → Calls b (offer m limit give get) (refused (number Bounds)) b
  refuses_limit out = (Err Bounds, record { refused = ((λ p. absurd (not_unknown p)), λ _. ((λ p. absurd (not_full p)), λ _. ((λ _. refl), λ f. absurd (f out)))); outcome = refl }, refl)

  pub refuses_price : is_limit limit ≡ true → all_pass (λ l. is_limit l.limit) give ≡ true → all_pass (λ l. is_limit l.limit) get ≡ true → EitherSide (λ l. 1000000 < l.price) give get → Calls b (offer m limit give get) (refused (number Price)) b
  refuses_price k g w out =
      let lacks = side_lacks (λ l. is_limit l.limit) (λ l. Out l.limit) (λ l i. limit_in l.limit i) in
      let in_bounds : Out limit ⊎ EitherSide (λ l. Out l.limit) give get → ⊥ = neither (limit_in limit k) (neither (lacks give g) (lacks get w)) in
      (Err Price, record { refused = ((λ p. absurd (not_unknown p)), λ _. ((λ p. absurd (not_full p)), λ _. ((λ p. absurd (in_bounds p)), λ _. ((λ _. refl), λ f. absurd (f out))))); outcome = refl }, refl)

-- a side whose only line has the property
pub only : (P : Line → Type 0) (l : Line) → P l → Any P (l ∷ [])
only P l p = (0, omega arith, λ d. p)

-- roads

abbrev road_tests : ℕ → ℕ → Arc → List Bool
road_tests nodes count a = ltb a.from nodes ∷ ltb a.to nodes ∷ ltb count 256 ∷ leb a.capacity 1000 ∷ leb a.weeks 1 ∷ not (int_lt a.price (negsuc 999999)) ∷ not (int_lt (pos 1000000) a.price) ∷ []

not_less : (x y : ℤ) → not (int_lt x y) ≡ true → x <ℤ y → ⊥
not_less x y h l = both_ways (int_lt x y) (not-true (int_lt x y) h) (from_t (int_lt x y) l.lt)
  where
    from_t : (b : Bool) → T b → b ≡ true
    from_t true t = refl
    from_t false t = absurd t

pub roaded : (n : Net) (a : Arc) → all_true (road_tests n.nodes (length n.arcs) a) ≡ true → Roaded n (with_arc n a) a (Ok (length n.arcs))
roaded n a h =
    let t = each_true (road_tests n.nodes (length n.arcs) a) h in
    let small = t.1.1.1 in
    let none : NoneOf (road_rows n.nodes (length n.arcs) a) = (neither (not_below n.nodes a.from t.0) (not_below n.nodes a.to t.1.0), (not_below 256 (length n.arcs) t.1.1.0, (neither (not_over 1000 a.capacity small.0) (not_over 1 a.weeks small.1.0), (neither (not_less a.price (negsuc 999999) small.1.1.0) (not_less (pos 1000000) a.price small.1.1.1.0), tt)))) in
    record { refused = first_none (road_rows n.nodes (length n.arcs) a) none; outcome = (refl, refl) }

pub takes_road : (n : Net) (a : Arc) → all_true (road_tests n.nodes (length n.arcs) a) ≡ true → Roads n a (numbered (length n.arcs)) (with_arc n a)
takes_road n a h = (Ok (length n.arcs), roaded n a h, refl)
