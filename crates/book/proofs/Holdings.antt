-- Whose holding is which, where no pair of member and item has two.
use Rattle.std.proofs.Common.{◌≡◌, ℕ, zero, suc, ◌+◌, ◌<◌, Bool, true, false, cond, ◌&&◌, ◌||◌, eqb, List, [], ◌∷◌, map, length, get_or, Some, None, Option, sym, refl, ap, ◌∙◌, subst, ap₂, subst₂, ⊎_elim, one-add, arith}
use Rattle.std.specs.Option.{option_map}
use Rattle.std.specs.List.{AllByRecursion}
use Rattle.std.proofs.lemmas.Bool.{eq-eqb, ne_eqb, eqb-true, cases_eq, cases_Bool, cond_both, and_parts, and_from, or_parts, or_cases, both_ways}
use Rattle.book.specs.Books.{is_of, spot_of, held_by, no_holding, Distinct, pair}
use Rattle.book.specs.Arcs.{source, give_capacity}
use Rattle.book.specs.declared.line.Line.{Line}
use Rattle.book.specs.declared.holding.Holding.{Holding}

-- there is a holding of member m and item j
abbrev pub has : List Holding → ℕ → ℕ → Bool
has [] m j = false
has (h ∷ hs) m j = is_of h m j || has hs m j

-- no pair has two, entry by entry
abbrev pub Apart : List Holding → Type 0
Apart [] = Unit {0}
Apart (h ∷ hs) = (has hs h.member h.item ≡ false) × Apart hs

pub eqb_sym : (a b : ℕ) → eqb a b ≡ eqb b a
eqb_sym a b = ⊎_elim (λ e. eq-eqb a b e ∙ sym (eq-eqb b a (sym e))) (λ d. ne_eqb a b d ∙ sym (ne_eqb b a (λ e. d (sym e)))) (cases_eq a b)

pub is_turned : (h : Holding) (m j : ℕ) → (eqb m h.member && eqb j h.item) ≡ is_of h m j
is_turned h m j = ap₂ ◌&&◌ (eqb_sym m h.member) (eqb_sym j h.item)

pub same_pair : (h : Holding) (m j : ℕ) → is_of h m j ≡ true → (m ≡ h.member) × (j ≡ h.item)
same_pair h m j e = let p = and_parts (eqb h.member m) (eqb h.item j) e in (sym (eqb-true h.member m p.0), sym (eqb-true h.item j p.1))

pub pair_is : (h : Holding) (m j : ℕ) → m ≡ h.member → j ≡ h.item → is_of h m j ≡ true
pair_is h m j e f = and_from (eqb h.member m) (eqb h.item j) (eq-eqb h.member m (sym e)) (eq-eqb h.item j (sym f))

pub none_else : (h : Holding) (hs : List Holding) (m j : ℕ) → Apart (h ∷ hs) → is_of h m j ≡ true → has hs m j ≡ false
none_else h hs m j a e = let p = same_pair h m j e in subst₂ (λ x y. has hs x y ≡ false) (sym p.0) (sym p.1) a.0

pub none_at : (hs : List Holding) (m j k : ℕ) (d : Holding) → has hs m j ≡ false → k < length hs → is_of (get_or hs k d) m j ≡ false
none_at [] m j k d e l = absurd (omega arith)
none_at (h ∷ hs) m j zero d e l = (or_parts (is_of h m j) (has hs m j) e).0
none_at (h ∷ hs) m j (suc k) d e l = none_at hs m j k d (or_parts (is_of h m j) (has hs m j) e).1 (omega arith)

-- a pair that is there has a place
place_of : (hs : List Holding) (m j : ℕ) → has hs m j ≡ true → (k : ℕ) × (k < length (map pair hs)) × ((d : ℕ × ℕ) → get_or (map pair hs) k d ≡ (m, j))
place_of [] m j e = absurd (both_ways false refl e)
place_of (h ∷ hs) m j e = ⊎_elim here (λ r. there (place_of hs m j r)) (or_cases (is_of h m j) (has hs m j) e)
  where
    here : is_of h m j ≡ true → (k : ℕ) × (k < length (map pair (h ∷ hs))) × ((d : ℕ × ℕ) → get_or (map pair (h ∷ hs)) k d ≡ (m, j))
    here t = let p = same_pair h m j t in (0, omega arith, λ d i. (sym p.0 i, sym p.1 i))

    there : (k : ℕ) × (k < length (map pair hs)) × ((d : ℕ × ℕ) → get_or (map pair hs) k d ≡ (m, j)) → (k : ℕ) × (k < length (map pair (h ∷ hs))) × ((d : ℕ × ℕ) → get_or (map pair (h ∷ hs)) k d ≡ (m, j))
    there r = (suc r.0, omega (arith, r.1), r.2)

pub distinct_is_apart : (hs : List Holding) → Distinct (map pair hs) → Apart hs
distinct_is_apart [] d = tt
distinct_is_apart (h ∷ hs) d = (⊎_elim (λ t. let r = place_of hs h.member h.item t in absurd (d 0 (suc r.0) (0, 0) (omega arith) (omega (arith, r.1)) (sym (r.2 (0, 0))))) (λ t. t) (cases_Bool (has hs h.member h.item)), distinct_is_apart hs (λ i j e l k q. d (suc i) (suc j) e (omega arith) (omega arith) q))

-- what is held, entry by entry
held_more : (h : Holding) (hs : List Holding) (o : Option ℕ) → option_map (λ k. (get_or (h ∷ hs) k no_holding).units) (option_map (λ k. 1 + k) o) ≡ option_map (λ k. (get_or hs k no_holding).units) o
held_more h hs None = refl
held_more h hs (Some k) = ap (λ n. Some (get_or (h ∷ hs) n no_holding).units) (one-add k)

pub held_step : (h : Holding) (hs : List Holding) (m j : ℕ) → held_by (h ∷ hs) m j ≡ cond (is_of h m j) (Some h.units) (held_by hs m j)
held_step h hs m j = go (is_of h m j)
  where
    go : (t : Bool) → option_map (λ k. (get_or (h ∷ hs) k no_holding).units) (cond t (Some 0) (option_map (λ k. 1 + k) (spot_of hs m j))) ≡ cond t (Some h.units) (held_by hs m j)
    go true = refl
    go false = held_more h hs (spot_of hs m j)

pub held_none : (hs : List Holding) (m j : ℕ) → has hs m j ≡ false → held_by hs m j ≡ None
held_none [] m j e = refl
held_none (h ∷ hs) m j e = let p = or_parts (is_of h m j) (has hs m j) e in held_step h hs m j ∙ ap (λ t. cond t (Some h.units) (held_by hs m j)) p.0 ∙ held_none hs m j p.1

-- each holding is the one found for its pair
pub found_own : (hs : List Holding) → Apart hs → AllByRecursion (λ h. held_by hs h.member h.item ≡ Some h.units) hs
found_own [] a = tt
found_own (h ∷ hs) a = (held_step h hs h.member h.item ∙ ap (λ t. cond t (Some h.units) (held_by hs h.member h.item)) (pair_is h h.member h.item refl refl), go hs a.0 (found_own hs a.1))
  where
    differ : (k : Holding) → is_of k h.member h.item ≡ false → is_of h k.member k.item ≡ false
    differ k e = ⊎_elim (λ t. let p = same_pair h k.member k.item t in absurd (both_ways (is_of k h.member h.item) e (pair_is k h.member h.item (sym p.0) (sym p.1)))) (λ t. t) (cases_Bool (is_of h k.member k.item))

    go : (ks : List Holding) → has ks h.member h.item ≡ false → AllByRecursion (λ k. held_by hs k.member k.item ≡ Some k.units) ks → AllByRecursion (λ k. held_by (h ∷ hs) k.member k.item ≡ Some k.units) ks
    go [] e w = tt
    go (k ∷ ks) e w =
        let p = or_parts (is_of k h.member h.item) (has ks h.member h.item) e in
        (held_step h hs k.member k.item ∙ ap (λ t. cond t (Some h.units) (held_by hs k.member k.item)) (differ k p.0) ∙ w.0, go ks p.1 w.1)

-- the node that a give line leaves from, where the holdings' nodes begin at q
abbrev pub leaves : ℕ → List Holding → ℕ → ℕ → ℕ
leaves q hs m j = source (spot_of hs m j) q j

source_more : (o : Option ℕ) (q j : ℕ) → source (option_map (λ k. 1 + k) o) q j ≡ source o (q + 1) j
source_more None q j = refl
source_more (Some k) q j = omega arith

pub leaves_step : (q : ℕ) (h : Holding) (hs : List Holding) (m j : ℕ) → leaves q (h ∷ hs) m j ≡ cond (is_of h m j) q (leaves (q + 1) hs m j)
leaves_step q h hs m j = go (is_of h m j)
  where
    go : (t : Bool) → source (cond t (Some 0) (option_map (λ k. 1 + k) (spot_of hs m j))) q j ≡ cond t q (leaves (q + 1) hs m j)
    go true = omega arith
    go false = source_more (spot_of hs m j) q j

pub leaves_under : (q : ℕ) (hs : List Holding) (m j : ℕ) → j < q + length hs → leaves q hs m j < q + length hs
leaves_under q [] m j l = l
leaves_under q (h ∷ hs) m j l = subst (λ t. t < q + suc (length hs)) (sym (leaves_step q h hs m j)) (cond_both (is_of h m j) q (leaves (q + 1) hs m j) (λ t. t < q + suc (length hs)) (λ e. omega arith) (λ e. omega (arith, leaves_under (q + 1) hs m j (omega arith))))

-- none leaves from a node between the item and the holdings'
pub leaves_apart : (q : ℕ) (hs : List Holding) (m j v : ℕ) → j < v → v < q → leaves q hs m j ≡ v → ⊥
leaves_apart q [] m j v a b = omega arith
leaves_apart q (h ∷ hs) m j v a b = subst (λ t. t ≡ v → ⊥) (sym (leaves_step q h hs m j)) (cond_both (is_of h m j) q (leaves (q + 1) hs m j) (λ t. t ≡ v → ⊥) (λ e. omega arith) (λ e. leaves_apart (q + 1) hs m j v a (omega arith)))

-- the capacity of a give line's arc
abbrev pub capacity : List Holding → ℕ → Line → ℕ
capacity hs m l = give_capacity (spot_of hs m l.item) l

capacity_more : (o : Option ℕ) (l : Line) → give_capacity (option_map (λ k. 1 + k) o) l ≡ give_capacity o l
capacity_more None l = refl
capacity_more (Some k) l = refl

or_true : (a : Bool) → (a || true) ≡ true
or_true true = refl
or_true false = refl

or_false : (a : Bool) → (a || false) ≡ a
or_false true = refl
or_false false = refl

pub capacity_is : (hs : List Holding) (m : ℕ) (l : Line) → capacity hs m l ≡ cond (eqb l.item 0 || has hs m l.item) l.limit 0
capacity_is [] m l = ap (λ t. cond t l.limit 0) (sym (or_false (eqb l.item 0)))
capacity_is (h ∷ hs) m l = go (is_of h m l.item) (capacity_is hs m l)
  where
    go : (t : Bool) → capacity hs m l ≡ cond (eqb l.item 0 || has hs m l.item) l.limit 0 → give_capacity (cond t (Some 0) (option_map (λ k. 1 + k) (spot_of hs m l.item))) l ≡ cond (eqb l.item 0 || (t || has hs m l.item)) l.limit 0
    go true e = ap (λ t. cond t l.limit 0) (sym (or_true (eqb l.item 0)))
    go false e = capacity_more (spot_of hs m l.item) l ∙ e
