-- Where a member's holding of an item stands.
use Rattle.std.proofs.Common.{◌≡◌, ℕ, zero, suc, ◌+◌, ◌<◌, Bool, true, false, cond, eqb, List, [], ◌∷◌, map, length, get_or, Some, None, Option, sym, refl, ap, ◌∙◌, subst, one-add, arith}
use Rattle.std.specs.List.{ContainsAt as Has}
use Rattle.std.specs.Option.{option_map}
use Rattle.std.proofs.lemmas.Bool.{and_parts, and_from, eqb-true, eq-eqb, both_ways}
use Rattle.book.specs.Books.{pair, is_of, spot_of}
use Rattle.book.specs.declared.holding.Holding.{Holding}

same : (h : Holding) (m i : ℕ) → is_of h m i ≡ true → pair h ≡ (m, i)
same h m i e =
    let p = and_parts (eqb h.member m) (eqb h.item i) e in
    let a = eqb-true h.member m p.0 in
    let b = eqb-true h.item i p.1 in
    λ j. (a j, b j)

other : (h : Holding) (m i : ℕ) → pair h ≡ (m, i) → is_of h m i ≡ true
other h m i e = and_from (eqb h.member m) (eqb h.item i) (eq-eqb h.member m (ap (λ (p : ℕ × ℕ). p.0) e)) (eq-eqb h.item i (ap (λ (p : ℕ × ℕ). p.1) e))

pub no_none : {X : Type 0} (x : X) → ◌≡◌ {A = Option X} (Some x) None → ⊥
no_none x e = let z : ◌≡◌ {A = ℕ} 0 1 = cc in omega arith

abbrev pub Stands : List Holding → ℕ → ℕ → ℕ → Type 0
Stands xs m i k = (k < length xs) × ((d : Holding) → pair (get_or xs k d) ≡ (m, i))

step : (h : Holding) (hs : List Holding) (m i k : ℕ) (b : Bool) (o : Option ℕ) → is_of h m i ≡ b → ((j : ℕ) → Some j ≡ o → Stands hs m i j) → Some k ≡ cond b (Some 0) (option_map (λ n. 1 + n) o) → Stands (h ∷ hs) m i k
step h hs m i k true o t ih e =
    let z : k ≡ 0 = cc in
    subst (Stands (h ∷ hs) m i) (sym z) (omega arith, λ d. same h m i t)
step h hs m i k false None t ih e = absurd (no_none k e)
step h hs m i k false (Some j) t ih e =
    let z : k ≡ 1 + j = cc in
    let f = ih j refl in
    subst (Stands (h ∷ hs) m i) (sym (z ∙ one-add j)) (omega (arith, f.0), f.1)

-- what stands at the place that was found
pub spot_some : (xs : List Holding) (m i k : ℕ) → Some k ≡ spot_of xs m i → Stands xs m i k
spot_some [] m i k e = absurd (no_none k e)
spot_some (h ∷ hs) m i k e = step h hs m i k (is_of h m i) (spot_of hs m i) refl (λ j. spot_some hs m i j) e

abbrev Lacks : List Holding → ℕ → ℕ → Type 0
Lacks hs m i = (k : ℕ) → k < length (map pair hs) → ((d : ℕ × ℕ) → get_or (map pair hs) k d ≡ (m, i)) → ⊥

miss : (h : Holding) (hs : List Holding) (m i : ℕ) (b : Bool) (o : Option ℕ) → is_of h m i ≡ b → (None ≡ o → Lacks hs m i) → None ≡ cond b (Some 0) (option_map (λ n. 1 + n) o) → Lacks (h ∷ hs) m i
miss h hs m i true o t ih e k l f = no_none 0 (sym e)
miss h hs m i false (Some j) t ih e k l f = no_none (1 + j) (sym e)
miss h hs m i false None t ih e zero l f = both_ways _ t (other h m i (f (0, 0)))
miss h hs m i false None t ih e (suc k) l f = ih refl k (omega arith) f

-- where no place was found there is no such holding
pub spot_none : (xs : List Holding) (m i : ℕ) → None ≡ spot_of xs m i → Has (map pair xs) (m, i) → ⊥
spot_none xs m i e h = go xs e h.0 h.1 h.2
  where
    go : (ys : List Holding) → None ≡ spot_of ys m i → Lacks ys m i
    go [] e k l f = omega arith
    go (y ∷ ys) e k l f = miss y ys m i (is_of y m i) (spot_of ys m i) refl (go ys) e k l f
