-- Lists of names, lines and offers: what holds of a list with one entry more, and of an entry in the middle.
use Rattle.std.proofs.Common.{◌≡◌, ℕ, ◌<◌, ◌≤◌, true, ◌⊎◌, List, [], ◌∷◌, ◌++◌, map, length, get_or, sym, refl, ap, ◌∙◌, subst, inl, inr, arith}
use Rattle.std.specs.List.{ContainsAt as Has, AllByRecursion}
use Rattle.std.proofs.lemmas.List.{length-append, length_push, get_or_append_left, get_or_at, get_or_push, get_or_default, map_push, map-append}
use Rattle.std.proofs.lemmas.Bool.{cases_lt, cases_eq, cases_Bool, both_ways, and_parts}
use Rattle.text.specs.Parts.{Free}
use Rattle.text.proofs.Cuts.{free_none, free_cons}
use Rattle.book.specs.Books.{Distinct, Any, Loop}
use Rattle.book.proofs.Apart.{distinct_push}
use Rattle.book.specs.Spelling.{name_byte, name_bytes, Spelt}
use Rattle.book.specs.declared.line.Line.{Line}

pub below : (a b : ℕ) → (b ≤ a → ⊥) → a < b
below a b f = elim (cases_lt a b) [ inl l ↦ l | inr l ↦ absurd (f l) ]

pub at_most : (a b : ℕ) → (b < a → ⊥) → a ≤ b
at_most a b f = elim (cases_lt b a) [ inl l ↦ absurd (f l) | inr l ↦ l ]

-- bytes are the same or not
pub same_bytes : (a b : List ℕ) → (a ≡ b) ⊎ (a ≡ b → ⊥)
same_bytes [] [] = inl refl
same_bytes [] (y ∷ b) = inr (λ e. omega (arith, ap length e))
same_bytes (x ∷ a) [] = inr (λ e. omega (arith, ap length e))
same_bytes (x ∷ a) (y ∷ b) = both (cases_eq x y) (same_bytes a b)
  where
    both : (x ≡ y) ⊎ (x ≡ y → ⊥) → (a ≡ b) ⊎ (a ≡ b → ⊥) → (x ∷ a ≡ y ∷ b) ⊎ (x ∷ a ≡ y ∷ b → ⊥)
    both (inl e) (inl f) = inl (λ i. e i ∷ f i)
    both (inl e) (inr f) = inr (λ g. f (cc))
    both (inr e) f = inr (λ g. e (cc))

-- a name that is not ill spelt is spelt
pub spelt_stable : (s : List ℕ) → ((Spelt s → ⊥) → ⊥) → Spelt s
spelt_stable s f = (
  at_most 1 (length s) (λ l. f (λ p. omega (arith, p.0))),
  at_most (length s) 12 (λ l. f (λ p. omega (arith, p.1))),
  elim (cases_Bool (name_bytes s)) [ inl e ↦ e | inr e ↦ absurd (f (λ p. both_ways (name_bytes s) e p.2)) ],
)

-- a name holds no byte 10
pub free_name : (s : List ℕ) → name_bytes s ≡ true → Free 10 s
free_name [] e = free_none 10
free_name (b ∷ s) e = let p = and_parts (name_byte b) (name_bytes s) e in free_cons 10 b s (λ q. both_ways (name_byte b) (ap name_byte q) p.0) (free_name s p.1)

-- what holds of each entry holds of one in the middle
pub all_mid : {X : Type 0} (P : X → Type 0) (xs ys : List X) (x : X) → AllByRecursion P (xs ++ x ∷ ys) → P x
all_mid P [] ys x h = h.0
all_mid P (z ∷ xs) ys x h = all_mid P xs ys x h.1

pub none_apart : {X : Type 0} → Distinct {X = X} []
none_apart i j d lt lj e = omega arith

-- where entries are apart, none stands among those above it
pub distinct_mid : {X : Type 0} (xs ys : List X) (x : X) → Distinct (xs ++ x ∷ ys) → Has xs x → ⊥
distinct_mid xs ys x h (k, lt, at) =
    h k (length xs) x lt (omega (arith, length-append xs (x ∷ ys))) (get_or_append_left xs (x ∷ ys) x k lt ∙ at x ∙ sym (get_or_at xs x ys x (length xs) refl))

-- the same by a key
pub apart_push : {X Y : Type 0} (key : X → Y) (xs : List X) (x : X) → Distinct (map key xs) → (Has (map key xs) (key x) → ⊥) → Distinct (map key (xs ++ x ∷ []))
apart_push key xs x h n = subst Distinct (sym (map_push key xs x)) (distinct_push (map key xs) (key x) h n)

pub apart_mid : {X Y : Type 0} (key : X → Y) (xs ys : List X) (x : X) → Distinct (map key (xs ++ x ∷ ys)) → Has (map key xs) (key x) → ⊥
apart_mid key xs ys x h = distinct_mid (map key xs) (map key ys) (key x) (subst Distinct (map-append key xs (x ∷ ys)) h)

-- some entry has the property, read at one default
any_from : {X : Type 0} (P : X → Type 0) (xs : List X) (k : ℕ) (d : X) → k < length xs → P (get_or xs k d) → Any P xs
any_from P xs k d lt p = (k, lt, λ d'. subst P (get_or_default xs k d d' lt) p)

any_push : {X : Type 0} (P : X → Type 0) (xs : List X) (x : X) → Any P (xs ++ x ∷ []) → Any P xs ⊎ P x
any_push P xs x (k, lt, at) = elim (cases_lt k (length xs)) [
  | inl l ↦ inl (any_from P xs k x l (subst P (get_or_append_left xs (x ∷ []) x k l) (at x)))
  | inr l ↦ inr (subst P (get_or_push xs x x k (omega (arith, length_push xs x))) (at x))
]

any_mid : {X : Type 0} (P : X → Type 0) (xs ys : List X) (x : X) → P x → Any P (xs ++ x ∷ ys)
any_mid P xs ys x p = any_from P (xs ++ x ∷ ys) (length xs) x (omega (arith, length-append xs (x ∷ ys))) (subst P (sym (get_or_at xs x ys x (length xs) refl)) p)

no_line : Line
no_line = record { item = 0; limit = 0; price = 0 }

-- line w gets cash at a higher price than g has
abbrev Outbid : Line → Line → Type 0
Outbid g w = (w.item ≡ 0) × (g.price < w.price)

-- line g gives cash, and a line of ws outbids it
abbrev OutbidIn : List Line → Line → Type 0
OutbidIn ws g = (g.item ≡ 0) × Any (Outbid g) ws

-- a loop is completed by the last line, or was there before
pub loop_push : (gs ws : List Line) (w : Line) → Loop gs (ws ++ w ∷ []) → Loop gs ws ⊎ Loop gs (w ∷ [])
loop_push gs ws w (k, lt, at) = elim (any_push (Outbid (get_or gs k no_line)) ws w (at no_line).1) [
  | inl a ↦ inl (any_from (OutbidIn ws) gs k no_line lt ((at no_line).0, a))
  | inr p ↦ inr (any_from (OutbidIn (w ∷ [])) gs k no_line lt ((at no_line).0, any_mid (Outbid (get_or gs k no_line)) [] [] w p))
]

pub loop_mid : (gs ws vs : List Line) (w : Line) → Loop gs (w ∷ []) → Loop gs (ws ++ w ∷ vs)
loop_mid gs ws vs w (k, lt, at) = elim (any_push (Outbid (get_or gs k no_line)) [] w (at no_line).1) [
  | inl a ↦ absurd (omega (arith, a.1))
  | inr p ↦ any_from (OutbidIn (ws ++ w ∷ vs)) gs k no_line lt ((at no_line).0, any_mid (Outbid (get_or gs k no_line)) ws vs w p)
]
