-- A line is spelt in one way, and rows of rules have one answer.
use Rattle.std.proofs.Common.{◌≡◌, ℕ, ◌≤◌, ◌⊎◌, List, [], ◌∷◌, length, Some, None, Option, sym, refl, ap, ◌∙◌, inl, inr, append-nil, arith}
use Rattle.std.proofs.lemmas.Bool.{cases_eq}
use Rattle.tables.specs.Refusals.{Row, when, First}
use Rattle.text.specs.Numbers.{spelt, Notation, unsigned, Legible}
use Rattle.text.specs.Parts.{Free}
use Rattle.text.specs.Rows.{spaced, row_spelt}
use Rattle.text.specs.Sections.{letter}
use Rattle.text.specs.declared.section.Section.{Section}
use Rattle.text.specs.declared.section.Section.TheVariants.{Kinds, Items, Members, Holdings, Offers, Levels}
use Rattle.text.proofs.Cuts.{cut_once, first_once, free_none, free_cons, free_append}
use Rattle.text.specs.NumbersLemmas.{same_from_spelt, legible_unsigned, legible_signed}
use Rattle.layout.specs.Records.{Contents, LineWithUnits}
use Rattle.layout.specs.Layout.{Slot, head, word, item, member, holding, offer, give, get, level, Says, holding_row, offer_row, line_row, spell, Fits}
use Rattle.layout.specs.Runs.{LiesNext}

-- rows of numbers are spelt in one way
pub row_once : {X : Type 0} {notation : Notation X} → Legible notation → (xs ys : List X) → length xs ≡ length ys → row_spelt notation xs ≡ row_spelt notation ys → xs ≡ ys
row_once l [] [] n e = refl
row_once l [] (y ∷ ys) n e = absurd (omega arith)
row_once l (x ∷ xs) [] n e = absurd (omega arith)
row_once l (x ∷ []) (y ∷ []) n e = ap (λ z. z ∷ []) (l.once x y (sym (append-nil _) ∙ e ∙ append-nil _))
row_once l (x ∷ []) (y ∷ z ∷ ys) n e = absurd (omega arith)
row_once l (x ∷ z ∷ xs) (y ∷ []) n e = absurd (omega arith)
row_once {X} {notation} l (x ∷ w ∷ xs) (y ∷ z ∷ ys) n e =
    let c = cut_once 32 (notation.spelling x) (notation.spelling y) (row_spelt notation (w ∷ xs)) (row_spelt notation (z ∷ ys)) (l.high x 32 (omega arith)) (l.high y 32 (omega arith)) e in
    let h = l.once x y c.0 in
    let t = row_once l (w ∷ xs) (z ∷ ys) (omega arith) c.1 in
    (λ i. h i ∷ t i)

spaced_free : {X : Type 0} {notation : Notation X} → Legible notation → (xs : List X) → Free 10 (spaced notation xs)
spaced_free l [] = free_none 10
spaced_free {X} {notation} l (x ∷ xs) = free_cons 10 32 _ (λ e. omega arith) (free_append 10 (notation.spelling x) (spaced notation xs) (l.high x 10 (omega arith)) (spaced_free l xs))

-- a row of numbers holds no byte 10
pub row_free : {X : Type 0} {notation : Notation X} → Legible notation → (xs : List X) → Free 10 (row_spelt notation xs)
row_free l [] = free_none 10
row_free {X} {notation} l (x ∷ xs) = free_append 10 (notation.spelling x) (spaced notation xs) (l.high x 10 (omega arith)) (spaced_free l xs)

-- nor does the head of a section
pub head_free : (s : Section) (n : ℕ) → Free 10 (spell (head s) n)
head_free s n = free_cons 10 (letter s) (32 ∷ spelt n) (λ e. omega (arith, high s)) (free_cons 10 32 (spelt n) (λ e. omega arith) (legible_unsigned.high n 10 (omega arith)))
  where
    high : (s : Section) → 72 ≤ letter s
    high Kinds = omega arith
    high Items = omega arith
    high Members = omega arith
    high Holdings = omega arith
    high Offers = omega arith
    high Levels = omega arith

filled_once : (l m : LineWithUnits) → row_spelt unsigned (line_row l) ≡ row_spelt unsigned (line_row m) → l ≡ m
filled_once l m e =
    let r = row_once legible_unsigned (line_row l) (line_row m) refl e in
    let a : l.line.item ≡ m.line.item = cc in
    let b : l.line.limit ≡ m.line.limit = cc in
    let c : l.line.price ≡ m.line.price = cc in
    let d : l.units ≡ m.units = cc in
    (λ i. record { line = record { item = a i; limit = b i; price = c i }; units = d i })

-- what a line says can be told from its bytes
pub spell_once : (s : Slot) (x : Contents) (c d : Says s) → Fits s x c → Fits s x d → spell s c ≡ spell s d → c ≡ d
spell_once (head s) x m n p q e = let r : spelt m ≡ spelt n = cc in same_from_spelt m n r
spell_once (word w) x c d p q e = refl
spell_once item x c d p q e = e
spell_once member x c d p q e = e
spell_once holding x g h p q e =
    let r = row_once legible_unsigned (holding_row g) (holding_row h) refl e in
    let a : g.member ≡ h.member = cc in
    let b : g.item ≡ h.item = cc in
    let c : g.units ≡ h.units = cc in
    (λ i. record { member = a i; item = b i; units = c i })
spell_once offer x o u p q e =
    let r = row_once legible_unsigned (offer_row o) (offer_row u) refl e in
    let a : o.member ≡ u.member = cc in
    let b : o.limit ≡ u.limit = cc in
    let c : o.gives ≡ u.gives = cc in
    let d : o.gets ≡ u.gets = cc in
    (λ i. record { member = a i; limit = b i; gives = c i; gets = d i })
spell_once give x l m p q e = filled_once l m e
spell_once get x l m p q e = filled_once l m e
spell_once level x y z p q e = row_once legible_signed y z (p.0 ∙ sym q.0) e

-- the next line of a text is one
pub next_once : {s : Slot} {x : Contents} {text p q : List ℕ} {c d : Says s} → LiesNext s x text c p → LiesNext s x text d q → (c ≡ d) × (p ≡ q)
next_once {s} {x} {text} {p} {q} {c} {d} f g =
    let o = first_once f.ended g.ended in
    (spell_once s x c d f.fits g.fits o.0, o.1)

same_or_not : (r q : Option ℕ) → (r ≡ q) ⊎ (r ≡ q → ⊥)
same_or_not None None = inl refl
same_or_not None (Some n) = inr (λ e. let z : ◌≡◌ {A = ℕ} 0 1 = cc in omega arith)
same_or_not (Some m) None = inr (λ e. let z : ◌≡◌ {A = ℕ} 0 1 = cc in omega arith)
same_or_not (Some m) (Some n) = elim (cases_eq m n) [ inl e ↦ inl (ap Some e) | inr f ↦ inr (λ e. f (cc)) ]

-- rows of rules have one answer
pub answer_once : (rows : List Row) (r q : Option ℕ) → First rows r → First rows q → r ≡ q
answer_once [] r q f g = f ∙ sym g
answer_once (when n P ∷ rows) r q f g = elim (same_or_not r q) [
  | inl e ↦ e
  | inr d ↦
      let out : P → ⊥ = λ p. d (f.0 p ∙ sym (g.0 p)) in
      absurd (d (answer_once rows r q (f.1 out) (g.1 out)))
]
