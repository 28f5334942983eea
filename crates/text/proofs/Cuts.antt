-- Bytes that a separator cuts in two: the cut is unique.
use Rattle.std.proofs.Common.{◌≡◌, ℕ, zero, suc, ◌<◌, List, [], ◌∷◌, ◌++◌, length, get_or, sym, refl, ap, ◌∙◌, arith}
use Rattle.std.proofs.lemmas.List.{get_or_at, length-append}
use Rattle.text.specs.Parts.{Free, FirstAt}

free_rest : (b x : ℕ) (xs : List ℕ) → Free b (x ∷ xs) → Free b xs
free_rest b x xs f k lt = f (suc k) (omega arith)

pub free_none : (b : ℕ) → Free b []
free_none b k lt e = omega arith

pub free_cons : (b x : ℕ) (xs : List ℕ) → (x ≡ b → ⊥) → Free b xs → Free b (x ∷ xs)
free_cons b x xs n f zero lt e = n e
free_cons b x xs n f (suc k) lt e = f k (omega arith) e

pub free_append : (b : ℕ) (xs ys : List ℕ) → Free b xs → Free b ys → Free b (xs ++ ys)
free_append b [] ys f g = g
free_append b (x ∷ xs) ys f g = free_cons b x (xs ++ ys) (λ e. f 0 (omega arith) e) (free_append b xs ys (free_rest b x xs f) g)

-- the first b stands in one place
pub cut_once : (b : ℕ) (xs ys p q : List ℕ) → Free b xs → Free b ys → xs ++ b ∷ p ≡ ys ++ b ∷ q → (xs ≡ ys) × (p ≡ q)
cut_once b [] [] p q f g e = (refl, cc)
cut_once b [] (y ∷ ys) p q f g e = let h : y ≡ b = cc in absurd (g 0 (omega arith) h)
cut_once b (x ∷ xs) [] p q f g e = let h : x ≡ b = cc in absurd (f 0 (omega arith) h)
cut_once b (x ∷ xs) (y ∷ ys) p q f g e =
    let h : x ≡ y = cc in
    let t : xs ++ b ∷ p ≡ ys ++ b ∷ q = cc in
    let r = cut_once b xs ys p q (free_rest b x xs f) (free_rest b y ys g) t in
    ((λ i. h i ∷ r.0 i), r.1)

pub first_once : {b : ℕ} {bytes xs ys p q : List ℕ} → FirstAt b bytes xs p → FirstAt b bytes ys q → (xs ≡ ys) × (p ≡ q)
first_once {b} {bytes} {xs} {ys} {p} {q} f g = cut_once b xs ys p q f.free g.free (sym f.is ∙ g.is)

-- where there is no b, nothing is cut at one
pub no_first : {b : ℕ} {bytes xs p : List ℕ} → Free b bytes → FirstAt b bytes xs p → ⊥
no_first {b} {bytes} {xs} {p} f g =
    let long : length xs < length bytes = omega (arith, ap length g.is, length-append xs (b ∷ p)) in
    f (length xs) long (ap (λ l. get_or l (length xs) 0) g.is ∙ get_or_at xs b p 0 (length xs) refl)

-- what follows is shorter
pub rest_shorter : {b : ℕ} {bytes xs p : List ℕ} → FirstAt b bytes xs p → length p < length bytes
rest_shorter {b} {bytes} {xs} {p} g = omega (arith, ap length g.is, length-append xs (b ∷ p))
