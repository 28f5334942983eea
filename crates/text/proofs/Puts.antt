-- Putting bytes into a buffer piece by piece.
use Rattle.std.proofs.Common.{◌≡◌, ℕ, ◌+◌, ◌<◌, ◌≤◌, List, [], ◌∷◌, ◌++◌, length, get_or, take, drop, Ok, Err, Result, sym, refl, ap, ◌∙◌, subst, append_assoc, append-nil, arith, take-append-drop}
use Rattle.std.proofs.lemmas.List.{length-append, length_push, length-take, take_all, take-append-le, take_at, take_more}
use Rattle.tables.specs.Refusals.{when, First, refusal}
use Rattle.tables.specs.Tables.{Added}
use Rattle.tables.specs.declared.refusal.Refusal.{Refusal}
use Rattle.text.specs.Buffers.{Put}
use Rattle.text.specs.Numbers.{Notation}
use Rattle.text.specs.Rows.{spaced, row_spelt}

-- a buffer never has more than it holds
pub put_few : {a b xs : List ℕ} {r : Result (Unit {0}) Refusal} → Put a b xs r → length b ≤ 32768
put_few {a} {b} {xs} p = omega (arith, ap length p.outcome, length-take 32768 (a ++ xs))

-- what fits is put after what was there
pub fits : {a b xs : List ℕ} → Put a b xs (Ok tt) → (length a + length xs ≤ 32768) × (b ≡ a ++ xs)
fits {a} {b} {xs} p =
    let few : length a + length xs ≤ 32768 = grind arith in
    (few, p.outcome ∙ take_all 32768 (a ++ xs) (omega (arith, length-append a xs)))

pub put_none : (a : List ℕ) → length a ≤ 32768 → Put a a [] (Ok tt)
put_none a few = record { refused = grind arith; outcome = sym (take_all 32768 (a ++ []) (omega (arith, length-append {A = ℕ} a [])) ∙ append-nil a) }

-- one piece after another
pub put_then : {a b c xs ys : List ℕ} {r : Result (Unit {0}) Refusal} → Put a b xs (Ok tt) → Put b c ys r → Put a c (xs ++ ys) r
put_then {a} {b} {c} {xs} {ys} {r} p q =
    let f = fits p in
    let long : length b + length ys ≡ length a + length (xs ++ ys) = omega (arith, ap length f.1, length-append a xs, length-append xs ys) in
    record {
      refused = subst (λ n. First (when 2 (32768 < n) ∷ []) (refusal r)) long q.refused;
      outcome = q.outcome ∙ ap (take 32768) (ap (λ l. l ++ ys) f.1 ∙ append_assoc a xs ys);
    }

-- after a piece that does not fit, nothing more does
pub put_stop : {a b xs : List ℕ} {e : Refusal} (ys : List ℕ) → Put a b xs (Err e) → Put a b (xs ++ ys) (Err e)
put_stop {a} {b} {xs} {e} ys p =
    let over : 32768 < length a + length xs = grind arith in
    record {
      refused = grind (arith, length-append);
      outcome = p.outcome ∙ sym (take-append-le 32768 (a ++ xs) ys (omega (arith, length-append a xs))) ∙ ap (take 32768) (append_assoc a xs ys);
    }

pub put_same : {a b xs ys : List ℕ} {r : Result (Unit {0}) Refusal} → xs ≡ ys → Put a b xs r → Put a b ys r
put_same {a} {b} {xs} {ys} {r} e p = subst (λ l. Put a b l r) e p

pub put_from : {a b c xs : List ℕ} {r : Result (Unit {0}) Refusal} → a ≡ b → Put a c xs r → Put b c xs r
put_from {a} {b} {c} {xs} {r} e p = subst (λ l. Put l c xs r) e p

-- one byte more in a table
pub put_one : {a b : List ℕ} {x : ℕ} (r : Result (Unit {0}) Refusal) → length a ≤ 32768 → Added 32768 a b (x ∷ []) r → Put a b (x ∷ []) r
put_one {a} {b} {x} (Ok u) few p =
    let room : length a + 1 ≤ 32768 = grind arith in
    record { refused = p.refused; outcome = p.outcome ∙ sym (take_all 32768 (a ++ x ∷ []) (omega (arith, length_push a x))) }
put_one {a} {b} {x} (Err e) few p =
    let full : length a ≡ 32768 = grind arith in
    record { refused = p.refused; outcome = p.outcome ∙ sym (take_at a (x ∷ []) 32768 full) }

-- the next byte of those that are put in
pub put_more : {a b c : List ℕ} (xs : List ℕ) (i : ℕ) → i < length xs → (r : Result (Unit {0}) Refusal) → Put a b (take i xs) (Ok tt) → Added 32768 b c (get_or xs i 0 ∷ []) r → Put a c (take (i + 1) xs) r
put_more xs i lt r p q = put_same (sym (take_more xs i 0 lt)) (put_then p (put_one r (put_few p) q))

-- where it does not fit, neither do the bytes after it
pub put_rest : {a b : List ℕ} (xs : List ℕ) (i : ℕ) {e : Refusal} → Put a b (take (i + 1) xs) (Err e) → Put a b xs (Err e)
put_rest xs i p = put_same (take-append-drop (i + 1) xs) (put_stop (drop (i + 1) xs) p)

spaced_append : {X : Type 0} (notation : Notation X) (xs ys : List X) → spaced notation (xs ++ ys) ≡ spaced notation xs ++ spaced notation ys
spaced_append notation [] ys = refl
spaced_append notation (x ∷ xs) ys =
    ap (λ l. 32 ∷ (notation.spelling x ++ l)) (spaced_append notation xs ys) ∙ ap (λ l. 32 ∷ l) (sym (append_assoc (notation.spelling x) (spaced notation xs) (spaced notation ys)))

-- spaced numbers, of which the i first are put in and x comes next
module _ {X : Type 0} (notation : Notation X) (ns : List X) (i : ℕ) (below : i < length ns) (x : X) (is : x ≡ get_or ns i x) where
  spaced_next : spaced notation (take (i + 1) ns) ≡ (spaced notation (take i ns) ++ 32 ∷ []) ++ notation.spelling x
  spaced_next =
      ap (spaced notation) (take_more ns i x below ∙ ap (λ y. take i ns ++ y ∷ []) (sym is))
      ∙ spaced_append notation (take i ns) (x ∷ [])
      ∙ ap (λ l. spaced notation (take i ns) ++ 32 ∷ l) (append-nil (notation.spelling x))
      ∙ sym (append_assoc (spaced notation (take i ns)) (32 ∷ []) (notation.spelling x))

  spaced_all : spaced notation (take (i + 1) ns) ++ spaced notation (drop (i + 1) ns) ≡ spaced notation ns
  spaced_all = sym (spaced_append notation (take (i + 1) ns) (drop (i + 1) ns)) ∙ ap (spaced notation) (take-append-drop (i + 1) ns)

  -- a number after the space before it
  pub put_spaced : {a b c d : List ℕ} {r : Result (Unit {0}) Refusal} → Put a b (spaced notation (take i ns)) (Ok tt) → Put b c (32 ∷ []) (Ok tt) → Put c d (notation.spelling x) r → Put a d (spaced notation (take (i + 1) ns)) r
  put_spaced p q s = put_same (sym spaced_next) (put_then (put_then p q) s)

  -- a number that does not fit
  pub put_cut : {a b : List ℕ} {e : Refusal} → Put a b (spaced notation (take (i + 1) ns)) (Err e) → Put a b (spaced notation ns) (Err e)
  put_cut p = put_same spaced_all (put_stop (spaced notation (drop (i + 1) ns)) p)

  -- a space that does not fit
  pub put_gap : {a b c : List ℕ} {e : Refusal} → Put a b (spaced notation (take i ns)) (Ok tt) → Put b c (32 ∷ []) (Err e) → Put a c (spaced notation ns) (Err e)
  put_gap p q = put_cut (put_same (sym spaced_next) (put_stop (notation.spelling x) (put_then p q)))

-- a row: its first number, and the others with a space before each
module _ {X : Type 0} (notation : Notation X) (x : X) (xs : List X) {ns : List X} (row : ns ≡ x ∷ xs) where
  pub put_row : {a b c : List ℕ} {r : Result (Unit {0}) Refusal} → Put a b (notation.spelling x) (Ok tt) → Put b c (spaced notation xs) r → Put a c (row_spelt notation ns) r
  put_row p q = put_same (sym (ap (row_spelt notation) row)) (put_then p q)

  -- a first number that does not fit
  pub put_no_row : {a b : List ℕ} {e : Refusal} → Put a b (notation.spelling x) (Err e) → Put a b (row_spelt notation ns) (Err e)
  put_no_row p = put_same (sym (ap (row_spelt notation) row)) (put_stop (spaced notation xs) p)
