-- Reading a row number by number.
use Rattle.std.proofs.Common.{◌≡◌, ℕ, ◌+◌, ◌<◌, ◌≤◌, Bool, true, false, List, [], ◌∷◌, ◌++◌, Some, None, Option, length, get_or, take, drop, set, eqb, sym, refl, ap, ◌∙◌, subst, append_assoc, append-nil, arith, length-set}
use Rattle.std.specs.Bool.{MatchBool}
use Rattle.std.specs.Borrow.{Bor}
use Rattle.std.specs.Fn.{Mut, ComputesKey}
use Rattle.std.specs.List.{AllByRecursion, IsFirstMatchOrLen}
use Rattle.std.specs.Slice.Iter.{split_rest, split_done, split_callee, split_steps}
use Rattle.std.specs.declared.slice.Split.{Split}
use Rattle.std.proofs.lemmas.Bool.{eqb-true, eqb-false}
use Rattle.std.proofs.lemmas.List.{drop_more, get_or_append_left, get_or_at, length-append, length-drop, take_all, take_more, take_more_set}
use Rattle.text.specs.Numbers.{Notation, Legible, Spells}
use Rattle.text.specs.Parts.{Free, FirstAt}
use Rattle.text.specs.Rows.{row_spelt, SpellsRow}
use Rattle.text.proofs.Cuts.{cut_once, no_first}

-- the bytes are the row of these numbers
pub record Whole {X : Type 0} (notation : Notation X) (bytes : List ℕ) (xs : List X) : Type 0 where
  pub some : 0 < length xs
  pub spelling : bytes ≡ row_spelt notation xs
  pub short : AllByRecursion (λ x. notation.digit_count x ≤ 13) xs

-- what is left of a row: nothing once it has ended, else the rest of its bytes
abbrev pub Left : {X : Type 0} → Notation X → Bool → List ℕ → List X → Type 0
Left notation true rest xs = xs ≡ []
Left notation false rest xs = Whole notation rest xs

-- the next part of a row: what stands before the first space, or all of the rest, with which the row ends
abbrev pub Part : Bool → List ℕ → List ℕ → List ℕ → Type 0
Part true rest part after = (rest ≡ part) × Free 32 part
Part false rest part after = FirstAt 32 rest part after

part_from : (done : Bool) (rest part after : List ℕ) → MatchBool done (rest ≡ part) ((y : ℕ) × (rest ≡ part ++ (y ∷ after))) → IsFirstMatchOrLen (λ b. eqb b 32) rest (length part) → Part done rest part after
part_from true rest part after e f = (e, λ k lt. eqb-false _ _ (subst (λ l. eqb (get_or l k 0) 32 ≡ false) e (f.0 k 0 (omega arith) lt)))
part_from false rest part after (y, e) f =
    let long : length part < length rest = omega (arith, ap length e, length-append part (y ∷ after)) in
    let space : y ≡ 32 = sym (get_or_at part y after 0 (length part) refl) ∙ ap (λ l. get_or l (length part) 0) (sym e) ∙ eqb-true _ _ (f.1 long 0) in
    record {
      is = e ∙ ap (λ b. part ++ b ∷ after) space;
      free = λ k lt. eqb-false _ _ (subst (λ b. eqb b 32 ≡ false) (ap (λ l. get_or l k 0) e ∙ get_or_append_left part (y ∷ after) 0 k lt) (f.0 k 0 (omega arith) lt));
    }

-- a part that the library's `split` at spaces gives: the row had not ended
pub next_part : {F : Type 0} (g : Mut F (Bor ℕ × Unit {0}) Bool) (s t : Split ℕ F) (r : Option (Bor (List ℕ))) (part : Bor (List ℕ)) → split_steps g s r t → r ≡ Some part → ComputesKey g (λ b. eqb b 32) (split_callee s) → (split_done s ≡ false) × Part (split_done t) (split_rest s) part.now (split_rest t)
next_part g s t None part h e key = absurd (cc e)
next_part g s t (Some p) part h e key =
    let same : p ≡ part = cc e in
    subst (λ q. (split_done s ≡ false) × Part (split_done t) (split_rest s) q.now (split_rest t)) same (h.0, part_from (split_done t) _ _ _ h.1 (h.2 (λ b. eqb b 32) key).1)

-- where it gives none, it has
pub no_part : {F : Type 0} (g : Mut F (Bor ℕ × Unit {0}) Bool) (s t : Split ℕ F) (r : Option (Bor (List ℕ))) → split_steps g s r t → r ≡ None → split_done s ≡ true
no_part g s t None h e = h.0
no_part g s t (Some p) h e = absurd (cc e)

-- the first i numbers are read, and the row's bytes are a row just as the rest of them is
pub record Reading {X : Type 0} (notation : Notation X) (n : ℕ) (bytes : List ℕ) (i : ℕ) (numbers : List X) (ended : Bool) (rest : List ℕ) : Type 0 where
  pub long : length numbers ≡ n
  pub to : (xs : List X) → SpellsRow notation n bytes xs → (take i xs ≡ take i numbers) × Left notation ended rest (drop i xs)
  pub from : (xs : List X) → Left notation ended rest xs → Whole notation bytes (take i numbers ++ xs)

-- the same state, once it is known whether the row has ended
pub known : {X : Type 0} {notation : Notation X} {n : ℕ} {bytes : List ℕ} {i : ℕ} {numbers : List X} {ended done : Bool} {rest : List ℕ} → ended ≡ done → Reading notation n bytes i numbers ended rest → Reading notation n bytes i numbers done rest
known {X} {notation} {n} {bytes} {i} {numbers} {ended} {done} {rest} e r = subst (λ b. Reading notation n bytes i numbers b rest) e r

-- no number is read yet
pub begin : {X : Type 0} (notation : Notation X) (n : ℕ) (bytes : List ℕ) (numbers : List X) {ended : Bool} {rest : List ℕ} → length numbers ≡ n → ended ≡ false → rest ≡ bytes → Reading notation n bytes 0 numbers ended rest
begin notation n bytes numbers {ended} {rest} e f h =
    known (sym f) (subst (Reading notation n bytes 0 numbers false) (sym h) (record {
      long = e;
      to = λ xs s. (refl, record { some = omega (arith, s.some, s.count); spelling = s.spelling; short = s.short });
      from = λ xs w. w;
    }))

module _ {X : Type 0} {notation : Notation X} (legible : Legible notation) where
  -- the part is the first number, and what is left are the others
  first_part : (done : Bool) (rest part after : List ℕ) (xs : List X) → Whole notation rest xs → Part done rest part after → (y : X) × (ys : List X) × (xs ≡ y ∷ ys) × Spells notation part y × Left notation done after ys
  first_part done rest part after [] w f = absurd (omega (arith, w.some))
  first_part true rest part after (y ∷ []) w f = (y, [], refl, (sym f.0 ∙ w.spelling ∙ append-nil _, w.short.0), refl)
  first_part true rest part after (y ∷ z ∷ zs) w f = absurd (no_first (subst (Free 32) (sym f.0) f.1) (record { is = w.spelling; free = legible.high y 32 (omega arith) }))
  first_part false rest part after (y ∷ []) w f =
      absurd (no_first (subst (Free 32) (sym (w.spelling ∙ append-nil _)) (legible.high y 32 (omega arith))) f)
  first_part false rest part after (y ∷ z ∷ zs) w f =
      let o = cut_once 32 part (notation.spelling y) after (row_spelt notation (z ∷ zs)) f.free (legible.high y 32 (omega arith)) (sym f.is ∙ w.spelling) in
      (y, z ∷ zs, refl, (o.0, w.short.0), record { some = omega arith; spelling = o.1; short = w.short.1 })

  -- a number before numbers
  onto : (done : Bool) (rest part after : List ℕ) (x : X) (xs : List X) → Part done rest part after → Spells notation part x → Left notation done after xs → Whole notation rest (x ∷ xs)
  onto true rest part after x xs f s e = subst (λ l. Whole notation rest (x ∷ l)) (sym e) (record { some = omega arith; spelling = f.0 ∙ s.0 ∙ sym (append-nil _); short = (s.1, tt) })
  onto false rest part after x [] f s w = absurd (omega (arith, w.some))
  onto false rest part after x (y ∷ ys) f s w = record { some = omega arith; spelling = f.is ∙ (λ j. s.0 j ++ 32 ∷ w.spelling j); short = (s.1, w.short) }

  same : {part : List ℕ} (x y : X) → Spells notation part x → Spells notation part y → x ≡ y
  same x y s t = legible.once x y (sym s.0 ∙ t.0)

  next_of : (i : ℕ) (xs : List X) (y : X) (ys : List X) → i < length xs → drop i xs ≡ y ∷ ys → (take (i + 1) xs ≡ take i xs ++ y ∷ []) × (drop (i + 1) xs ≡ ys)
  next_of i xs y ys lt e = let d = drop_more xs i y lt in let t = take_more xs i y lt in (cc, cc)

  module _ {n : ℕ} {bytes : List ℕ} {i : ℕ} {numbers : List X} {rest : List ℕ} (before : Reading notation n bytes i numbers false rest) (below : i < n) (done : Bool) (part after : List ℕ) (f : Part done rest part after) where
    -- the next number
    pub read_part : (x : X) → Spells notation part x → Reading notation n bytes (i + 1) (set numbers i x) done after
    read_part x s =
        let more = take_more_set numbers i x (omega (arith, before.long)) in
        record {
          long = length-set numbers i x ∙ before.long;
          to = λ xs sp.
              let b = before.to xs sp in
              let z = first_part done rest part after (drop i xs) b.1 f in
              let d = next_of i xs x z.1 (omega (arith, sp.count)) (z.2 ∙ ap (λ y. y ∷ z.1) (same z.0 x z.3 s)) in
              (d.0 ∙ ap (λ l. l ++ x ∷ []) b.0 ∙ sym more, subst (Left notation done after) (sym d.1) z.4);
          from = λ xs w. subst (Whole notation bytes) (sym (ap (λ l. l ++ xs) more ∙ append_assoc (take i numbers) (x ∷ []) xs)) (before.from (x ∷ xs) (onto done rest part after x xs f s w));
        }

    -- no number there: the row is none
    pub none_read : ((x : X) → Spells notation part x → ⊥) → (xs : List X) → SpellsRow notation n bytes xs → ⊥
    none_read h xs sp = let z = first_part done rest part after (drop i xs) (before.to xs sp).1 f in h z.0 z.3

-- a row that has ended before its n numbers
pub ended_early : {X : Type 0} {notation : Notation X} {n : ℕ} {bytes : List ℕ} {i : ℕ} {numbers : List X} {rest : List ℕ} → Reading notation n bytes i numbers true rest → i < n → (xs : List X) → SpellsRow notation n bytes xs → ⊥
ended_early {i = i} before below xs sp = omega (arith, ap length (before.to xs sp).1, length-drop i xs, sp.count)

-- the n numbers of a row
pub whole_row : {X : Type 0} {notation : Notation X} {n : ℕ} {bytes : List ℕ} {i : ℕ} {numbers : List X} {rest : List ℕ} → Reading notation n bytes i numbers true rest → n ≤ i → SpellsRow notation n bytes numbers
whole_row {X} {notation} {n} {bytes} {i} {numbers} before past =
    let all : take i numbers ++ [] ≡ numbers = append-nil _ ∙ take_all i numbers (omega (arith, before.long)) in
    let w = subst (Whole notation bytes) all (before.from [] refl) in
    record { some = omega (arith, w.some, before.long); count = before.long; spelling = w.spelling; short = w.short }
