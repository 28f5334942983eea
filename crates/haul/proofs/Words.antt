-- One text gives at most one row of numbers.
use Rattle.std.proofs.Common.{◌≡◌, ℕ, zero, suc, ◌<◌, true, false, cond, eqb, List, [], ◌∷◌, ◌++◌, length, get_or, drop, ℤ, Result, sym, refl, ap, ◌∙◌, subst, ⊎_elim, arith, w64, SFits, to_z, of_z}
use Rattle.std.proofs.lemmas.List.{length-append}
use Rattle.std.proofs.lemmas.Str.Parse.{IsNumeralModel, numerals_by_value, tells_digits, not_in_digits}
use Rattle.std.proofs.lemmas.Int.{to_z-of_z}
use Rattle.std.proofs.lemmas.Bool.{cases_Bool, eqb-true}
use Rattle.std.specs.Str.Parse.{AllDigits, digits_value, without_leading_sign}
use Rattle.haul.specs.declared.reading.Fields.{Fields}
use Rattle.tables.specs.declared.refusal.Refusal.{Refusal}
use Rattle.network.specs.Networks.{Net}
use Rattle.flow.specs.Arcs.{fresh}
use Rattle.haul_table.specs.Roads.{Roaded}
use Rattle.haul.specs.Lines.{Number, Begins, Written, clamped, arc_of, Taken}

-- no byte is a space
abbrev pub Unspaced : List ℕ → Type 0
Unspaced w = (i : ℕ) → i < length w → get_or w i 0 ≡ 32 → ⊥

own : IsNumeralModel (AllDigits 10) (digits_value 10)
own = numerals_by_value (AllDigits 10) tells_digits

digits_unspaced : (w : List ℕ) → AllDigits 10 w → Unspaced w
digits_unspaced w d i l e = not_in_digits own w 32 d (λ p. omega arith) i l e

signed_unspaced : (b : ℕ) (w : List ℕ) → (b ≡ 32 → ⊥) → AllDigits 10 w → Unspaced (b ∷ w)
signed_unspaced b w n d zero l e = n e
signed_unspaced b w n d (suc i) l e = digits_unspaced w d i (omega arith) e

sign_unspaced : (w : List ℕ) → AllDigits 10 (without_leading_sign w) → Unspaced w
sign_unspaced [] d i l e = absurd (omega arith)
sign_unspaced (b ∷ w) d i l e = ⊎_elim minus (λ m. ⊎_elim (plus m) (bare m) (cases_Bool (eqb b 43))) (cases_Bool (eqb b 45))
  where
    minus : eqb b 45 ≡ true → ⊥
    minus m = signed_unspaced b w (λ h. omega (arith, eqb-true b 45 m)) (subst (λ t. AllDigits 10 (cond t w (drop (cond (eqb b 43) 1 0) (b ∷ w)))) m d) i l e

    plus : eqb b 45 ≡ false → eqb b 43 ≡ true → ⊥
    plus m p = signed_unspaced b w (λ h. omega (arith, eqb-true b 43 p)) (subst (λ t. AllDigits 10 (drop (cond t 1 0) (b ∷ w))) p (subst (λ t. AllDigits 10 (cond t w (drop (cond (eqb b 43) 1 0) (b ∷ w)))) m d)) i l e

    bare : eqb b 45 ≡ false → eqb b 43 ≡ false → ⊥
    bare m p = digits_unspaced (b ∷ w) (subst (λ t. AllDigits 10 (drop (cond t 1 0) (b ∷ w))) p (subst (λ t. AllDigits 10 (cond t w (drop (cond (eqb b 43) 1 0) (b ∷ w)))) m d)) i l e

pub number_unspaced : (w : List ℕ) (z : ℤ) → Number w z → Unspaced w
number_unspaced w z n = sign_unspaced w n.numeral.1

one_split : (xs ys us vs : List ℕ) → xs ++ (32 ∷ us) ≡ ys ++ (32 ∷ vs) → Unspaced xs → Unspaced ys → (xs ≡ ys) × (us ≡ vs)
one_split [] [] us vs e p q = (refl, cc)
one_split [] (y ∷ ys) us vs e p q = let h : y ≡ 32 = cc in absurd (q 0 (omega arith) h)
one_split (x ∷ xs) [] us vs e p q = let h : x ≡ 32 = cc in absurd (p 0 (omega arith) h)
one_split (x ∷ xs) (y ∷ ys) us vs e p q =
    let h : x ≡ y = cc in
    let t : xs ++ (32 ∷ us) ≡ ys ++ (32 ∷ vs) = cc in
    let r = one_split xs ys us vs t (λ i l. p (suc i) (omega arith)) (λ i l. q (suc i) (omega arith)) in
    let a = r.0 in
    (cc, r.1)

at_space : (xs ys : List ℕ) → get_or (xs ++ (32 ∷ ys)) (length xs) 0 ≡ 32
at_space [] ys = refl
at_space (x ∷ xs) ys = at_space xs ys

-- a text without spaces begins with no number and a space
pub none_begins : (text rest : List ℕ) (z : ℤ) → Unspaced text → Begins text z rest → ⊥
none_begins text rest z n b =
    let w = b.word in
    let e = b.whole in
    n (length w) (omega (arith, ap length e, length-append w (32 ∷ rest))) (ap (λ t. get_or t (length w) 0) e ∙ at_space w rest)

-- the word before the first space is the one that is spoken of
pub begins_word : (text word after rest : List ℕ) (z : ℤ) → text ≡ word ++ (32 ∷ after) → Unspaced word → Begins text z rest → Number word z × (after ≡ rest)
begins_word text word after rest z e n b =
    let s = one_split word b.word after rest (sym e ∙ b.whole) n (number_unspaced b.word z b.number) in
    (subst (λ w. Number w z) (sym s.0) b.number, s.1)

number_one : (w : List ℕ) (y z : ℤ) → Number w y → Number w z → y ≡ z
number_one w y z p q = p.is ∙ sym q.is

pub begins_one : (text us vs : List ℕ) (y z : ℤ) → Begins text y us → Begins text z vs → (y ≡ z) × (us ≡ vs)
begins_one text us vs y z p q =
    let b = begins_word text p.word us vs z p.whole (number_unspaced p.word y p.number) q in
    (number_one p.word y z p.number b.0, b.1)

pub written_one : (line : List ℕ) (x y : Fields) → Written line x → Written line y → x ≡ y
written_one line x y p q =
    let a = begins_one line p.after_from q.after_from x.from y.from p.from q.from in
    let b = begins_one p.after_from p.after_to q.after_to x.to y.to p.to (subst (λ t. Begins t y.to q.after_to) (sym a.1) q.to) in
    let c = begins_one p.after_to p.after_room q.after_room x.room y.room p.room (subst (λ t. Begins t y.room q.after_room) (sym b.1) q.room) in
    let d = begins_one p.after_room p.after_price q.after_price x.price y.price p.price (subst (λ t. Begins t y.price q.after_price) (sym c.1) q.price) in
    let e = number_one p.after_price x.weeks y.weeks p.weeks (subst (λ t. Number t y.weeks) (sym d.1) q.weeks) in
    λ i. record { from = a.0 i; to = b.0 i; room = c.0 i; price = d.0 i; weeks = e i }

-- what follows the same number in the same text is the same
pub follow : {s t us vs : List ℕ} {y z : ℤ} → s ≡ t → Begins s y us → Begins t z vs → us ≡ vs
follow {s} {t} {us} {vs} {y} {z} e p q = (begins_one s us vs y z p (subst (λ u. Begins u z vs) (sym e) q)).1

-- where no number is read, none is written
pub stuck : {s t vs : List ℕ} {z : ℤ} → s ≡ t → ((y : ℤ) (us : List ℕ) → Begins s y us → ⊥) → Begins t z vs → ⊥
stuck {s} {t} {vs} {z} e none q = none z vs (subst (λ u. Begins u z vs) (sym e) q)

pub stuck_number : {s t : List ℕ} {z : ℤ} → s ≡ t → ((y : ℤ) → Number s y → ⊥) → Number t z → ⊥
stuck_number {s} {t} {z} e none q = none z (subst (λ u. Number u z) (sym e) q)

-- a number that was read fits its type, so to pass it on keeps it
kept : (w : List ℕ) (z : ℤ) → Number w z → to_z w64 (of_z w64 z) ≡ z
kept w z n = to_z-of_z w64 z (subst (SFits w64) (sym n.is) n.fits)

-- the road of the row that was read is that of each row that is written
module _ (line : List ℕ) (x : Fields) (w : Written line x) (from to room weeks : ℕ) (f : from ≡ clamped (to_z w64 (of_z w64 x.from))) (t : to ≡ clamped (to_z w64 (of_z w64 x.to))) (r : room ≡ clamped (to_z w64 (of_z w64 x.room))) (k : weeks ≡ clamped (to_z w64 (of_z w64 x.weeks))) where
  arc_is : fresh from to room (to_z w64 (of_z w64 x.price)) weeks ≡ arc_of x
  arc_is =
      let a = f ∙ ap clamped (kept w.from.word x.from w.from.number) in
      let b = t ∙ ap clamped (kept w.to.word x.to w.to.number) in
      let c = r ∙ ap clamped (kept w.room.word x.room w.room.number) in
      let d = kept w.price.word x.price w.price.number in
      let e = k ∙ ap clamped (kept w.after_price x.weeks w.weeks) in
      λ i. fresh (a i) (b i) (c i) (d i) (e i)

  pub taken : (before after : Net) (answer : Result ℕ Refusal) → Roaded before after (fresh from to room (to_z w64 (of_z w64 x.price)) weeks) answer → Taken before after line answer
  taken before after answer d = record {
    road = λ y v. subst (λ a. Roaded before after a answer) (arc_is ∙ ap arc_of (written_one line x y w v)) d;
    other = λ none. absurd (none x w);
  }
