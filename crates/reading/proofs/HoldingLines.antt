-- The lines of holdings, and the holdings that a round takes.
use Rattle.std.proofs.Common.{◌≡◌, ℕ, ◌<◌, ◌≤◌, true, false, List, [], ◌∷◌, ◌++◌, map, length, get_or, is_some, IfOk, Some, None, Ok, Err, Option, Result, sym, refl, ap, ◌∙◌, subst, inl, inr, arith, MatchResult}
use Rattle.std.specs.Option.{option_map}
use Rattle.std.specs.List.{ContainsAt as Has}
use Rattle.std.proofs.lemmas.List.{length-map, get_or-map}
use Rattle.std.proofs.lemmas.Bool.{both_ways}
use Rattle.tables.specs.Refusals.{when, First, number}
use Rattle.tables.specs.declared.refusal.Refusal.{Refusal}
use Rattle.tables.specs.declared.refusal.Refusal.TheVariants.{Double}
use Rattle.tables.proofs.Firsts.{here, next, not_first, not_rest}
use Rattle.text.specs.Numbers.{unsigned}
use Rattle.text.specs.Rows.{row_spelt, SpellsRow}
use Rattle.book.specs.Books.{Book, no_holding, pair, spot_of}
use Rattle.book.specs.declared.holding.Holding.{Holding}
use Rattle.terms.proofs.Spots.{spot_some, spot_none}
use Rattle.round.specs.Holdings.{put_at, Strange, Holds, AnswersHolding}
use Rattle.round.specs.Rounds.{with_holdings}
use Rattle.layout.specs.Layout.{holding, holding_row, Short, spell, with_line}
use Rattle.layout.specs.Records.{Contents}
use Rattle.reading.specs.Bounds.{Clamped}
use Rattle.reading.specs.Held.{held}
use Rattle.reading.specs.Holdings.{holding_rules, HoldsFirst}
use Rattle.reading.specs.declared.kind.Kind.{Kind}
use Rattle.reading.specs.declared.level.Level.{Level}
use Rattle.reading.proofs.Steps.{Lies}
use Rattle.reading.proofs.Clamps.{kept_within, beyond_to, beyond_from}

-- Whether a pair has an entry

found : (f : ℕ → ℕ) (s : Option ℕ) → is_some (option_map f s) ≡ true → (k : ℕ) × (Some k ≡ s)
found f (Some k) e = (k, refl)
found f None e = absurd (both_ways false refl e)

lost : (f : ℕ → ℕ) (s : Option ℕ) → is_some (option_map f s) ≡ false → None ≡ s
lost f (Some k) e = absurd (both_ways true e refl)
lost f None e = refl

spot_has : (hs : List Holding) (m i k : ℕ) → Some k ≡ spot_of hs m i → Has (map pair hs) (m, i)
spot_has hs m i k e =
    let s = spot_some hs m i k e in
    (k, omega (arith, length-map hs pair, s.0), λ d. get_or-map pair hs k no_holding d s.0 ∙ s.1 no_holding)

-- What a new holding breaks

-- there is no such member or item
pub strange : (b : Book) (h : Holding) (d : Refusal) → First (when 1 (Strange b h.member h.item) ∷ []) (Some (number d)) → HoldsFirst b b h (Err d)
strange b h d f = record { refused = (f.0, λ known. let none = f.1 known in absurd cc); outcome = refl }

module _ (b : Book) (h : Holding) (o : Option ℕ) (few : h.units ≤ 1000) (a : AnswersHolding b h.member h.item (Ok o)) where
  -- the pair has an entry
  pub double : is_some o ≡ true → HoldsFirst b b h (Err Double)
  double some =
      let s = found _ (spot_of b.holdings h.member h.item) (ap is_some (sym a.answer) ∙ some) in
      record { refused = next (not_first a.refused) (next (λ p. omega arith) (here (spot_has b.holdings h.member h.item s.0 s.1))); outcome = refl }

  -- it has none, and there is room
  pub single : length b.holdings < 128 → is_some o ≡ false → (after : Book) (r : Result (Unit {0}) Refusal) → Holds b after h r → HoldsFirst b after h r
  single room none after r t =
      let absent = lost _ (spot_of b.holdings h.member h.item) (ap is_some (sym a.answer) ∙ none) in
      let known = not_first a.refused in
      record {
        refused = next known (next (λ p. omega arith) (next (spot_none b.holdings h.member h.item absent) (((t.refused.1 known).1 (λ p. omega (arith, p.0))).1 (λ p. omega arith))));
        outcome = subst (λ s. MatchResult r (λ _. after ≡ with_holdings b (put_at s b.holdings h)) (λ _. after ≡ b)) (sym absent) t.outcome;
      }

-- What a line says, and what 32 bits hold of it

-- the holding that a row says
abbrev pub said : List ℕ → Holding
said row = record { member = get_or row 0 0; item = get_or row 1 0; units = get_or row 2 0 }

abbrev Clamps : Holding → Holding → Type 0
Clamps l h = Clamped l.member h.member × Clamped l.item h.item × Clamped l.units h.units

module _ (b : Book) (items : length b.items ≤ 16) (members : length b.members ≤ 32) (l h : Holding) (k : Clamps l h) where
  strange_to : Strange b l.member l.item → Strange b h.member h.item
  strange_to (inl p) = inl (beyond_to l.member h.member (length b.members) k.0 (omega arith) p)
  strange_to (inr p) = inr (beyond_to l.item h.item (length b.items) k.1 (omega arith) p)

  strange_from : Strange b h.member h.item → Strange b l.member l.item
  strange_from (inl p) = inl (beyond_from l.member h.member (length b.members) k.0 (omega arith) p)
  strange_from (inr p) = inr (beyond_from l.item h.item (length b.items) k.1 (omega arith) p)

  -- known numbers are kept
  same_pair : (Strange b h.member h.item → ⊥) → (h.member ≡ l.member) × (h.item ≡ l.item)
  same_pair known =
      let m : length b.members ≤ h.member → ⊥ = λ p. known (inl p) in
      let n : length b.items ≤ h.item → ⊥ = λ p. known (inr p) in
      (kept_within l.member h.member (length b.members) k.0 (omega arith) (omega arith), kept_within l.item h.item (length b.items) k.1 (omega arith) (omega arith))

  -- the line breaks the rules that the holding breaks
  pub same_rules : (o : Option ℕ) → First (holding_rules b h) o → First (holding_rules b l) o
  same_rules o f = (λ p. f.0 (strange_to p), λ q. others (λ p. q (strange_from p)) (f.1 (λ p. q (strange_from p))))
    where
      doubles : pair h ≡ pair l → First (when 6 (Has (map pair b.holdings) (pair h)) ∷ []) o → First (when 6 (Has (map pair b.holdings) (pair l)) ∷ []) o
      doubles same f = subst (λ p. First (when 6 (Has (map pair b.holdings) p) ∷ []) o) same f

      others : (Strange b h.member h.item → ⊥) → First (when 3 (1000 < h.units) ∷ when 6 (Has (map pair b.holdings) (pair h)) ∷ []) o → First (when 3 (1000 < l.units) ∷ when 6 (Has (map pair b.holdings) (pair l)) ∷ []) o
      others known f =
          let s = same_pair known in
          (λ p. f.0 (beyond_to l.units h.units 1001 k.2 (omega arith) p), λ q. doubles (λ j. (s.0 j, s.1 j)) (f.1 (λ p. q (beyond_from l.units h.units 1001 k.2 (omega arith) p))))

  -- where it breaks none, it is the holding
  same_holding : First (holding_rules b h) None → h ≡ l
  same_holding f =
      let s = same_pair (not_first f) in
      let small = not_first (not_rest f) in
      let u : h.units ≡ l.units = kept_within l.units h.units 1001 k.2 (omega arith) (omega arith) in
      λ j. record { member = s.0 j; item = s.1 j; units = u j }

  -- the contents have what the line says
  pub line_held : (kind : Kind) (us : List ℕ) (ls : List Level) (after : Book) (r : Result (Unit {0}) Refusal) → HoldsFirst b after h r → IfOk r (λ _. with_line holding l (held kind b us ls) ≡ held kind after us ls)
  line_held kind us ls after (Ok u) t = ap (λ m. held kind (with_holdings b (b.holdings ++ m ∷ [])) us ls) (sym (same_holding t.refused)) ∙ ap (λ c. held kind c us ls) (sym t.outcome)
  line_held kind us ls after (Err d) t = tt

-- The row of a line

row_is : (row : List ℕ) → length row ≡ 3 → row ≡ holding_row (said row)
row_is [] n = absurd (omega arith)
row_is (a ∷ []) n = absurd (omega arith)
row_is (a ∷ b ∷ []) n = absurd (omega arith)
row_is (a ∷ b ∷ c ∷ []) n = refl
row_is (a ∷ b ∷ c ∷ d ∷ ds) n = absurd (omega arith)

pub row_lies : (row bytes : List ℕ) (x : Contents) → SpellsRow unsigned 3 bytes row → Lies holding x (SpellsRow unsigned 3) row (said row)
row_lies row bytes x i = record { spells = λ bytes s. s.spelling ∙ ap (row_spelt unsigned) (row_is row s.count); fits = subst (Short unsigned) (row_is row i.count) i.short }

pub row_from : (h : Holding) → Short unsigned (holding_row h) → (row : List ℕ) × SpellsRow unsigned 3 (spell holding h) row
row_from h short = (holding_row h, record { some = omega arith; count = refl; spelling = refl; short = short })
