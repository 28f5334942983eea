-- The lines of levels.
use Rattle.std.proofs.Common.{◌≡◌, ℕ, List, [], ◌∷◌, length, get_or, ℤ, pos, Some, None, Ok, Err, Result, sym, refl, ap, ◌∙◌, subst, inr, arith}
use Rattle.tables.specs.Refusals.{number, First}
use Rattle.tables.specs.declared.refusal.Refusal.{Refusal}
use Rattle.tables.proofs.Firsts.{here, next}
use Rattle.text.specs.Numbers.{signed}
use Rattle.text.specs.Rows.{SpellsRow}
use Rattle.layout.specs.Layout.{level, Short, spell, Fits, rules}
use Rattle.layout.specs.Records.{Kind, by_money, by_money_then_weeks, Contents, parts}
use Rattle.reading.specs.Levels.{numbers, LevelTested}
use Rattle.reading.specs.declared.level.Level.{Level}
use Rattle.reading.proofs.Steps.{Lies, Judged}

-- Rows of one number or two

-- the bytes of a line are the level
abbrev pub IsLevel : Kind → List ℕ → Level → Type 0
IsLevel k bytes l = SpellsRow signed (parts k) bytes (numbers k l)

one_entry : (row : List ℤ) → length row ≡ 1 → row ≡ get_or row 0 (pos 0) ∷ []
one_entry [] n = absurd (omega arith)
one_entry (a ∷ []) n = refl
one_entry (a ∷ b ∷ row) n = absurd (omega arith)

two_entries : (row : List ℤ) → length row ≡ 2 → row ≡ get_or row 0 (pos 0) ∷ get_or row 1 (pos 0) ∷ []
two_entries [] n = absurd (omega arith)
two_entries (a ∷ []) n = absurd (omega arith)
two_entries (a ∷ b ∷ []) n = refl
two_entries (a ∷ b ∷ d ∷ row) n = absurd (omega arith)

-- each line of a level can be read
pub level_from : (k : Kind) (x : Contents) → x.kind ≡ k → (zs : List ℤ) → Fits level x zs → (l : Level) × IsLevel k (spell level zs) l
level_from k x e zs f = go k zs (f.0 ∙ ap parts e) f.1
  where
    go : (k : Kind) (zs : List ℤ) → length zs ≡ parts k → Short signed zs → (l : Level) × IsLevel k (spell level zs) l
    go by_money zs n short = (record { cents = get_or zs 0 (pos 0); weeks = pos 0 }, subst (λ ys. SpellsRow signed 1 (spell level zs) ys) (one_entry zs n) (record { some = omega arith; count = n; spelling = refl; short = short }))
    go by_money_then_weeks zs n short = (record { cents = get_or zs 0 (pos 0); weeks = get_or zs 1 (pos 0) }, subst (λ ys. SpellsRow signed 2 (spell level zs) ys) (two_entries zs n) (record { some = omega arith; count = n; spelling = refl; short = short }))

pub level_fits : (k : Kind) (x : Contents) → x.kind ≡ k → (bytes : List ℕ) (l : Level) → IsLevel k bytes l → Fits level x (numbers k l)
level_fits k x e bytes l s = (s.count ∙ ap parts (sym e), s.short)

-- a level that was tested
pub level_judged : (k : Kind) (x : Contents) → x.kind ≡ k → (bytes : List ℕ) (l : Level) → IsLevel k bytes l → (r : Result Level Refusal) → LevelTested k l r → Judged level x (IsLevel k) l (numbers k) r
level_judged k x e bytes l i (Ok m) (same, fair) =
    subst (λ v. Lies level x (IsLevel k) l (numbers k v) × First (rules level x (numbers k v)) None) (sym same) (record { spells = λ bytes s. s.spelling; fits = level_fits k x e bytes l i }, next (λ p. omega arith) refl)
level_judged k x e bytes l i (Err d) (same, large) = inr (numbers k l, record { spells = λ bytes s. s.spelling; fits = level_fits k x e bytes l i }, subst (λ d. First (rules level x (numbers k l)) (Some (number d))) (sym same) (here large))
