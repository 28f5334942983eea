-- The lines of the kind.
use Rattle.std.proofs.Common.{◌≡◌, ℕ, ◌⊎◌, ◌∷◌, Ok, Err, Result, sym, refl, ap, ◌∙◌, inl, inr, arith}
use Rattle.tables.specs.declared.refusal.Refusal.{Refusal}
use Rattle.text.specs.Numbers.{spelt}
use Rattle.text.specs.Sections.{letter}
use Rattle.text.specs.declared.section.Section.TheVariants.{Kinds}
use Rattle.layout.specs.Layout.{head, Fits}
use Rattle.layout.specs.Records.{Contents, parts}
use Rattle.reading.specs.Kinds.{kind as kind_as, WithParts}
use Rattle.reading.specs.Reading.{IsHead}
use Rattle.reading.specs.declared.kind.Kind.{Kind}
use Rattle.reading.specs.declared.kind.Kind.TheVariants.{Money, MoneyThenWeeks}
use Rattle.reading.proofs.Counted.{no_count}
use Rattle.reading.proofs.Steps.{Judged}

kind_fits : (x : Contents) (k : Kind) → Fits (head Kinds) x (parts (kind_as k))
kind_fits x Money = (inl refl, (omega arith, tt))
kind_fits x MoneyThenWeeks = (inr refl, (omega arith, tt))

-- the head of K, by the count of the kind's parts
pub kind_judged : (x : Contents) (n : ℕ) (r : Result Kind Refusal) → WithParts n r → Judged (head Kinds) x (IsHead Kinds) n (λ k. parts (kind_as k)) r
kind_judged x n (Ok k) e = (record { spells = λ bytes i. i.0 ∙ ap (λ m. letter Kinds ∷ 32 ∷ spelt m) (sym e); fits = kind_fits x k }, refl)
kind_judged x n (Err d) (e, not) = inl (e, no_count Kinds x n none)
  where
    none : (n ≡ 1) ⊎ (n ≡ 2) → ⊥
    none (inl p) = not Money (sym p)
    none (inr p) = not MoneyThenWeeks (sym p)
