use Rattle.std.proofs.Common.{◌≡◌, true, false, [], ◌∷◌, codes, refl, ap, ◌∙◌}
use denote.Enum.Bare.{sameb}
use Rattle.text.specs.declared.section.Section.TheVariants.{Kinds}
use Rattle.layout.specs.Layout.{head, spell}
use Rattle.layout.specs.Records.{parts}
use Rattle.layout.specs.Render.{kind_section}
use Rattle.reading.specs.Kinds.{kind as kind_as}
use Rattle.reading.specs.contracts.kind.Kind.{the_type}
use Rattle.reading.specs.declared.kind.Kind.{Kind}
use Rattle.reading.specs.declared.kind.Kind.TheVariants.{Money, MoneyThenWeeks}
use Rattle.record.proofs.Adding.{adds_same, adds_then}
use Rattle.record.proofs.file.draft.Draft.kind.Goals as goal

-- a kind that is not money then weeks has one word, and that one has two
one_word : (k : Kind) → false ≡ sameb the_type k MoneyThenWeeks → spell (head Kinds) (parts (kind_as k)) ∷ codes "money" ∷ [] ≡ kind_section (kind_as k)
one_word Money e = refl
one_word MoneyThenWeeks e = cc

two_words : (k : Kind) → true ≡ sameb the_type k MoneyThenWeeks → spell (head Kinds) (parts (kind_as k)) ∷ codes "money" ∷ codes "weeks" ∷ [] ≡ kind_section (kind_as k)
two_words Money e = cc
two_words MoneyThenWeeks e = refl

pub returns-then-eq : goal.returns-then-eq
returns-then-eq c =
    adds_same (ap (λ n. spell (head Kinds) n ∷ codes "money" ∷ codes "weeks" ∷ []) c.parts.ensures ∙ two_words c.args.kind c.if-eq.ensures)
    (adds_then c.head.ensures (adds_then c.line.ensures c.line-then-eq.ensures))

pub returns-else-eq : goal.returns-else-eq
returns-else-eq c =
    adds_same (ap (λ n. spell (head Kinds) n ∷ codes "money" ∷ []) c.parts.ensures ∙ one_word c.args.kind c.if-eq.ensures)
    (adds_then c.head.ensures c.line.ensures)
