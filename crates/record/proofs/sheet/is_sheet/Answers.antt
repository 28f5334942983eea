use Rattle.std.proofs.Common.{◌≡◌, ◌<◌, length, sym, ap, ◌∙◌, subst}
use Rattle.std.specs.List.{AllByRecursion}
use Rattle.std.proofs.lemmas.List.{length-map}
use Rattle.std.proofs.lemmas.Bool.{both_ways, eqb-true, eq-eqb}
use Rattle.std.proofs.lemmas.Bool.Decides.{not_from_Decides}
use Rattle.reading.specs.Contents.{contents}
use Rattle.reading.specs.Levels.{numbers}
use Rattle.record.proofs.Sheeting.{row_zero, lines_unfilled, limits_to, limits_from}
use Rattle.record.proofs.sheet.is_sheet.Goals as goal
use Rattle.record.proofs.sheet.is_sheet.Goals.{then-is_empty, else-is_empty}

pub returns-then-are_zero : goal.returns-then-are_zero
returns-then-are_zero c =
    let x = contents c.args.read.now in
    let ls = c.levels.result.now in
    let many : length ls ≡ length x.levels = sym (length-map ls (numbers x.kind)) ∙ ap length c.levels.ensures.written in
    let offers = ap (λ b. b.offers) c.terms.ensures in
    elim c.if-is_empty.branch [
      | then-is_empty w ↦ (
        λ t. record {
          unlevelled = sym many ∙ eqb-true (length ls) 0 (sym w.if-is_empty.ensures);
          unfilled = lines_unfilled x.offers (subst (AllByRecursion (λ u. u ≡ 0)) w.units.ensures (w.are_zero.ensures.0 (sym w.value-is ∙ c.if-are_zero.true)));
          standing = limits_from x.offers (subst (AllByRecursion (λ o. 0 < o.limit)) offers (c.all_stand.ensures.0 t));
        },
        λ sheet. c.all_stand.ensures.1 (subst (AllByRecursion (λ o. 0 < o.limit)) (sym offers) (limits_to x.offers sheet.standing)),
      )
      | else-is_empty w ↦ absurd (both_ways _ w.if-is_empty.false (sym w.value-is ∙ c.if-are_zero.true))
    ]

pub returns-else-are_zero : goal.returns-else-are_zero
returns-else-are_zero c =
    let x = contents c.args.read.now in
    let ls = c.levels.result.now in
    let many : length ls ≡ length x.levels = sym (length-map ls (numbers x.kind)) ∙ ap length c.levels.ensures.written in (
      λ e. absurd (both_ways _ c.if-are_zero.false e),
      λ sheet. elim c.if-is_empty.branch [
        | then-is_empty w ↦ absurd (not_from_Decides _ w.are_zero.ensures (sym w.value-is ∙ c.if-are_zero.false) (subst (AllByRecursion (λ u. u ≡ 0)) (sym w.units.ensures) (row_zero x.offers sheet.unfilled)))
        | else-is_empty w ↦ absurd (both_ways _ (sym w.if-is_empty.ensures) (eq-eqb (length ls) 0 (many ∙ sheet.unlevelled)))
      ],
    )
