use Rattle.std.proofs.Common.{sym, ap, ◌∙◌, subst, inl, inr}
use Rattle.std.proofs.lemmas.Result.{err_from_is_err_and}
use Rattle.layout.specs.Records.{by_money, by_money_then_weeks}
use Rattle.reading.specs.Contents.{contents}
use Rattle.record.proofs.Checking.{Told, checked, valid_read}
use Rattle.record.specs.declared.passed.Total.TheVariants.{Money, MoneyThenWeeks}
use Rattle.record.proofs.Passing.{evidence}
use Rattle.record.proofs.Payoffs.{money_worth, pair_worth}
use Rattle.record.proofs.check.check.Goals as goal
use Rattle.record.proofs.check.check.Goals.{in-Money, in-MoneyThenWeeks}

pub returns-in_err-read : goal.returns-in_err-read
returns-in_err-read c =
    let p = err_from_is_err_and c.from_residual.result c.from_residual.ensures.1 in
    rw (p.1, p.2) (record { outcome = inl c.in_err-read.ensures.outcome; law = evidence })

pub returns-in_err-tested : goal.returns-in_err-tested
returns-in_err-tested c =
    let p = err_from_is_err_and c.from_residual-in_err-tested.result c.from_residual-in_err-tested.ensures.1 in
    let text = c.args.text.now in
    let x = contents c.in_ok-read.read in
    let r = c.in_ok-read.ensures.outcome in
    let v = valid_read text x r in
    let told : Told text c.match-kind.tested = elim c.match-kind.branch [
      | in-Money w ↦ subst (Told text) (sym w.tested-is) (checked text x by_money (sym w.in-Money.ensures) (λ b a t e. e ∙ ap Money (money_worth b a)) r _ (w.check_by-tested.ensures v (sym w.in-Money.ensures)))
      | in-MoneyThenWeeks w ↦ subst (Told text) (sym w.tested-is) (checked text x by_money_then_weeks (sym w.in-MoneyThenWeeks.ensures) (λ b a t e. e ∙ ap MoneyThenWeeks (pair_worth b a)) r _ (w.check_by-tested-in-MoneyThenWeeks.ensures v (sym w.in-MoneyThenWeeks.ensures)))
    ] in
    rw (p.1, p.2) (record { outcome = inr (subst (Told text) c.in_err-tested.was told); law = evidence })

pub returns : goal.returns
returns c =
    let text = c.args.text.now in
    let x = contents c.in_ok-read.read in
    let r = c.in_ok-read.ensures.outcome in
    let v = valid_read text x r in
    let told : Told text c.match-kind.tested = elim c.match-kind.branch [
      | in-Money w ↦ subst (Told text) (sym w.tested-is) (checked text x by_money (sym w.in-Money.ensures) (λ b a t e. e ∙ ap Money (money_worth b a)) r _ (w.check_by-tested.ensures v (sym w.in-Money.ensures)))
      | in-MoneyThenWeeks w ↦ subst (Told text) (sym w.tested-is) (checked text x by_money_then_weeks (sym w.in-MoneyThenWeeks.ensures) (λ b a t e. e ∙ ap MoneyThenWeeks (pair_worth b a)) r _ (w.check_by-tested-in-MoneyThenWeeks.ensures v (sym w.in-MoneyThenWeeks.ensures)))
    ] in
    record { outcome = subst (Told text) c.in_ok-tested.was told; law = evidence }
