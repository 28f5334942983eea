use Rattle.std.proofs.Common.{refl, subst, ap, inl, inr}
use Rattle.std.proofs.lemmas.Result.{err_from_is_err_and}
use Rattle.std.proofs.lemmas.Bool.Decides.{not_from_Decides}
use Rattle.tables.specs.Refusals.{number}
use Rattle.layout.specs.Records.{by_money, by_money_then_weeks, book_of}
use Rattle.reading.specs.Contents.{contents}
use Rattle.record.specs.Sheets.{ClearedRound}
use Rattle.record.proofs.Passing.{evidence}
use Rattle.record.proofs.Sheeting.{cleared_as, roomy_short, roomy_unread}
use Rattle.record.proofs.sheet.clear_sheet.Goals as goal
use Rattle.record.proofs.sheet.clear_sheet.Goals.{in-Money, in-MoneyThenWeeks}

pub returns-in_err-read : goal.returns-in_err-read
returns-in_err-read c =
    let p = err_from_is_err_and c.from_residual.result c.from_residual.ensures.1 in
    rw (p.1, p.2) (record { outcome = (refl, inl c.in_err-read.ensures.outcome); roomy = roomy_unread c.args.text.now c.args.page.now _ c.in_err-read.ensures.outcome; law = evidence })

pub returns-then-not-is_sheet : goal.returns-then-not-is_sheet
returns-then-not-is_sheet c =
    record { outcome = (refl, inr (inl (record { contents = contents c.in_ok-read.read; reads = c.in_ok-read.ensures.outcome; not = not_from_Decides _ c.is_sheet.ensures c.if-not-is_sheet.true; number = ap (λ f. number f.refusal) c.into.ensures; line = ap (λ f. f.line) c.into.ensures }))); roomy = λ room e. cc (ap (λ f. f.refusal) c.into.ensures); law = evidence }

pub returns-in_err-cleared : goal.returns-in_err-cleared
returns-in_err-cleared c =
    let p = err_from_is_err_and c.from_residual-in_err-cleared.result c.from_residual-in_err-cleared.ensures.1 in
    let x = contents c.in_ok-read.read in
    let before = c.args.page.now in
    let done : ClearedRound x.kind (book_of x) before c.match-kind.page c.match-kind.cleared = elim c.match-kind.branch [
      | in-Money w ↦ cleared_as by_money x.kind _ (book_of x) before _ c.match-kind.page _ c.match-kind.cleared w.in-Money.ensures c.into_round-round.ensures.outcome w.page-is w.cleared-is w.clear_by-cleared.ensures
      | in-MoneyThenWeeks w ↦ cleared_as by_money_then_weeks x.kind _ (book_of x) before _ c.match-kind.page _ c.match-kind.cleared w.in-MoneyThenWeeks.ensures c.into_round-round.ensures.outcome w.page-is w.cleared-is w.clear_by-cleared-in-MoneyThenWeeks.ensures
    ] in
    let left = subst (ClearedRound x.kind (book_of x) before c.match-kind.page) c.in_err-cleared.was done in
    rw (p.1, p.2) (record { outcome = (left.0, inr (inr (record { sheet = x; reads = c.in_ok-read.ensures.outcome; is = c.is_sheet.ensures.0 c.if-not-is_sheet.false; short = left.1; line = refl }))); roomy = roomy_short x.kind (book_of x) before _ left.1; law = evidence })

pub returns : goal.returns
returns c =
    let x = contents c.in_ok-read.read in
    let before = c.args.page.now in
    let done : ClearedRound x.kind (book_of x) before c.match-kind.page c.match-kind.cleared = elim c.match-kind.branch [
      | in-Money w ↦ cleared_as by_money x.kind _ (book_of x) before _ c.match-kind.page _ c.match-kind.cleared w.in-Money.ensures c.into_round-round.ensures.outcome w.page-is w.cleared-is w.clear_by-cleared.ensures
      | in-MoneyThenWeeks w ↦ cleared_as by_money_then_weeks x.kind _ (book_of x) before _ c.match-kind.page _ c.match-kind.cleared w.in-MoneyThenWeeks.ensures c.into_round-round.ensures.outcome w.page-is w.cleared-is w.clear_by-cleared-in-MoneyThenWeeks.ensures
    ] in
    let filed = subst (ClearedRound x.kind (book_of x) before c.match-kind.page) c.in_ok-cleared.was done in
    record { outcome = record { sheet = x; reads = c.in_ok-read.ensures.outcome; is = c.is_sheet.ensures.0 c.if-not-is_sheet.false; filed = filed }; roomy = tt; law = evidence }
