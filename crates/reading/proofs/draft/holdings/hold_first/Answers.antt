use Rattle.std.proofs.Common.{sym, ◌∙◌}
use Rattle.std.proofs.lemmas.Result.{err_from_is_err_and}
use Rattle.round.specs.Rounds.{book}
use Rattle.reading.proofs.HoldingLines.{strange, double, single}
use Rattle.reading.proofs.draft.holdings.hold_first.Goals as goal

pub returns-in_err-held : goal.returns-in_err-held
returns-in_err-held c =
    let p = err_from_is_err_and c.from_residual.result c.from_residual.ensures.1 in
    rw (p.1, p.2) (strange (book c.args.round.now) c.args.h _ c.in_err-held.ensures.refused)

pub returns-then-is_some : goal.returns-then-is_some
returns-then-is_some c = double (book c.args.round.now) c.args.h c.in_ok-held.held c.if-h-gt-MOST_UNITS.false c.in_ok-held.ensures (sym c.is_some.ensures ∙ c.if-is_some.true)

pub returns : goal.returns
returns c = single (book c.args.round.now) c.args.h c.in_ok-held.held c.if-h-gt-MOST_UNITS.false c.in_ok-held.ensures c.requires (sym c.is_some.ensures ∙ c.if-is_some.false) (book c.hold.new.self) c.hold.result c.hold.ensures.outcome
