use Rattle.std.proofs.Common.{pos, sym, rules}
use Rattle.std.proofs.Output.{has_written_append, has_written_of_eq}
use Rattle.answers.proofs.Listing.{more_lines}
use Rattle.answers.proofs.answer.OfferLinesDisplay.fmt.Goals as goal

pub loop-number-preserved : goal.loop-number-preserved
loop-number-preserved g c =
    let line = more_lines c.loop-number.number c.args.self.now.0.now (record { payoff = pos 0; weeks = 0 }) (search rules) in
    λ plain. has_written_of_eq _ _ _ _ _ (sym line) (has_written_append _ _ _ _ _ _ (c.loop-number.invariant plain) (search rules))
