use Rattle.std.proofs.Common.{sym, ◌∙◌}
use Rattle.round.specs.Rounds.{book}
use Rattle.reading.proofs.Helds.{units_held}
use Rattle.reading.proofs.record.Record.units.Goals as goal

pub returns : goal.returns
returns c = let r = c.args.self.now in c.as_slice.ensures ∙ sym (units_held (book r.round).offers r.units r.counted)
