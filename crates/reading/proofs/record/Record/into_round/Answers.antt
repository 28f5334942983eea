use Rattle.std.proofs.Common.{sym}
use Rattle.round.specs.Rounds.{book}
use Rattle.round.proofs.Built.{rounds_built}
use Rattle.reading.proofs.Helds.{book_held}
use Rattle.reading.proofs.record.Record.into_round.Goals as goal

pub returns : goal.returns
returns c = let r = c.args.self in record { outcome = sym (book_held r.kind (book r.round) r.units r.levels); built = rounds_built r.round }
