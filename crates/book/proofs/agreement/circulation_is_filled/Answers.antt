use Rattle.book.proofs.Places.{filling_keeps_units}
use Rattle.book.proofs.Best.{circulation_is_filled_lem, alike_filled}
use Rattle.book.proofs.agreement.circulation_is_filled.Goals as goal

pub returns : goal.returns
returns g c = record { circulation_is_filled = circulation_is_filled_lem g.W.Worth.ops; units = filling_keeps_units; alike = alike_filled }
