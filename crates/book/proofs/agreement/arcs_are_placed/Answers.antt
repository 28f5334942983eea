use Rattle.book.proofs.Places.{arcs_are_placed_lem}
use Rattle.book.proofs.agreement.arcs_are_placed.Goals as goal

pub returns : goal.returns
returns c = arcs_are_placed_lem
