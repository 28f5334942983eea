use Rattle.std.proofs.Common.{arith}
use Rattle.terms.proofs.Spots.{spot_some}
use Rattle.terms.proofs.holdings.units_held.Goals as goal

pub offset_bounds-holdings-k : goal.offset_bounds-holdings-k
offset_bounds-holdings-k c = let found = spot_some c.args.holdings.now c.args.member c.args.item c.in_ok-k.k c.in_ok-k.ensures in omega (arith, found.0)

pub bounds-holdings-k : goal.bounds-holdings-k
bounds-holdings-k c = (spot_some c.args.holdings.now c.args.member c.args.item c.in_ok-k.k c.in_ok-k.ensures).0
