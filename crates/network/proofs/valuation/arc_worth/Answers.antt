use Rattle.std.proofs.Common.{ap, arith, w64, to_z, of_z}
use Rattle.std.proofs.lemmas.Int.{ints}
use Rattle.network.proofs.Worths.{product_small}
use Rattle.network.proofs.valuation.arc_worth.Goals as goal

pub times-requires : goal.times-requires
times-requires g c =
    let s = c.requires.1 in
    let u = g.met.W.Worth.lawful.size_unit (to_z w64 (of_z w64 c.args.arc.price)) c.args.arc.weeks (omega (arith, ints, s.low)) (omega (arith, ints, s.high)) s.light in
    product_small _ _ (omega (arith, s.held, s.small)) (omega (arith, u, ap g.W.Worth.ops.size c.unit.ensures))
