use Rattle.std.proofs.Common.{◌≡◌, ◌<◌, ◌≤◌, [], ◌∷◌, ◌++◌, length, sym, subst, refl, arith, w64}
use Rattle.std.proofs.lemmas.Result.{err_from_is_err_and}
use Rattle.std.proofs.lemmas.Int.{to_z-of_z}
use Rattle.std.proofs.lemmas.List.{length_push}
use Rattle.tables.proofs.Entries.{grew}
use Rattle.network.specs.Networks.{Sound}
use Rattle.haul_table.specs.Roads.{hauled}
use Rattle.haul_table.proofs.Growing.{more_sound}
use Rattle.haul_table.proofs.Admitting.{admitted}
use Rattle.haul_table.proofs.Standing.{law_holds}
use Rattle.haul_table.proofs.table.HaulTable.road.Goals as goal

pub returns-in_err-admit-clause-outcome : goal.returns-in_err-admit-clause-outcome
returns-in_err-admit-clause-outcome g c =
    let p = err_from_is_err_and c.from_residual.result c.from_residual.ensures.1 in
    let q = rw (c.len-number.ensures.count, c.new-arc.ensures, to_z-of_z w64 c.args.price c.ranges.price) at c.in_err-admit.ensures in
    rw (p.1, p.2) (record { refused = q; outcome = refl })

pub returns-in_err-admit-clause-law : goal.returns-in_err-admit-clause-law
returns-in_err-admit-clause-law g c = law_holds g.met.W.Worth.lawful

pub invariant_of-self : goal.invariant_of-self
invariant_of-self g c =
    let before = hauled c.args.self.now in
    let arc = c.new-arc.result in
    let none : arc.flow ≡ 0 = rw c.new-arc.ensures in
    let a = admitted 64 c.len-number.result arc none c.in_ok-admit.ensures in
    let count = c.len-number.ensures.count in
    let few : length before.arcs < 256 = let b = a.1 in omega arith in
    let e : c.push.new.self ≡ before.arcs ++ (arc ∷ []) = grew 256 before.arcs c.push.new.self _ c.push.result c.push.ensures (omega arith) in
    record {
      few = subst (λ xs. length xs ≤ 256) (sym e) (omega (arith, length_push before.arcs arc));
      sound = subst (λ xs. Sound (record { nodes = 64; arcs = xs })) (sym e) (more_sound before arc c.args.self.now.sound a.0 (omega arith));
    }

pub returns-in_err-push-clause-law : goal.returns-in_err-push-clause-law
returns-in_err-push-clause-law g c = law_holds g.met.W.Worth.lawful

pub returns-clause-law : goal.returns-clause-law
returns-clause-law g c = law_holds g.met.W.Worth.lawful
