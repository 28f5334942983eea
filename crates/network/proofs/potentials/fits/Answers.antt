use Rattle.std.proofs.Common.{rules, tests, ◌≤◌, length, arith}
use Rattle.std.proofs.lemmas.Iterator.{cases_from_all}
use Rattle.std.proofs.lemmas.Iterator.Consumers.{YieldsList-from_first}
use Rattle.std.proofs.lemmas.Iterator.Adapters.{serves_from_places}
use Rattle.std.proofs.lemmas.Grind.{common_steps}
use Rattle.flow.specs.Arcs.{blank}
use Rattle.network.specs.Networks.{SoundArc}
use Rattle.network.specs.Potentials.{potential, FitsOn}
use Rattle.network.proofs.Reading.{among_more, sound_at}
use Rattle.network.proofs.Fitting.{decides_each}
use Rattle.network.proofs.potentials.fits.Goals as goal

pub all-requires-clause-callable : goal.all-requires-clause-callable
all-requires-clause-callable g c =
    let o = g.W.Worth.ops in
    let n = g.N.Network.net c.args.net.now in
    let row = c.args.potentials.now in
    serves_from_places (YieldsList-from_first (λ x. x) (λ rest. rest) n.arcs c.arcs.ensures) (λ a q r. search rules) (λ a k h e.
    let s : SoundArc n.nodes a = sound_at (g.met.N.Network.sound c.args.net.now) k h e in
    let s' : SoundArc (length row) a = among_more n.nodes (length row) a (omega (arith, c.counts-nodes.ensures.0)) s in
    let small : o.size (potential o row a.from) ≤ 1000000 = grind (arith, common_steps, c.are_small.ensures.0 c.if-are_small.true a.from, s.from_in) in
    search rules)

pub returns-then-are_small : goal.returns-then-are_small
returns-then-are_small g c =
    let P = FitsOn g.W.Worth.ops c.args.potentials.now in
    let arcs = (g.N.Network.net c.args.net.now).arcs in
    let each = decides_each P c.all.result arcs (cases_from_all _ _ _ P (λ a. P a → ⊥) c.all.ensures.ran (YieldsList-from_first (λ x. x) (λ rest. rest) arcs c.arcs.ensures) (λ a q k. search (rules, tests)) (λ a q k. search (rules, tests))) blank in
    (λ e. record { enough = omega (arith, c.counts-nodes.ensures.0); fits = each.0 e; small = λ v h. grind (arith, common_steps, c.are_small.ensures.0 c.if-are_small.true v, h) }, λ f. each.1 f.fits)
