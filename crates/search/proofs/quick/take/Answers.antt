use Rattle.std.proofs.Common.{◌<◌, length, take, sym, ◌∙◌, subst, subst₂}
use Rattle.std.specs.List.{All}
use Rattle.flow.specs.Groups.{kind}
use Rattle.search.specs.Links.{head_of, Paired, OpenLinks, OpenBut}
use Rattle.search.specs.Cycles.{Measured}
use Rattle.search.proofs.Quickly.{paired_same, cycle_within, open_but}
use Rattle.search.proofs.quick.take.Goals as goal

pub cut-requires-clause-paired : goal.cut-requires-clause-paired
cut-requires-clause-paired g c = subst (λ l. Paired l c.args.links.now c.args.ups.now) (sym (c.as_slice-2.ensures ∙ c.shift-rise.ensures.read)) (paired_same c.shift-rise.ensures.rises.arcs (subst (λ l. Paired l c.args.links.now c.args.ups.now) c.requires.read c.requires.paired))

pub cut-requires-clause-within : goal.cut-requires-clause-within
cut-requires-clause-within g c =
    let o = g.N.W.Worth.ops in
    let m = c.measure_closed-measure.result in
    let p = take m.count c.measure_closed-measure.new.steps in
    let measured = subst₂ (λ n l. Measured o n l p m.amount m.gain) c.counts-nodes.ensures.0 (c.as_slice.ensures ∙ c.requires.read) c.measure_closed-measure.ensures.measured in
    subst (λ l. All (λ t. head_of l t < length c.args.links.now) p) (sym (c.as_slice-2.ensures ∙ c.shift-rise.ensures.read)) (cycle_within (kind o g.met.N.W.Worth.lawful) (g.N.Network.net c.args.net.now) (g.met.N.Network.sound c.args.net.now) p measured c.shift-rise.ensures.rises.arcs c.requires.long)

pub cut-requires-clause-links : goal.cut-requires-clause-links
cut-requires-clause-links g c =
    let p = take c.measure_closed-measure.result.count c.measure_closed-measure.new.steps in
    subst (λ l. OpenBut l p c.args.links.now) (sym (c.as_slice-2.ensures ∙ c.shift-rise.ensures.read)) (open_but p c.args.links.now c.shift-rise.ensures.rises.arcs c.shift-rise.ensures.full (subst (λ l. OpenLinks l c.args.links.now) c.requires.read c.requires.links))
