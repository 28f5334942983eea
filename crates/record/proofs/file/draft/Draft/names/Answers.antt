use Rattle.std.proofs.Common.{◌∙◌, map-id}
use Rattle.record.proofs.Adding.{adds_none, adds_same, adds_then, adds_more, adds_all}
use Rattle.record.proofs.file.draft.Draft.names.Goals as goal

pub loop-name-init : goal.loop-name-init
loop-name-init c = adds_none _ c.head.new.self.few

pub loop-name-preserved : goal.loop-name-preserved
loop-name-preserved c = adds_more (λ s. s) c.args.names.now c.loop-name.name-index c.name-item.result c.loop-name-test.true (c.as_slice.ensures ∙ c.name-item.is) c.loop-name.invariant c.line.ensures

pub returns : goal.returns
returns c = adds_then c.head.ensures (adds_same (map-id c.args.names.now) (adds_all (λ s. s) c.args.names.now c.loop-name.name-index c.loop-name-test.false c.loop-name.invariant))
