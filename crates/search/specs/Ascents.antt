-- What an ascent has left.
use Rattle.std.specs.Prelude.{List}
use Rattle.flow.specs.declared.step.Step.{Step}
use Rattle.search.specs.declared.links.Ascent.{Ascent}
use Rattle.search.specs.Links.{climb}

-- the steps that are still to come
abbrev pub steps_left : Ascent → List Step
steps_left a = climb a.links.net.arcs.now a.links.last.now a.goal a.next a.left
