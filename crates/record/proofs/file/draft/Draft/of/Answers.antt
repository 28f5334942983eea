use Rattle.std.proofs.Common.{map, ap, ◌∙◌}
use Rattle.text.specs.declared.section.Section.TheVariants.{Items, Members, Holdings}
use Rattle.layout.specs.Layout.{holding}
use Rattle.layout.specs.Records.{contents_of}
use Rattle.layout.specs.Render.{section, kind_section}
use Rattle.reading.specs.Levels.{numbers}
use Rattle.round.specs.Closed.{closed_book, closed_allotment}
use Rattle.record.proofs.Adding.{adds_same, adds_then}
use Rattle.record.proofs.Filing.{drafted, names_section}
use Rattle.record.proofs.file.draft.Draft.of.Goals as goal

pub returns : goal.returns
returns g c =
    let items = c.item_names.ensures ∙ ap (λ b. b.items) c.terms-terms.ensures in
    let members = c.member_names.ensures ∙ ap (λ b. b.members) c.terms-terms.ensures in
    let holdings = c.held.ensures ∙ ap (λ b. b.holdings) c.terms-terms.ensures in
    let round = c.args.round.now in
    let x = contents_of g.W.Levelled.sort (closed_book round) (closed_allotment round) (map (λ w. numbers g.W.Levelled.sort (g.W.Levelled.level w)) c.args.levels.now) in
    drafted x c.new.result c.levels.new.self.text c.new.ensures
    (adds_then (adds_same (ap kind_section c.kind.ensures) c.kind-2.ensures)
    (adds_then (adds_same (names_section Items _ _ items) c.names.ensures)
    (adds_then (adds_same (names_section Members _ _ members) c.names-2.ensures)
    (adds_then (adds_same (ap (section Holdings holding) holdings) c.holdings.ensures)
    (adds_then c.offers.ensures c.levels.ensures)))))
