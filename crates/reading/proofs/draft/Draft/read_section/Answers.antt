use Rattle.std.proofs.Common.{refl, sym, ap, ◌∙◌, arith}
use Rattle.std.proofs.lemmas.Result.{err_from_is_err_and}
use Rattle.book.specs.Arcs.{nodes}
use Rattle.round.specs.Rounds.{book}
use Rattle.reading.specs.Drafts.{so_far}
use Rattle.reading.proofs.Gains.{headed, listed}
use Rattle.reading.proofs.Helds.{book_held}
use Rattle.reading.proofs.Wholly.{few_nodes}
use Rattle.reading.proofs.draft.Draft.read_section.Goals as goal

pub next_count-requires : goal.next_count-requires
next_count-requires c = omega (arith, few_nodes c.args.self.now.round, c.nodes-nodes.ensures)

pub returns-in_err-n : goal.returns-in_err-n
returns-in_err-n c =
    let p = err_from_is_err_and c.from_residual.result c.from_residual.ensures.1 in
    let d = c.args.self.now in
    rw (p.1, p.2) (c.in_err-n.ensures.read (so_far d) (ap nodes (book_held d.kind (book d.round) d.units d.levels) ∙ sym c.nodes-nodes.ensures))

pub returns : goal.returns
returns c =
    let d = c.args.self.now in
    let nodes-are = ap nodes (book_held d.kind (book d.round) d.units d.levels) ∙ sym c.nodes-nodes.ensures in
    listed c.args.entry c.in_ok-n.n d _ _ _ refl (headed c.args.entry c.in_ok-n.n (so_far d) d.reader c.next_count.new.reader (c.in_ok-n.ensures.read (so_far d) nodes-are)) c.next_entries.ensures
