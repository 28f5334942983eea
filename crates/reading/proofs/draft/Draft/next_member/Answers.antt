use Rattle.std.proofs.Common.{Ok, refl}
use Rattle.std.proofs.lemmas.Result.{err_from_is_err_and}
use Rattle.tables.specs.Refusals.{refusal}
use Rattle.layout.specs.Layout.{member}
use Rattle.round.specs.Rounds.{book}
use Rattle.reading.specs.Drafts.{so_far}
use Rattle.reading.specs.declared.entry.Entry.TheVariants.{Member}
use Rattle.reading.proofs.Gains.{refused, told}
use Rattle.reading.proofs.Named.{IsName, referred, member_rules, member_lies, member_held}
use Rattle.reading.proofs.Steps.{missed}
use Rattle.reading.proofs.draft.Draft.next_member.Goals as goal

pub returns-in_err-name : goal.returns-in_err-name
returns-in_err-name c =
    let p = err_from_is_err_and c.from_residual.result c.from_residual.ensures.1 in
    rw (p.1, p.2) (missed member (so_far c.args.self.now) IsName c.in_err-name.ensures (λ name _. referred c.args.self.now.reader.rest name))

pub returns-in_err-at_line : goal.returns-in_err-at_line
returns-in_err-at_line c =
    let p = err_from_is_err_and c.from_residual-in_err-at_line.result c.from_residual-in_err-at_line.ensures.1 in
    let n = c.in_ok-name.ensures in
    let name = c.in_ok-name.name.said in
    let x = so_far c.args.self.now in
    let r = c.member.result in
    rw (p.1, p.2) (refused Member c.args.self.now IsName name.now n.1 (member_lies x name) _ n.0 r (member_rules x name.now (refusal r) c.requires c.member.ensures.outcome.refused) c.in_err-at_line.field-0.0 c.in_err-at_line.ensures)

pub returns : goal.returns
returns c =
    let d = c.args.self.now in
    let x = so_far d in
    let name = c.in_ok-name.name.said in
    let r = c.member.result in
    let t = c.member.ensures.outcome in
    told Member d _ IsName name.now refl c.in_ok-name.ensures.1 (member_lies x name) _ c.in_ok-name.ensures.0 r (member_rules x name.now (refusal r) c.requires t.refused) (member_held d.kind d.units d.levels (book d.round) (book c.member.new.self) name.now r t) (Ok _) c.in_ok-at_line.ensures
