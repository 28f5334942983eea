use Rattle.std.proofs.Common.{refl, rules}
use Rattle.std.proofs.lemmas.Result.{err_from_is_err_and}
use Rattle.layout.specs.Layout.{head}
use Rattle.reading.specs.Entries.{section_of, CountTested}
use Rattle.reading.specs.Reading.{IsHead}
use Rattle.reading.proofs.Counted.{count_judged, fair_count}
use Rattle.reading.proofs.Steps.{missed, judged}
use Rattle.reading.proofs.entry.Entry.next_count.Goals as goal

pub returns-in_err-next_head : goal.returns-in_err-next_head
returns-in_err-next_head c =
    let p = err_from_is_err_and c.from_residual.result c.from_residual.ensures.1 in
    let s = section_of c.args.self in
    rw (p.1, p.2) (record { fair = tt; read = λ x e. missed (head s) x (IsHead s) (rw c.section.ensures at c.in_err-next_head.ensures) (λ n fits. (n, (refl, fits.1.0))) })

pub returns : goal.returns
returns c =
    let e = c.args.self in
    let s = section_of e in
    let n = rw c.section.ensures at c.in_ok-next_head.ensures in
    let t = c.test.ensures in
    let h : CountTested e c.args.nodes c.in_ok-next_head.field-0.said t.0 = search rules in
    record {
      fair = fair_count e c.args.nodes _ _ t.0 h _ t.2;
      read = λ x q. judged (head s) x (IsHead s) (λ m. m) n.1 _ n.0 t.0 (count_judged e c.args.nodes _ x q n.1.is.1 t.0 h) _ t.2;
    }
