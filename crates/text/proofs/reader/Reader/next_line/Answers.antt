use Rattle.std.proofs.Common.{Ok, Err, refl, ap, ◌∙◌, subst}
use Rattle.std.proofs.lemmas.Result.{err_from_is_err_and}
use Rattle.text.specs.Faults.{result_at}
use Rattle.text.specs.Lines.{Says}
use Rattle.text.proofs.Cuts.{no_first, first_once}
use Rattle.text.proofs.Faults.{layout_fault, cut_at_line}
use Rattle.text.proofs.reader.Reader.next_line.Goals as goal

pub returns-in_err-parts : goal.returns-in_err-parts
returns-in_err-parts c =
    let p = err_from_is_err_and c.from_residual.result c.from_residual.ensures.1 in
    let line = c.args.self.now.line in
    let h = cut_at_line 10 c.args.self.now.rest.now line c.cut.result (Err c.in_err-parts.field-0.0) c.cut.ensures (c.in_err-parts.ensures ∙ ap (result_at line) c.ok_or.ensures.value) in
    rw (p.1, p.2) (record { fault = h.0; none = λ x l rest f _. no_first h.1 f; same = refl })

pub returns-in_err-line : goal.returns-in_err-line
returns-in_err-line c =
    let p = err_from_is_err_and c.from_residual-in_err-line.result c.from_residual-in_err-line.ensures.1 in
    let line = c.args.self.now.line in
    let here = cut_at_line 10 c.args.self.now.rest.now line c.cut.result (Ok c.in_ok-parts.parts) c.cut.ensures (c.in_ok-parts.ensures ∙ ap (result_at line) c.ok_or.ensures.value) in
    let h = layout_fault _ _ _ _ c.in_err-line.ensures c.read.ensures in
    rw (p.1, p.2) (record { fault = h.0; none = λ x l rest f s. h.1 x (subst (λ l. Says c.args.sort l x) (first_once f here).0 s); same = refl })
