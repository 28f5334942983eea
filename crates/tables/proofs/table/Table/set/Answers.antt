use Rattle.std.proofs.Common.{refl, arith, ◌∙◌, ap, length, set}
use Rattle.std.proofs.lemmas.List.{length-take-le}
use Rattle.tables.proofs.Entries.{take_set_in}
use Rattle.tables.proofs.Firsts.{next}
use Rattle.tables.proofs.table.Table.set.Goals as goal

pub returns-then-i-self : goal.returns-then-i-self
returns-then-i-self g c =
    let t = c.self.inside in
    let long = length-take-le t.len t.cells (omega (arith, c.self.invariant)) in
    record {
      refused = next (λ p. omega (arith, long, ap length c.self.view_is)) refl;
      outcome = take_set_in t.len t.cells c.args.i c.args.x ∙ ap (λ xs. set xs c.args.i c.args.x) c.self.view_is;
    }
