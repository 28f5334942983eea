use Rattle.std.proofs.Common.{rules, arith, length, slice_index_or, None, sym, ap, ◌∙◌}
use Rattle.std.proofs.lemmas.List.{length-replicate, get_or-replicate}
use Rattle.search.specs.Links.{link}
use Rattle.search.proofs.Working.{none_yet}
use Rattle.search.proofs.Ways.{none_paired}
use Rattle.search.proofs.quick.renew.Goals as goal

pub returns-then-left-eq1-clause-paired : goal.returns-then-left-eq1-clause-paired
returns-then-left-eq1-clause-paired g c =
    let n = length c.args.links.now in
    let m = length c.args.ups.now in
    let links = c.fill.ensures.after (λ y k. search rules) in
    let ups = c.fill-then-left-eq1.ensures.after (λ y k. search rules) in
    let long = ap length links ∙ length-replicate n None in
    let wide = ap length ups ∙ length-replicate m m in
    none_paired _ _ _ (wide ∙ c.requires.paired.long ∙ sym long) (λ v. ap (λ ks. link ks v) links ∙ none_yet n v) (λ v l. ap (λ us. slice_index_or us v 0) ups ∙ get_or-replicate m v m 0 (let e = c.requires.paired.long in omega arith) ∙ c.requires.paired.long ∙ sym long)
