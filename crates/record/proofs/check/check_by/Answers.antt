use Rattle.std.proofs.Common.{◌≡◌, sym, refl, ap, ◌∙◌, subst}
use Rattle.std.proofs.lemmas.Result.{err_from_is_err_and}
use Rattle.std.proofs.lemmas.Bool.Decides.{not_from_Decides}
use Rattle.tables.proofs.Firsts.{here, next, not_first}
use Rattle.network.specs.Circulations.{Circulates}
use Rattle.network.specs.Networks.{flow_in, value}
use Rattle.book.specs.Arcs.{allotment_of}
use Rattle.book.specs.Rows.{map_with}
use Rattle.book.proofs.Places.{filling_keeps_units}
use Rattle.layout.specs.Records.{book_of, allotted}
use Rattle.reading.specs.Contents.{contents}
use Rattle.record.specs.Checks.{result_of}
use Rattle.record.specs.Evidence.{LevelsFit}
use Rattle.record.specs.Networks.{record_net}
use Rattle.record.proofs.Checking.{allowed_from, circulating, levels_few, levels_read, results_alike, undrawn}
use Rattle.record.proofs.check.check_by.Goals as goal

pub returns-in_err-net : goal.returns-in_err-net
returns-in_err-net g c v k =
    let p = err_from_is_err_and c.from_residual.result c.from_residual.ensures.1 in
    let x = contents c.args.read in
    rw (p.1, p.2) (record { refused = undrawn x _ v.sound c.in_err-net.ensures.refused; outcome = tt })

pub returns-then-not-is_circulation : goal.returns-then-not-is_circulation
returns-then-not-is_circulation g c v k =
    let x = contents c.args.read in
    let net = c.in_ok-net.ensures.outcome.0 in
    record { refused = here (λ w. not_from_Decides _ c.is_circulation.ensures c.if-not-is_circulation.true (subst Circulates (sym net) (circulating (book_of x) (allotted x) v.sound w))); outcome = tt }

pub returns-then-not-fits : goal.returns-then-not-fits
returns-then-not-fits g c v k =
    let x = contents c.args.read in
    let drawn = c.in_ok-net.ensures in
    let net = drawn.outcome.0 in
    let allowed = allowed_from (book_of x) (allotted x) v.sound (not_first drawn.refused) (subst Circulates net (c.is_circulation.ensures.0 c.if-not-is_circulation.false)) in
    let e = levels_read g.met.W.Levelled.told k c.levels.result.now c.levels.ensures.written _ (c.as_slice.ensures ∙ c.worths-worths.ensures) in
    let same : LevelsFit x.kind _ x.levels ≡ LevelsFit g.W.Levelled.sort (record_net c.in_ok-net.net) _ = (λ i. LevelsFit (k i) (sym net i) (sym e i)) in
    record { refused = next (λ not. not allowed) (here (λ f. not_from_Decides _ c.fits.ensures c.if-not-fits.true ((g.met.W.Levelled.told.fitting _ _).1 (subst (λ (T : Type 0). T) same f)))); outcome = tt }

pub returns : goal.returns
returns g c v k =
    let x = contents c.args.read in
    let drawn = c.in_ok-net.ensures in
    let net = drawn.outcome.0 in
    let b = drawn.outcome.1 in
    let allowed = allowed_from (book_of x) (allotted x) v.sound (not_first drawn.refused) (subst Circulates net (c.is_circulation.ensures.0 c.if-not-is_circulation.false)) in
    let e = levels_read g.met.W.Levelled.told k c.levels.result.now c.levels.ensures.written _ (c.as_slice.ensures ∙ c.worths-worths.ensures) in
    let same : LevelsFit g.W.Levelled.sort (record_net c.in_ok-net.net) _ ≡ LevelsFit x.kind _ x.levels = (λ i. LevelsFit (sym k i) (net i) (e i)) in
    let fits = subst (λ (T : Type 0). T) same ((g.met.W.Levelled.told.fitting _ _).0 (c.fits.ensures.0 c.if-not-fits.false)) in
    record {
      refused = next (λ not. not allowed) (next (λ not. not fits) refl);
      outcome = record {
        allowed = allowed;
        fits = fits;
        worth_is = subst (λ w. g.W.Into.converts w c.into.result) (c.worth.ensures.value ∙ ap (value g.W.Worth.ops) net) c.into.ensures;
        results_are = c.results.ensures ∙ (λ i. map_with result_of (b i).offers (allotment_of (b i) (flow_in (net i)))) ∙ results_alike (book_of x).offers _ (allotted x) (filling_keeps_units (book_of x) (allotted x));
      };
    }

pub worths-worths-requires : goal.worths-worths-requires
worths-worths-requires g c = (c.requires, levels_few c.args.read c.levels.result.now c.levels.ensures.written)
