use Rattle.std.proofs.Common.{◌≡◌, get_or, pos, sym, refl, ap, ◌∙◌, arith, w64, to_z, of_z}
use Rattle.std.proofs.lemmas.List.{take_all}
use Rattle.std.proofs.lemmas.Result.{err_from_is_err_and}
use Rattle.std.proofs.lemmas.Int.{ints}
use Rattle.tables.proofs.Firsts.{next}
use Rattle.round.specs.Closed.{closed_net}
use Rattle.round.specs.Carrying.{sound_closed}
use Rattle.round.specs.Rounds.{book}
use Rattle.record.specs.Flows.{with_flows}
use Rattle.record.proofs.Pushing.{filled_none, filled_more, refused_over, none_over}
use Rattle.record.proofs.record_network.drawing.fill.Goals as goal

pub overflow_cast-i : goal.overflow_cast-i
overflow_cast-i g c = let few = (sound_closed c.args.round.now).few_arcs in omega (arith, few, c.requires.long, c.loop-i-test.true)

pub loop-i-init : goal.loop-i-init
loop-i-init g c = (filled_none (closed_net c.args.round.now) c.requires.empty, refl)

pub returns-in_err-push : goal.returns-in_err-push
returns-in_err-push g c =
    let p = err_from_is_err_and c.from_residual.result c.from_residual.ensures.1 in
    let ys = c.args.flows.now in
    let i = c.loop-i.i in
    let own : to_z w64 (of_z w64 c.from.result) ≡ pos (get_or ys i 0) = omega (arith, ints, c.from.ensures, c.type_inv.flows i) in
    let pushed = c.in_err-push.ensures in
    rw (p.1, p.2) (record {
      refused = refused_over (closed_net c.args.round.now) ys i c.loop-i-test.true _ own (closed_net c.loop-i.round) c.in_err-push.field-0.0 c.requires.long c.loop-i.invariant.0 pushed.outcome.refused;
      outcome = tt;
      kept = sym (ap book pushed.kept.round) ∙ c.loop-i.invariant.1;
    })

pub loop-i-preserved : goal.loop-i-preserved
loop-i-preserved g c =
    let ys = c.args.flows.now in
    let i = c.loop-i.i in
    let own : to_z w64 (of_z w64 c.from.result) ≡ pos (get_or ys i 0) = omega (arith, ints, c.from.ensures, c.type_inv.flows i) in
    let pushed = c.in_ok-push.ensures in (
      filled_more (closed_net c.args.round.now) ys i c.loop-i-test.true _ own (closed_net c.loop-i.round) (closed_net c.push.new.self) c.loop-i.invariant.0 pushed.outcome.outcome,
      sym (ap book pushed.kept.round) ∙ c.loop-i.invariant.1,
    )

pub returns : goal.returns
returns g c =
    let n = closed_net c.args.round.now in
    let is = c.loop-i.invariant.0 ∙ ap (with_flows n) (take_all c.loop-i.i c.args.flows.now (omega arith)) in
    record { refused = next (none_over c.loop-i.round _ is) refl; outcome = is; kept = c.loop-i.invariant.1 }
