use Rattle.std.proofs.Common.{◌≡◌, subst, arith}
use Rattle.std.proofs.lemmas.Result.{err_from_is_err_and}
use Rattle.reading.proofs.Gains.{Gained, none_yet, again, halted}
use Rattle.reading.proofs.draft.Draft.next_entries.Goals as goal

pub loop-init : goal.loop-init
loop-init c = none_yet c.args.entry c.args.self.now

pub loop-preserved : goal.loop-preserved
loop-preserved c = again c.args.entry c.loop.counter c.args.self.now c.loop.self c.next_entry.new.self c.loop.invariant c.in_ok-next_entry.ensures

pub next_entry-requires : goal.next_entry-requires
next_entry-requires c = let m = c.loop.invariant.1 in omega (arith, c.loop-test.true, c.requires)

pub returns-in_err-next_entry : goal.returns-in_err-next_entry
returns-in_err-next_entry c =
    let p = err_from_is_err_and c.from_residual.result c.from_residual.ensures.1 in
    rw (p.1, p.2) (halted c.args.entry c.args.n c.loop.counter c.args.self.now c.loop.self _ c.loop.invariant c.loop-test.true c.in_err-next_entry.ensures)

pub returns : goal.returns
returns c =
    let all : c.loop.counter ≡ c.args.n = omega arith in
    subst (λ n. Gained c.args.entry n c.args.self.now c.loop.self) all c.loop.invariant
