use Rattle.std.proofs.Common.{length, ap, ◌∙◌, subst}
use mathlib.Core.Logic.{∥∥₁_map}
use Rattle.tables.specs.Tables.{Found}
use Rattle.tables.proofs.Entries.{replaced}
use Rattle.round.specs.Kept.{in_rows}
use Rattle.round.specs.Rounds.{book}
use Rattle.round.proofs.Rows.{stopped, rows_stopped}
use Rattle.round.proofs.Sounds.{sound_withdraw}
use Rattle.round.proofs.Calls.{withdrawn_already, entry_stopped}
use Rattle.round.proofs.Standing.{round_law}
use Rattle.round.proofs.open_round.OpenRound.withdraw.Goals as goal

pub returns-in_err-entry-clause-law : goal.returns-in_err-entry-clause-law
returns-in_err-entry-clause-law c = round_law

pub returns-then-entry-eq0 : goal.returns-then-entry-eq0
returns-then-entry-eq0 c =
    let r = c.args.self.now in
    let found = subst (Found r.offers c.args.offer) c.in_ok-entry.ensures.ok_part c.get.ensures in
    record { outcome = withdrawn_already (book r) r.lines r.offers c.args.offer c.in_ok-entry.entry found.0 found.1 c.if-entry-eq0.true; law = round_law }

pub invariant_of-self : goal.invariant_of-self
invariant_of-self c =
    let r = c.args.self.now in
    let es = r.offers in
    let ls = r.lines in
    let k = c.args.offer in
    let e = c.in_ok-entry.entry in
    let found = subst (Found es k) c.in_ok-entry.ensures.ok_part c.get.ensures in
    let done = entry_stopped (book r) ls es k e found.0 found.1 c.set.new.self c.set.result c.if-entry-eq0.false c.set.ensures in record {
      sound = ∥∥₁_map r.sound (sound_withdraw (book r) _ k c.set.result done);
      rows = ap (λ xs. in_rows 0 xs (length ls)) (replaced es c.set.new.self k (stopped e) c.set.result c.set.ensures found.0)
          ∙ rows_stopped 0 es (length ls) k e found.1 ∙ r.rows;
    }

pub returns : goal.returns
returns c =
    let r = c.args.self.now in
    let found = subst (Found r.offers c.args.offer) c.in_ok-entry.ensures.ok_part c.get.ensures in
    record { outcome = entry_stopped (book r) r.lines r.offers c.args.offer c.in_ok-entry.entry found.0 found.1 c.set.new.self c.set.result c.if-entry-eq0.false c.set.ensures; law = round_law }
