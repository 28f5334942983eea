use Rattle.std.proofs.Common.{◌≡◌, replicate, Ok, sym, ◌∙◌, subst}
use Rattle.search.specs.Outcomes.{Clearing}
use Rattle.book.specs.Arcs.{net_of}
use Rattle.round.specs.Closed.{closed_book, closed_net}
use Rattle.round.specs.Rounds.{book}
use Rattle.record.specs.Sheets.{ClearedRound}
use Rattle.record.proofs.Sheeting.{filed_best}
use Rattle.round.proofs.Unique.{book_sound}
use Rattle.record.proofs.sheet.clear_by.Goals as goal

pub returns : goal.returns
returns g c =
    let k = g.W.Levelled.sort in
    let o = g.W.Worth.ops in
    let closes = c.close-closed.ensures.outcome in
    let cleared = c.in_ok-clear.ensures in
    let after = c.clear.new.self in
    let sum = c.in_ok-clear.field-0 in
    let work = replicate 272 c.none-work.result in
    let from_none : Clearing o (net_of (book c.args.round)) (closed_net after) work c.clear.new.work (Ok sum) = subst (λ n. Clearing o n (closed_net after) work c.clear.new.work (Ok sum)) closes.net cleared.outcome in
    let same : closed_book after ≡ book c.args.round = cleared.kept ∙ closes.book in
    let climbed : Clearing o (net_of (closed_book after)) (closed_net after) work c.clear.new.work (Ok sum) = subst (λ b. Clearing o (net_of b) (closed_net after) work c.clear.new.work (Ok sum)) (sym same) from_none in
    subst (λ b. ClearedRound k b c.args.page.now c.file.new.page c.file.result) same (filed_best g.met.W.Worth.lawful g.met.W.Levelled.told (closed_book after) (closed_net after) _ _ sum (book_sound (closed_book after) after.round.sound) climbed c.args.page.now c.file.new.page c.file.result c.file.ensures.outcome)
