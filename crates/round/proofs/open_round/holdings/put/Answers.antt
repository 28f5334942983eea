use Rattle.std.proofs.Common.{sym, ap, ◌∙◌}
use Rattle.book.specs.Books.{spot_of}
use Rattle.round.proofs.Calls.{put_there}
use Rattle.round.proofs.open_round.holdings.put.Goals as goal

pub returns-in-Some : goal.returns-in-Some
returns-in-Some c =
    let h = c.args.h in
    put_there c.args.holdings.now c.set.new.self h c.in-Some.k c.set.result
    (sym c.in-Some.is ∙ c.find_holding-found.ensures ∙ ap (λ hs. spot_of hs h.member h.item) c.as_slice.ensures) c.if-h-gt-MOST_UNITS.false c.set.ensures
