use Rattle.std.proofs.Common.{◌∙◌, rules}
use Rattle.std.proofs.lemmas.Iterator.{YieldsList-from_slice}
use Rattle.std.proofs.lemmas.Iterator.Search.{position_from_yields_List}
use Rattle.book.specs.Books.{is_of}
use Rattle.terms.proofs.Tests.{spot_position}
use Rattle.terms.proofs.holdings.find_holding.Goals as goal

pub returns : goal.returns
returns c =
    let hs = c.args.holdings.now in
    position_from_yields_List (λ h. is_of h c.args.member c.args.item) _ _ _ c.position.ensures.ran (YieldsList-from_slice hs c.iter.ensures.rest) (λ x b q k. search rules) ∙ spot_position hs c.args.member c.args.item
