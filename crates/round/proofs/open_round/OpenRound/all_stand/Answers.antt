use Rattle.std.proofs.Common.{◌<◌, ltb, List, [], ◌∷◌, map, Decides, refl, rules, tests}
use Rattle.std.specs.List.{AllByRecursion, list_all}
use Rattle.std.proofs.lemmas.Bool.Decides.{Decides-at, Decides-and, Decides-ltb}
use Rattle.std.proofs.lemmas.Iterator.{YieldsList-from_slice}
use Rattle.std.proofs.lemmas.Iterator.Search.{all_from_yields_List}
use Rattle.book.specs.declared.line.Line.{Line}
use Rattle.round.specs.Kept.{offer_of}
use Rattle.round.specs.declared.entry.Entry.{Entry}
use Rattle.round.proofs.open_round.OpenRound.all_stand.Goals as goal

-- the offers stand where the limits of the entries are above 0
standing : (ls : List Line) (es : List Entry) → Decides (list_all (λ e. ltb 0 e.limit) es) (AllByRecursion (λ o. 0 < o.limit) (map (offer_of ls) es))
standing ls [] = (λ _. tt, λ _. refl)
standing ls (e ∷ es) = Decides-and (ltb 0 e.limit) (list_all (λ x. ltb 0 x.limit) es) (Decides-ltb 0 e.limit) (standing ls es)

pub returns : goal.returns
returns c =
    let r = c.args.self.now in
    Decides-at c.all.result _ (all_from_yields_List (λ e. ltb 0 e.limit) _ _ _ c.all.ensures.ran (YieldsList-from_slice r.offers (cc)) (λ x b q k. search (rules, tests))) (standing r.lines r.offers)
