use Rattle.std.proofs.Common.{inl, inr, arith}
use Rattle.std.proofs.lemmas.List.{length-map}
use Rattle.std.proofs.lemmas.Bool.{lt-ltb, ltb-true}
use Rattle.round.specs.Kept.{offer_of}
use Rattle.round.proofs.Rows.{count_rows}
use Rattle.round.proofs.open_round.OpenRound.overflows.Goals as goal

pub returns-else-len-ge-MOST_OFFERS : goal.returns-else-len-ge-MOST_OFFERS
returns-else-len-ge-MOST_OFFERS c =
    let es = c.args.self.now.offers in
    let ls = c.args.self.now.lines in
    let lo = length-map es (offer_of ls) in
    let lc = count_rows 0 es ls c.args.self.now.rows in
    (λ t. let l = ltb-true _ _ t in inr (omega arith), λ w. lt-ltb _ _ (elim w [ inl p ↦ absurd (omega arith) | inr p ↦ omega arith ]))
