use Rattle.std.proofs.Common.{◌≡◌, ℕ, ◌<◌, List, [], ◌∷◌, ◌++◌, length, get_or, take, is_ok, sym, ap, ◌∙◌, arith}
use Rattle.std.proofs.lemmas.List.{length-take-le}
use Rattle.tables.proofs.Entries.{grew}
use Rattle.book.specs.Books.{no_offer}
use Rattle.book.proofs.Sums.{length_map_with}
use Rattle.round.proofs.Calls.{went_in}
use Rattle.round.specs.Closed.{closed_book, closed_allotment}
use Rattle.round.specs.declared.closed_round.ClosedRound.{ClosedRound}
use Rattle.book.specs.Rows.{map_with}
use Rattle.record.specs.Checks.{result_of}
use Rattle.record.specs.declared.passed.OfferResult.{OfferResult}
use Rattle.record.proofs.Checking.{few_offers, paid}
use Rattle.record.proofs.Offered.{with_more}
use Rattle.record.proofs.check.results.Goals as goal

pub unwrap-answer-requires : goal.unwrap-answer-requires
unwrap-answer-requires g c =
    let r = c.args.round.now in
    let k = c.loop-k.k in
    let lt : k < length (closed_book r).offers = omega (arith, c.offer_count-k-end.ensures, ap (λ b. length b.offers) c.terms.ensures) in
    ap is_ok (paid (closed_book r) (closed_allotment r) k c.payoff.result c.payoff.ensures lt).1

-- there is room for what one offer more comes to
room : {W : Type 0} (r : ClosedRound W) (k : ℕ) (xs : List OfferResult) → xs ≡ map_with result_of (take k (closed_book r).offers) (closed_allotment r) → k < length (closed_book r).offers → length xs < 64
room r k xs e lt = omega (arith, ap length e, length_map_with result_of (take k (closed_book r).offers) (closed_allotment r), length-take-le k (closed_book r).offers (omega arith), few_offers r.round)

pub unwrap-requires : goal.unwrap-requires
unwrap-requires g c =
    let r = c.args.round.now in
    let lt : c.loop-k.k < length (closed_book r).offers = omega (arith, c.offer_count-k-end.ensures, ap (λ b. length b.offers) c.terms.ensures) in
    went_in 64 c.loop-k.results c.push.new.self (c.into.result ∷ []) c.push.result c.push.ensures (omega (arith, room r c.loop-k.k c.loop-k.results c.loop-k.invariant lt))

pub loop-k-preserved : goal.loop-k-preserved
loop-k-preserved g c =
    let r = c.args.round.now in
    let os = (closed_book r).offers in
    let a = closed_allotment r in
    let k = c.loop-k.k in
    let lt : k < length os = omega (arith, c.offer_count-k-end.ensures, ap (λ b. length b.offers) c.terms.ensures) in
    let found = paid (closed_book r) a k c.payoff.result c.payoff.ensures lt in
    let same : c.unwrap-answer.result ≡ found.0 = cc (c.unwrap-answer.ensures, found.1) in
    let says : ◌≡◌ {A = OfferResult} (record { payoff = found.0.0; weeks = found.0.1 }) (result_of (get_or os k no_offer) (a k)) = (λ i. record { payoff = found.2.0 i; weeks = found.2.1 i }) in
    grew 64 c.loop-k.results c.push.new.self (c.into.result ∷ []) c.push.result c.push.ensures (omega (arith, room r k c.loop-k.results c.loop-k.invariant lt))
    ∙ (λ i. c.loop-k.invariant i ++ (c.into.ensures ∙ ap (λ (p : _ × _). record { payoff = p.0; weeks = p.1 }) same ∙ says) i ∷ [])
    ∙ sym (with_more result_of os a k no_offer lt)
