-- The lines of offers, one after the other.
use Rattle.std.proofs.Common.{◌≡◌, ℕ, ◌+◌, ◌<◌, List, [], ◌∷◌, ◌++◌, length, take, get_or, sym, ap, ◌∙◌, arith, append_assoc}
use Rattle.std.proofs.lemmas.List.{length-take-le, take_more}
use Rattle.record.specs.declared.passed.OfferResult.{OfferResult}
use Rattle.answers.specs.Lines.{spelled, printed, offer_lines}
use Rattle.answers.specs.declared.line.Line.TheVariants.{Offer}

-- the line of an offer with a number
abbrev pub line_of : ℕ → OfferResult → List ℕ
line_of k o = spelled (Offer k o.payoff o.weeks) ++ (10 ∷ [])

after : (k n : ℕ) (os : List OfferResult) (o : OfferResult) → n ≡ k + length os → printed (offer_lines k (os ++ (o ∷ []))) ≡ printed (offer_lines k os) ++ line_of n o
after k n [] o e = ap (λ m. line_of m o) (omega (arith, e))
after k n (x ∷ os) o e =
    ap (λ t. spelled (Offer k x.payoff x.weeks) ++ (10 ∷ t)) (after (k + 1) n os o (omega (arith, e)))
    ∙ sym (append_assoc (spelled (Offer k x.payoff x.weeks)) (10 ∷ printed (offer_lines (k + 1) os)) (line_of n o))

-- the lines of one offer more end in its line
pub more_lines : (n : ℕ) (os : List OfferResult) (d : OfferResult) → n < length os → printed (offer_lines 0 (take (n + 1) os)) ≡ printed (offer_lines 0 (take n os)) ++ line_of n (get_or os n d)
more_lines n os d l = ap (λ t. printed (offer_lines 0 t)) (take_more os n d l) ∙ after 0 n (take n os) (get_or os n d) (omega (arith, length-take-le n os (omega arith)))
