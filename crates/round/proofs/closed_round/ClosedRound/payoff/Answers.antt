use Rattle.std.proofs.Common.{◌≡◌, ℕ, ◌*◌, ◌≤◌, cond, eqb, length, pos, ◌-ℤ◌, to_z, of_z, refl, ◌∙◌, ap₂, arith, w64, SFits}
use Rattle.std.proofs.lemmas.Int.{ints, to_z-of_z, to_z_pos}
use Rattle.std.proofs.lemmas.Option.{MatchOption-at_some}
use Rattle.tables.proofs.Firsts.{next}
use Rattle.book.specs.declared.side.Side.TheVariants.{Give, Get}
use Rattle.round.specs.Closed.{closed_book, closed_allotment}
use Rattle.round.specs.Questions.{Sided}
use Rattle.round.proofs.Sides.{side_sum}
use Rattle.round.proofs.closed_round.ClosedRound.payoff.Goals as goal

-- the casts lose nothing
less : (a b : ℕ) → a ≤ 256000000000 → b ≤ 256000000000 → to_z w64 (of_z w64 (to_z w64 a -ℤ to_z w64 b)) ≡ pos a -ℤ pos b
less a b p q =
    let fits : SFits w64 (to_z w64 a -ℤ to_z w64 b) = omega (arith, ints) in
    to_z-of_z w64 (to_z w64 a -ℤ to_z w64 b) fits ∙ ap₂ (λ x y. x -ℤ y) (to_z_pos w64 a (omega arith)) (to_z_pos w64 b (omega arith))

pub returns : goal.returns
returns g c =
    let b = closed_book c.args.self.now in
    let a = closed_allotment c.args.self.now in
    let k = c.args.offer in
    let gives = MatchOption-at_some (length b.offers ≤ k) (λ p. Sided b a k Give p.0.now p.1.now) _ c.in_ok-give.ensures.ok_part c.side.ensures in
    let gets = MatchOption-at_some (length b.offers ≤ k) (λ p. Sided b a k Get p.0.now p.1.now) _ c.in_ok-get.ensures.ok_part c.side-2.ensures in
    record {
      refused = next (λ p. omega (arith, gives.known)) refl;
      answer = (
        less c.total_price.result c.total_price-2.result c.total_price.ensures.bound c.total_price-2.ensures.bound
            ∙ ap₂ (λ x y. pos x -ℤ pos y) (c.total_price.ensures.sum ∙ side_sum (λ l n. l.price * n) b a k Get _ _ gets) (c.total_price-2.ensures.sum ∙ side_sum (λ l n. l.price * n) b a k Give _ _ gives),
        c.total_weeks.ensures ∙ side_sum (λ l n. cond (eqb l.item 0) 0 n) b a k Get _ _ gets,
      );
    }
