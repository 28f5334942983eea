use Rattle.std.proofs.Common.{◌≡◌, ℕ, ◌+◌, length, sym, ap, ◌∙◌, subst, arith}
use Rattle.flow.specs.Arcs.{flow_of}
use Rattle.book.specs.Arcs.{give_at, get_at}
use Rattle.book.specs.declared.side.Side.TheVariants.{Give, Get}
use Rattle.round.specs.Closed.{closed_book, closed_allotment}
use Rattle.round.specs.Questions.{Sided}
use Rattle.round.proofs.Rows.{gives_length, gets_length}
use Rattle.round.proofs.Sides.{arcs_long, sided}
use Rattle.round.proofs.closed_round.ClosedRound.side.Goals as goal

pub returns-in-Give : goal.returns-in-Give
returns-in-Give g c =
    let x = c.args.self.now in
    let k = c.args.offer in
    let e = c.in_ok-entry.entry in
    let en = c.in_ok-entry.ensures in
    let ls = c.show-view.result.give.now in
    let first = c.first_arc-first.result in
    let is = ap (λ o. o.give) c.show-view.ensures in
    let at : (t : ℕ) → give_at (closed_book x) k t ≡ first + t = λ t. omega (arith, c.first_arc-first.ensures) in
    subst (λ s. Sided (closed_book x) (closed_allotment x) k s ls c.part.result.now) (sym c.in-Give.is)
    (sided x k e en Give first ls c.part.result.now is c.part.ensures (λ t. ap (flow_of x.arcs) (at t))
    (omega (arith, en.starts, en.ends, c.first_arc-first.ensures, arcs_long x, ap length is, gives_length x.round.lines e en.within)))

pub returns-in-Get : goal.returns-in-Get
returns-in-Get g c =
    let x = c.args.self.now in
    let k = c.args.offer in
    let e = c.in_ok-entry.entry in
    let en = c.in_ok-entry.ensures in
    let ls = c.show-view.result.get.now in
    let first = c.first_arc-first.result + length c.show-view.result.give.now + 1 in
    let is = ap (λ o. o.get) c.show-view.ensures in
    let gave = ap (λ o. length o.give) (c.show-view.ensures ∙ sym en.is) in
    let gives = ap (λ o. length o.give) en.is ∙ gives_length x.round.lines e en.within in
    let at : (t : ℕ) → get_at (closed_book x) k t ≡ first + t = λ t. omega (arith, c.first_arc-first.ensures, gave) in
    subst (λ s. Sided (closed_book x) (closed_allotment x) k s ls c.part-in-Get.result.now) (sym c.in-Get.is)
    (sided x k e en Get first ls c.part-in-Get.result.now is c.part-in-Get.ensures (λ t. ap (flow_of x.arcs) (at t))
    (omega (arith, en.starts, en.ends, c.first_arc-first.ensures, arcs_long x, gave, gives, ap length is, gets_length x.round.lines e en.within)))
