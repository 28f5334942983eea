-- What payoff answers of the chain round once it is best.
use Rattle.std.proofs.Common.{◌≡◌, ℕ, ◌+◌, ◌*◌, ◌<◌, ◌≤◌, [], ◌∷◌, length, ltb, true, ℤ, pos, negsuc, ◌-ℤ◌, Ok, Err, Result, sym, refl, ap, ap₂, ◌∙◌, arith}
use Rattle.std.proofs.lemmas.Bool.{ltb-true}
use Rattle.std.proofs.lemmas.Option.{none-some}
use Rattle.tables.specs.Refusals.{when, number}
use Rattle.tables.specs.declared.refusal.Refusal.{Refusal}
use Rattle.worth.specs.Money.{money}
use Rattle.worth.specs.Integers.{money_laws}
use Rattle.flow.specs.Graphs.{Circulation, coming, going}
use Rattle.network.specs.Networks.{Net, flow_in, graph}
use Rattle.book.specs.Allotments.{payoff, weeks_of}
use Rattle.book.specs.Books.{Book, offer_at}
use Rattle.round.specs.Questions.{AnswersPayoff}
use Rattle.round.specs.Uses.{allotted}
use Rattle.cases.specs.Calls.{Pays}
use Rattle.cases.specs.Cases.{cents}
use Rattle.cases.specs.Clearing.{Leaves}
use Rattle.cases.proofs.Building.{first_none}
use Rattle.cases.proofs.Cleared.{chain_net, chain_leaves}
use Rattle.cases.proofs.Every.{Reached}
use Rattle.cases.proofs.Left.{EachBelow, flow_is}
use Rattle.cases.proofs.Rounds.{two, chain_book}

-- payoff has one answer
paid : (b : Book) (n : Net) (k : ℕ) (p : ℤ × ℕ) → k < length b.offers → payoff (offer_at b k) (allotted b n k) ≡ p.0 → weeks_of (offer_at b k) (allotted b n k) ≡ p.1 → Pays b n k p
paid b n k p l e f = record { some = (Ok p, record { refused = first_none (when 1 (length b.offers ≤ k) ∷ []) ((λ h. omega arith), tt); answer = (sym e, sym f) }); every = every }
  where
    every : (r : Result (ℤ × ℕ) Refusal) → AnswersPayoff b (allotted b n) k r → r ≡ Ok p
    every (Ok q) h = ap₂ (λ x y. Ok (x, y)) (h.answer.0 ∙ e) (h.answer.1 ∙ f)
    every (Err d) h = absurd (none-some (number d) (sym (h.refused.1 (λ m. omega arith))))

-- each node of the chain has one arc in and one out, so what flows is the same all round
flat : (y : ℕ → ℕ) → Circulation (graph money chain_net) y → EachBelow 11 (λ i. y i ≡ y 0)
unfolding coming going
flat y h =
    let at : (v : ℕ) → ltb v 11 ≡ true → coming (graph money chain_net) y v ≡ going (graph money chain_net) y v = λ v l. h v (ltb-true v 11 l) in
    let a2 : y 2 ≡ y 0 = omega (arith, at 3 refl) in
    let a3 : y 3 ≡ y 0 = omega (arith, at 5 refl) in
    let a4 : y 4 ≡ y 0 = omega (arith, at 6 refl) in
    let a8 : y 8 ≡ y 0 = omega (arith, at 0 refl) in
    let a9 : y 9 ≡ y 0 = omega (arith, at 9 refl) in
    let a10 : y 10 ≡ y 0 = omega (arith, at 10 refl) in
    let a1 : y 1 ≡ y 0 = omega (arith, at 2 refl) in
    let a5 : y 5 ≡ y 0 = omega (arith, at 4 refl) in
    let a6 : y 6 ≡ y 0 = omega (arith, at 7 refl) in
    let a7 : y 7 ≡ y 0 = omega (arith, at 8 refl) in
    (a10, (a9, (a8, (a7, (a6, (a5, (a4, (a3, (a2, (a1, (refl, tt)))))))))))

-- offer 1 takes 3 at most, and 270 cents are 3 units round
threes : (t : Net) → Reached money_laws chain_net (cents 270) t → (i : ℕ) → ltb i 11 ≡ true → flow_in t i ≡ 3
threes t r i l =
    let f = flat (flow_in t) r.circulation in
    let room : flow_in t 6 ≤ 3 = r.within 6 (ltb-true 6 11 refl) in
    let same : flow_in t 6 ≡ flow_in t 0 = f.1.1.1.1.0 in
    flow_is money_laws chain_net (cents 270) 3 3 refl (flow_in t) f (omega arith) r.worth i (ltb-true i 11 l)

abbrev book : Book
book = chain_book two 160

pub chain_paid : (p q r : ℤ × ℕ) → ◌≡◌ {A = ℤ × ℕ} (negsuc 299, 0) p → ◌≡◌ {A = ℤ × ℕ} (pos 90, 3) q → ◌≡◌ {A = ℤ × ℕ} (pos 480, 3) r → Leaves money (λ t. Pays book t 0 p × (Pays book t 1 q × Pays book t 2 r)) chain_net
chain_paid p q r first second third = chain_leaves (λ t. Pays book t 0 p × (Pays book t 1 q × Pays book t 2 r)) (λ t h. let at = threes t h in (
  paid book t 0 p (ltb-true 0 3 refl) (ap₂ (λ x y. pos (0 * x + 0) -ℤ pos (100 * y + 0)) (at 4 refl) (at 2 refl) ∙ ap (λ z. z.0) first) (ap (λ z. z.1) first),
  (
    paid book t 1 q (ltb-true 1 3 refl) (ap₂ (λ x y. pos (180 * x + 0) -ℤ pos (150 * y + 0)) (at 7 refl) (at 5 refl) ∙ ap (λ z. z.0) second) (ap (λ x. x + 0) (at 7 refl) ∙ ap (λ z. z.1) second),
    paid book t 2 r (ltb-true 2 3 refl) (ap₂ (λ x y. pos (160 * x + 0) -ℤ pos (0 * y + 0)) (at 10 refl) (at 8 refl) ∙ ap (λ z. z.0) third) (ap (λ x. x + 0) (at 10 refl) ∙ ap (λ z. z.1) third),
  ),
))
