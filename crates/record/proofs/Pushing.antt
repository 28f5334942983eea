-- Flows put one after the other on a network where nothing flows.
use Rattle.std.proofs.Common.{◌≡◌, ℕ, zero, suc, ◌+◌, ◌<◌, ◌≤◌, ◌⊎◌, List, [], ◌∷◌, length, get_or, take, set, ℤ, pos, ◌+ℤ◌, nat_abs, ◌<ℤ◌, Some, sym, refl, ap, ◌∙◌, subst, ap₂, subst₂, inr, ⊎_elim, add-one, arith}
use Rattle.std.proofs.lemmas.Int.{ints}
use Rattle.std.proofs.lemmas.Bool.{cases_lt}
use Rattle.tables.specs.Refusals.{when, First, number}
use Rattle.tables.specs.declared.refusal.Refusal.{Refusal}
use Rattle.flow.specs.Arcs.{arc_at, flow_of, with_flow}
use Rattle.flow.specs.declared.arc.Arc.{Arc}
use Rattle.network.specs.Networks.{Net, flow_in, put_flow}
use Rattle.network.specs.Pushes.{moved, push_rows}
use Rattle.book.specs.Rows.{map_with}
use Rattle.book.proofs.Networks.{with_flows_at}
use Rattle.book.proofs.Sums.{length_map_with}
use Rattle.round.specs.Closed.{closed_net}
use Rattle.round.specs.declared.closed_round.ClosedRound.{ClosedRound}
use Rattle.round.specs.Carrying.{sound_closed}
use Rattle.record.specs.Flows.{Empty, with_flows}
use Rattle.record.specs.Networks.{Exceeds}

-- arcs with these flows in place of their own
abbrev row : List Arc → List ℕ → List Arc
row xs ys = map_with (λ a y. with_flow y a) xs (λ i. get_or ys i 0)

row_none : (xs : List Arc) → ((i : ℕ) → i < length xs → flow_of xs i ≡ 0) → row xs [] ≡ xs
row_none [] h = refl
row_none (a ∷ xs) h =
    let e = h 0 (omega arith) in
    let t = row_none xs (λ i l. h (suc i) (omega arith)) in
    λ j. record { from = a.from; to = a.to; capacity = a.capacity; flow = sym e j; price = a.price; weeks = a.weeks } ∷ t j

row_next : (xs : List Arc) (ys : List ℕ) (i : ℕ) → i < length ys → set (row xs (take i ys)) i (with_flow (get_or ys i 0) (arc_at (row xs (take i ys)) i)) ≡ row xs (take (suc i) ys)
row_next xs [] i l = absurd (omega arith)
row_next [] (y ∷ ys) zero l = refl
row_next [] (y ∷ ys) (suc i) l = refl
row_next (a ∷ xs) (y ∷ ys) zero l = refl
row_next (a ∷ xs) (y ∷ ys) (suc i) l = ap (λ t. with_flow y a ∷ t) (row_next xs ys i (omega arith))

-- nothing flows yet on the next arc
row_still : (xs : List Arc) (ys : List ℕ) (i : ℕ) → i < length ys → flow_of (row xs (take i ys)) i ≡ 0
row_still xs [] i l = absurd (omega arith)
row_still [] (y ∷ ys) zero l = refl
row_still [] (y ∷ ys) (suc i) l = refl
row_still (a ∷ xs) (y ∷ ys) zero l = refl
row_still (a ∷ xs) (y ∷ ys) (suc i) l = row_still xs ys i (omega arith)

pub filled_none : (n : Net) → Empty n → n ≡ with_flows n []
filled_none n h = let e = sym (row_none n.arcs h) in λ j. record { nodes = n.nodes; arcs = e j }

-- refused where a flow exceeds its capacity
abbrev pub RefusedOver : Net → Refusal → Type 0
RefusedOver n e = First (when 15 (Exceeds n) ∷ []) (Some (number e))

sum_over : (f m y : ℕ) → f ≡ 0 → m < y → pos m <ℤ (pos f +ℤ pos y)
sum_over f m y e l = omega (arith, ints)

sum_within : (f m y : ℕ) → f ≡ 0 → y ≤ m → pos m <ℤ (pos f +ℤ pos y) → ⊥
sum_within f m y e l p = omega (arith, ints)

sum_negative : (f y : ℕ) → (pos f +ℤ pos y) <ℤ pos 0 → ⊥
sum_negative f y p = omega (arith, ints)

module _ (n : Net) (ys : List ℕ) (i : ℕ) (lt : i < length ys) (by : ℤ) (own : by ≡ pos (get_or ys i 0)) where
  -- a push of the next flow
  pub filled_more : (before after : Net) → before ≡ with_flows n (take i ys) → after ≡ moved before i by → after ≡ with_flows n (take (i + 1) ys)
  filled_more before after e pushed =
      let y = get_or ys i 0 in
      let now = with_flows n (take i ys) in
      let zero_more : 0 + y ≡ y = omega arith in
      let put = row_next n.arcs ys i lt ∙ ap (λ k. row n.arcs (take k ys)) (sym (add-one i)) in
      pushed ∙ ap₂ (λ m z. moved m i z) e own ∙ ap (put_flow now i) (ap (λ f. nat_abs (pos f +ℤ pos y)) (row_still n.arcs ys i lt) ∙ zero_more) ∙ (λ j. record { nodes = n.nodes; arcs = put j })

  -- a push that is refused
  pub refused_over : (before : Net) (e : Refusal) → length ys ≡ length n.arcs → before ≡ with_flows n (take i ys) → First (push_rows before i by) (Some (number e)) → RefusedOver (with_flows n ys) e
  refused_over before e long is first = ⊎_elim over under (cases_lt m y)
    where
      y : ℕ
      y = get_or ys i 0

      now : Net
      now = with_flows n (take i ys)

      m : ℕ
      m = (arc_at now.arcs i).capacity

      second : First (when 15 (((pos (flow_in now i) +ℤ pos y) <ℤ pos 0) ⊎ (pos m <ℤ (pos (flow_in now i) +ℤ pos y))) ∷ []) (Some (number e))
      second = (subst₂ (λ b z. First (push_rows b i z) (Some (number e))) is own first).1 (λ p. omega (arith, length_map_with (λ a x. with_flow x a) n.arcs (λ k. get_or (take i ys) k 0)))

      still : flow_in now i ≡ 0
      still = row_still n.arcs ys i lt

      over : m < y → RefusedOver (with_flows n ys) e
      over l =
          let zs : ℕ → ℕ = λ k. get_or ys k 0 in
          let in' : i < length n.arcs = omega arith in
          let full = with_flows_at n.arcs zs i in' in
          let same = ap (λ a. a.capacity) (with_flows_at n.arcs (λ k. get_or (take i ys) k 0) i in') in
          let exceeds : Exceeds (with_flows n ys) = (i, omega (arith, length_map_with (λ a x. with_flow x a) n.arcs zs), omega (arith, ap (λ a. a.capacity) full, ap (λ a. a.flow) full)) in
          (λ _. second.0 (inr (sum_over (flow_in now i) m y still l)), λ no. absurd (no exceeds))

      under : y ≤ m → RefusedOver (with_flows n ys) e
      under l = let none = second.1 (⊎_elim (sum_negative (flow_in now i) y) (sum_within (flow_in now i) m y still l)) in absurd (grind arith)

-- the flows of a closed round do not exceed the capacities
pub none_over : {W : Type 0} (x : ClosedRound W) (n : Net) → closed_net x ≡ n → Exceeds n → ⊥
none_over x n e p = let q = subst Exceeds (sym e) p in let s = ((sound_closed x).each q.0 q.1).held in omega (arith, q.2)
