-- Lists of arcs with their flows, and the same as networks.
use Rattle.std.proofs.Common.{◌≡◌, ℕ, zero, suc, ◌+◌, ◌<◌, ◌≤◌, eqb, List, [], ◌∷◌, length, sym, refl, ap, ◌∙◌, subst, ap₂, arith}
use Rattle.worth.specs.Kinds.{Ops}
use Rattle.flow.specs.Groups.{Kind, times}
use Rattle.flow.specs.Graphs.{Graph, Circulation, worth, sum_n, when, coming as coming_at, going as going_at}
use Rattle.flow.specs.Arcs.{arc_at, flow_of, SameArc, SameArcs, net, with_flow}
use Rattle.flow.specs.declared.arc.Arc.{Arc}
use Rattle.flow.proofs.Rows.{net_same}
use Rattle.flow.proofs.Sums.{total_same}
use Rattle.network.specs.Networks.{Net, flow_in, graph, value}
use Rattle.book.specs.Books.{Book}
use Rattle.book.specs.Arcs.{Flows, laid, nodes, arcs_of, net_of, flowing, NetworkOf}
use Rattle.book.proofs.Sums.{sum, length_map_with}
use Rattle.book.proofs.Nodes.{Balanced}
use Rattle.book.proofs.Rules.{Fitting}
use Rattle.book.proofs.Filled.{with_flows, laid_as_row}

-- the arc at a number, with the flow put on it
pub with_flows_at : (xs : List Arc) (y : ℕ → ℕ) (i : ℕ) → i < length xs → arc_at (with_flows xs y) i ≡ with_flow (y i) (arc_at xs i)
with_flows_at [] y i l = absurd (omega arith)
with_flows_at (x ∷ xs) y zero l = refl
with_flows_at (x ∷ xs) y (suc i) l = with_flows_at xs (λ k. y (suc k)) i (omega arith)

with_flows_same : (xs : List Arc) (y : ℕ → ℕ) → SameArcs xs (with_flows xs y)
with_flows_same xs y = record {
  long = sym (length_map_with (λ a x. with_flow x a) xs y);
  each = λ i l. subst (SameArc (arc_at xs i)) (sym (with_flows_at xs y i l)) (record { from = refl; to = refl; capacity = refl; price = refl; weeks = refl });
}

same_with_flows : (xs ms : List Arc) → SameArcs xs ms → with_flows xs (flow_of ms) ≡ ms
same_with_flows [] [] s = refl
same_with_flows [] (m ∷ ms) s = absurd (omega (arith, s.long))
same_with_flows (x ∷ xs) [] s = absurd (omega (arith, s.long))
same_with_flows (x ∷ xs) (m ∷ ms) s = ap₂ ◌∷◌ (same (s.each 0 (omega arith))) (same_with_flows xs ms (record { long = omega (arith, s.long); each = λ i l. s.each (suc i) (omega arith) }))
  where
    same : SameArc x m → with_flow m.flow x ≡ m
    same e = λ j. record { from = e.from j; to = e.to j; capacity = e.capacity j; flow = m.flow; price = e.price j; weeks = e.weeks j }

-- what has the arcs of a book is its network with some flows
pub flowing_network : (b : Book) (y : ℕ → ℕ) → NetworkOf b (flowing b y)
flowing_network b y = record { same_nodes = refl; same_arcs = with_flows_same (arcs_of b) y }

pub flowing_flow : (b : Book) (y : ℕ → ℕ) (i : ℕ) → i < length (arcs_of b) → flow_in (flowing b y) i ≡ y i
flowing_flow b y i l = ap (λ a. a.flow) (with_flows_at (arcs_of b) y i l)

pub network_flowing : (b : Book) (n : Net) → NetworkOf b n → flowing b (flow_in n) ≡ n
network_flowing b n h = let e = same_with_flows (arcs_of b) n.arcs h.same_arcs in λ j. record { nodes = sym h.same_nodes j; arcs = e j }

pub laid_network : (b : Book) (f : Flows) → NetworkOf b (record { nodes = nodes b; arcs = laid b f })
laid_network b f = record { same_nodes = refl; same_arcs = subst (SameArcs (arcs_of b)) (laid_as_row b f) (with_flows_same (arcs_of b) (flow_of (laid b f))) }

-- sums by an arc's number and along the list
sum_front : (n : ℕ) (f : ℕ → ℕ) → sum_n (suc n) f ≡ f 0 + sum_n n (λ i. f (suc i))
sum_front zero f = omega arith
sum_front (suc n) f = let e = sum_front n f in omega arith

by_number : (end : Arc → ℕ) → ((a : Arc) (x : ℕ) → end (with_flow x a) ≡ end a) → (v : ℕ) (xs : List Arc) (y : ℕ → ℕ) → sum_n (length xs) (λ i. when (eqb (end (arc_at xs i)) v) (y i)) ≡ sum (λ a. when (eqb (end a) v) a.flow) (with_flows xs y)
by_number end h v [] y = refl
by_number end h v (x ∷ xs) y = sum_front (length xs) (λ i. when (eqb (end (arc_at (x ∷ xs) i)) v) (y i)) ∙ ap₂ ◌+◌ (ap (λ t. when (eqb t v) (y 0)) (sym (h x (y 0)))) (by_number end h v xs (λ i. y (suc i)))

pub fitting_to : (xs : List Arc) (y : ℕ → ℕ) → ((i : ℕ) → i < length xs → y i ≤ (arc_at xs i).capacity) → Fitting (with_flows xs y)
fitting_to [] y h = tt
fitting_to (x ∷ xs) y h = (h 0 (omega arith), fitting_to xs (λ i. y (suc i)) (λ i l. h (suc i) (omega arith)))

pub fitting_from : (xs : List Arc) (y : ℕ → ℕ) → Fitting (with_flows xs y) → (i : ℕ) → i < length xs → y i ≤ (arc_at xs i).capacity
fitting_from [] y h i l = absurd (omega arith)
fitting_from (x ∷ xs) y h zero l = h.0
fitting_from (x ∷ xs) y h (suc i) l = fitting_from xs (λ i. y (suc i)) h.1 i (omega arith)

module _ {W : Type 0} (o : Ops W) where
  pub circulates_to : (n : ℕ) (xs : List Arc) (y : ℕ → ℕ) → Circulation (net o n xs) y → Balanced n (with_flows xs y)
  unfolding coming_at going_at
  circulates_to n xs y c v l = sym (by_number (λ a. a.to) (λ a x. refl) v xs y) ∙ c v l ∙ by_number (λ a. a.from) (λ a x. refl) v xs y

  pub circulates_from : (n : ℕ) (xs : List Arc) (y : ℕ → ℕ) → Balanced n (with_flows xs y) → Circulation (net o n xs) y
  unfolding coming_at going_at
  circulates_from n xs y c v l = by_number (λ a. a.to) (λ a x. refl) v xs y ∙ c v l ∙ sym (by_number (λ a. a.from) (λ a x. refl) v xs y)

module _ {W : Type 0} (G : Kind W) where
  -- a book has one graph, whatever flows are on its network
  pub graph_same : (b : Book) (n : Net) → NetworkOf b n → graph G.ops (net_of b) ≡ graph G.ops n
  graph_same b n h = net_same G (nodes b) (arcs_of b) n.arcs h.same_arcs ∙ ap (λ k. net G.ops k n.arcs) (sym h.same_nodes)

  pub value_is : (b : Book) (n : Net) → NetworkOf b n → value G.ops n ≡ worth G.ops (graph G.ops (net_of b)) (flow_in n)
  value_is b n h = ap (λ N. worth G.ops N (flow_in n)) (sym (graph_same b n h))

  pub value_flowing : (b : Book) (y : ℕ → ℕ) → value G.ops (flowing b y) ≡ worth G.ops (graph G.ops (net_of b)) y
  value_flowing b y =
      let N : Graph W = graph G.ops (net_of b) in
      value_is b (flowing b y) (flowing_network b y)
      ∙ total_same G (length (arcs_of b)) (λ i. times G.ops (flow_in (flowing b y) i) (N.unit i)) (λ i. times G.ops (y i) (N.unit i)) (λ i l. ap (λ k. times G.ops k (N.unit i)) (flowing_flow b y i l))
