-- Steps over a table of arcs, and the links of a search: for each node the step by which its potential was raised last,
-- or none. These words serve the contracts of the search's inner functions only.
use Rattle.std.specs.Prelude.{◌≡◌, ℕ, zero, suc, ◌-◌, ◌<◌, ◌≤◌, Bool, false, cond, ◌==◌, ◌↔◌, List, [], ◌∷◌, length, Some, None, Option, ◌≢◌, slice_index_or}
use Rattle.std.specs.List.{Contains}
use Rattle.flow.specs.declared.arc.Arc.{Arc}
use Rattle.flow.specs.declared.step.Step.{Step}
use Rattle.flow.specs.Arcs.{arc_at, flow_of}
use Rattle.flow.specs.Steps.{arc, either_way, Fresh}
use Rattle.network.specs.Networks.{SoundArc}

-- each is an arc of a network of n nodes
abbrev pub SoundArcs : ℕ → List Arc → Type 0
SoundArcs n ls = (i : ℕ) → i < length ls → SoundArc n (arc_at ls i)

-- the node that a step starts from
abbrev pub tail_of : List Arc → Step → ℕ
tail_of ls s = either_way (λ i. (arc_at ls i).from) (λ i. (arc_at ls i).to) s

-- the node that a step leads to
abbrev pub head_of : List Arc → Step → ℕ
head_of ls s = either_way (λ i. (arc_at ls i).to) (λ i. (arc_at ls i).from) s

-- how much a step can take
abbrev pub residual_of : List Arc → Step → ℕ
residual_of ls s = either_way (λ i. (arc_at ls i).capacity - flow_of ls i) (flow_of ls) s

-- the link of node v
abbrev pub link : List (Option Step) → ℕ → Option Step
link ks v = slice_index_or ks v None

-- no node has a link
abbrev pub Unlinked : List (Option Step) → Type 0
Unlinked ks = (v : ℕ) → link ks v ≡ None

-- each link is a step of a known arc, and starts from a node
abbrev pub Linked : List Arc → List (Option Step) → Type 0
Linked ls ks = (v : ℕ) (s : Step) → link ks v ≡ Some s → (arc s < length ls) × (tail_of ls s < length ks)

-- each link leads to its node, and can take something
abbrev pub OpenLinks : List Arc → List (Option Step) → Type 0
OpenLinks ls ks = (v : ℕ) (s : Step) → link ks v ≡ Some s → (head_of ls s ≡ v) × (0 < residual_of ls s)

-- each link leads to its node, and one that can take nothing is among the steps p
abbrev pub OpenBut : List Arc → List Step → List (Option Step) → Type 0
OpenBut ls p ks = (v : ℕ) (s : Step) → link ks v ≡ Some s → (head_of ls s ≡ v) × (residual_of ls s ≡ 0 → Contains p s)

-- q are the steps from node v up along the links to a root, a node without a link
abbrev pub Up : List Arc → List (Option Step) → ℕ → List Step → Type 0
Up ls ks v [] = link ks v ≡ None
Up ls ks v (s ∷ q) = (link ks v ≡ Some s) × Up ls ks (tail_of ls s) q

-- the nodes on the way up, with v
abbrev pub line : List Arc → ℕ → List Step → List ℕ
line ls v [] = v ∷ []
line ls v (s ∷ q) = v ∷ line ls (tail_of ls s) q

-- there is a way up from node v, shorter than the table of links
abbrev pub Rooted : List Arc → List (Option Step) → ℕ → Type 0
Rooted ls ks v = (q : List Step) × Up ls ks v q × (length q < length ks)

-- u stands for a link in a row of n nodes: the node that it starts from, or, where there is no link, none of them
pub record Stands (ls : List Arc) (n : ℕ) (k : Option Step) (u : ℕ) : Type 0 where
  pub off : k ≡ None → n ≤ u
  pub on : (s : Step) → k ≡ Some s → u ≡ tail_of ls s

-- the row us says of each node where its link starts from
pub record Paired (ls : List Arc) (ks : List (Option Step)) (us : List ℕ) : Type 0 where
  pub long : length us ≡ length ks
  pub each : (v : ℕ) → v < length ks → Stands ls (length ks) (link ks v) (slice_index_or us v 0)

-- r says whether the way up from node v passes the goal
abbrev pub Told : List Arc → List (Option Step) → ℕ → ℕ → Bool → Type 0
Told ls ks v goal r = (q : List Step) → Up ls ks v q → (r ≡ false) ↔ Fresh goal (line ls v q)

-- q are the steps from node x up along the links until node v is met
abbrev pub Trail : List Arc → List (Option Step) → ℕ → ℕ → List Step → Type 0
Trail ls ks x v [] = x ≡ v
Trail ls ks x v (s ∷ q) = (x ≢ v) × (link ks x ≡ Some s) × Trail ls ks (tail_of ls s) v q

-- steps put before p in turn, so that the last one up comes first
abbrev pub onto : List Step → List Step → List Step
onto [] p = p
onto (s ∷ q) p = onto q (s ∷ p)

-- the step after s on the way up: the link of the node that s starts from, or none where that node is the goal
abbrev pub after : List Arc → List (Option Step) → ℕ → Step → Option Step
after ls ks goal s = cond (tail_of ls s == goal) None (link ks (tail_of ls s))

-- the steps from one on up to the goal or a root, k of them at most
abbrev pub climb : List Arc → List (Option Step) → ℕ → Option Step → ℕ → List Step
climb ls ks goal None k = []
climb ls ks goal (Some s) zero = []
climb ls ks goal (Some s) (suc k) = s ∷ climb ls ks goal (after ls ks goal s) k
