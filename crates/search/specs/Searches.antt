-- What is known of a search and of a cycle that it has found.
use Rattle.std.specs.Prelude.{◌≡◌, ℕ, ◌≤◌, Bool, List, length, Some, None, Option}
use Rattle.std.specs.declared.ops.ControlFlow.{ControlFlow}
use Rattle.worth.specs.Kinds.{Ops}
use Rattle.network.specs.Networks.{Net}
use Rattle.network.specs.Potentials.{potential}
use Rattle.flow.specs.declared.step.Step.{Step}
use Rattle.flow.specs.declared.step.Step.TheVariants.{Forward, Backward}
use Rattle.flow.specs.Steps.{arc}
use Rattle.search.specs.declared.residual.Residual.{Residual}
use Rattle.search.specs.declared.cycle.Cycle.{Cycle}
use Rattle.search.specs.declared.cycle.Measure.{Measure}
use Rattle.search.specs.declared.sweep.Search.{Search}
use Rattle.search.specs.Links.{Unlinked, head_of, climb}
use Rattle.search.specs.Sweeps.{Small, Forest, Closing, Offered, Raised, Found}
use Rattle.search.specs.Passes.{Passed}
use Rattle.search.specs.Cycles.{Measured}

-- the network whose arcs were read
abbrev pub net_of : Residual → Net
net_of r = record { nodes = r.nodes; arcs = r.arcs.now }

-- the steps of a cycle, against their direction: the closing one, and up the links from its tail to its head
abbrev pub steps_of : Cycle → List Step
steps_of c = let ls = c.links.net.arcs.now in let ks = c.links.last.now in climb ls ks (head_of ls c.closing) (Some c.closing) (length ks)

-- both are over one network, and write their potentials, their links and the nodes that these start from into the same rows
pub record Same {W : Type 0} (s t : Search W) : Type 0 where
  pub net : t.net ≡ s.net
  pub held : t.potentials.ghost_name ≡ s.potentials.ghost_name
  pub linked : t.links.ghost_name ≡ s.links.ghost_name
  pub row : t.ups.ghost_name ≡ s.ups.ghost_name

module _ {W : Type 0} (o : Ops W) where
  -- nothing is raised yet
  pub record Begun (s : Search W) : Type 0 where
    pub potentials_long : length s.potentials.now ≡ s.net.nodes
    pub none : (v : ℕ) → potential o s.potentials.now v ≡ o.none
    pub unlinked : Unlinked s.links.now
    pub links_long : s.net.nodes ≤ length s.links.now

  -- the links are a forest, and no potential has a size above b
  pub record Growing (b : ℕ) (s : Search W) : Type 0 where
    pub forest : Forest o s.net.nodes s.net.arcs.now s.potentials.now s.links.now
    pub small : Small o b s.potentials.now

  -- what step t offers in s
  abbrev pub Offers : Search W → Step → Option W → Type 0
  Offers s t r = Offered o s.net.nodes s.net.arcs.now s.potentials.now t r

  -- r is a step along arc i that offers more than there is, with what it offers; or neither step along it does
  abbrev pub RisesAlong : Search W → ℕ → Option (Step × W) → Type 0
  RisesAlong s i None = Offers s (Forward i) None × Offers s (Backward i) None
  RisesAlong s i (Some z) = (arc z.0 ≡ i) × Offers s z.0 (Some z.1)

  -- raising the head of step t takes s to s'
  abbrev pub Raises : Search W → Search W → Step → ControlFlow Step Unit → Type 0
  Raises s s' t r = Raised o s.net.nodes s.net.arcs.now s.potentials.now s.links.now s'.potentials.now s'.links.now t r

  -- a pass from arc number `first` on takes s to s'
  abbrev pub PassesTo : ℕ → Search W → Search W → ControlFlow Step Bool → Type 0
  PassesTo first s s' r = Passed o s.net.nodes s.net.arcs.now first s.potentials.now s.links.now s'.potentials.now s'.links.now r

  -- the search ends at s
  abbrev pub Finds : Search W → Option Step → Type 0
  Finds s r = Found o s.net.nodes s.net.arcs.now s.potentials.now s.links.now r

  -- step t closes a cycle worth more than none
  abbrev pub ClosedBy : Search W → Step → Type 0
  ClosedBy s t = Closing o s.net.nodes s.net.arcs.now s.links.now t

  -- the cycle is worth more than none
  abbrev pub Closes : Cycle → Type 0
  Closes c = Closing o c.links.net.nodes c.links.net.arcs.now c.links.last.now c.closing

  -- the steps p are a cycle of the network that allows the amount, and one unit along it gains the gain
  abbrev pub Measures : Net → List Step → Measure W → Type 0
  Measures n p m = Measured o n.nodes n.arcs p m.amount m.gain
