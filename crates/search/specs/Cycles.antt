-- A cycle measured and shifted along. These words serve the contracts of the search's inner functions only.
use Rattle.std.specs.Prelude.{◌≡◌, ℕ, ◌+◌, ◌-◌, ◌<◌, ◌≤◌, List, [], length}
use Rattle.std.specs.List.{Contains}
use Rattle.worth.specs.Kinds.{Ops}
use Rattle.flow.specs.declared.arc.Arc.{Arc}
use Rattle.flow.specs.declared.step.Step.{Step}
use Rattle.flow.specs.declared.step.Step.TheVariants.{Forward, Backward}
use Rattle.flow.specs.Arcs.{net, flow_of, arc_at}
use Rattle.flow.specs.Steps.{gain, Allows, Gainful}
use Rattle.network.specs.Networks.{Net, flow_in, put_flow}
use Rattle.search.specs.Links.{onto, residual_of}

module _ {W : Type 0} (o : Ops W) (n : ℕ) (ls : List Arc) where
  -- d is as much as all the steps of c allow
  pub record Most (c : List Step) (d : ℕ) : Type 0 where
    pub allowed : Allows (net o n ls) (flow_of ls) c d
    pub most : (e : ℕ) → Allows (net o n ls) (flow_of ls) c e → e ≤ d

  -- the steps p, against their direction, are a cycle worth more than none that allows d, and one unit along it gains w
  pub record Measured (p : List Step) (d : ℕ) (w : W) : Type 0 where
    pub gainful : Gainful o (net o n ls) (flow_of ls) (onto p [])
    pub most : Most (onto p []) d
    pub gains : w ≡ gain o (net o n ls) (onto p [])
    pub small : o.size w ≤ 272

-- a step of the network that can take d
abbrev pub Takes : Net → ℕ → Step → Type 0
Takes m d (Forward i) = (i < length m.arcs) × (flow_in m i + d ≤ (arc_at m.arcs i).capacity)
Takes m d (Backward i) = (i < length m.arcs) × (d ≤ flow_in m i)

-- the network with d moved along a step
abbrev pub taken : Net → ℕ → Step → Net
taken m d (Forward i) = put_flow m i (flow_in m i + d)
taken m d (Backward i) = put_flow m i (flow_in m i - d)

-- of the steps that can take something over the arcs ls, only those among p can take nothing over the arcs ms
abbrev pub FullAlong : List Arc → List Arc → List Step → Type 0
FullAlong ls ms p = (s : Step) → 0 < residual_of ls s → residual_of ms s ≡ 0 → Contains p s
