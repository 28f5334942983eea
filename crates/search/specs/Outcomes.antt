-- What improve and clear do to a network and a work table.
use Rattle.std.specs.Prelude.{◌≡◌, ℕ, ◌<◌, ◌≤◌, List, length, Ok, Err, Result, None, Option, Some}
use Rattle.worth.specs.Kinds.{Ops}
use Rattle.flow.specs.declared.step.Step.{Step}
use Rattle.flow.specs.Steps.{Gainful, Shifted, Allows}
use Rattle.flow.specs.Arcs.{SameArcs}
use Rattle.tables.specs.declared.refusal.Refusal.{Refusal}
use Rattle.tables.specs.declared.refusal.Refusal.TheVariants as refusals
use Rattle.network.specs.Networks.{Net, flow_in, graph, value}
use Rattle.network.specs.Potentials.{potential, Fitted}

-- flow was shifted along one cycle worth more than none, by as much as all its steps allow, and nothing else changed;
-- the rise is the worth after less the worth before
pub record Improves {W : Type 0} (o : Ops W) (before after : Net) (rise : W) : Type 0 where
  pub cycle : List Step
  pub gainful : Gainful o (graph o before) (flow_in before) cycle
  pub amount : ℕ
  pub allowed : Allows (graph o before) (flow_in before) cycle amount
  pub most : (e : ℕ) → Allows (graph o before) (flow_in before) cycle e → e ≤ amount
  pub nodes : after.nodes ≡ before.nodes
  pub arcs : SameArcs before.arcs after.arcs
  pub shifted : Shifted (graph o before) (flow_in before) cycle amount (flow_in after)
  pub rises : rise ≡ o.plus (value o after) (o.neg (value o before))

-- any number of such cycles, one after another, with the sum of their rises
pub data Climb {W : Type 0} (o : Ops W) : Net → W → Net → Type 0 where
  still : {n : Net} → Climb o n o.none n
  more : {s t u : Net} {sum rise : W} → Climb o s sum t → Improves o t u rise → Climb o s (o.plus sum rise) u

module _ {W : Type 0} (o : Ops W) where
  -- no cycle is worth more than none
  abbrev pub Idle : Net → Type 0
  Idle n = (c : List Step) → Gainful o (graph o n) (flow_in n) c → ⊥

  -- the work table is no shorter than the nodes, and its entries beyond them stay
  pub record Beyond (nodes : ℕ) (work work' : List W) : Type 0 where
    pub enough : nodes ≤ length work
    pub long : length work' ≡ length work
    pub rest : (v : ℕ) → nodes ≤ v → potential o work' v ≡ potential o work v

  -- the first entries of the work table, one for each node, are none
  abbrev pub Nones : ℕ → List W → Type 0
  Nones nodes work = (v : ℕ) → v < nodes → potential o work v ≡ o.none

  -- the work table is shorter than the nodes: that is refusal 10, and nothing changes
  pub record Short (before after : Net) (work work' : List W) (e : Refusal) : Type 0 where
    pub short : length work < before.nodes
    pub named : e ≡ refusals.Short
    pub same : after ≡ before
    pub kept : work' ≡ work

  -- improve: `Some` is the rise, by one cycle, and leaves the work table none; `None` says that the network is best, as no
  -- cycle is worth more than none, and leaves potentials that fit; or a refusal
  abbrev pub Improving : Net → Net → List W → List W → Result (Option W) Refusal → Type 0
  Improving before after work work' (Ok (Some rise)) = Improves o before after rise × Nones before.nodes work' × Beyond before.nodes work work'
  Improving before after work work' (Ok None) = (after ≡ before) × Fitted o before work' × Beyond before.nodes work work' × Idle before
  Improving before after work work' (Err e) = Short before after work work' e

  -- clear: cycle after cycle until none is worth more than none, with the sum of the rises and potentials that fit; or a refusal
  abbrev pub Clearing : Net → Net → List W → List W → Result W Refusal → Type 0
  Clearing before after work work' (Ok sum) = Climb o before sum after × Fitted o after work' × Beyond before.nodes work work' × Idle after
  Clearing before after work work' (Err e) = Short before after work work' e
