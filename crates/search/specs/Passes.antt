-- Passes over the arcs of a table, links cut after a shift, and quick cycles. These words serve the contracts of inner functions only.
use Rattle.std.specs.Prelude.{◌≡◌, ℕ, ◌+◌, ◌<◌, ◌≤◌, ◌⊎◌, Bool, true, false, List, length, Some, None, Option}
use Rattle.std.specs.declared.ops.ControlFlow.{ControlFlow}
use Rattle.std.specs.declared.ops.ControlFlow.TheVariants.{Continue, Break}
use Rattle.worth.specs.Kinds.{Ops}
use Rattle.flow.specs.Groups.{Lt, Le}
use Rattle.flow.specs.Arcs.{net, flow_of}
use Rattle.flow.specs.Steps.{arc, Open}
use Rattle.flow.specs.declared.arc.Arc.{Arc}
use Rattle.flow.specs.declared.step.Step.{Step}
use Rattle.network.specs.Networks.{Net}
use Rattle.network.specs.Potentials.{potential, Fitted}
use Rattle.search.specs.declared.quick.Climbed.{Climbed}
use Rattle.search.specs.declared.quick.Climbed.TheVariants.{Best, Left}
use Rattle.search.specs.Links.{residual_of, head_of, link}
use Rattle.search.specs.Sweeps.{Small, Low, offer, Forest, Closing}
use Rattle.search.specs.Outcomes.{Climb}

-- a link that could take nothing is none now, and any other is as it was
abbrev pub Spared : List Arc → Option Step → Option Step → Type 0
Spared ls k k' = ((k' ≡ None) × ((s : Step) → k ≡ Some s → residual_of ls s ≡ 0)) ⊎ ((k' ≡ k) × ((s : Step) → k ≡ Some s → 0 < residual_of ls s))

-- of the links ks those that can take something are left as they were, and the others none
pub record Cut (ls : List Arc) (ks ks' : List (Option Step)) : Type 0 where
  pub long : length ks' ≡ length ks
  pub each : (v : ℕ) → Spared ls (link ks v) (link ks' v)

module _ {W : Type 0} (G : Ops W) (n : ℕ) (ls : List Arc) where
  -- the links are a forest still, and no size has grown by more than k
  pub record Went (xs xs' : List W) (ks' : List (Option Step)) (k : ℕ) : Type 0 where
    pub forest : Forest G n ls xs' ks'
    pub sizes : (b : ℕ) → Small G b xs → Small G (b + k) xs'

  -- the arcs numbered from `first` on and below k were gone over, from the potentials xs and the links ks on: no open step along
  -- them offered at first more than there is now
  pub record Swept (first k : ℕ) (xs : List W) (ks : List (Option Step)) (xs' : List W) (ks' : List (Option Step)) (moved : Bool) : Type 0 where
    pub went : Went xs xs' ks' k
    pub low : Low G xs ks → Low G xs' ks'
    pub up : (v : ℕ) → v < n → Le G (potential G xs v) (potential G xs' v)
    pub done : (s : Step) → Open (net G n ls) (flow_of ls) s → first ≤ arc s → arc s < k → Le G (offer G n ls xs s) (potential G xs' (head_of ls s))
    pub rose : moved ≡ true → (v : ℕ) × (v < n) × Lt G (potential G xs v) (potential G xs' v)
    pub same : moved ≡ false → xs' ≡ xs

  -- what a pass over the arcs from number `first` on does: it goes over all of them, or ends with a step that closes a cycle
  abbrev pub Passed : ℕ → List W → List (Option Step) → List W → List (Option Step) → ControlFlow Step Bool → Type 0
  Passed first xs ks xs' ks' (Continue moved) = Swept first (length ls) xs ks xs' ks' moved
  Passed first xs ks xs' ks' (Break s) = Went xs xs' ks' (length ls) × Closing G n ls ks' s

-- what quick cycles come to: some number of them, one after another, with the sum of their rises; where they end best, the potentials fit
abbrev pub Climbs : {W : Type 0} → Ops W → Net → Net → List W → Climbed W → Type 0
Climbs o before after row (Best sum) = Climb o before sum after × Fitted o after row
Climbs o before after row (Left sum) = Climb o before sum after
