-- The search in place: potentials that only rise, and the forest of links by which they rose.
-- These words serve the contracts of the search's inner functions only.
use Rattle.std.specs.Prelude.{◌≡◌, ℕ, ◌<◌, ◌≤◌, List, [], ◌∷◌, length, Some, None, Option, slice_set}
use Rattle.std.specs.declared.ops.ControlFlow.{ControlFlow}
use Rattle.std.specs.declared.ops.ControlFlow.TheVariants.{Continue, Break}
use Rattle.worth.specs.Kinds.{Ops}
use Rattle.flow.specs.Groups.{Lt, Le}
use Rattle.flow.specs.Graphs.{Fits}
use Rattle.flow.specs.Steps.{arc, Open, step_worth, Gainful}
use Rattle.flow.specs.Arcs.{net, flow_of}
use Rattle.flow.specs.declared.arc.Arc.{Arc}
use Rattle.flow.specs.declared.step.Step.{Step}
use Rattle.network.specs.Potentials.{potential}
use Rattle.search.specs.Links.{SoundArcs, tail_of, head_of, residual_of, link, Linked, Up, Trail, onto}

-- no potential has a size above b
abbrev pub Small : {W : Type 0} → Ops W → ℕ → List W → Type 0
Small G b xs = (v : ℕ) → G.size (potential G xs v) ≤ b

-- the potentials xs of nodes without a link are at most none
abbrev pub Low : {W : Type 0} → Ops W → List W → List (Option Step) → Type 0
Low G xs ks = (v : ℕ) → link ks v ≡ None → Le G (potential G xs v) G.none

module _ {W : Type 0} (G : Ops W) (n : ℕ) (ls : List Arc) where
  -- what a step offers to its head
  abbrev pub offer : List W → Step → W
  offer xs s = G.plus (potential G xs (tail_of ls s)) (step_worth G (net G n ls) s)

  -- r is what a residual step s offers to its head, if that is more than there is
  abbrev pub Offered : List W → Step → Option W → Type 0
  Offered xs s None = 0 < residual_of ls s → Le G (offer xs s) (potential G xs (head_of ls s))
  Offered xs s (Some x) = (0 < residual_of ls s) × (x ≡ offer xs s) × Lt G (potential G xs (head_of ls s)) x

  -- the link s of node v is a residual step to v that offers at least the potential of v
  pub record Joined (xs : List W) (v : ℕ) (s : Step) : Type 0 where
    pub ends : head_of ls s ≡ v
    pub goes : Open (net G n ls) (flow_of ls) s
    pub most : Le G (potential G xs v) (offer xs s)

  -- a potential xs for each node, and no fewer places for links ks: the links lead from every node up to a root
  pub record Forest (xs : List W) (ks : List (Option Step)) : Type 0 where
    pub sound : SoundArcs n ls
    pub potentials_long : length xs ≡ n
    pub links_long : n ≤ length ks
    pub rooted : (v : ℕ) → v < n → (q : List Step) × Up ls ks v q
    pub joined : (v : ℕ) (s : Step) → link ks v ≡ Some s → Joined xs v s

  -- step s and the links from its tail up to its head are a cycle worth more than none
  pub record Closing (ks : List (Option Step)) (s : Step) : Type 0 where
    pub linked : Linked ls ks
    pub known : arc s < length ls
    pub trail : List Step
    pub climbs : Trail ls ks (tail_of ls s) (head_of ls s) trail
    pub short : length trail < n
    pub gainful : Gainful G (net G n ls) (flow_of ls) (onto trail (s ∷ []))

  -- what raising the head of step s to what it offers does to the potentials xs and the links ks: s becomes the link there, or s closes a cycle
  abbrev pub Raised : List W → List (Option Step) → List W → List (Option Step) → Step → ControlFlow Step Unit → Type 0
  Raised xs ks xs' ks' s (Continue _) = Lt G (potential G xs (head_of ls s)) (offer xs s) × (xs' ≡ slice_set xs (head_of ls s) (offer xs s)) × (ks' ≡ slice_set ks (head_of ls s) (Some s)) × Forest xs' ks'
  Raised xs ks xs' ks' s (Break t) = (t ≡ s) × Closing ks' t × (xs' ≡ xs) × (ks' ≡ ks)

  -- what the search finds: potentials that fit, or a step that closes a cycle
  abbrev pub Found : List W → List (Option Step) → Option Step → Type 0
  Found xs ks None = Fits G (net G n ls) (potential G xs) (flow_of ls) × Small G 1000000 xs
  Found xs ks (Some s) = Closing ks s
