-- What one sum tells of the two steps along an arc.
use Rattle.std.proofs.Common.{get_or, ◌≡◌, ℕ, ◌<◌, length, Some, None, sym, refl, ap, ◌∙◌, subst, subst₂, ap₂, arith, true, false}
use Rattle.std.proofs.lemmas.List.{get_or_default}
use Rattle.flow.specs.Groups.{Kind, Lt, Le}
use Rattle.flow.specs.Arcs.{arc_at}
use Rattle.flow.specs.declared.arc.Arc.{Arc}
use Rattle.flow.specs.declared.step.Step.TheVariants.{Backward}
use Rattle.flow.proofs.Group.{unit_right, le_right}
use Rattle.network.specs.Potentials.{potential}
use Rattle.search.specs.Searches.{Growing, RisesAlong}
use Rattle.search.specs.declared.sweep.Search.{Search}

module _ {W : Type 0} (G : Kind W) {s : Search W} {b : ℕ} (grows : Growing G.ops b s) (i : ℕ) (known : i < length s.net.arcs.now) where
  abbrev a : Arc
  a = arc_at s.net.arcs.now i

  abbrev at : ℕ → W
  at v = potential G.ops s.potentials.now v

  from_in : a.from < s.net.nodes
  from_in = (grows.forest.sound i known).from_in

  to_in : a.to < s.net.nodes
  to_in = (grows.forest.sound i known).to_in

  reads : {v k : ℕ} → v ≡ k → k < s.net.nodes → (d : W) → get_or s.potentials.now v d ≡ at k
  reads {v} {k} is l d = get_or_default s.potentials.now v d G.ops.none (omega (arith, grows.forest.potentials_long)) ∙ ap at is

  module _ {v w : ℕ} (v-is : v ≡ a.from) (w-is : w ≡ a.to) (d e : W) {u : W} (unit : u ≡ G.ops.unit a.price a.weeks) {x : W} (x-is : x ≡ G.ops.plus (get_or s.potentials.now v d) u) where
    abbrev c : W
    c = G.ops.unit a.price a.weeks

    sum_is : x ≡ G.ops.plus (at a.from) c
    sum_is = x-is ∙ ap₂ G.ops.plus (reads v-is from_in d) unit

    -- what the step forward offers, counted back
    counted_back : G.ops.plus (G.ops.plus (at a.from) c) (G.ops.neg c) ≡ at a.from
    counted_back = G.laws.assoc (at a.from) c (G.ops.neg c) ∙ ap (G.ops.plus (at a.from)) (G.laws.inverse c) ∙ unit_right G (at a.from)

    pub backward_rises : 0 < a.flow → G.ops.less x (get_or s.potentials.now w e) ≡ true → {y : W} → y ≡ G.ops.plus (get_or s.potentials.now w e) (G.ops.neg u) → RisesAlong G.ops s i (Some (Backward i, y))
    backward_rises room less {y} y-is = (refl, (room, offered, subst₂ (Lt G.ops) counted_back (sym offered) (shifted ∙ lower)))
      where
        offered : y ≡ G.ops.plus (at a.to) (G.ops.neg c)
        offered = y-is ∙ ap₂ G.ops.plus (reads w-is to_in e) (ap G.ops.neg unit)

        lower : G.ops.less (G.ops.plus (at a.from) c) (at a.to) ≡ true
        lower = subst₂ (Lt G.ops) sum_is (reads w-is to_in e) less

        shifted : G.ops.less (G.ops.plus (G.ops.plus (at a.from) c) (G.ops.neg c)) (G.ops.plus (at a.to) (G.ops.neg c)) ≡ G.ops.less (G.ops.plus (at a.from) c) (at a.to)
        shifted = G.laws.shifted (G.ops.plus (at a.from) c) (at a.to) (G.ops.neg c)

    pub neither_rises : (a.flow < a.capacity → G.ops.less (get_or s.potentials.now w e) x ≡ false) → (0 < a.flow → G.ops.less x (get_or s.potentials.now w e) ≡ false) → RisesAlong G.ops s i None
    neither_rises up down = (
      λ h. subst₂ (Le G.ops) sum_is (reads w-is to_in e) (up (omega arith)),
      λ h. subst (Le G.ops (G.ops.plus (at a.to) (G.ops.neg c))) counted_back (le_right G (at a.to) (G.ops.plus (at a.from) c) (G.ops.neg c) (subst₂ (Le G.ops) (reads w-is to_in e) sum_is (down h))),
    )
