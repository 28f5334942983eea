-- What flows on the two roads once they are best.
use Rattle.std.proofs.Common.{◌≡◌, ℕ, ◌≤◌, [], ◌∷◌, ltb, true, refl, ◌∙◌, arith}
use Rattle.std.proofs.lemmas.Bool.{ltb-true}
use Rattle.worth.specs.Money.{money}
use Rattle.worth.specs.Integers.{money_laws}
use Rattle.flow.specs.Graphs.{Circulation, coming, going}
use Rattle.network.specs.Networks.{Net, flow_in, graph}
use Rattle.cases.specs.Cases.{cents, flows}
use Rattle.cases.specs.Clearing.{Leaves}
use Rattle.cases.proofs.Cleared.{roads_leave}
use Rattle.cases.proofs.Every.{Reached}
use Rattle.cases.proofs.Left.{EachBelow, flow_is, two_flows}
use Rattle.cases.proofs.Rounds.{road_net}

-- what goes out along one road comes back along the other
flat : (y : ℕ → ℕ) → Circulation (graph money road_net) y → EachBelow 2 (λ i. y i ≡ y 0)
unfolding coming going
flat y h =
    let at : coming (graph money road_net) y 0 ≡ going (graph money road_net) y 0 = h 0 (ltb-true 0 64 refl) in
    (omega (arith, at), (refl, tt))

-- the second road takes 3 at most, and 60 cents are 3 units round
threes : (t : Net) → Reached money_laws road_net (cents 60) t → (i : ℕ) → ltb i 2 ≡ true → flow_in t i ≡ 3
threes t r i l =
    let f = flat (flow_in t) r.circulation in
    let room : flow_in t 1 ≤ 3 = r.within 1 (ltb-true 1 2 refl) in
    let same : flow_in t 1 ≡ flow_in t 0 = f.0 in
    flow_is money_laws road_net (cents 60) 3 3 refl (flow_in t) f (omega arith) r.worth i (ltb-true i 2 l)

pub roads_filled : (units : ℕ) → 3 ≡ units → Leaves money (λ t. flows t ≡ units ∷ units ∷ []) road_net
roads_filled units is = roads_leave (λ t. flows t ≡ units ∷ units ∷ []) (λ t r. two_flows t.arcs units r.same.long (threes t r 0 refl ∙ is) (threes t r 1 refl ∙ is))
