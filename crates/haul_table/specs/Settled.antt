-- Haul tables with the same arcs are the same, since bounds hold in one way at most.
use Rattle.std.specs.Prelude.{◌≡◌, ◌≤◌, length}
use Rattle.std.proofs.Common.{ap}
use Rattle.std.proofs.Math.Bridge.{le_prop}
use Rattle.std.proofs.Math.Dec.{T_prop}
use mathlib.Core.HLevel.{is_prop→PathP}
use Rattle.network.specs.Networks.{Net, Sound}
use Rattle.haul_table.specs.Roads.{hauled, Alike}
use Rattle.haul_table.specs.declared.table.HaulTable.{HaulTable}

-- bounds hold in one way at most
sound_prop : (n : Net) → IsProp (Sound n)
sound_prop n = hlevel (le_prop, T_prop)

-- tables with the same arcs are equal
pub alike_settled : {W : Type 0} (x y : HaulTable W) → Alike x y → hauled x ≡ hauled y → x ≡ y
alike_settled x y a e =
    let p : x.arcs ≡ y.arcs = ap (λ n. n.arcs) e in
    λ i. record {
      arcs = p i;
      kind = x.kind;
      few = is_prop→PathP (λ j. length (p j) ≤ 256) (λ j. le_prop) x.few y.few i;
      sound = is_prop→PathP (λ j. Sound (record { nodes = 64; arcs = p j })) (λ j. sound_prop (record { nodes = 64; arcs = p j })) x.sound y.sound i;
    }
