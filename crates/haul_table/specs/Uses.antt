-- The law over uses of a haul table.
use Rattle.std.specs.Prelude.{ℕ, List, ℤ, Result, Option}
use Rattle.worth.specs.Kinds.{Ops}
use Rattle.tables.specs.declared.refusal.Refusal.{Refusal}
use Rattle.network.specs.Networks.{Net}
use Rattle.search.specs.Outcomes.{Improving, Clearing}
use Rattle.search.specs.Uses.{risen, summed, Standing}
use Rattle.flow.specs.Arcs.{fresh}
use Rattle.haul_table.specs.Roads.{empty, Roaded}

-- calls of road, improve and clear on one haul table, from its making, with the sum of the rises
pub data Use {W : Type 0} (o : Ops W) : Net → W → Type 0 where
  made : Use o empty o.none
  roaded : {s : Net} {sum : W} (t : Net) (from to room : ℕ) (price : ℤ) (weeks : ℕ) (r : Result ℕ Refusal) → Use o s sum → Roaded s t (fresh from to room price weeks) r → Use o t sum
  improved : {s : Net} {sum : W} (t : Net) (work work' : List W) (r : Result (Option W) Refusal) → Use o s sum → Improving o s t work work' r → Use o t (o.plus sum (risen o r))
  cleared : {s : Net} {sum : W} (t : Net) (work work' : List W) (r : Result W Refusal) → Use o s sum → Clearing o s t work work' r → Use o t (o.plus sum (summed o r))

-- wherever a use stops: a circulation within the capacities, worth the sum of the rises;
-- improve answers best just where none is worth more, and clear ends there
abbrev pub Law : {W : Type 0} → Ops W → Type 0
Law {W} o = (n : Net) (sum : W) → Use o n sum → Standing o n sum
