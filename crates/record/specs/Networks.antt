-- The network of a record.
use Rattle.std.specs.Prelude.{◌≡◌, ℕ, ◌<◌, [], ◌∷◌, length, IfOk, Result}
use Rattle.tables.specs.Refusals.{when, First, refusal}
use Rattle.tables.specs.declared.refusal.Refusal.{Refusal}
use Rattle.flow.specs.Arcs.{arc_at}
use Rattle.network.specs.Networks.{Net}
use Rattle.layout.specs.Records.{Contents, book_of}
use Rattle.round.specs.Closed.{closed_book, closed_net}
use Rattle.record.specs.Evidence.{network_of}
use Rattle.record.specs.declared.record_network.RecordNetwork.{RecordNetwork}

-- some flow exceeds its arc's capacity
abbrev pub Exceeds : Net → Type 0
Exceeds n = (i : ℕ) × (i < length n.arcs) × ((arc_at n.arcs i).capacity < (arc_at n.arcs i).flow)

-- the network that a value stands for
abbrev pub record_net : {W : Type 0} → RecordNetwork W → Net
record_net n = closed_net n.round

-- the record's network is that of its round with the flows that its units fill in; refused where one exceeds its capacity
pub record Drawn {W : Type 0} (x : Contents) (r : Result (RecordNetwork W) Refusal) : Type 0 where
  pub refused : First (when 15 (Exceeds (network_of x)) ∷ []) (refusal r)
  pub outcome : IfOk r (λ n. (record_net n ≡ network_of x) × (closed_book n.round ≡ book_of x))
