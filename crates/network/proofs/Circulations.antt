-- Circulations, and rows that count what comes to each node.
use Rattle.std.proofs.Common.{◌≡◌, ℕ, zero, suc, ◌+◌, ◌*◌, ◌<◌, ◌≤◌, Bool, true, false, eqb, List, [], ◌∷◌, ◌++◌, length, get_or, set, replicate, length-set, refl, sym, ap, ap₂, ◌∙◌, ⊎_elim, add-one, arith}
use Rattle.std.proofs.lemmas.List.{get_or-set_same, get_or-set_other, get_or-replicate, length_push}
use Rattle.std.proofs.lemmas.Bool.{cases_eq, eq-eqb, ne_eqb}
use Rattle.worth.specs.Kinds.{Ops}
use Rattle.flow.specs.Graphs.{sum_n, when, coming, going, Circulation}
use Rattle.flow.specs.declared.arc.Arc.{Arc}
use Rattle.flow.specs.Arcs.{arc_at}
use Rattle.network.specs.declared.circulation.Throughput.{Throughput}
use Rattle.network.specs.Networks.{Net, Sound, flow_in, graph}
use Rattle.network.specs.Circulations.{Circulates, idle, through}
use Rattle.network.proofs.Reading.{Walk, Next, ended, sound_arc}

-- Circulates says the same by every kind of worth
pub circulation : {W : Type 0} (o : Ops W) (n : Net) → Circulates n → Circulation (graph o n) (flow_in n)
unfolding coming going
circulation o n h = h

pub circulates : {W : Type 0} (o : Ops W) (n : Net) → Circulation (graph o n) (flow_in n) → Circulates n
unfolding coming going
circulates o n h = h

-- what the first arcs bring to a node, by one end of each arc
abbrev pub brings : (Arc → ℕ) → Net → ℕ → ℕ → ℕ
brings end n i v = sum_n i (λ k. when (eqb (end (arc_at n.arcs k)) v) (flow_in n k))

-- a row that has what flows through each node by the first arcs
pub record Counted (n : Net) (i : ℕ) (rows : List Throughput) : Type 0 where
  pub long : length rows ≡ 272
  pub each : (v : ℕ) → v < 272 → get_or rows v idle ≡ record { inflow = brings (λ a. a.to) n i v; outflow = brings (λ a. a.from) n i v }

-- before the first arc
pub none_counted : {n : Net} (t : Throughput) → (t.inflow ≡ 0) × (t.outflow ≡ 0) → Counted n 0 (replicate 272 t)
none_counted t is = record { long = refl; each = λ v h. get_or-replicate 272 v t idle h ∙ ap₂ (λ x y. record { inflow = x; outflow = y }) is.0 is.1 }

-- after the last
pub all_counted : {n : Net} {seen left : List Arc} {rows : List Throughput} → Walk n seen left → left ≡ [] → Counted n (length seen) rows → (v : ℕ) → v < 272 → get_or rows v idle ≡ through n v
unfolding coming going
all_counted {n = n} walk over counted v h = counted.each v h ∙ ap (λ i. record { inflow = brings (λ a. a.to) n i v; outflow = brings (λ a. a.from) n i v }) (ended walk over)

when_most : (b : Bool) (x m : ℕ) → x ≤ m → when b x ≤ m
when_most true x m h = h
when_most false x m h = omega arith

module _ (end : Arc → ℕ) {n : Net} (sound : Sound n) where
  brings_small : (i v : ℕ) → i ≤ length n.arcs → brings end n i v ≤ 1000 * i
  brings_small zero v h = omega arith
  brings_small (suc i) v h =
      let a = sound.each i (omega arith) in
      omega (arith, brings_small i v (omega arith), when_most (eqb (end (arc_at n.arcs i)) v) (flow_in n i) 1000 (omega (arith, a.held, a.small)))

  module _ {seen : List Arc} {a : Arc} (next : Next n seen a) (v : ℕ) where
    -- an arc's flow can be added to what came before
    room : brings end n (length seen) v + a.flow ≤ 449000
    room =
        let s = sound_arc sound next in
        omega (arith, brings_small (length seen) v (omega (arith, next.here)), next.here, sound.few_arcs, s.held, s.small)

    brings_more : brings end n (length (seen ++ a ∷ [])) v ≡ brings end n (length seen) v + when (eqb (end a) v) a.flow
    brings_more = ap (λ i. brings end n i v) (length_push seen a ∙ add-one (length seen)) ∙ ap (λ b. brings end n (length seen) v + when (eqb (end b) v) b.flow) (sym next.is)

-- an entry is written, and a part of it raised by k
raised : (part : Throughput → ℕ) (rows : List Throughput) (i v k : ℕ) (x : Throughput) → i < length rows → part x ≡ part (get_or rows i idle) + k → part (get_or (set rows i x) v idle) ≡ part (get_or rows v idle) + when (eqb i v) k
raised part rows i v k x inside is = ⊎_elim here there (cases_eq i v)
  where
    here : i ≡ v → part (get_or (set rows i x) v idle) ≡ part (get_or rows v idle) + when (eqb i v) k
    here same = rw (← same, get_or-set_same rows i x idle inside, eq-eqb i i refl) is

    there : (i ≡ v → ⊥) → part (get_or (set rows i x) v idle) ≡ part (get_or rows v idle) + when (eqb i v) k
    there other = rw (get_or-set_other rows i v x idle (λ same. other (sym same)), ne_eqb i v other) (omega arith)

-- an entry is written, and a part of it kept
kept : (part : Throughput → ℕ) (rows : List Throughput) (i v : ℕ) (x : Throughput) → i < length rows → part x ≡ part (get_or rows i idle) → part (get_or (set rows i x) v idle) ≡ part (get_or rows v idle)
kept part rows i v x inside is = omega (arith, raised part rows i v 0 x inside (omega arith), when_most (eqb i v) 0 0 (omega arith))

-- an arc's flow added to what comes in where it ends, and to what goes out where it begins
abbrev arrival : List Throughput → Arc → Throughput
arrival rows a = record { inflow = (get_or rows a.to idle).inflow + a.flow; outflow = (get_or rows a.to idle).outflow }

abbrev departure : List Throughput → Arc → Throughput
departure rows a = record { inflow = (get_or rows a.from idle).inflow; outflow = (get_or rows a.from idle).outflow + a.flow }

abbrev arrived : List Throughput → Arc → List Throughput
arrived rows a = set rows a.to (arrival rows a)

-- the next arc, after those seen and counted
module _ {n : Net} {seen : List Arc} {a : Arc} {rows : List Throughput} (sound : Sound n) (next : Next n seen a) (counted : Counted n (length seen) rows) where
  among : (a.to < 272) × (a.from < 272)
  among = let s = sound_arc sound next in (omega (arith, s.to_in, sound.few_nodes), omega (arith, s.from_in, sound.few_nodes))

  pub can_arrive : (get_or rows a.to idle).inflow + a.flow ≤ 449000
  can_arrive = omega (arith, ap (λ t. t.inflow) (counted.each a.to among.0), room (λ a. a.to) sound next a.to)

  pub can_depart : (get_or (arrived rows a) a.from idle).outflow + a.flow ≤ 449000
  can_depart = omega (arith, kept (λ t. t.outflow) rows a.to a.from (arrival rows a) (omega (arith, counted.long, among.0)) refl, ap (λ t. t.outflow) (counted.each a.from among.1), room (λ a. a.from) sound next a.from)

  pub one_more : Counted n (length (seen ++ a ∷ [])) (set (arrived rows a) a.from (departure (arrived rows a) a))
  one_more = record { long = long; each = λ v h. ap₂ (λ x y. record { inflow = x; outflow = y }) (into v h) (out v h) }
    where
      long : length (set (arrived rows a) a.from (departure (arrived rows a) a)) ≡ 272
      long = length-set (arrived rows a) a.from (departure (arrived rows a) a) ∙ length-set rows a.to (arrival rows a) ∙ counted.long

      to_inside : a.to < length rows
      to_inside = omega (arith, counted.long, among.0)

      from_inside : a.from < length (arrived rows a)
      from_inside = omega (arith, counted.long, length-set rows a.to (arrival rows a), among.1)

      into : (v : ℕ) → v < 272 → (get_or (set (arrived rows a) a.from (departure (arrived rows a) a)) v idle).inflow ≡ brings (λ a. a.to) n (length (seen ++ a ∷ [])) v
      into v h =
          kept (λ t. t.inflow) (arrived rows a) a.from v (departure (arrived rows a) a) from_inside refl
          ∙ raised (λ t. t.inflow) rows a.to v a.flow (arrival rows a) to_inside refl
          ∙ ap (λ t. t.inflow + when (eqb a.to v) a.flow) (counted.each v h)
          ∙ sym (brings_more (λ a. a.to) sound next v)

      out : (v : ℕ) → v < 272 → (get_or (set (arrived rows a) a.from (departure (arrived rows a) a)) v idle).outflow ≡ brings (λ a. a.from) n (length (seen ++ a ∷ [])) v
      out v h =
          raised (λ t. t.outflow) (arrived rows a) a.from v a.flow (departure (arrived rows a) a) from_inside refl
          ∙ ap (λ x. x + when (eqb a.from v) a.flow) (kept (λ t. t.outflow) rows a.to v (arrival rows a) to_inside refl ∙ ap (λ t. t.outflow) (counted.each v h))
          ∙ sym (brings_more (λ a. a.from) sound next v)
