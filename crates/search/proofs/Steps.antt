-- What is known of the arc of a step, also where there is none.
use Rattle.std.proofs.Common.{ℕ, suc, ◌<◌, List, length, sym, ap, subst, ⊎_elim, arith}
use Rattle.std.proofs.lemmas.List.{get_or_past}
use Rattle.std.proofs.lemmas.Bool.{cases_lt}
use Rattle.std.proofs.lemmas.Int.{ints}
use Rattle.flow.specs.Arcs.{blank, arc_at}
use Rattle.flow.specs.Steps.{arc}
use Rattle.flow.specs.declared.arc.Arc.{Arc}
use Rattle.flow.specs.declared.step.Step.{Step}
use Rattle.flow.specs.declared.step.Step.TheVariants.{Forward, Backward}
use Rattle.network.specs.Networks.{SoundArc}
use Rattle.network.proofs.Reading.{among_more}
use Rattle.search.specs.Links.{SoundArcs, residual_of}

-- the bounds of an arc, where an idle one needs a node more
pub bounded : (n : ℕ) (ls : List Arc) → SoundArcs n ls → (i : ℕ) → SoundArc (suc n) (arc_at ls i)
bounded n ls z i =
    ⊎_elim
    (λ l. among_more n (suc n) (arc_at ls i) (omega arith) (z i l))
    (λ g. subst (SoundArc (suc n)) (sym (get_or_past ls i blank g)) (record { from_in = omega arith; to_in = omega arith; small = omega arith; held = omega arith; low = omega (arith, ints); high = omega (arith, ints); light = omega arith }))
    (cases_lt i (length ls))

-- a step that can take something has an arc
pub has_arc : (ls : List Arc) (s : Step) → 0 < residual_of ls s → arc s < length ls
has_arc ls (Forward i) h = ⊎_elim (λ l. l) (λ g. absurd (omega (arith, ap (λ a. a.capacity) (get_or_past ls i blank g), h))) (cases_lt i (length ls))
has_arc ls (Backward i) h = ⊎_elim (λ l. l) (λ g. absurd (omega (arith, ap (λ a. a.flow) (get_or_past ls i blank g), h))) (cases_lt i (length ls))
