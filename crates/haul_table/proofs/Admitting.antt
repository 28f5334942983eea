-- What is admitted is within the bounds.
use Rattle.std.proofs.Common.{◌≡◌, ℕ, ◌<◌, pos, negsuc, None, inl, inr, ⊎_elim, arith}
use Rattle.std.proofs.lemmas.Int.{by_lt_z}
use Rattle.std.proofs.lemmas.Bool.{cases_lt}
use Rattle.tables.specs.Refusals.{First}
use Rattle.tables.proofs.Firsts.{not_first, not_rest}
use Rattle.flow.specs.declared.arc.Arc.{Arc}
use Rattle.network.specs.Networks.{SoundArc}
use Rattle.haul_table.specs.Roads.{road_rows}

pub admitted : (nodes count : ℕ) (a : Arc) → a.flow ≡ 0 → First (road_rows nodes count a) None → SoundArc nodes a × (count < 256)
admitted nodes count a z one =
    let two = not_rest one in
    let three = not_rest two in
    let four = not_rest three in (
      record {
        from_in = ⊎_elim (λ l. l) (λ g. absurd (not_first one (inl g))) (cases_lt a.from nodes);
        to_in = ⊎_elim (λ l. l) (λ g. absurd (not_first one (inr g))) (cases_lt a.to nodes);
        small = ⊎_elim (λ l. absurd (not_first three (inl l))) (λ g. g) (cases_lt 1000 a.capacity);
        held = omega arith;
        low = by_lt_z a.price (negsuc 999999) (λ l. absurd (not_first four (inl l))) (λ g. g);
        high = by_lt_z (pos 1000000) a.price (λ l. absurd (not_first four (inr l))) (λ g. g);
        light = ⊎_elim (λ l. absurd (not_first three (inr l))) (λ g. g) (cases_lt 1 a.weeks);
      },
      ⊎_elim (λ l. l) (λ g. absurd (not_first two g)) (cases_lt count 256),
    )
