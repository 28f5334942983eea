-- A whole text, section by section.
use Rattle.std.proofs.Common.{◌≤◌, arith}
use mathlib.Core.Logic.{∥∥₁_elim}
use native.Mathlib.Bridge.{le_prop}
use Rattle.book.specs.Arcs.{nodes}
use Rattle.layout.proofs.Earliest.{cut_before_fault, earliest_decides}
use Rattle.layout.proofs.Once.{one_outcome}
use Rattle.layout.proofs.Outcomes.{some_outcome}
use Rattle.layout.proofs.Renders.{reads_records, one_text}
use Rattle.round.specs.Rounds.{book}
use Rattle.round.specs.declared.open_round.OpenRound.{OpenRound}
use Rattle.reading.specs.Contents.{ReadingLaw}

pub reading_law : ReadingLaw
reading_law = record { spelling = reads_records; apart = one_text; some = some_outcome; one = one_outcome; earliest = earliest_decides; cut = cut_before_fault }

-- a round has at most 272 nodes
pub few_nodes : (r : OpenRound) → nodes (book r) ≤ 272
few_nodes r = ∥∥₁_elim r.sound le_prop (λ s. omega (arith, s.items_few, s.holdings_few, s.offers_few))
