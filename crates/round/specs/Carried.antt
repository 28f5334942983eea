-- Arcs that carry flows on the network of a book.
use Rattle.std.specs.Prelude.{ℕ, ◌<◌, ◌≤◌, List, length}
use Rattle.flow.specs.declared.arc.Arc.{Arc}
use Rattle.flow.specs.Arcs.{arc_at, SameArcs}
use Rattle.book.specs.Books.{Book}
use Rattle.book.specs.Arcs.{arcs_of}

-- the arcs are those of the book, with flows within the capacities
pub record Carries (b : Book) (arcs : List Arc) : Type 0 where
  pub same : SameArcs (arcs_of b) arcs
  pub within : (i : ℕ) → i < length arcs → (arc_at arcs i).flow ≤ (arc_at arcs i).capacity
