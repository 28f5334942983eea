-- The network of a record, drawn from its round closed and the flows of its units.
use Rattle.std.proofs.Common.{◌≡◌, ℕ, List, [], ◌∷◌, length, Some, None, Ok, Err, sym, ap, ◌∙◌, subst}
use mathlib.Core.Logic.{∥∥₁_elim}
use native.Mathlib.Nat.{ℕ_set}
use Rattle.tables.specs.Refusals.{when, First, number}
use Rattle.tables.specs.declared.refusal.Refusal.{Refusal}
use Rattle.network.specs.Networks.{flow_in}
use Rattle.book.specs.Arcs.{net_of}
use Rattle.book.specs.Books.{Book}
use Rattle.book.proofs.Sizes.{network_is_sound_lem}
use Rattle.layout.specs.Records.{Contents, book_of}
use Rattle.round.specs.Closed.{closed_book, closed_net, Closes}
use Rattle.round.specs.declared.closed_round.ClosedRound.{ClosedRound}
use Rattle.record.specs.Evidence.{network_of}
use Rattle.record.specs.Flows.{flows_of, Empty, with_flows}
use Rattle.record.specs.Networks.{Exceeds, Drawn}
use Rattle.record.proofs.Flowing.{flows_long, flows_fill}

module _ {W : Type 0} (x : Contents) (b : Book) (same : b ≡ book_of x) (r : ClosedRound W) (closes : Closes b (closed_book r) (closed_net r)) where
  net_is : closed_net r ≡ net_of (book_of x)
  net_is = closes.net ∙ ap net_of same

  pub still : Empty (closed_net r)
  still i l = ap (λ n. flow_in n i) (closes.net ∙ ap net_of (sym closes.book)) ∙ ∥∥₁_elim r.round.sound (ℕ_set (flow_in (net_of (closed_book r)) i) 0) (λ s. (network_is_sound_lem (closed_book r) s).1 i)

  module _ (ys : List ℕ) (row : ys ≡ flows_of x) where
    pub long : length ys ≡ length (closed_net r).arcs
    long = ap length row ∙ flows_long x ∙ ap (λ n. length n.arcs) (sym net_is)

    full : with_flows (closed_net r) ys ≡ network_of x
    full = flows_fill x (closed_net r) ys net_is row

    pub drawn_not : (e : Refusal) → First (when 15 (Exceeds (with_flows (closed_net r) ys)) ∷ []) (Some (number e)) → Drawn {W = W} x (Err e)
    drawn_not e first = record { refused = subst (λ n. First (when 15 (Exceeds n) ∷ []) (Some (number e))) full first; outcome = tt }

    pub drawn : (s : ClosedRound W) → First (when 15 (Exceeds (with_flows (closed_net r) ys)) ∷ []) None → closed_net s ≡ with_flows (closed_net r) ys → closed_book s ≡ closed_book r → Drawn x (Ok (record { round = s }))
    drawn s first net kept = record { refused = subst (λ n. First (when 15 (Exceeds n) ∷ []) None) full first; outcome = (net ∙ full, kept ∙ closes.book ∙ same) }
