-- A network with one more arc.
use Rattle.std.proofs.Common.{◌≡◌, ℕ, ◌+◌, ◌<◌, [], ◌∷◌, length, refl, sym, ap, ◌∙◌, subst, ⊎_elim, arith}
use Rattle.std.proofs.lemmas.List.{length_push, get_or_push, get_or_append_left}
use Rattle.std.proofs.lemmas.Bool.{cases_lt}
use Rattle.flow.specs.declared.arc.Arc.{Arc}
use Rattle.flow.specs.Arcs.{arc_at, blank}
use Rattle.network.specs.Networks.{Net, SoundArc, Sound}
use Rattle.haul_table.specs.Roads.{with_arc}

module _ (n : Net) (a : Arc) where
  pub long : length (with_arc n a).arcs ≡ length n.arcs + 1
  long = length_push n.arcs a

  pub old : (i : ℕ) → i < length n.arcs → arc_at (with_arc n a).arcs i ≡ arc_at n.arcs i
  old i l = get_or_append_left n.arcs (a ∷ []) blank i l

  pub new : arc_at (with_arc n a).arcs (length n.arcs) ≡ a
  new = get_or_push n.arcs a blank (length n.arcs) refl

  -- what holds of each arc and of the new one
  pub each_of : (P : Arc → Type 0) → ((i : ℕ) → i < length n.arcs → P (arc_at n.arcs i)) → P a → (i : ℕ) → i < length (with_arc n a).arcs → P (arc_at (with_arc n a).arcs i)
  each_of P h p i l = ⊎_elim (λ b. subst P (sym (old i b)) (h i b)) (λ b. subst P (sym (ap (arc_at (with_arc n a).arcs) (let q : i ≡ length n.arcs = omega (arith, long) in q) ∙ new)) p) (cases_lt i (length n.arcs))

  pub more_sound : Sound n → SoundArc n.nodes a → length n.arcs < 448 → Sound (with_arc n a)
  more_sound s b few = record { few_nodes = s.few_nodes; few_arcs = omega (arith, long); each = each_of (SoundArc n.nodes) s.each b }
