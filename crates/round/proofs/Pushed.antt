-- The arcs of a book carry no flow at first, and a push leaves them carrying one.
use Rattle.std.specs.Prelude.{ℕ, ◌<◌, ◌≤◌, ◌⊎◌, List, length, ℤ, pos, ◌+ℤ◌, ◌<ℤ◌, Ok, Err, Result, slice_set, unsigned_abs}
use Rattle.std.proofs.Common.{arith, sym, ◌∙◌, ap, subst, inl, inr, ⊎_elim}
use Rattle.std.proofs.lemmas.List.{length-set, get_or-set_same, get_or-set_other}
use Rattle.std.proofs.lemmas.Int.{ints, by_lt_z}
use Rattle.std.proofs.lemmas.Bool.{cases_lt, cases_eq}
use Rattle.tables.specs.declared.refusal.Refusal.{Refusal}
use Rattle.tables.proofs.Firsts.{not_first, not_rest}
use Rattle.flow.specs.declared.arc.Arc.{Arc}
use Rattle.flow.specs.Arcs.{blank, arc_at, flow_of, SameArcs, with_flow}
use Rattle.flow.proofs.Rows.{pushed_same}
use Rattle.network.specs.Pushes.{ArcsPushed}
use Rattle.book.specs.Books.{Book, Sound}
use Rattle.book.specs.Arcs.{arcs_of}
use Rattle.book.proofs.Sizes.{network_is_sound_lem}
use Rattle.round.specs.Carried.{Carries}
use Rattle.flow.proofs.Rows.{same_refl, same_trans}

pub carries_none : (b : Book) → Sound b → Carries b (arcs_of b)
carries_none b s = record { same = same_refl (arcs_of b); within = λ i l. ((network_is_sound_lem b s).0.each i l).held }

inside : (f m : ℕ) (by : ℤ) → (((pos f +ℤ by) <ℤ pos 0) ⊎ (pos m <ℤ (pos f +ℤ by)) → ⊥) → unsigned_abs (pos f +ℤ by) ≤ m
inside f m by out = by_lt_z (pos f +ℤ by) (pos 0) (λ l. absurd (out (inl l))) (λ g. by_lt_z (pos m) (pos f +ℤ by) (λ l. absurd (out (inr l))) (λ h. omega (arith, ints)))

-- a push changes a flow, and nothing else
module _ (before after : List Arc) (i : ℕ) (by : ℤ) where
  reached : (u : Unit {0}) → ArcsPushed before after i by (Ok u) → i < length before
  reached u p = ⊎_elim (λ h. h) (λ h. absurd (not_first (p 0).refused h)) (cases_lt i (length before))

  pub same_pushed : (r : Result (Unit {0}) Refusal) → ArcsPushed before after i by r → SameArcs before after
  same_pushed (Err e) p = subst (SameArcs before) (sym (ap (λ n. n.arcs) (p 0).outcome)) (same_refl before)
  same_pushed (Ok u) p = subst (SameArcs before) (sym (ap (λ n. n.arcs) (p 0).outcome)) (pushed_same before i (unsigned_abs (pos (flow_of before i) +ℤ by)) (reached u p))

  -- and it leaves the flows within the capacities
  within_pushed : (r : Result (Unit {0}) Refusal) → ArcsPushed before after i by r → ((j : ℕ) → j < length before → (arc_at before j).flow ≤ (arc_at before j).capacity) → (j : ℕ) → j < length after → (arc_at after j).flow ≤ (arc_at after j).capacity
  within_pushed (Err e) p w = subst (λ xs. (j : ℕ) → j < length xs → (arc_at xs j).flow ≤ (arc_at xs j).capacity) (sym (ap (λ n. n.arcs) (p 0).outcome)) w
  within_pushed (Ok u) p w = subst (λ xs. (j : ℕ) → j < length xs → (arc_at xs j).flow ≤ (arc_at xs j).capacity) (sym (ap (λ n. n.arcs) (p 0).outcome)) within
    where
      moved : Arc
      moved = with_flow (unsigned_abs (pos (flow_of before i) +ℤ by)) (arc_at before i)

      within : (j : ℕ) → j < length (slice_set before i moved) → (arc_at (slice_set before i moved) j).flow ≤ (arc_at (slice_set before i moved) j).capacity
      within j h =
          ⊎_elim
          (λ e. subst (λ a. a.flow ≤ a.capacity) (sym (ap (arc_at (slice_set before i moved)) e ∙ get_or-set_same before i moved blank (reached u p))) (inside (flow_of before i) (arc_at before i).capacity by (not_first (not_rest (p 0).refused))))
          (λ d. subst (λ a. a.flow ≤ a.capacity) (sym (get_or-set_other before i j moved blank d)) (w j (subst (λ n. j < n) (length-set before i moved) h)))
          (cases_eq j i)

  pub carries_pushed : (b : Book) (r : Result (Unit {0}) Refusal) → ArcsPushed before after i by r → Carries b before → Carries b after
  carries_pushed b r p c = record { same = same_trans (arcs_of b) before after c.same (same_pushed r p); within = within_pushed r p c.within }
