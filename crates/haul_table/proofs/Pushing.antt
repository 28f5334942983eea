-- A push keeps the bounds of a network, and changes nothing but a flow.
use Rattle.std.proofs.Common.{ℕ, ◌<◌, ◌≤◌, ◌⊎◌, length, set, ℤ, pos, ◌+ℤ◌, ◌<ℤ◌, nat_abs, Ok, Err, Result, sym, subst, inl, inr, ⊎_elim, arith}
use Rattle.std.proofs.lemmas.List.{length-set, get_or-set_same, get_or-set_other}
use Rattle.std.proofs.lemmas.Int.{ints, by_lt_z}
use Rattle.std.proofs.lemmas.Bool.{cases_lt, cases_eq}
use Rattle.tables.specs.declared.refusal.Refusal.{Refusal}
use Rattle.tables.proofs.Firsts.{not_first, not_rest}
use Rattle.flow.specs.declared.arc.Arc.{Arc}
use Rattle.flow.specs.Arcs.{arc_at, blank, SameArcs, with_flow}
use Rattle.flow.proofs.Rows.{same_refl, pushed_same}
use Rattle.network.specs.Networks.{Net, SoundArc, Sound, flow_in, put_flow}
use Rattle.network.specs.Pushes.{Pushed}

-- a flow of 0 to the capacity
inside : (f m : ℕ) (by : ℤ) → (((pos f +ℤ by) <ℤ pos 0) ⊎ (pos m <ℤ (pos f +ℤ by)) → ⊥) → nat_abs (pos f +ℤ by) ≤ m
inside f m by out = by_lt_z (pos f +ℤ by) (pos 0) (λ l. absurd (out (inl l))) (λ g. by_lt_z (pos m) (pos f +ℤ by) (λ l. absurd (out (inr l))) (λ h. omega (arith, ints)))

put_sound : (n : Net) (i k : ℕ) → k ≤ (arc_at n.arcs i).capacity → Sound n → Sound (put_flow n i k)
put_sound n i k h s = record { few_nodes = s.few_nodes; few_arcs = omega (arith, length-set n.arcs i now, s.few_arcs); each = each }
  where
    now : Arc
    now = with_flow k (arc_at n.arcs i)

    here : SoundArc n.nodes (arc_at n.arcs i) → SoundArc n.nodes now
    here a = record { from_in = a.from_in; to_in = a.to_in; small = a.small; held = h; low = a.low; high = a.high; light = a.light }

    each : (j : ℕ) → j < length (set n.arcs i now) → SoundArc n.nodes (arc_at (set n.arcs i now) j)
    each j l =
        let m : j < length n.arcs = omega (arith, length-set n.arcs i now) in
        ⊎_elim
        (λ e. subst (λ t. SoundArc n.nodes (arc_at (set n.arcs i now) t)) (sym e) (let b : i < length n.arcs = omega arith in rw (get_or-set_same n.arcs i now blank b) (here (s.each i b))))
        (λ d. rw (get_or-set_other n.arcs i j now blank d) (s.each j m))
        (cases_eq j i)

pub push_sound : {before after : Net} {i : ℕ} {by : ℤ} {r : Result (Unit {0}) Refusal} → Pushed before after i by r → Sound before → Sound after
push_sound {before} {after} {i} {by} {r = Ok u} p s = subst Sound (sym p.outcome) (put_sound before i (nat_abs (pos (flow_in before i) +ℤ by)) (inside (flow_in before i) (arc_at before.arcs i).capacity by (not_first (not_rest p.refused))) s)
push_sound {before} {after} {i} {by} {r = Err e} p s = subst Sound (sym p.outcome) s

pub push_same : {before after : Net} {i : ℕ} {by : ℤ} {r : Result (Unit {0}) Refusal} → Pushed before after i by r → SameArcs before.arcs after.arcs
push_same {before} {after} {i} {by} {r = Ok u} p = subst (λ n. SameArcs before.arcs n.arcs) (sym p.outcome) (pushed_same before.arcs i (nat_abs (pos (flow_in before i) +ℤ by)) (⊎_elim (λ l. l) (λ g. absurd (not_first p.refused g)) (cases_lt i (length before.arcs))))
push_same {before} {after} {i} {by} {r = Err e} p = subst (λ n. SameArcs before.arcs n.arcs) (sym p.outcome) (same_refl before.arcs)
