-- How many rows of flows within the capacities are worth more than the present one: it falls with every rise, so clearing ends.
use Rattle.std.proofs.Common.{◌≡◌, ℕ, zero, suc, ◌+◌, ◌<◌, ◌≤◌, Bool, true, false, cond, ◌⊎◌, List, [], ◌∷◌, ◌++◌, map, get_or, sym, refl, ap, ◌∙◌, subst, subst₂, inl, inr, arith}
use native.Mathlib.Decide.{ℕ_discrete}
use Rattle.worth.specs.Kinds.{Ops}
use Rattle.flow.specs.Groups.{Kind, times, Lt, Le}
use Rattle.flow.specs.Graphs.{Graph, Within, worth}
use Rattle.flow.specs.Steps.{gain}
use Rattle.flow.specs.Arcs.{net}
use Rattle.flow.proofs.Group.{unit_right, shift, lt_le, lt_le_trans, le_left, times_up}
use Rattle.flow.proofs.Sums.{total_same}
use Rattle.flow.proofs.Shift.{allows_one, rise_holds}
use Rattle.flow.proofs.Rows.{net_same}
use Rattle.network.specs.Networks.{Net, Sound, flow_in, graph, value}
use Rattle.search.specs.Outcomes.{Improves}

-- y is in the list
abbrev In : {X : Type 0} → X → List X → Type 0
In y [] = ⊥
In y (x ∷ xs) = (x ≡ y) ⊎ In y xs

-- how many in a list pass the test p
abbrev tally : {X : Type 0} → (X → Bool) → List X → ℕ
tally p [] = 0
tally p (x ∷ xs) = cond (p x) 1 0 + tally p xs

one_le : (a b : Bool) → (b ≡ true → a ≡ true) → cond b 1 0 ≤ cond a 1 0
one_le true true h = omega arith
one_le true false h = omega arith
one_le false true h = let z = h refl in let w : ◌≡◌ {A = ℕ} 0 1 = cc in absurd (omega arith)
one_le false false h = omega arith

tally_le : {X : Type 0} (p q : X → Bool) → ((x : X) → q x ≡ true → p x ≡ true) → (xs : List X) → tally q xs ≤ tally p xs
tally_le p q h [] = omega arith
tally_le p q h (x ∷ xs) = omega (arith, one_le (p x) (q x) (h x), tally_le p q h xs)

tally_lt : {X : Type 0} (p q : X → Bool) → ((x : X) → q x ≡ true → p x ≡ true) → (y : X) → p y ≡ true → q y ≡ false → (xs : List X) → In y xs → tally q xs < tally p xs
tally_lt p q h y a b [] i = absurd i
tally_lt p q h y a b (x ∷ xs) (inl e) =
    let r : ◌≡◌ {A = ℕ} (cond (p x) 1 0) 1 = rw (e, a) in
    let s : ◌≡◌ {A = ℕ} (cond (q x) 1 0) 0 = rw (e, b) in
    omega (arith, r, s, tally_le p q h xs)
tally_lt p q h y a b (x ∷ xs) (inr i) = omega (arith, one_le (p x) (q x) (h x), tally_lt p q h y a b xs i)

-- each row of us with each number from r down to 0 before it
abbrev spread : ℕ → List (List ℕ) → List (List ℕ)
spread zero us = map (λ u. 0 ∷ u) us
spread (suc k) us = map (λ u. suc k ∷ u) us ++ spread k us

-- all rows of m flows within the capacities
abbrev rows : ℕ → (ℕ → ℕ) → List (List ℕ)
rows zero cap = [] ∷ []
rows (suc m) cap = spread (cap 0) (rows m (λ i. cap (suc i)))

-- the first m flows as a row
abbrev row : ℕ → (ℕ → ℕ) → List ℕ
row zero y = []
row (suc m) y = y 0 ∷ row m (λ i. y (suc i))

in_left : {X : Type 0} (y : X) (xs ys : List X) → In y xs → In y (xs ++ ys)
in_left y [] ys i = absurd i
in_left y (x ∷ xs) ys (inl e) = inl e
in_left y (x ∷ xs) ys (inr i) = inr (in_left y xs ys i)

in_right : {X : Type 0} (y : X) (xs ys : List X) → In y ys → In y (xs ++ ys)
in_right y [] ys i = i
in_right y (x ∷ xs) ys i = inr (in_right y xs ys i)

in_map : (k : ℕ) (u : List ℕ) (us : List (List ℕ)) → In u us → In (k ∷ u) (map (λ v. k ∷ v) us)
in_map k u [] i = absurd i
in_map k u (x ∷ us) (inl e) = inl (ap (λ v. k ∷ v) e)
in_map k u (x ∷ us) (inr i) = inr (in_map k u us i)

in_spread : (r k : ℕ) (u : List ℕ) (us : List (List ℕ)) → k ≤ r → In u us → In (k ∷ u) (spread r us)
in_spread zero k u us h i = let e : 0 ≡ k = omega arith in subst (λ (j : ℕ). In (j ∷ u) (spread zero us)) e (in_map 0 u us i)
in_spread (suc r) k u us h i = go (λ l. in_spread r k u us l i) (ℕ_discrete (suc r) k)
  where
    go : (k ≤ r → In (k ∷ u) (spread r us)) → Dec (suc r ≡ k) → In (k ∷ u) (map (λ v. suc r ∷ v) us ++ spread r us)
    go f (yes e) = in_left (k ∷ u) (map (λ v. suc r ∷ v) us) (spread r us) (subst (λ (j : ℕ). In (j ∷ u) (map (λ v. suc r ∷ v) us)) e (in_map (suc r) u us i))
    go f (no n) = in_right (k ∷ u) (map (λ v. suc r ∷ v) us) (spread r us) (f (omega arith))

in_rows : (m : ℕ) (cap y : ℕ → ℕ) → ((i : ℕ) → i < m → y i ≤ cap i) → In (row m y) (rows m cap)
in_rows zero cap y h = inl refl
in_rows (suc m) cap y h = in_spread (cap 0) (y 0) (row m (λ i. y (suc i))) (rows m (λ i. cap (suc i))) (h 0 (omega arith)) (in_rows m (λ i. cap (suc i)) (λ i. y (suc i)) (λ i l. h (suc i) (omega arith)))

row_at : (m : ℕ) (y : ℕ → ℕ) (i : ℕ) → i < m → get_or (row m y) i 0 ≡ y i
row_at zero y i h = absurd (omega arith)
row_at (suc m) y zero h = refl
row_at (suc m) y (suc i) h = row_at m (λ j. y (suc j)) i (omega arith)

-- how many rows of flows within the capacities are worth more than w
pub beats : {W : Type 0} → Ops W → Graph W → W → ℕ
beats o N w = tally (λ vs. o.less w (worth o N (λ i. get_or vs i 0))) (rows N.arcs N.capacity)

module _ {W : Type 0} (G : Kind W) where
  falls : (N : Graph W) (w : W) (y : ℕ → ℕ) → Within N y → Lt G.ops w (worth G.ops N y) → beats G.ops N (worth G.ops N y) < beats G.ops N w
  unfolding beats
  falls N w y h up =
      let same : worth G.ops N (λ i. get_or (row N.arcs y) i 0) ≡ worth G.ops N y = total_same G N.arcs (λ i. times G.ops (get_or (row N.arcs y) i 0) (N.unit i)) (λ i. times G.ops (y i) (N.unit i)) (λ i l. ap (λ k. times G.ops k (N.unit i)) (row_at N.arcs y i l)) in
      tally_lt (λ vs. G.ops.less w (worth G.ops N (λ i. get_or vs i 0))) (λ vs. G.ops.less (worth G.ops N y) (worth G.ops N (λ i. get_or vs i 0)))
      (λ vs k. G.laws.transitive w (worth G.ops N y) (worth G.ops N (λ i. get_or vs i 0)) up k)
      (row N.arcs y) (subst (Lt G.ops w) (sym same) up) (subst (λ t. G.ops.less (worth G.ops N y) t ≡ false) (sym same) (G.laws.irreflexive (worth G.ops N y)))
      (rows N.arcs N.capacity) (in_rows N.arcs N.capacity y h)

  times_gains : (d : ℕ) (g : W) → 1 ≤ d → Lt G.ops G.ops.none g → Lt G.ops G.ops.none (times G.ops d g)
  times_gains zero g h l = absurd (omega arith)
  times_gains (suc d) g h l = lt_le_trans G G.ops.none g (times G.ops (suc d) g) l (subst (λ t. Le G.ops t (times G.ops (suc d) g)) (unit_right G g) (le_left G g G.ops.none (times G.ops d g) (times_up G d g (lt_le G G.ops.none g l))))

  pub measure_falls : (s t : Net) (x : W) → Sound t → Improves G.ops s t x → beats G.ops (graph G.ops t) (value G.ops t) < beats G.ops (graph G.ops s) (value G.ops s)
  measure_falls s t x z i = subst (λ N. beats G.ops N (worth G.ops N (flow_in t)) < beats G.ops (graph G.ops s) (value G.ops s)) e (falls (graph G.ops s) (value G.ops s) (flow_in t) within up)
    where
      e : graph G.ops s ≡ graph G.ops t
      e = net_same G s.nodes s.arcs t.arcs i.arcs ∙ ap (λ n. net G.ops n t.arcs) (sym i.nodes)

      inside : Within (graph G.ops t) (flow_in t)
      inside k l = (z.each k l).held

      within : Within (graph G.ops s) (flow_in t)
      within = subst (λ N. Within N (flow_in t)) (sym e) inside

      d : ℕ
      d = i.amount

      one : 1 ≤ d
      one = i.most 1 (allows_one (graph G.ops s) (flow_in s) i.gainful.node i.cycle i.gainful.node i.gainful.closed)

      rise : worth G.ops (graph G.ops s) (flow_in t) ≡ G.ops.plus (value G.ops s) (times G.ops d (gain G.ops (graph G.ops s) i.cycle))
      rise = rise_holds G (graph G.ops s) (flow_in s) (flow_in t) i.gainful.node i.cycle d i.gainful.closed i.shifted

      up : Lt G.ops (value G.ops s) (worth G.ops (graph G.ops s) (flow_in t))
      up = subst₂ (Lt G.ops) (unit_right G (value G.ops s)) (sym rise) (shift G (value G.ops s) G.ops.none (times G.ops d (gain G.ops (graph G.ops s) i.cycle)) ∙ times_gains d (gain G.ops (graph G.ops s) i.cycle) one i.gainful.gains)
