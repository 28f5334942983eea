-- Calls go in one way, and tests that compute tell which.
use Rattle.std.proofs.Common.{◌≡◌, ℕ, ◌<◌, List, [], ◌∷◌, ◌++◌, length, Ok, Err, Result, Some, None, Option, MatchResult, sym, refl, ap, ap₂, ◌∙◌, subst, subst₂}
use Rattle.std.proofs.lemmas.Option.{none-some}
use Rattle.tables.specs.Refusals.{Row, when, First, refusal, number}
use Rattle.tables.specs.declared.refusal.Refusal.{Refusal}
use Rattle.layout.proofs.Lines.{answer_once}
use Rattle.flow.specs.declared.arc.Arc.{Arc}
use Rattle.network.specs.Networks.{Net}
use Rattle.book.specs.Books.{Book}
use Rattle.book.specs.Arcs.{net_of}
use Rattle.book.specs.declared.holding.Holding.{Holding}
use Rattle.round.specs.Rounds.{fresh, with_items, with_members, with_holdings, with_offers}
use Rattle.round.specs.Naming.{naming}
use Rattle.round.specs.Holdings.{placed, Strange, Crowded}
use Rattle.round.specs.Offering.{made, offering}
use Rattle.haul_table.specs.Roads.{empty, with_arc, road_rows}
use Rattle.cases.specs.Calls.{Answer, numbered, refused, with_number, with_nothing, Run, stopped, went, Lead, Call, item, member, hold, offer, Calls, Built, Close, ClosedWith, Closed, Roads, Hauled}

-- one call does one thing

pub some_same : (m n : ℕ) → ◌≡◌ {A = Option ℕ} (Some m) (Some n) → m ≡ n
some_same m n e = cc

module _ {B X : Type 0} (rows : List Row) (before made : B) (told : Result X Refusal → Answer) (failed : (e : Refusal) → told (Err e) ≡ refused (number e)) (Made : X → Type 0) (same : (k l : X) → Made k → Made l → told (Ok k) ≡ told (Ok l)) where
  once : (r q : Result X Refusal) (t u : B) → First rows (refusal r) → First rows (refusal q) → MatchResult r (λ k. Made k × (t ≡ made)) (λ _. t ≡ before) → MatchResult q (λ k. Made k × (u ≡ made)) (λ _. u ≡ before) → (told r ≡ told q) × (t ≡ u)
  once (Ok k) (Ok l) t u f g p w = (same k l p.0 w.0, p.1 ∙ sym w.1)
  once (Ok k) (Err e) t u f g p w = absurd (none-some (number e) (answer_once rows None (Some (number e)) f g))
  once (Err e) (Ok k) t u f g p w = absurd (none-some (number e) (sym (answer_once rows (Some (number e)) None f g)))
  once (Err d) (Err e) t u f g p w = (failed d ∙ ap refused (some_same (number d) (number e) (answer_once rows (Some (number d)) (Some (number e)) f g)) ∙ sym (failed e), p ∙ sym w)

numbered_once : {B : Type 0} (rows : List Row) (before made : B) (n : ℕ) (r q : Result ℕ Refusal) (t u : B) → First rows (refusal r) → First rows (refusal q) → MatchResult r (λ k. (k ≡ n) × (t ≡ made)) (λ _. t ≡ before) → MatchResult q (λ k. (k ≡ n) × (u ≡ made)) (λ _. u ≡ before) → (with_number r ≡ with_number q) × (t ≡ u)
numbered_once rows before made n = once rows before made with_number (λ e. refl) (λ k. k ≡ n) (λ k l p w. ap numbered (p ∙ sym w))

-- the outcome of hold has no number
unnumbered : {B : Type 0} (before made t : B) (r : Result (Unit {0}) Refusal) → MatchResult r (λ _. t ≡ made) (λ _. t ≡ before) → MatchResult r (λ _. Unit {0} × (t ≡ made)) (λ _. t ≡ before)
unnumbered before made t (Ok x) h = (tt, h)
unnumbered before made t (Err e) h = h

-- what one call does is done in one way
abbrev Once : {S C : Type 0} → (S → C → Answer → S → Type 0) → Type 0
Once {S} {C} Does = (s : S) (c : C) (a x : Answer) (t u : S) → Does s c a t → Does s c x u → (a ≡ x) × (t ≡ u)

calls_once : Once Calls
calls_once b (item s) a x t u (r, p, e) (q, w, f) = let h = numbered_once (naming 16 b.items s) b (with_items b (b.items ++ s ∷ [])) (length b.items) r q t u p.refused w.refused p.outcome w.outcome in (e ∙ h.0 ∙ sym f, h.1)
calls_once b (member s) a x t u (r, p, e) (q, w, f) = let h = numbered_once (naming 32 b.members s) b (with_members b (b.members ++ s ∷ [])) (length b.members) r q t u p.refused w.refused p.outcome w.outcome in (e ∙ h.0 ∙ sym f, h.1)
calls_once b (hold m i units) a x t u (r, p, e) (q, w, f) =
    let l : Holding = record { member = m; item = i; units = units } in
    let after = with_holdings b (placed b.holdings l) in
    let h = once (when 1 (Strange b m i) ∷ when 2 (Crowded b.holdings l) ∷ when 3 (1000 < units) ∷ []) b after with_nothing (λ e. refl) (λ _. Unit {0}) (λ k l p w. refl) r q t u p.refused w.refused (unnumbered b after t r p.outcome) (unnumbered b after u q w.outcome) in
    (e ∙ h.0 ∙ sym f, h.1)
calls_once b (offer m limit give get) a x t u (r, p, e) (q, w, f) = let o = made m limit give get in let h = numbered_once (offering b o) b (with_offers b (b.offers ++ o ∷ [])) (length b.offers) r q t u p.refused w.refused p.outcome w.outcome in (e ∙ h.0 ∙ sym f, h.1)

roads_once : Once Roads
roads_once n road a x t u (r, p, e) (q, w, f) = let h = numbered_once (road_rows n.nodes (length n.arcs) road) n (with_arc n road) (length n.arcs) r q t u p.refused w.refused p.outcome w.outcome in (e ∙ h.0 ∙ sym f, h.1)

module _ {S C : Type 0} {Does : S → C → Answer → S → Type 0} (does_once : Once Does) where
  run_once : {s t u : S} {calls : List C} {told xs : List Answer} → Run Does s calls told t → Run Does s calls xs u → (told ≡ xs) × (t ≡ u)
  run_once stopped stopped = (refl, refl)
  run_once {u = u} (went {s = s} {t = m} {c = c} {cs = cs} {a = a} p r) (went {t = k} {a = x} {told = ys} q w) =
      let h = does_once s c a x m k p q in
      let rest = run_once r (subst (λ z. Run Does z cs ys u) (sym h.1) w) in
      (ap₂ ◌∷◌ h.0 rest.0, rest.1)

  lead : {s t : S} {calls : List C} {answers : List Answer} → Run Does s calls answers t → (P : S → Type 0) → P t → Lead Does s calls answers P
  lead {t = t} r P p = record { some = (t, r); every = λ told u w. let h = run_once r w in (sym h.0, subst P h.1 p) }

-- calls that go so, and then some
pub run_on : {S C : Type 0} {Does : S → C → Answer → S → Type 0} {s t u : S} {calls more : List C} {told xs : List Answer} → Run Does s calls told t → Run Does t more xs u → Run Does s (calls ++ more) (told ++ xs) u
run_on stopped w = w
run_on (went p r) w = went p (run_on r w)

-- what holds of the book that the calls can leave
pub built : {b : Book} {calls : List Call} {answers : List Answer} → Run Calls fresh calls answers b → (P : Book → Type 0) → P b → Built calls answers P
built r P p = lead calls_once r P p

-- of the book and the network that it is closed with
pub closed_with : {b : Book} {calls : List Call} {answers : List Answer} → Run Calls fresh calls answers b → (P : Book → Net → Type 0) → P b (net_of b) → ClosedWith calls answers P
closed_with {b} r P p = lead calls_once r (λ c. Close c P) (record { some = (b, net_of b, record { book = refl; net = refl }); every = λ after n c. subst₂ P (sym c.book) (sym c.net) p })

-- of its network
pub closed : {b : Book} {calls : List Call} {answers : List Answer} → Run Calls fresh calls answers b → (P : Net → Type 0) → P (net_of b) → Closed calls answers P
closed r P p = closed_with r (λ b n. P n) p

-- and of the haul table
pub hauled : {n : Net} {roads : List Arc} {answers : List Answer} → Run Roads empty roads answers n → (P : Net → Type 0) → P n → Hauled roads answers P
hauled r P p = lead roads_once r P p
