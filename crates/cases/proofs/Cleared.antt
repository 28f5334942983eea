-- The worked cases of clearing.
use Rattle.std.proofs.Common.{◌≡◌, ℕ, true, ◌&&◌, leb, List, [], ◌∷◌, ◌++◌, length, ℤ, pos, negsuc, slice_index_or, refl}
use Rattle.std.proofs.lemmas.Bool.{and_parts}
use Rattle.worth.specs.Kinds.{Ops, Laws}
use Rattle.worth.specs.Money.{money, of_cents}
use Rattle.worth.specs.Weeks.{weeks, of_count}
use Rattle.worth.specs.Lexicographic.{pile, pair}
use Rattle.worth.specs.Integers.{money_laws, weeks_laws}
use Rattle.worth.specs.Pairs.{pile_laws}
use Rattle.worth.specs.declared.money.Money.{Money}
use Rattle.worth.specs.declared.weeks.Weeks.{Weeks}
use Rattle.worth.specs.declared.lexicographic.Lexicographic.{Lexicographic}
use Rattle.flow.specs.Graphs.{worth}
use Rattle.network.specs.Networks.{Net, graph}
use Rattle.search.specs.Uses.{Use}
use Rattle.book.specs.declared.holding.Holding.{Holding}
use Rattle.book.specs.Arcs.{net_of}
use Rattle.round.specs.Rounds.{fresh}
use Rattle.cases.specs.Calls.{stopped}
use Rattle.cases.specs.Clearing.{Best, RisesOnce, Clears, Leaves}
use Rattle.cases.specs.Cases.{cents, both}
use Rattle.cases.proofs.Some.{standing, graph_sound}
use Rattle.cases.proofs.Every.{Finish, Reached, is_unbeaten, best_every, clears, rises_once, leaves}
use Rattle.cases.proofs.Tests.{finish_test, balanced, inside, left_fits, flow_fits, all_below, circulates, within, fits}
use Rattle.cases.proofs.Cycles.{all_bring, rises_by}
use Rattle.cases.proofs.Rounds.{begins, held, two, chain_book, chain_run, cash_run, resale_book, resale_run, quay_run, market_book, market_run, road_net, roads_begin}

-- flows and potentials that a test finds to fit
module _ {W : Type 0} {o : Ops W} (laws : Laws o) {n : Net} (used : Use o n o.none) (y : ℕ → ℕ) (at : ℕ → W) (w : W) where
  finish : finish_test o n y at ≡ true → worth o (graph o n) y ≡ w → Finish laws n o.none w
  finish h is =
      let p = and_parts (all_below n.nodes (balanced o n y)) (all_below (length n.arcs) (inside o n y) && all_below (length n.arcs) (λ i. left_fits o n y at i && flow_fits o n y at i)) h in
      let q = and_parts (all_below (length n.arcs) (inside o n y)) (all_below (length n.arcs) (λ i. left_fits o n y at i && flow_fits o n y at i)) p.1 in
      record { used = used; flows = y; at = at; circulation = circulates o n y p.0; within = within o n y q.0; fits = fits o n y at q.1; is = is }

-- improve answers best where no flow is as good as any
best_at_once : {W : Type 0} {o : Ops W} (laws : Laws o) {n : Net} → Finish laws n o.none o.none → Best o n
best_at_once {o = o} laws {n} f = best_every laws n o.none f.used (is_unbeaten laws f n refl (standing laws f.used).worth)

once : {W : Type 0} {o : Ops W} (laws : Laws o) {n : Net} {w : W} → Finish laws n o.none w → o.less o.none w ≡ true → all_bring laws n w ≡ true → RisesOnce o w n
once laws {n} {w} f more test = rises_once laws f more (rises_by laws n w (graph_sound laws n (standing laws f.used).sound) test)

-- and leaves what holds of every network so reached
left : {W : Type 0} {o : Ops W} (laws : Laws o) {n : Net} {w : W} → Finish laws n o.none w → o.less o.none w ≡ true → all_bring laws n w ≡ true → (P : Net → Type 0) → ((t : Net) → Reached laws n w t → P t) → Leaves o P n
left laws {n} {w} f more test P at = leaves laws f more (rises_by laws n w (graph_sound laws n (standing laws f.used).sound) test) P at

-- potentials by money, and by money then weeks
abbrev levels : List ℤ → ℕ → Money
levels zs v = of_cents (slice_index_or zs v (pos 0))

abbrev pairs : List (ℤ × ℤ) → ℕ → Lexicographic Money Weeks
pairs zs v = let z = slice_index_or zs v (pos 0, pos 0) in pair (of_cents z.0) (of_count z.1)

-- money then weeks
abbrev pub M : Ops (Lexicographic Money Weeks)
M = pile money weeks

pub M_laws : Laws M
M_laws = pile_laws money_laws weeks_laws

-- the empty round, by any kind

pub empty_best : {W : Type 0} {o : Ops W} → Laws o → Best o (net_of fresh)
empty_best {o = o} laws = best_at_once laws (finish laws (begins o stopped) (λ i. 0) (λ v. o.none) o.none refl refl)

-- the chain round

abbrev pub chain_net : Net
chain_net = net_of (chain_book two 160)

-- flows of 3 on each arc, and potentials that fit them
chain_finish : (w : ℕ) → worth money (graph money chain_net) (λ i. 3) ≡ cents w → Finish money_laws chain_net money.none (cents w)
chain_finish w is = finish money_laws (begins money (chain_run 160 refl)) (λ i. 3) (levels (pos 0 ∷ pos 100 ∷ pos 160 ∷ pos 100 ∷ pos 160 ∷ pos 0 ∷ pos 0 ∷ pos 10 ∷ negsuc 79 ∷ pos 0 ∷ pos 0 ∷ [])) (cents w) refl is

pub chain_rises : (w : ℕ) → worth money (graph money chain_net) (λ i. 3) ≡ cents w → money.less money.none (cents w) ≡ true → all_bring money_laws chain_net (cents w) ≡ true → RisesOnce money (cents w) chain_net × Clears money (cents w) chain_net
chain_rises w is more test = (once money_laws (chain_finish w is) more test, clears money_laws (chain_finish w is))

pub chain_rises_with_weeks : (x : ℕ × ℕ) → worth M (graph M chain_net) (λ i. 3) ≡ both x → M.less M.none (both x) ≡ true → all_bring M_laws chain_net (both x) ≡ true → RisesOnce M (both x) chain_net × Clears M (both x) chain_net
chain_rises_with_weeks x is more test =
    let f = finish M_laws (begins M (chain_run 160 refl)) (λ i. 3) (pairs ((pos 0, pos 0) ∷ (pos 100, pos 0) ∷ (pos 160, pos 1) ∷ (pos 100, pos 0) ∷ (pos 160, pos 1) ∷ (pos 0, pos 0) ∷ (pos 0, pos 0) ∷ (pos 10, pos 1) ∷ (negsuc 79, negsuc 0) ∷ (pos 0, pos 0) ∷ (pos 0, pos 0) ∷ [])) (both x) refl is in
    (once M_laws f more test, clears M_laws f)

-- what holds of each network of the arcs of the chain whose flows are worth 270 cents
pub chain_leaves : (P : Net → Type 0) → ((t : Net) → Reached money_laws chain_net (cents 270) t → P t) → Leaves money P chain_net
chain_leaves P at = left money_laws (chain_finish 270 refl) refl refl P at

-- with cash held by member 2; one row of potentials fits, whatever the units

abbrev pub cash_net : ℕ → Net
cash_net units = net_of (chain_book (two ++ held 2 0 units ∷ []) 160)

abbrev cash_levels : List ℤ
cash_levels = pos 0 ∷ pos 100 ∷ pos 70 ∷ pos 100 ∷ pos 70 ∷ negsuc 89 ∷ pos 0 ∷ pos 0 ∷ negsuc 79 ∷ negsuc 79 ∷ negsuc 89 ∷ negsuc 89 ∷ []

cash_finish : (units w : ℕ) → leb units 1000 ≡ true → finish_test money (cash_net units) (λ i. units) (levels cash_levels) ≡ true → worth money (graph money (cash_net units)) (λ i. units) ≡ cents w → Finish money_laws (cash_net units) money.none (cents w)
cash_finish units w h test is = finish money_laws (begins money (cash_run units h)) (λ i. units) (levels cash_levels) (cents w) test is

pub two_rise : (w : ℕ) → worth money (graph money (cash_net 2)) (λ i. 2) ≡ cents w → money.less money.none (cents w) ≡ true → all_bring money_laws (cash_net 2) (cents w) ≡ true → RisesOnce money (cents w) (cash_net 2) × Clears money (cents w) (cash_net 2)
two_rise w is more test = let f = cash_finish 2 w refl refl is in (once money_laws f more test, clears money_laws f)

pub none_best : (w : ℕ) → worth money (graph money (cash_net 0)) (λ i. 0) ≡ cents w → Best money (cash_net 0) × Clears money (cents w) (cash_net 0)
none_best w is = (best_at_once money_laws (cash_finish 0 0 refl refl refl), clears money_laws (cash_finish 0 w refl refl is))

-- with another last price

abbrev pub last_net : ℕ → Net
last_net price = net_of (chain_book two price)

last_finish : (price w : ℕ) (at : List ℤ) → leb price 1000000 ≡ true → finish_test money (last_net price) (λ i. 0) (levels at) ≡ true → worth money (graph money (last_net price)) (λ i. 0) ≡ cents w → Finish money_laws (last_net price) money.none (cents w)
last_finish price w at h test is = finish money_laws (begins money (chain_run price h)) (λ i. 0) (levels at) (cents w) test is

last_finish_with_weeks : (price units : ℕ) (w : ℕ × ℕ) (at : List (ℤ × ℤ)) → leb price 1000000 ≡ true → finish_test M (last_net price) (λ i. units) (pairs at) ≡ true → worth M (graph M (last_net price)) (λ i. units) ≡ both w → Finish M_laws (last_net price) M.none (both w)
last_finish_with_weeks price units w at h test is = finish M_laws (begins M (chain_run price h)) (λ i. units) (pairs at) (both w) test is

finish_at_70 : (w : ℕ) → worth money (graph money (last_net 70)) (λ i. 0) ≡ cents w → Finish money_laws (last_net 70) money.none (cents w)
finish_at_70 w is = last_finish 70 w (pos 0 ∷ pos 100 ∷ pos 70 ∷ pos 100 ∷ pos 70 ∷ pos 0 ∷ pos 0 ∷ negsuc 79 ∷ negsuc 79 ∷ pos 0 ∷ pos 0 ∷ []) refl refl is

pub best_at_70 : (w : ℕ) → worth money (graph money (last_net 70)) (λ i. 0) ≡ cents w → Best money (last_net 70) × Clears money (cents w) (last_net 70)
best_at_70 w is = (best_at_once money_laws (finish_at_70 0 refl), clears money_laws (finish_at_70 w is))

pub rises_at_70 : (x : ℕ × ℕ) → worth M (graph M (last_net 70)) (λ i. 3) ≡ both x → M.less M.none (both x) ≡ true → all_bring M_laws (last_net 70) (both x) ≡ true → RisesOnce M (both x) (last_net 70) × Clears M (both x) (last_net 70)
rises_at_70 x is more test =
    let f = last_finish_with_weeks 70 3 x ((pos 0, pos 0) ∷ (pos 100, pos 0) ∷ (pos 70, pos 1) ∷ (pos 100, pos 0) ∷ (pos 70, pos 1) ∷ (pos 0, pos 0) ∷ (pos 0, pos 0) ∷ (negsuc 79, pos 1) ∷ (negsuc 79, negsuc 0) ∷ (pos 0, pos 0) ∷ (pos 0, pos 0) ∷ []) refl refl is in
    (once M_laws f more test, clears M_laws f)

finish_at_69 : (w : ℕ) → worth money (graph money (last_net 69)) (λ i. 0) ≡ cents w → Finish money_laws (last_net 69) money.none (cents w)
finish_at_69 w is = last_finish 69 w (pos 0 ∷ pos 99 ∷ pos 69 ∷ pos 99 ∷ pos 69 ∷ negsuc 0 ∷ negsuc 0 ∷ negsuc 80 ∷ negsuc 80 ∷ pos 0 ∷ pos 0 ∷ []) refl refl is

pub best_at_69 : (w : ℕ) → worth money (graph money (last_net 69)) (λ i. 0) ≡ cents w → Best money (last_net 69) × Clears money (cents w) (last_net 69)
best_at_69 w is = (best_at_once money_laws (finish_at_69 0 refl), clears money_laws (finish_at_69 w is))

finish_at_69_with_weeks : (x : ℕ × ℕ) → worth M (graph M (last_net 69)) (λ i. 0) ≡ both x → Finish M_laws (last_net 69) M.none (both x)
finish_at_69_with_weeks x is = last_finish_with_weeks 69 0 x ((pos 0, pos 0) ∷ (pos 99, pos 2) ∷ (pos 69, pos 1) ∷ (pos 99, pos 2) ∷ (pos 69, pos 1) ∷ (negsuc 0, pos 2) ∷ (negsuc 0, pos 2) ∷ (negsuc 80, pos 1) ∷ (negsuc 80, pos 1) ∷ (pos 0, pos 0) ∷ (pos 0, pos 0) ∷ []) refl refl is

pub best_at_69_with_weeks : (x : ℕ × ℕ) → worth M (graph M (last_net 69)) (λ i. 0) ≡ both x → Best M (last_net 69) × Clears M (both x) (last_net 69)
best_at_69_with_weeks x is = (best_at_once M_laws (finish_at_69_with_weeks (0, 0) refl), clears M_laws (finish_at_69_with_weeks x is))

-- the resale round, with a unit on some arcs

abbrev on : List ℕ → ℕ → ℕ
on ys i = slice_index_or ys i 0

abbrev pub resale_net : List Holding → Net
resale_net hs = net_of (resale_book hs)

abbrev pub resale_flows : ℕ → ℕ
resale_flows = on (1 ∷ 1 ∷ 1 ∷ 1 ∷ 0 ∷ 0 ∷ 0 ∷ 0 ∷ 0 ∷ 0 ∷ 1 ∷ 1 ∷ 1 ∷ [])

pub resale_clears : (w : ℕ) → worth money (graph money (resale_net (held 0 1 1 ∷ []))) resale_flows ≡ cents w → Clears money (cents w) (resale_net (held 0 1 1 ∷ []))
resale_clears w is = clears money_laws (finish money_laws (begins money resale_run) resale_flows (levels (pos 0 ∷ pos 150 ∷ pos 100 ∷ [])) (cents w) refl is)

abbrev pub quay_net : ℕ → Net
quay_net units = resale_net (held 0 1 1 ∷ held 1 1 units ∷ [])

pub quay_clears : (units : ℕ) (ys : List ℕ) (at : List ℤ) (w : ℕ) → leb units 1000 ≡ true → finish_test money (quay_net units) (on ys) (levels at) ≡ true → worth money (graph money (quay_net units)) (on ys) ≡ cents w → Clears money (cents w) (quay_net units)
quay_clears units ys at w h test is = clears money_laws (finish money_laws (begins money (quay_run units h)) (on ys) (levels at) (cents w) test is)

pub clears_with_none : (w : ℕ) → worth money (graph money (quay_net 0)) (on (1 ∷ 0 ∷ 1 ∷ 1 ∷ 1 ∷ 0 ∷ 0 ∷ 0 ∷ 0 ∷ 0 ∷ 0 ∷ 1 ∷ 1 ∷ 1 ∷ [])) ≡ cents w → Clears money (cents w) (quay_net 0)
clears_with_none w is = quay_clears 0 (1 ∷ 0 ∷ 1 ∷ 1 ∷ 1 ∷ 0 ∷ 0 ∷ 0 ∷ 0 ∷ 0 ∷ 0 ∷ 1 ∷ 1 ∷ 1 ∷ []) (pos 0 ∷ pos 150 ∷ pos 100 ∷ []) w refl refl is

pub clears_with_one : (w : ℕ) → worth money (graph money (quay_net 1)) (λ i. 1) ≡ cents w → Clears money (cents w) (quay_net 1)
clears_with_one w is = clears money_laws (finish money_laws (begins money (quay_run 1 refl)) (λ i. 1) (levels (pos 0 ∷ pos 120 ∷ pos 100 ∷ pos 120 ∷ [])) (cents w) refl is)

-- the example market

abbrev pub market_net : Net
market_net = net_of market_book

abbrev pub market_flows : ℕ → ℕ
market_flows = on (50 ∷ 20 ∷ 30 ∷ 20 ∷ 20 ∷ 50 ∷ 0 ∷ 50 ∷ 20 ∷ 30 ∷ 20 ∷ 10 ∷ 30 ∷ 30 ∷ 10 ∷ 20 ∷ 30 ∷ 30 ∷ 0 ∷ 20 ∷ 20 ∷ 20 ∷ 20 ∷ 20 ∷ 20 ∷ 40 ∷ 40 ∷ 20 ∷ 20 ∷ [])

pub market_clears : (w : ℕ) (x : ℕ × ℕ) → worth money (graph money market_net) market_flows ≡ cents w → worth M (graph M market_net) market_flows ≡ both x → Clears money (cents w) market_net × Clears M (both x) market_net
market_clears w x is is' = (
  clears money_laws (finish money_laws (begins money market_run) market_flows (levels (pos 0 ∷ pos 100 ∷ pos 200 ∷ pos 250 ∷ pos 50 ∷ pos 100 ∷ pos 200 ∷ pos 250 ∷ pos 50 ∷ pos 50 ∷ pos 0 ∷ pos 0 ∷ pos 0 ∷ pos 0 ∷ negsuc 9 ∷ negsuc 9 ∷ pos 0 ∷ pos 0 ∷ negsuc 9 ∷ negsuc 9 ∷ negsuc 9 ∷ negsuc 9 ∷ [])) (cents w) refl is),
  clears M_laws (finish M_laws (begins M market_run) market_flows (pairs ((pos 10, pos 1) ∷ (pos 110, pos 1) ∷ (pos 210, pos 1) ∷ (pos 260, pos 2) ∷ (pos 60, pos 2) ∷ (pos 110, pos 1) ∷ (pos 210, pos 1) ∷ (pos 260, pos 2) ∷ (pos 60, pos 2) ∷ (pos 60, pos 0) ∷ (pos 10, pos 1) ∷ (pos 10, pos 1) ∷ (pos 10, pos 1) ∷ (pos 10, pos 1) ∷ (pos 0, pos 2) ∷ (pos 0, pos 2) ∷ (pos 10, pos 1) ∷ (pos 10, pos 1) ∷ [])) (both x) refl is'),
)

-- the haul table, with 3 units on both roads

roads_finish : (w : ℕ) → worth money (graph money road_net) (λ i. 3) ≡ cents w → Finish money_laws road_net money.none (cents w)
roads_finish w is = finish money_laws roads_begin (λ i. 3) (levels (pos 0 ∷ negsuc 29 ∷ [])) (cents w) refl is

pub roads_rise : (w : ℕ) → worth money (graph money road_net) (λ i. 3) ≡ cents w → money.less money.none (cents w) ≡ true → all_bring money_laws road_net (cents w) ≡ true → RisesOnce money (cents w) road_net × Clears money (cents w) road_net
roads_rise w is more test = (once money_laws (roads_finish w is) more test, clears money_laws (roads_finish w is))

-- what holds of each network of the two roads whose flows are worth 60 cents
pub roads_leave : (P : Net → Type 0) → ((t : Net) → Reached money_laws road_net (cents 60) t → P t) → Leaves money P road_net
roads_leave P at = left money_laws (roads_finish 60 refl) refl refl P at
