-- The law over whole uses of a round.
use Rattle.std.proofs.Common.{◌≡◌, ◌↔◌, List, Ok, Err, Result, sym, refl, ap, ◌∙◌, subst, subst₂, None, Option, Some}
use Rattle.tables.specs.declared.refusal.Refusal.{Refusal}
use Rattle.worth.specs.Kinds.{Ops, Laws}
use Rattle.worth.specs.Integers.{money_laws, weeks_laws}
use Rattle.worth.specs.Pairs.{pile_laws}
use Rattle.flow.specs.Groups.{Kind, kind}
use Rattle.flow.specs.Graphs.{Circulation, Within}
use Rattle.flow.specs.Optimality as claims
use Rattle.network.specs.Networks.{Net, flow_in, graph, value}
use Rattle.search.specs.Outcomes.{Improves, Climb, still, more, Improving, Clearing}
use Rattle.search.specs.Uses.{risen, summed, Unbeaten}
use Rattle.search.specs.Uses as networks
use Rattle.search.proofs.Standing as networks-law
use Rattle.book.specs.Books.{Book, Sound}
use Rattle.book.specs.Allotments.{Allowed}
use Rattle.book.specs.Arcs.{arcs_of, net_of, filled, NetworkOf}
use Rattle.book.specs.Agreement.{Circulates, BestAllotment}
use Rattle.book.proofs.Networks.{network_flowing, graph_same}
use Rattle.book.proofs.Sizes.{network_is_sound_lem}
use Rattle.book.proofs.Best.{circulation_is_filled_lem, best_is_best_circulation_lem}
use Rattle.round.specs.Piles.{Piled, money_alone, weeks_alone, piled, ops_of}
use Rattle.round.specs.Uses.{Accepted, Opened, begun, item, member, hold, offer, withdraw, OpenLaw, JustLeft, Use, closed, improved, cleared, allotted, Law, RoundLaw}
use Rattle.round.proofs.Sounds.{sound_fresh, sound_item, sound_member, sound_hold, sound_offer, sound_withdraw}
use Rattle.round.proofs.Left.{just_left}
use Rattle.flow.proofs.Rows.{same_refl, same_trans}

opened_sound : {calls : List Accepted} {b : Book} → Opened calls b → Sound b
opened_sound (begun b e) = subst Sound (sym e) sound_fresh
opened_sound (item {b = b} b' s r u t) = sound_item b b' s r t (opened_sound u)
opened_sound (member {b = b} b' s r u t) = sound_member b b' s r t (opened_sound u)
opened_sound (hold {b = b} b' h r u t) = sound_hold b b' h r t (opened_sound u)
opened_sound (offer {b = b} b' o r u t) = sound_offer b b' o r t (opened_sound u)
opened_sound (withdraw {b = b} b' k r u t) = sound_withdraw b b' k r t (opened_sound u)

open_law : OpenLaw
open_law calls b u = let s = opened_sound u in (just_left u s, s)

module _ {W : Type 0} (o : Ops W) where
  improves_network : (b : Book) (s t : Net) (x : W) → NetworkOf b s → Improves o s t x → NetworkOf b t
  improves_network b s t x h i = record { same_nodes = i.nodes ∙ h.same_nodes; same_arcs = same_trans (arcs_of b) s.arcs t.arcs h.same_arcs i.arcs }

  climb_network : (b : Book) {s t : Net} {sum : W} → NetworkOf b s → Climb o s sum t → NetworkOf b t
  climb_network b h still = h
  climb_network b h (more {t = t} {u = u} {rise = rise} c i) = improves_network b t u rise (climb_network b h c) i

  improving_network : (b : Book) (s t : Net) (work work' : List W) (r : Result (Option W) Refusal) → NetworkOf b s → Improving o s t work work' r → NetworkOf b t
  improving_network b s t work work' (Ok (Some x)) h i = improves_network b s t x h i.0
  improving_network b s t work work' (Ok None) h i = subst (NetworkOf b) (sym i.0) h
  improving_network b s t work work' (Err e) h i = subst (NetworkOf b) (sym i.same) h

  clearing_network : (b : Book) (s t : Net) (work work' : List W) (r : Result W Refusal) → NetworkOf b s → Clearing o s t work work' r → NetworkOf b t
  clearing_network b s t work work' (Ok x) h c = climb_network b h c.0
  clearing_network b s t work work' (Err e) h c = subst (NetworkOf b) (sym c.same) h

module _ {W : Type 0} (o : Ops W) where
  -- a use of a round is one of its network
  record Used (b : Book) (n : Net) (sum : W) : Type 0 where
    sound : Sound b
    network : NetworkOf b n
    run : networks.Use o n sum

  fresh_used : (b : Book) → Sound b → Used b (net_of b) o.none
  fresh_used b s = let f = network_is_sound_lem b s in record { sound = s; network = record { same_nodes = refl; same_arcs = same_refl (arcs_of b) }; run = networks.begun f.0 f.1 }

  -- the book of a closed round stays the one that it was closed with
  closed_kept : {calls : List Accepted} {b : Book} {n : Net} {sum : W} → Use o calls b n sum → JustLeft calls b
  closed_kept (closed {calls} b' n u c) = subst (JustLeft calls) (sym c.book) (open_law calls _ u).0
  closed_kept (improved {calls} b' t work work' r u e i) = subst (JustLeft calls) (sym e) (closed_kept u)
  closed_kept (cleared {calls} b' t work work' r u e c) = subst (JustLeft calls) (sym e) (closed_kept u)

  used : {calls : List Accepted} {b : Book} {n : Net} {sum : W} → Use o calls b n sum → Used b n sum
  used (closed {b = b} b' n u c) = subst₂ (λ x m. Used x m o.none) (sym c.book) (sym c.net) (fresh_used b (opened_sound u))
  used (improved {b} {s} {sum} b' t work work' r u e i) =
      let h = used u in
      subst (λ x. Used x t (o.plus sum (risen o r))) (sym e) (record { sound = h.sound; network = improving_network o b s t work work' r h.network i; run = networks.improved t work work' r h.run i })
  used (cleared {b} {s} {sum} b' t work work' r u e c) =
      let h = used u in
      subst (λ x. Used x t (o.plus sum (summed o r))) (sym e) (record { sound = h.sound; network = clearing_network o b s t work work' r h.network c; run = networks.cleared t work work' r h.run c })

module _ {W : Type 0} {o : Ops W} (laws : Laws o) where
  -- the flows of a use are those of an allowed allotment, which is best where they are
  record Filled (b : Book) (n : Net) : Type 0 where
    fills : n ≡ filled b (allotted b n)
    allowed : Allowed b (allotted b n)
    best : BestAllotment o b (allotted b n) ↔ Unbeaten o n

  filled_by : (b : Book) (n : Net) (sum : W) → Used o b n sum → Filled b n
  filled_by b n sum h =
      let G : Kind W = kind o laws in
      let st = networks-law.law_holds laws n sum h.run in
      let same : graph o (net_of b) ≡ graph o n = graph_same G b n h.network in
      let flows : Circulates o b (flow_in n) = record { within = subst (λ g. Within g (flow_in n)) (sym same) st.within; balanced = subst (λ g. Circulation g (flow_in n)) (sym same) st.circulation } in
      let found = circulation_is_filled_lem o b (flow_in n) h.sound flows in
      let fills : n ≡ filled b (allotted b n) = sym (network_flowing b n h.network) ∙ found.1 in
      record {
        fills = fills;
        allowed = found.0;
        best = subst₂ (λ g y. BestAllotment o b (allotted b n) ↔ claims.Best o g y) same (ap flow_in (sym fills)) (best_is_best_circulation_lem G b (allotted b n) h.sound found.0);
      }

  -- after a clear from zero flows on
  pub cleared_allowed : (b : Book) (n : Net) (work work' : List W) (sum : W) → Sound b → Clearing o (net_of b) n work work' (Ok sum) → (n ≡ filled b (allotted b n)) × Allowed b (allotted b n)
  cleared_allowed b n work work' sum s c =
      let h = fresh_used o b s in
      let f = filled_by b n (o.plus o.none sum) (record { sound = s; network = clearing_network o b (net_of b) n work work' (Ok sum) h.network c; run = networks.cleared n work work' (Ok sum) h.run c }) in
      (f.fills, f.allowed)

  pub law_holds : Law o
  law_holds calls b n sum u =
      let h = used o u in
      let st = networks-law.law_holds laws n sum h.run in
      let f = filled_by b n sum h in
      record {
        kept = closed_kept o u;
        sound = h.sound;
        fills = f.fills;
        allowed = f.allowed;
        worth = ap (value o) (sym f.fills) ∙ st.worth;
        best = λ t work work' r i. let p = st.best t work work' r i in (λ e. f.best.1 (p.0 e), λ b'. p.1 (f.best.0 b'));
        ends = λ t work work' rise c. (filled_by b t (o.plus sum rise) (used o (cleared b t work work' (Ok rise) u refl c))).best.1 (st.ends t work work' rise c);
      }

-- every kind that is piled up from money and weeks keeps the laws of a kind
laws_of : (kind : Piled) → Laws (ops_of kind)
laws_of money_alone = money_laws
laws_of weeks_alone = weeks_laws
laws_of (piled a b) = pile_laws (laws_of a) (laws_of b)

pub round_law : RoundLaw
round_law = (open_law, λ k. law_holds (laws_of k), λ o l. law_holds l)
