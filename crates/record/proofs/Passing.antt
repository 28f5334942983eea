-- The law of evidence: levels that fit show an allotment to be best, and a best one has such levels.
use Rattle.std.proofs.Common.{◌≡◌, ℕ, suc, ◌<◌, ◌≤◌, List, [], ◌∷◌, map, length, ℤ, sym, refl, ap, ◌∙◌, subst, subst₂, arith}
use lib.ListN.{length-map}
use Rattle.std.specs.List.{range_with_len, AllByRecursion}
use Rattle.std.proofs.lemmas.List.FromFn.{length-map-range_with_len, get_or-map-range_with_len}
use Rattle.std.proofs.ByRecursion.{All-from_get_or, All-map, All-weaker}
use Rattle.worth.specs.Money.{money}
use Rattle.worth.specs.Weeks.{weeks}
use Rattle.worth.specs.Lexicographic.{pile}
use Rattle.worth.specs.declared.money.Money.{Money}
use Rattle.worth.specs.declared.weeks.Weeks.{Weeks}
use Rattle.worth.specs.declared.lexicographic.Lexicographic.{Lexicographic}
use Rattle.worth.specs.Integers.{money_laws, weeks_laws}
use Rattle.worth.specs.Pairs.{pile_laws}
use Rattle.flow.specs.Groups.{Kind as Group, kind, Le}
use Rattle.flow.specs.Graphs.{Graph, Fits}
use Rattle.flow.specs.Graphs as graphs
use Rattle.flow.specs.Optimality.{Potentials}
use Rattle.network.specs.Networks.{Net, flow_in, graph}
use Rattle.network.specs.Potentials.{potential, Fitted}
use Rattle.book.specs.Agreement.{BestAllotment}
use Rattle.book.specs.Allotments.{Allotment, Allowed, Alike, KeepsLimits}
use Rattle.book.specs.Arcs.{nodes, net_of, filling, filled}
use Rattle.book.specs.Books.{Book, Offer, Fair, FairOffer, Sound}
use Rattle.book.specs.Rows.{AllWith}
use Rattle.book.specs.declared.line.Line.{Line}
use Rattle.book.proofs.Best.{alike_filled, best_has_potentials}
use Rattle.book.proofs.Networks.{laid_network, graph_same}
use Rattle.book.proofs.Sizes.{graph_sound, network_is_sound_lem}
use Rattle.layout.specs.Records.{Kind, by_money, by_money_then_weeks, parts, Contents, book_of, allotted, level_size, FairLevel, FairAllotment, contents_of}
use Rattle.layout.specs.Render.{render}
use Rattle.layout.proofs.Recorded.{all_recorded}
use Rattle.layout.proofs.Renders.{reads_records}
use Rattle.record.specs.Evidence.{amount, amount_and_weeks, LevelsFit, BestBy, Passes, SoundEvidence, EvidenceExists, Evidence}
use Rattle.record.specs.Worths.{amounts_again, pairs_again}
use Rattle.record.proofs.Payoffs.{best_by_money, best_by_pair}

-- the two kinds, with their laws
abbrev by_amount : Group Money
by_amount = kind money money_laws

abbrev by_pair : Group (Lexicographic Money Weeks)
by_pair = kind (pile money weeks) (pile_laws money_laws weeks_laws)

module _ {W : Type 0} (G : Group W) where
  -- the filled network has the graph of its book, since flows are no part of it
  pub same_graph : (b : Book) (a : Allotment) → graph G.ops (net_of b) ≡ graph G.ops (filled b a)
  same_graph b a = graph_same G b (filled b a) (laid_network b (filling b a))

  fitted_best : (b : Book) (a : Allotment) (row : List W) → Sound b → Allowed b a → Fitted G.ops (filled b a) row → BestAllotment G.ops b a
  fitted_best b a row s w f = (best_has_potentials G b a s w).show (potential G.ops row) (subst (λ N. Fits G.ops N (potential G.ops row) (flow_in (filled b a))) (sym (same_graph b a)) f.fits)

  -- only the potentials of the nodes matter
  pub fits_alike : (N : Graph W) (L M : ℕ → W) (u : ℕ → ℕ) → graphs.Sound N → ((v : ℕ) → v < N.nodes → L v ≡ M v) → Fits G.ops N L u → Fits G.ops N M u
  fits_alike N L M u s e f i l = subst₂ (λ x y. (u i < N.capacity i → Le G.ops (G.ops.plus x (N.unit i)) y) × (0 < u i → Le G.ops y (G.ops.plus x (N.unit i)))) (e (N.frm i) (s.frm_in i l)) (e (N.to i) (s.to_in i l)) (f i l)

  -- a row of potentials that fit, one for each node
  record Row (b : Book) (a : Allotment) : Type 0 where
    row : List W
    long : length row ≡ nodes b
    small : AllByRecursion (λ w. G.ops.size w ≤ 1000000) row
    fitted : Fitted G.ops (filled b a) row

  best_row : (b : Book) (a : Allotment) → Sound b → Allowed b a → BestAllotment G.ops b a → Row b a
  best_row b a s w best = record {
    row = row;
    long = long;
    small = All-from_get_or (λ x. G.ops.size x ≤ 1000000) row G.ops.none (λ v l. small v (omega (arith, long)));
    fitted = record {
      enough = omega (arith, long);
      fits = subst (λ N. Fits G.ops N (potential G.ops row) (flow_in (filled b a))) (same_graph b a) (fits_alike (graph G.ops (net_of b)) p.at (potential G.ops row) (flow_in (filled b a)) (graph_sound G.ops b s) (λ v l. sym (there v l)) p.fits);
      small = small;
    };
  }
    where
      p : Potentials G.ops (graph G.ops (net_of b)) (flow_in (filled b a))
      p = (best_has_potentials G b a s w).exist best

      row : List W
      row = map p.at (range_with_len 0 (nodes b))

      long : length row ≡ nodes b
      long = length-map-range_with_len p.at 0 (nodes b)

      there : (v : ℕ) → v < nodes b → potential G.ops row v ≡ p.at v
      there v l = get_or-map-range_with_len p.at 0 (nodes b) v v G.ops.none l (omega arith)

      small : (v : ℕ) → v < nodes b → G.ops.size (potential G.ops row v) ≤ 1000000
      small v l = subst (λ x. G.ops.size x ≤ 1000000) (sym (there v l)) (omega (arith, p.small v l, (network_is_sound_lem b s).0.few_nodes))

-- the limits of lines are at most 1,000, and so are the units of an allowed allotment
units_within : (n : ℕ) (ls : List Line) (x : ℕ → ℕ) → AllByRecursion (Fair n) ls → KeepsLimits ls x → AllWith (λ l k. k ≤ 1000) ls x
units_within n [] x f k = tt
units_within n (l ∷ ls) x f k = (omega (arith, f.0.most, k.0), units_within n ls (λ t. x (suc t)) f.1 k.1)

pub fair_from_limits : (n m : ℕ) (os : List Offer) (a : Allotment) → AllByRecursion (FairOffer n m) os → AllWith (λ o u. KeepsLimits o.give u.give) os a → AllWith (λ o u. KeepsLimits o.get u.get) os a → FairAllotment os a
fair_from_limits n m [] a f g h = tt
fair_from_limits n m (o ∷ os) a f g h = ((units_within n o.give (a 0).give f.0.gives.fair g.0, units_within n o.get (a 0).get f.0.gets.fair h.0), fair_from_limits n m os (λ k. a (suc k)) f.1 g.1 h.1)

-- a record passes where its allotment is allowed and its levels, one for each node, are fair and fit
pub passes : (k : Kind) (b : Book) (a : Allotment) (zs : List (List ℤ)) → Sound b → Allowed b a → AllByRecursion (FairLevel k) zs → length zs ≡ nodes b → LevelsFit k (filled b a) zs → Passes (render (contents_of k b a zs)) (contents_of k b a zs)
passes k b a zs s w fair long fits =
    let x : Contents = contents_of k b a zs in
    let r = all_recorded k b a zs in
    let back : Alike b.offers a (allotted x) = λ i l. record { give = λ t h. sym ((r.allotment i l).give t h); get = λ t h. sym ((r.allotment i l).get t h) } in
    let alike = alike_filled b a (allotted x) back in
    record {
      reads = (reads_records (render x) x).1 (refl, r.valid s (fair_from_limits (length b.items) (length b.members) b.offers a s.offers_fair w.gives w.gets) fair long);
      allowed = subst (λ c. Allowed c (allotted x)) (sym r.book) (alike.1 s w);
      fits = subst (λ n. LevelsFit k n zs) (alike.0 ∙ ap (λ c. filled c (allotted x)) (sym r.book)) fits;
    }

-- a kind of worth whose worths are as levels of the same size that fit where they do
module _ {W : Type 0} (G : Group W) (k : Kind) (numbers : W → List ℤ) (counted : (w : W) → length (numbers w) ≡ parts k) (sized : (w : W) → level_size (numbers w) ≡ G.ops.size w) (fitting : (n : Net) (ws : List W) → Fitted G.ops n ws → LevelsFit k n (map numbers ws)) where
  levels_exist : (b : Book) (a : Allotment) → Sound b → Allowed b a → BestAllotment G.ops b a → (zs : List (List ℤ)) × Passes (render (contents_of k b a zs)) (contents_of k b a zs)
  levels_exist b a s w best =
      let r = best_row G b a s w best in
      let fair : AllByRecursion (FairLevel k) (map numbers r.row) = All-map (FairLevel k) numbers r.row (All-weaker (λ w. G.ops.size w ≤ 1000000) (λ w. FairLevel k (numbers w)) (λ w h. (counted w, omega (arith, sized w))) r.row r.small) in
      (map numbers r.row, passes k b a (map numbers r.row) s w fair (length-map r.row numbers ∙ r.long) (fitting (filled b a) r.row r.fitted))

best_by : (k : Kind) (b : Book) (a : Allotment) (zs : List (List ℤ)) → Sound b → Allowed b a → LevelsFit k (filled b a) zs → BestBy k b a
best_by by_money b a zs s w f = (best_by_money b a).0 (fitted_best by_amount b a (map amount zs) s w f)
best_by by_money_then_weeks b a zs s w f = (best_by_pair b a).0 (fitted_best by_pair b a (map amount_and_weeks zs) s w f)

sound_evidence : SoundEvidence
sound_evidence text x p = (p.allowed, best_by x.kind (book_of x) (allotted x) x.levels ((reads_records text x).0 p.reads).1.sound p.allowed p.fits)

evidence_exists : EvidenceExists
evidence_exists by_money b a s w best = levels_exist by_amount by_money (λ w. w.cents ∷ []) (λ w. refl) (λ w. refl) (λ n ws f. subst (Fitted money n) (sym (amounts_again ws)) f) b a s w ((best_by_money b a).1 best)
evidence_exists by_money_then_weeks b a s w best = levels_exist by_pair by_money_then_weeks (λ w. w.first.cents ∷ w.second.count ∷ []) (λ w. refl) (λ w. refl) (λ n ws f. subst (Fitted (pile money weeks) n) (sym (pairs_again ws)) f) b a s w ((best_by_pair b a).1 best)

pub evidence : Evidence
evidence = (sound_evidence, evidence_exists)
