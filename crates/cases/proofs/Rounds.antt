-- The rounds and the haul table of the worked cases, as their calls build them.
use Rattle.std.proofs.Common.{◌<◌, ◌⊎◌, ◌≡◌, ℕ, true, leb, List, [], ◌∷◌, ◌++◌, pos, negsuc, codes, Ok, refl}
use Rattle.worth.specs.Kinds.{Ops}
use Rattle.worth.specs.Money.{money}
use Rattle.worth.specs.Integers.{money_laws}
use Rattle.flow.specs.declared.arc.Arc.{Arc}
use Rattle.tables.specs.Refusals.{number}
use Rattle.tables.specs.declared.refusal.Refusal.TheVariants.{Bounds, Price, Loop}
use Rattle.flow.specs.Arcs as arcs
use Rattle.network.specs.Networks.{Net}
use Rattle.search.specs.Uses.{Use, begun}
use Rattle.book.specs.Books.{Book}
use Rattle.book.specs.Books as books
use Rattle.book.specs.Arcs.{net_of}
use Rattle.book.specs.declared.holding.Holding.{Holding}
use Rattle.book.proofs.Sizes.{network_is_sound_lem}
use Rattle.book.specs.declared.line.Line.{Line}
use Rattle.terms.specs.Lines.{Out, EitherSide}
use Rattle.round.specs.Rounds.{fresh}
use Rattle.round.specs.Offering.{made}
use Rattle.round.specs.Uses.{Accepted, an_item, a_member, a_holding, an_offer, noted, Opened}
use Rattle.round.specs.Uses as opened
use Rattle.round.proofs.Standing.{round_law}
use Rattle.haul_table.specs.Roads.{empty, with_arc}
use Rattle.haul_table.specs.Uses as hauls
use Rattle.haul_table.proofs.Standing.{law_holds}
use Rattle.cases.specs.Calls.{Answer, numbered, done, refused, Run, stopped, went, Call, item, member, hold, offer, Calls, Roads}
use Rattle.cases.specs.Chain.{line, chain, chain_answers}
use Rattle.cases.specs.Resale.{resale, resale_answers}
use Rattle.cases.specs.Market.{market, market_answers}
use Rattle.cases.specs.Cases.{two_roads, cash_for_cash, offer_with}
use Rattle.cases.proofs.Calls.{run_on}
use Rattle.cases.proofs.Building.{takes_item, takes_member, takes_holding, takes_offer, refuses_loop, refuses_limit, refuses_price, place_tests, all_true, all_pass, is_limit, roaded, takes_road}
use Rattle.cases.proofs.Flown.{still}

-- what calls build is sound

sound_on : {b t : Book} {calls : List Call} {told : List Answer} (accepted : List Accepted) → Opened accepted b → Run Calls b calls told t → books.Sound t
sound_on {b} accepted u stopped = (round_law.0 accepted b u).1
sound_on accepted u (went {t = t} {c = item s} (r, p, e) w) = sound_on (noted r (an_item s) accepted) (opened.item t s r u p) w
sound_on accepted u (went {t = t} {c = member s} (r, p, e) w) = sound_on (noted r (a_member s) accepted) (opened.member t s r u p) w
sound_on accepted u (went {t = t} {c = hold m i units} (r, p, e) w) = let h : Holding = record { member = m; item = i; units = units } in sound_on (noted r (a_holding h) accepted) (opened.hold t h r u p) w
sound_on accepted u (went {t = t} {c = offer m limit give get} (r, p, e) w) = sound_on (noted r (an_offer (made m limit give get)) accepted) (opened.offer t (made m limit give get) r u p) w

pub sound : {b : Book} {calls : List Call} {told : List Answer} → Run Calls fresh calls told b → books.Sound b
sound r = sound_on [] (opened.begun fresh refl) r

-- its network, with no flow on it, is where uses begin
pub begins : {W : Type 0} (o : Ops W) {b : Book} {calls : List Call} {told : List Answer} → Run Calls fresh calls told b → Use o (net_of b) o.none
begins o {b} r = let s = network_is_sound_lem b (sound r) in begun s.0 s.1

-- the chain round

abbrev pub held : ℕ → ℕ → ℕ → Holding
held m i units = record { member = m; item = i; units = units }

abbrev unoffered : List Holding → Book
unoffered hs = record { items = codes "cash" ∷ codes "spring-a" ∷ codes "spring-b" ∷ []; members = codes "north" ∷ codes "quay" ∷ codes "west" ∷ []; holdings = hs; offers = [] }

abbrev pub two : List Holding
two = held 0 1 5 ∷ held 1 2 4 ∷ []

started : Run Calls fresh (item (codes "spring-a") ∷ item (codes "spring-b") ∷ member (codes "north") ∷ member (codes "quay") ∷ member (codes "west") ∷ hold 0 1 5 ∷ hold 1 2 4 ∷ []) (numbered 1 ∷ numbered 2 ∷ numbered 0 ∷ numbered 1 ∷ numbered 2 ∷ done ∷ done ∷ []) (unoffered two)
started =
    went (takes_item _ (codes "spring-a") refl) (
    went (takes_item _ (codes "spring-b") refl) (
    went (takes_member _ (codes "north") refl) (
    went (takes_member _ (codes "quay") refl) (
    went (takes_member _ (codes "west") refl) (
    went (takes_holding _ 0 1 5 refl) (
    went (takes_holding _ 1 2 4 refl) stopped))))))

abbrev pub chain_book : List Holding → ℕ → Book
chain_book hs last = record {
  items = codes "cash" ∷ codes "spring-a" ∷ codes "spring-b" ∷ [];
  members = codes "north" ∷ codes "quay" ∷ codes "west" ∷ [];
  holdings = hs;
  offers = made 0 5 (line 1 5 100 ∷ []) (line 0 5 0 ∷ []) ∷ made 1 3 (line 2 4 150 ∷ []) (line 1 4 180 ∷ []) ∷ made 2 10 (line 0 10 0 ∷ []) (line 2 10 last ∷ []) ∷ [];
}

offered : (hs : List Holding) (last : ℕ) → leb last 1000000 ≡ true → Run Calls (unoffered hs) (offer 0 5 (line 1 5 100 ∷ []) (line 0 5 0 ∷ []) ∷ offer 1 3 (line 2 4 150 ∷ []) (line 1 4 180 ∷ []) ∷ offer 2 10 (line 0 10 0 ∷ []) (line 2 10 last ∷ []) ∷ []) (numbered 0 ∷ numbered 1 ∷ numbered 2 ∷ []) (chain_book hs last)
offered hs last h =
    went (takes_offer _ 0 5 (line 1 5 100 ∷ []) (line 0 5 0 ∷ []) refl refl) (
    went (takes_offer _ 1 3 (line 2 4 150 ∷ []) (line 1 4 180 ∷ []) refl refl) (
    went (takes_offer _ 2 10 (line 0 10 0 ∷ []) (line 2 10 last ∷ []) (rw h refl) refl) stopped))

pub chain_run : (last : ℕ) → leb last 1000000 ≡ true → Run Calls fresh (chain [] last) (chain_answers []) (chain_book two last)
chain_run last h = run_on started (offered two last h)

pub cash_run : (units : ℕ) → leb units 1000 ≡ true → Run Calls fresh (chain (hold 2 0 units ∷ []) 160) (chain_answers (done ∷ [])) (chain_book (two ++ held 2 0 units ∷ []) 160)
cash_run units h = run_on started (went (takes_holding (unoffered two) 2 0 units (rw h refl)) (offered (two ++ held 2 0 units ∷ []) 160 refl))

-- the resale round

abbrev resold : List Holding → Book
resold hs = record { items = codes "cash" ∷ codes "week-a" ∷ []; members = codes "north" ∷ codes "quay" ∷ codes "west" ∷ []; holdings = hs; offers = [] }

abbrev pub resale_book : List Holding → Book
resale_book hs = record {
  items = codes "cash" ∷ codes "week-a" ∷ [];
  members = codes "north" ∷ codes "quay" ∷ codes "west" ∷ [];
  holdings = hs;
  offers = made 0 1 (line 1 1 100 ∷ []) (line 0 1 0 ∷ []) ∷ made 1 1 (line 0 1 0 ∷ []) (line 1 1 150 ∷ []) ∷ made 1 1 (line 1 1 120 ∷ []) (line 0 1 0 ∷ []) ∷ made 2 1 (line 0 1 0 ∷ []) (line 1 1 200 ∷ []) ∷ [];
}

resale_started : Run Calls fresh (item (codes "week-a") ∷ member (codes "north") ∷ member (codes "quay") ∷ member (codes "west") ∷ hold 0 1 1 ∷ []) (numbered 1 ∷ numbered 0 ∷ numbered 1 ∷ numbered 2 ∷ done ∷ []) (resold (held 0 1 1 ∷ []))
resale_started =
    went (takes_item _ (codes "week-a") refl) (
    went (takes_member _ (codes "north") refl) (
    went (takes_member _ (codes "quay") refl) (
    went (takes_member _ (codes "west") refl) (
    went (takes_holding _ 0 1 1 refl) stopped))))

resale_offered : (hs : List Holding) → Run Calls (resold hs) (offer 0 1 (line 1 1 100 ∷ []) (line 0 1 0 ∷ []) ∷ offer 1 1 (line 0 1 0 ∷ []) (line 1 1 150 ∷ []) ∷ offer 1 1 (line 1 1 120 ∷ []) (line 0 1 0 ∷ []) ∷ offer 2 1 (line 0 1 0 ∷ []) (line 1 1 200 ∷ []) ∷ []) (numbered 0 ∷ numbered 1 ∷ numbered 2 ∷ numbered 3 ∷ []) (resale_book hs)
resale_offered hs =
    went (takes_offer _ 0 1 (line 1 1 100 ∷ []) (line 0 1 0 ∷ []) refl refl) (
    went (takes_offer _ 1 1 (line 0 1 0 ∷ []) (line 1 1 150 ∷ []) refl refl) (
    went (takes_offer _ 1 1 (line 1 1 120 ∷ []) (line 0 1 0 ∷ []) refl refl) (
    went (takes_offer _ 2 1 (line 0 1 0 ∷ []) (line 1 1 200 ∷ []) refl refl) stopped)))

pub resale_run : Run Calls fresh (resale []) (resale_answers []) (resale_book (held 0 1 1 ∷ []))
resale_run = run_on resale_started (resale_offered (held 0 1 1 ∷ []))

pub quay_run : (units : ℕ) → leb units 1000 ≡ true → Run Calls fresh (resale (hold 1 1 units ∷ [])) (resale_answers (done ∷ [])) (resale_book (held 0 1 1 ∷ held 1 1 units ∷ []))
quay_run units h = run_on resale_started (went (takes_holding (resold (held 0 1 1 ∷ [])) 1 1 units (rw h refl)) (resale_offered (held 0 1 1 ∷ held 1 1 units ∷ [])))

-- the example market

abbrev pub market_book : Book
market_book = record {
  items = codes "cash" ∷ codes "week-a" ∷ codes "week-b" ∷ codes "week-c" ∷ codes "week-d" ∷ [];
  members = codes "harbour-1" ∷ codes "harbour-2" ∷ codes "harbour-3" ∷ codes "harbour-4" ∷ [];
  holdings = held 0 1 50 ∷ held 0 2 30 ∷ held 1 3 40 ∷ held 1 4 20 ∷ held 2 4 20 ∷ [];
  offers =
      made 0 80 (line 1 50 100 ∷ line 2 30 200 ∷ []) (line 4 40 50 ∷ line 0 40 0 ∷ [])
      ∷ made 0 40 (line 2 30 200 ∷ line 0 20 0 ∷ []) (line 3 40 250 ∷ [])
      ∷ made 1 40 (line 3 30 260 ∷ line 4 20 60 ∷ []) (line 1 30 120 ∷ line 2 30 190 ∷ [])
      ∷ made 1 20 (line 3 20 240 ∷ []) (line 0 20 0 ∷ [])
      ∷ made 2 20 (line 4 20 60 ∷ []) (line 1 20 120 ∷ [])
      ∷ made 3 40 (line 0 40 0 ∷ []) (line 2 30 210 ∷ line 4 20 80 ∷ [])
      ∷ [];
}

pub market_run : Run Calls fresh market market_answers market_book
market_run =
    went (takes_item _ (codes "week-a") refl) (
    went (takes_item _ (codes "week-b") refl) (
    went (takes_item _ (codes "week-c") refl) (
    went (takes_item _ (codes "week-d") refl) (
    went (takes_member _ (codes "harbour-1") refl) (
    went (takes_member _ (codes "harbour-2") refl) (
    went (takes_member _ (codes "harbour-3") refl) (
    went (takes_member _ (codes "harbour-4") refl) (
    went (takes_holding _ 0 1 50 refl) (
    went (takes_holding _ 0 2 30 refl) (
    went (takes_holding _ 1 3 40 refl) (
    went (takes_holding _ 1 4 20 refl) (
    went (takes_holding _ 2 4 20 refl) (
    went (takes_offer _ 0 80 (line 1 50 100 ∷ line 2 30 200 ∷ []) (line 4 40 50 ∷ line 0 40 0 ∷ []) refl refl) (
    went (takes_offer _ 0 40 (line 2 30 200 ∷ line 0 20 0 ∷ []) (line 3 40 250 ∷ []) refl refl) (
    went (takes_offer _ 1 40 (line 3 30 260 ∷ line 4 20 60 ∷ []) (line 1 30 120 ∷ line 2 30 190 ∷ []) refl refl) (
    went (takes_offer _ 1 20 (line 3 20 240 ∷ []) (line 0 20 0 ∷ []) refl refl) (
    went (takes_offer _ 2 20 (line 4 20 60 ∷ []) (line 1 20 120 ∷ []) refl refl) (
    went (takes_offer _ 3 40 (line 0 40 0 ∷ []) (line 2 30 210 ∷ line 4 20 80 ∷ []) refl refl) stopped))))))))))))))))))

-- cash on both sides

abbrev pub north : Book
north = record { items = codes "cash" ∷ []; members = codes "north" ∷ []; holdings = []; offers = [] }

pub loop_run : Run Calls fresh (cash_for_cash 20 40) (numbered 0 ∷ refused (number Loop) ∷ []) north
loop_run = went (takes_member _ (codes "north") refl) (went (refuses_loop north 0 5 (line 0 5 20) (line 0 5 40) refl refl) stopped)

abbrev cash_offered : ℕ → ℕ → Book
cash_offered given got = record { items = codes "cash" ∷ []; members = codes "north" ∷ []; holdings = []; offers = made 0 5 (line 0 5 given ∷ []) (line 0 5 got ∷ []) ∷ [] }

pub same_run : Run Calls fresh (cash_for_cash 40 40) (numbered 0 ∷ numbered 0 ∷ []) (cash_offered 40 40)
same_run = went (takes_member _ (codes "north") refl) (went (takes_offer north 0 5 (line 0 5 40 ∷ []) (line 0 5 40 ∷ []) refl refl) stopped)

pub lower_run : Run Calls fresh (cash_for_cash 40 20) (numbered 0 ∷ numbered 0 ∷ []) (cash_offered 40 20)
lower_run = went (takes_member _ (codes "north") refl) (went (takes_offer north 0 5 (line 0 5 40 ∷ []) (line 0 5 20 ∷ []) refl refl) stopped)

-- limits and prices at their bounds

abbrev one_offer : ℕ → Line → Line → Book
one_offer limit give get = record { items = codes "cash" ∷ []; members = codes "north" ∷ []; holdings = []; offers = made 0 limit (give ∷ []) (get ∷ []) ∷ [] }

pub accepted_run : (limit : ℕ) (give get : Line) → Calls north (offer 0 limit (give ∷ []) (get ∷ [])) (numbered 0) (one_offer limit give get) → Run Calls fresh (offer_with limit give get) (numbered 0 ∷ numbered 0 ∷ []) (one_offer limit give get)
accepted_run limit give get c = went (takes_member _ (codes "north") refl) (went c stopped)

pub highest_run : Run Calls fresh (offer_with 1000 (line 0 1000 1000000) (line 0 1000 1000000)) (numbered 0 ∷ numbered 0 ∷ []) (one_offer 1000 (line 0 1000 1000000) (line 0 1000 1000000))
highest_run = accepted_run 1000 (line 0 1000 1000000) (line 0 1000 1000000) (takes_offer north 0 1000 (line 0 1000 1000000 ∷ []) (line 0 1000 1000000 ∷ []) refl refl)

pub lowest_run : Run Calls fresh (offer_with 1 (line 0 1 0) (line 0 1 0)) (numbered 0 ∷ numbered 0 ∷ []) (one_offer 1 (line 0 1 0) (line 0 1 0))
lowest_run = accepted_run 1 (line 0 1 0) (line 0 1 0) (takes_offer north 0 1 (line 0 1 0 ∷ []) (line 0 1 0 ∷ []) refl refl)

pub limit_run : (limit : ℕ) (give get : Line) → all_true (place_tests north 0 (give ∷ []) (get ∷ [])) ≡ true → Out limit ⊎ EitherSide (λ l. Out l.limit) (give ∷ []) (get ∷ []) → Run Calls fresh (offer_with limit give get) (numbered 0 ∷ refused (number Bounds) ∷ []) north
limit_run limit give get h out = went (takes_member _ (codes "north") refl) (went (refuses_limit north 0 limit (give ∷ []) (get ∷ []) h out) stopped)

pub price_run : (give get : Line) → all_true (place_tests north 0 (give ∷ []) (get ∷ [])) ≡ true → all_pass (λ l. is_limit l.limit) (give ∷ []) ≡ true → all_pass (λ l. is_limit l.limit) (get ∷ []) ≡ true → EitherSide (λ l. 1000000 < l.price) (give ∷ []) (get ∷ []) → Run Calls fresh (offer_with 5 give get) (numbered 0 ∷ refused (number Price) ∷ []) north
price_run give get h g w out = went (takes_member _ (codes "north") refl) (went (refuses_price north 0 5 (give ∷ []) (get ∷ []) h refl g w out) stopped)

-- the two roads

abbrev pub road_net : Net
road_net = record { nodes = 64; arcs = two_roads }

abbrev first : Arc
first = arcs.fresh 0 1 4 (negsuc 29) 0

abbrev second : Arc
second = arcs.fresh 1 0 3 (pos 50) 0

pub road_run : Run Roads empty two_roads (numbered 0 ∷ numbered 1 ∷ []) road_net
road_run = went (takes_road empty first refl) (went (takes_road (with_arc empty first) second refl) stopped)

pub roads_begin : Use money road_net money.none
roads_begin =
    begun (law_holds money_laws road_net money.none (
    hauls.roaded road_net 1 0 3 (pos 50) 0 (Ok 1) (
    hauls.roaded (with_arc empty first) 0 1 4 (negsuc 29) 0 (Ok 0) hauls.made (roaded empty first refl))
    (roaded (with_arc empty first) second refl))).sound
    (still two_roads)
