-- The worked cases, with the numbers that come out.
use Rattle.std.specs.Prelude.{◌≡◌, ℕ, List, [], ◌∷◌, map, ℤ, pos, negsuc, neg_ℤ, codes, ⊤}
use Rattle.std.specs.List.{AllByRecursion}
use Rattle.worth.specs.Kinds.{Ops}
use Rattle.worth.specs.Money.{money, of_cents}
use Rattle.worth.specs.Weeks.{weeks, of_count}
use Rattle.worth.specs.Lexicographic.{pile, pair}
use Rattle.worth.specs.declared.money.Money.{Money}
use Rattle.worth.specs.declared.weeks.Weeks.{Weeks}
use Rattle.worth.specs.declared.lexicographic.Lexicographic.{Lexicographic}
use Rattle.flow.specs.declared.arc.Arc.{Arc}
use Rattle.flow.specs.Arcs.{fresh}
use Rattle.network.specs.Networks.{Net, value}
use Rattle.layout.specs.Records.{by_money, by_money_then_weeks}
use Rattle.layout.specs.Render.{ended}
use Rattle.book.specs.declared.line.Line.{Line}
use Rattle.record.specs.declared.passed.OfferResult.{OfferResult}
use Rattle.record.specs.declared.passed.Total.TheVariants as total
use Rattle.cases.specs.Calls.{Answer, numbered, done, refused, Call, member, hold, offer, Built, ClosedWith, Closed, Pays, Hauled}
use Rattle.cases.specs.Clearing.{Best, RisesOnce, Clears, Leaves}
use Rattle.cases.specs.Texts.{RecordOf, Passing, Failing, Filing, ClearingSheet}
use Rattle.cases.specs.Chain.{line, chain, chain_answers, money_text, chain_levels, filed_levels, threes, raised_levels, levels_with_79, cut_text, chain_sheet, sheet_at_70, cash_text, no_cash_text, weeks_text}
use Rattle.cases.specs.Resale.{resale, resale_answers}
use Rattle.cases.specs.Market.{market, market_answers, market_text}

-- so many cents
abbrev pub cents : ℕ → Money
cents n = of_cents (pos n)

-- so many cents, and so many weeks
abbrev pub both : ℕ × ℕ → Lexicographic Money Weeks
both n = pair (of_cents (pos n.0)) (of_count (pos n.1))

-- an offer that pays so many cents and gets so many weeks, and one that costs so many and gets so many
abbrev pub pays : ℕ × ℕ → ℤ × ℕ
pays n = (pos n.0, n.1)

abbrev pub costs : ℕ × ℕ → ℤ × ℕ
costs n = (neg_ℤ (pos n.0), n.1)

-- what an offer comes to
abbrev pub comes_to : ℤ × ℕ → OfferResult
comes_to p = record { payoff = p.0; weeks = p.1 }

-- the empty round by a kind: improve answers best, and its network is worth none
abbrev pub EmptyRound : {W : Type 0} → Ops W → Type 0
EmptyRound o = Closed [] [] (λ n. Best o n × (value o n ≡ o.none))

-- the text of the record of an empty round
abbrev pub empty_text : List ℕ
empty_text = ended (map codes ("K 1" ∷ "money" ∷ "I 1" ∷ "cash" ∷ "M 0" ∷ "H 0" ∷ "O 0" ∷ "L 1" ∷ "0" ∷ []))

-- roads from 0 to 1 and back
abbrev pub two_roads : List Arc
two_roads = fresh 0 1 4 (negsuc 29) 0 ∷ fresh 1 0 3 (pos 50) 0 ∷ []

-- the flow on each arc
abbrev pub flows : Net → List ℕ
flows n = map (λ a. a.flow) n.arcs

-- an offer of cash for cash, with its limit and the two lines
abbrev pub offer_with : ℕ → Line → Line → List Call
offer_with limit give get = member (codes "north") ∷ offer 0 limit (give ∷ []) (get ∷ []) ∷ []

-- given and got at these prices
abbrev pub cash_for_cash : ℕ → ℕ → List Call
cash_for_cash given got = offer_with 5 (line 0 5 given) (line 0 5 got)

-- the offer comes back with this answer
abbrev pub Offered : List Call → Answer → Type 0
Offered calls a = Built calls (numbered 0 ∷ a ∷ []) (λ b. ⊤)

-- limits out of bounds: the offer's, that of its give line and that of its get line
abbrev pub limits_out : List (List Call)
limits_out =
    offer_with 0 (line 0 5 40) (line 0 5 40) ∷ offer_with 1001 (line 0 5 40) (line 0 5 40)
    ∷ offer_with 5 (line 0 0 40) (line 0 5 40) ∷ offer_with 5 (line 0 1001 40) (line 0 5 40)
    ∷ offer_with 5 (line 0 5 40) (line 0 0 40) ∷ offer_with 5 (line 0 5 40) (line 0 1001 40) ∷ []

-- prices out of bounds
abbrev pub prices_out : List (List Call)
prices_out = offer_with 5 (line 0 5 1000001) (line 0 5 40) ∷ offer_with 5 (line 0 5 40) (line 0 5 1000001) ∷ []

-- the numbers that come out: worths, rises and what offers pay or cost in cents, or in cents and weeks, units, a length in bytes, and the
-- numbers of refusals and of offers
pub record Numbers : Type 0 where
  pub empty_worth : ℕ
  pub empty_worth_with_weeks : ℕ × ℕ
  pub chain_rise : ℕ
  pub chain_rise_with_weeks : ℕ × ℕ
  pub offer_0_costs : ℕ × ℕ
  pub offer_1_pays : ℕ × ℕ
  pub offer_2_pays : ℕ × ℕ
  pub rise_with_two : ℕ
  pub rise_with_none : ℕ
  pub rise_at_70 : ℕ
  pub rise_at_70_with_weeks : ℕ × ℕ
  pub rise_at_69 : ℕ
  pub rise_at_69_with_weeks : ℕ × ℕ
  pub resale_rise : ℕ
  pub resale_rise_with_none : ℕ
  pub resale_rise_with_one : ℕ
  pub market_rise : ℕ
  pub market_rise_with_weeks : ℕ × ℕ
  pub record_length : ℕ
  pub sheet_worth : ℕ
  pub empty_record : ℕ
  pub chain_record : ℕ
  pub raised_record : ℕ
  pub cash_record : ℕ
  pub no_cash_record : ℕ
  pub weeks_record : ℕ × ℕ
  pub market_record : ℕ
  pub refusal_with_79 : ℕ
  pub refusal_of_twos : ℕ
  pub refusal_of_fours : ℕ
  pub refusal_of_cut : ℕ
  pub line_of_cut : ℕ
  pub roads_rise : ℕ
  pub units_on_roads : ℕ
  pub refusal_of_loop : ℕ
  pub offer_at_same_price : ℕ
  pub offer_at_lower_price : ℕ
  pub offer_at_highest : ℕ
  pub offer_at_lowest : ℕ
  pub refusal_of_limits : ℕ
  pub refusal_of_prices : ℕ

-- what the offers of the chain round come to
abbrev pub chain_results : Numbers → List OfferResult
chain_results x = comes_to (costs x.offer_0_costs) ∷ comes_to (pays x.offer_1_pays) ∷ comes_to (pays x.offer_2_pays) ∷ []

-- what comes out, and of the empty round what comes out by a kind, whichever it is
pub record Cases {W : Type 0} (o : Ops W) (x : Numbers) : Type 0 where
  -- the empty round by that kind
  pub empty_round_by_any : EmptyRound o
  -- the same by money, and by money then weeks: improve answers best, and its network is worth nothing
  pub empty_round : Closed [] [] (λ n. Best money n × (value money n ≡ cents x.empty_worth))
  pub empty_round_with_weeks : Closed [] [] (λ n. Best (pile money weeks) n × (value (pile money weeks) n ≡ both x.empty_worth_with_weeks))
  -- the chain round by money, and by money then weeks: improve rises and then answers best, and clear rises by as much
  pub chain_round : Closed (chain [] 160) (chain_answers []) (λ n. RisesOnce money (cents x.chain_rise) n × Clears money (cents x.chain_rise) n)
  pub chain_round_with_weeks : Closed (chain [] 160) (chain_answers []) (λ n. RisesOnce (pile money weeks) (both x.chain_rise_with_weeks) n × Clears (pile money weeks) (both x.chain_rise_with_weeks) n)
  -- then, by money, after improve and after clear, which keep the book, payoff answers so of its three offers
  pub chain_paid : ClosedWith (chain [] 160) (chain_answers []) (λ b n. Leaves money (λ t. Pays b t 0 (costs x.offer_0_costs) × (Pays b t 1 (pays x.offer_1_pays) × Pays b t 2 (pays x.offer_2_pays))) n)
  -- by money with a cash holding of member 2, of 2 units and of 0 units: with 2 improve rises and then answers best, with 0 it answers
  -- best at once, and clear rises by as much
  pub two_held : Closed (chain (hold 2 0 2 ∷ []) 160) (chain_answers (done ∷ [])) (λ n. RisesOnce money (cents x.rise_with_two) n × Clears money (cents x.rise_with_two) n)
  pub none_held : Closed (chain (hold 2 0 0 ∷ []) 160) (chain_answers (done ∷ [])) (λ n. Best money n × Clears money (cents x.rise_with_none) n)
  -- with the last price 70 and 69, by money and by money then weeks: with 70 by money then weeks improve rises and then answers best,
  -- else it answers best at once, and clear rises by as much
  pub at_70 : Closed (chain [] 70) (chain_answers []) (λ n. Best money n × Clears money (cents x.rise_at_70) n)
  pub at_70_with_weeks : Closed (chain [] 70) (chain_answers []) (λ n. RisesOnce (pile money weeks) (both x.rise_at_70_with_weeks) n × Clears (pile money weeks) (both x.rise_at_70_with_weeks) n)
  pub at_69 : Closed (chain [] 69) (chain_answers []) (λ n. Best money n × Clears money (cents x.rise_at_69) n)
  pub at_69_with_weeks : Closed (chain [] 69) (chain_answers []) (λ n. Best (pile money weeks) n × Clears (pile money weeks) (both x.rise_at_69_with_weeks) n)
  -- the resale round by money, where quay has no holding of the week, one of 0 units and one of 1 unit
  pub resale_without : Closed (resale []) (resale_answers []) (Clears money (cents x.resale_rise))
  pub resale_with_none : Closed (resale (hold 1 1 0 ∷ [])) (resale_answers (done ∷ [])) (Clears money (cents x.resale_rise_with_none))
  pub resale_with_one : Closed (resale (hold 1 1 1 ∷ [])) (resale_answers (done ∷ [])) (Clears money (cents x.resale_rise_with_one))
  -- the example market, by money and by money then weeks
  pub market_clears : Closed market market_answers (λ n. Clears money (cents x.market_rise) n × Clears (pile money weeks) (both x.market_rise_with_weeks) n)
  -- the texts are records of those rounds
  pub is_empty_record : Built [] [] (RecordOf empty_text by_money)
  pub is_chain_record : Built (chain [] 160) (chain_answers []) (RecordOf (money_text (codes "3") chain_levels) by_money)
  pub is_cash_record : Built (chain (hold 2 0 2 ∷ []) 160) (chain_answers (done ∷ [])) (RecordOf cash_text by_money)
  pub is_no_cash_record : Built (chain (hold 2 0 0 ∷ []) 160) (chain_answers (done ∷ [])) (RecordOf no_cash_text by_money)
  pub is_weeks_record : Built (chain [] 70) (chain_answers []) (RecordOf weeks_text by_money_then_weeks)
  pub is_market_record : Built market market_answers (RecordOf market_text by_money)
  -- file writes that of the chain round; clear_sheet fills in its sheet, and with the last price 70 it leaves 0 units on each line, though
  -- 3 on each would be worth as much
  pub chain_filed : Built (chain [] 160) (chain_answers []) (λ b. Filing (money_text (codes "3") chain_levels) by_money b threes filed_levels x.record_length)
  pub sheet_cleared : ClearingSheet chain_sheet (total.Money (cents x.sheet_worth)) (chain_results x)
  pub sheet_at_70_cleared : ClearingSheet sheet_at_70 (total.Money (cents x.rise_at_70)) (comes_to (pays (0, 0)) ∷ comes_to (pays (0, 0)) ∷ comes_to (pays (0, 0)) ∷ [])
  -- they pass, and that of the chain round does with all levels 7 higher too
  pub empty_passes : Passing empty_text (total.Money (cents x.empty_record)) []
  pub chain_passes : Passing (money_text (codes "3") chain_levels) (total.Money (cents x.chain_record)) (chain_results x)
  pub raised_passes : Passing (money_text (codes "3") raised_levels) (total.Money (cents x.raised_record)) (chain_results x)
  pub cash_passes : Passing cash_text (total.Money (cents x.cash_record)) (comes_to (costs (200, 0)) ∷ comes_to (pays (60, 2)) ∷ comes_to (pays (320, 2)) ∷ [])
  pub no_cash_passes : Passing no_cash_text (total.Money (cents x.no_cash_record)) (comes_to (pays (0, 0)) ∷ comes_to (pays (0, 0)) ∷ comes_to (pays (0, 0)) ∷ [])
  pub weeks_passes : Passing weeks_text (total.MoneyThenWeeks (both x.weeks_record)) (comes_to (costs (300, 0)) ∷ comes_to (pays (90, 3)) ∷ comes_to (pays (210, 3)) ∷ [])
  pub market_passes : Passing market_text (total.Money (cents x.market_record)) (comes_to (costs (4000, 20)) ∷ comes_to (pays (3500, 30)) ∷ comes_to (costs (200, 30)) ∷ comes_to (costs (4800, 0)) ∷ comes_to (pays (1200, 20)) ∷ comes_to (pays (5800, 40)) ∷ [])
  -- with -79 for -80, with 2 units on each line, and with 4, it fails
  pub with_79_fails : Failing (money_text (codes "3") levels_with_79) x.refusal_with_79 0
  pub twos_fail : Failing (money_text (codes "2") chain_levels) x.refusal_of_twos 0
  pub fours_fail : Failing (money_text (codes "4") chain_levels) x.refusal_of_fours 0
  -- without its line 35 it is refused there
  pub cut_fails : Failing cut_text x.refusal_of_cut x.line_of_cut
  -- the haul table by money: improve rises and then answers best, and clear rises by as much
  pub roads : Hauled two_roads (numbered 0 ∷ numbered 1 ∷ []) (λ n. RisesOnce money (cents x.roads_rise) n × Clears money (cents x.roads_rise) n)
  -- then, after improve and after clear, so many units flow on both
  pub roads_filled : Hauled two_roads (numbered 0 ∷ numbered 1 ∷ []) (Leaves money (λ t. flows t ≡ x.units_on_roads ∷ x.units_on_roads ∷ []))
  -- cash given at a lower price than got is refused, and else accepted
  pub loop : Offered (cash_for_cash 20 40) (refused x.refusal_of_loop)
  pub same_price : Offered (cash_for_cash 40 40) (numbered x.offer_at_same_price)
  pub lower_price : Offered (cash_for_cash 40 20) (numbered x.offer_at_lower_price)
  -- the highest and the lowest limits and prices are accepted, and those beyond are refused
  pub highest : Offered (offer_with 1000 (line 0 1000 1000000) (line 0 1000 1000000)) (numbered x.offer_at_highest)
  pub lowest : Offered (offer_with 1 (line 0 1 0) (line 0 1 0)) (numbered x.offer_at_lowest)
  pub limits : AllByRecursion (λ calls. Offered calls (refused x.refusal_of_limits)) limits_out
  pub prices : AllByRecursion (λ calls. Offered calls (refused x.refusal_of_prices)) prices_out
