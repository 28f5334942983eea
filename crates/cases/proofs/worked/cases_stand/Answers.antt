use Rattle.std.specs.Prelude.{refl}
use Rattle.cases.specs.Calls.{stopped}
use Rattle.worth.specs.Integers.{money_laws}
use Rattle.cases.proofs.Calls.{built, closed, closed_with, hauled}
use Rattle.cases.proofs.Cleared.{M_laws, empty_best, chain_rises, chain_rises_with_weeks, two_rise, none_best, best_at_70, rises_at_70, best_at_69, best_at_69_with_weeks, resale_clears, clears_with_none, clears_with_one, market_clears, roads_rise}
use Rattle.cases.proofs.Paid.{chain_paid}
use Rattle.cases.proofs.Filled.{roads_filled}
use Rattle.cases.proofs.NoCash.{no_cash_is, no_cash_passes}
use Rattle.cases.proofs.Rounds.{chain_run, cash_run, resale_run, quay_run, market_run, loop_run, same_run, lower_run, highest_run, lowest_run, road_run}
use Rattle.cases.proofs.Edges.{limits_refused, prices_refused}
use Rattle.cases.proofs.Texts.{empty_is, empty_passes, chain_is, chain_passes, chain_filed, raised_passes, changed_fails, twos_fail, fours_fail, cut_fails, cash_is, cash_passes, weeks_is, weeks_pass, market_is, market_passes}
use Rattle.cases.proofs.Sheets.{sheet_cleared, sheet_at_70_cleared}
use Rattle.cases.proofs.worked.cases_stand.Goals as goal

pub returns : goal.returns
returns g c = record {
  empty_round_by_any = closed stopped _ (empty_best g.met.W.Worth.lawful, refl);
  empty_round = closed stopped _ (empty_best money_laws, refl);
  empty_round_with_weeks = closed stopped _ (empty_best M_laws, refl);
  chain_round = closed (chain_run 160 refl) _ (chain_rises _ refl refl refl);
  chain_round_with_weeks = closed (chain_run 160 refl) _ (chain_rises_with_weeks _ refl refl refl);
  chain_paid = closed_with (chain_run 160 refl) _ (chain_paid _ _ _ refl refl refl);
  two_held = closed (cash_run 2 refl) _ (two_rise _ refl refl refl);
  none_held = closed (cash_run 0 refl) _ (none_best _ refl);
  at_70 = closed (chain_run 70 refl) _ (best_at_70 _ refl);
  at_70_with_weeks = closed (chain_run 70 refl) _ (rises_at_70 _ refl refl refl);
  at_69 = closed (chain_run 69 refl) _ (best_at_69 _ refl);
  at_69_with_weeks = closed (chain_run 69 refl) _ (best_at_69_with_weeks _ refl);
  resale_without = closed resale_run _ (resale_clears _ refl);
  resale_with_none = closed (quay_run 0 refl) _ (clears_with_none _ refl);
  resale_with_one = closed (quay_run 1 refl) _ (clears_with_one _ refl);
  market_clears = closed market_run _ (market_clears _ _ refl refl);
  is_empty_record = built stopped _ empty_is;
  is_chain_record = built (chain_run 160 refl) _ chain_is;
  is_cash_record = built (cash_run 2 refl) _ cash_is;
  is_no_cash_record = built (cash_run 0 refl) _ no_cash_is;
  is_weeks_record = built (chain_run 70 refl) _ weeks_is;
  is_market_record = built market_run _ market_is;
  chain_filed = built (chain_run 160 refl) _ (chain_filed _ refl);
  sheet_cleared = sheet_cleared _ _ (λ zs. refl) (λ zs. refl);
  sheet_at_70_cleared = sheet_at_70_cleared _ _ (λ zs. refl) (λ zs. refl);
  empty_passes = empty_passes _ refl;
  chain_passes = chain_passes _ _ refl refl;
  raised_passes = raised_passes _ _ refl refl;
  cash_passes = cash_passes _ _ refl refl;
  no_cash_passes = no_cash_passes _ _ refl refl;
  weeks_passes = weeks_pass _ _ refl refl;
  market_passes = market_passes _ _ refl refl;
  with_79_fails = changed_fails _ refl;
  twos_fail = twos_fail _ refl;
  fours_fail = fours_fail _ refl;
  cut_fails = cut_fails _ _ refl refl;
  roads = hauled road_run _ (roads_rise _ refl refl refl);
  roads_filled = hauled road_run _ (roads_filled _ refl);
  loop = built loop_run _ tt;
  same_price = built same_run _ tt;
  lower_price = built lower_run _ tt;
  highest = built highest_run _ tt;
  lowest = built lowest_run _ tt;
  limits = limits_refused _ refl;
  prices = prices_refused _ refl;
}
