use Rattle.std.proofs.Common.{◌≡◌, ℕ, ◌<◌, List, length, Some, ap, arith}
use Rattle.book.specs.Books.{spot_of}
use Rattle.book.specs.declared.holding.Holding.{Holding}
use Rattle.terms.proofs.Spots.{spot_some}
use Rattle.round.specs.declared.open_round.OpenRound.{OpenRound}
use Rattle.round.proofs.Sounds.{few_holdings}
use Rattle.round.proofs.open_round.OpenRound.source.Goals as goal

-- a holding that was found is one of 128
near : (r : OpenRound) (hs : List Holding) (m i k : ℕ) → hs ≡ r.holdings → Some k ≡ spot_of hs m i → k < 128
near r hs m i k e found = omega (arith, (spot_some hs m i k found).0, ap length e, few_holdings r)

pub overflow_add-result : goal.overflow_add-result
overflow_add-result c = let few : c.in-Some.k < 128 = near c.args.self.now _ _ _ _ c.as_slice.ensures c.in-Some.ensures in omega arith

pub overflow_cast-result : goal.overflow_cast-result
overflow_cast-result c = let few : c.in-Some.k < 128 = near c.args.self.now _ _ _ _ c.as_slice.ensures c.in-Some.ensures in omega arith
