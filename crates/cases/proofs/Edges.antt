-- Limits and prices beyond their bounds.
use Rattle.std.proofs.Common.{◌≡◌, ℕ, ◌<◌, subst, refl, inl, inr, arith}
use Rattle.std.specs.List.{AllByRecursion}
use Rattle.tables.specs.Refusals.{number}
use Rattle.tables.specs.declared.refusal.Refusal.TheVariants.{Bounds, Price}
use Rattle.terms.specs.Lines.{Out}
use Rattle.cases.specs.Calls.{refused}
use Rattle.cases.specs.Chain.{line}
use Rattle.cases.specs.Cases.{Offered, limits_out, prices_out}
use Rattle.cases.proofs.Building.{only}
use Rattle.cases.proofs.Calls.{built}
use Rattle.cases.proofs.Rounds.{limit_run, price_run}

none_out : Out 0
none_out = inl (omega arith)

many_out : Out 1001
many_out = inr (omega arith)

by_limits : AllByRecursion (λ calls. Offered calls (refused (number Bounds))) limits_out
by_limits = (
  built (limit_run 0 (line 0 5 40) (line 0 5 40) refl (inl none_out)) _ tt,
  (
    built (limit_run 1001 (line 0 5 40) (line 0 5 40) refl (inl many_out)) _ tt,
    (
      built (limit_run 5 (line 0 0 40) (line 0 5 40) refl (inr (inl (only (λ l. Out l.limit) (line 0 0 40) none_out)))) _ tt,
      (
        built (limit_run 5 (line 0 1001 40) (line 0 5 40) refl (inr (inl (only (λ l. Out l.limit) (line 0 1001 40) many_out)))) _ tt,
        (
          built (limit_run 5 (line 0 5 40) (line 0 0 40) refl (inr (inr (only (λ l. Out l.limit) (line 0 0 40) none_out)))) _ tt,
          (
            built (limit_run 5 (line 0 5 40) (line 0 1001 40) refl (inr (inr (only (λ l. Out l.limit) (line 0 1001 40) many_out)))) _ tt,
            tt,
          ),
        ),
      ),
    ),
  ),
)

by_prices : AllByRecursion (λ calls. Offered calls (refused (number Price))) prices_out
by_prices = (
  built (price_run (line 0 5 1000001) (line 0 5 40) refl refl refl (inl (only (λ l. 1000000 < l.price) (line 0 5 1000001) (omega arith)))) _ tt,
  (
    built (price_run (line 0 5 40) (line 0 5 1000001) refl refl refl (inr (only (λ l. 1000000 < l.price) (line 0 5 1000001) (omega arith)))) _ tt,
    tt,
  ),
)

pub limits_refused : (n : ℕ) → number Bounds ≡ n → AllByRecursion (λ calls. Offered calls (refused n)) limits_out
limits_refused n is = subst (λ k. AllByRecursion (λ calls. Offered calls (refused k)) limits_out) is by_limits

pub prices_refused : (n : ℕ) → number Price ≡ n → AllByRecursion (λ calls. Offered calls (refused n)) prices_out
prices_refused n is = subst (λ k. AllByRecursion (λ calls. Offered calls (refused k)) prices_out) is by_prices
