-- Numbers that are beyond every bound.
use Rattle.std.specs.Prelude.{◌≡◌, ℕ, ◌<◌, ◌≤◌}

-- r is n where 32 bits hold it, and the largest number that they hold where they do not
pub record Clamped (n r : ℕ) : Type 0 where
  pub small : n < 4294967296 → r ≡ n
  pub large : 4294967296 ≤ n → r ≡ 4294967295
