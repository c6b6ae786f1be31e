-- What holds at every number below another, as a test.
--   every_below f n    f is true at every number below n
use Rattle.std.specs.Prelude.{ℕ, zero, suc, Bool, true, ◌&&◌}

unfoldable pub every_below : (ℕ → Bool) → ℕ → Bool
every_below f zero = true
every_below f (suc n) = every_below f n && f n
