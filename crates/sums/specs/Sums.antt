-- What is asked of the sums of all states. A state that no sequence reaches keeps `limit`: what reached states keep stays below it,
-- with one more cost too.
--   limit         what a state keeps that nothing reaches
--   end_of sums    the state with the least sum, the smallest of equals
--   lowest sums   the least sum
use Rattle.std.specs.Prelude.{ℕ, List, get_or}
use Rattle.trellis.specs.Pick.{least}

-- 2^21
abbrev pub limit : ℕ
limit = 2097152

unfoldable pub end_of : List ℕ → ℕ
end_of sums = least (λ s. get_or sums s 0) 15

unfoldable pub lowest : List ℕ → ℕ
lowest sums = get_or sums (end_of sums) 0
