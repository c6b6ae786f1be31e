-- How the code goes: notions that its inner contracts name and that nobody need believe. What is selected stands in Select.
--   Summable sums costs    the sums are in range, and so are the costs
--   step_by t k             the step into t from the k-th state before it: below 128
--   key_by sums costs t k   the way into t from there as one number, 128 times its sum and its step: of two ways the smaller number has
--                          the smaller sum, and of equal sums the smaller state before
--   key_at sums costs t     the least of the four
--   sums_in, steps_in keys   what the keys of sixteen states say
--   followed_step sums steps s   the step into the state that s is or follows
use Rattle.std.specs.Prelude.{ℕ, ◌+◌, ◌*◌, ◌/◌, ◌%◌, ◌≤◌, List, get_or}
use Rattle.wei.specs.State.{before, between}
use Rattle.select.specs.Select.{limit, sixteen, arrive, sum_at, first_step, followed}

pub record Summable (sums costs : List ℕ) : Type 0 where
  pub sums-most : (i : ℕ) → get_or sums i 0 ≤ limit
  pub costs-most : (i : ℕ) → get_or costs i 0 ≤ 524288

abbrev pub step_by : ℕ → ℕ → ℕ
step_by t k = 8 * before t k + between (before t k) t

unfoldable pub key_by : List ℕ → List ℕ → ℕ → ℕ → ℕ
key_by sums costs t k = 128 * arrive sums costs t k + step_by t k

unfoldable pub key_at : List ℕ → List ℕ → ℕ → ℕ
key_at sums costs t = 128 * sum_at sums costs t + first_step sums costs t

abbrev pub sums_in : List ℕ → List ℕ
sums_in keys = sixteen (λ s. get_or keys s 0 / 128)

abbrev pub steps_in : List ℕ → List ℕ
steps_in keys = sixteen (λ s. get_or keys s 0 % 128)

-- ---- following

unfoldable pub followed_step : List ℕ → List ℕ → ℕ → ℕ
followed_step sums steps s = get_or steps (followed sums s) 0
