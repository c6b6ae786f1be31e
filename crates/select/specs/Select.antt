-- Add, compare and select on numbers, as the code does it. A state that no sequence reaches keeps `limit` (of the crate `sums`): what
-- reached states keep stays below it, with one more cost too, so an unreached state never wins, and nothing is ever compared with a flag.
--   sixteen f              f at the states 0 to 15
--   arrive sums costs t k  the sum of the way into t from the k-th state before it
--   winner                 the place of the least such sum, the first of equals
--   sum_at                  that sum
--   from_at                 the state it comes from
--   first_step              the step into t as one number: 8 times that state, and the 4D subset of the step
--   lowered sums s         what s keeps: its sum less the least one; `limit` where nothing reaches it
--   row_of sums s           what the sums say of the state s: its sum, or that nothing reaches it
--   live_of sums            the reached states
--   followed sums s        s, or the first reached state where nothing reaches s
--   step_at                 the step into the state that t is or follows
--   prev_in steps s         the state before s
use Rattle.std.specs.Prelude.{ℕ, ◌+◌, ◌-◌, ◌*◌, ◌/◌, ◌%◌, cond, List, [], ◌∷◌, ltb, get_or}
use Rattle.trellis.specs.Best.{Surv, absent, alive}
use Rattle.trellis.specs.Search.{range}
use Rattle.trellis.specs.Pick.{least}
use Rattle.wei.specs.State.{before, between}
use Rattle.sums.specs.Sums.{lowest}
pub use Rattle.sums.specs.Sums.{limit}

abbrev pub sixteen : (ℕ → ℕ) → List ℕ
sixteen f = f 0 ∷ f 1 ∷ f 2 ∷ f 3 ∷ f 4 ∷ f 5 ∷ f 6 ∷ f 7 ∷ f 8 ∷ f 9 ∷ f 10 ∷ f 11 ∷ f 12 ∷ f 13 ∷ f 14 ∷ f 15 ∷ []

unfoldable pub arrive : List ℕ → List ℕ → ℕ → ℕ → ℕ
arrive sums costs t k = get_or sums (before t k) 0 + get_or costs (between (before t k) t) 0

unfoldable pub winner : List ℕ → List ℕ → ℕ → ℕ
winner sums costs t = least (arrive sums costs t) 3

unfoldable pub sum_at : List ℕ → List ℕ → ℕ → ℕ
sum_at sums costs t = arrive sums costs t (winner sums costs t)

abbrev pub from_at : List ℕ → List ℕ → ℕ → ℕ
from_at sums costs t = before t (winner sums costs t)

unfoldable pub first_step : List ℕ → List ℕ → ℕ → ℕ
first_step sums costs t = 8 * from_at sums costs t + between (from_at sums costs t) t

-- "its sum less the smallest sum of any reachable state" (02, Wish 6): the least of all numbers is a reached state's, where one is
unfoldable pub lowered : List ℕ → ℕ → ℕ
lowered sums s = cond (ltb (get_or sums s 0) limit) (get_or sums s 0 - lowest sums) limit

abbrev pub row_of : List ℕ → ℕ → Surv (Unit {0})
row_of sums s = cond (ltb (get_or sums s 0) limit) (alive (get_or sums s 0) tt) absent

-- those of the listed states that are reached
unfoldable pub reached_of : List ℕ → List ℕ → List ℕ
reached_of sums [] = []
reached_of sums (s ∷ l) = cond (ltb (get_or sums s 0) limit) (s ∷ reached_of sums l) (reached_of sums l)

unfoldable pub live_of : List ℕ → List ℕ
live_of sums = reached_of sums (range 0 16)

-- the first of a list, 0 of an empty one
abbrev pub head_of : List ℕ → ℕ
head_of l = get_or l 0 0

unfoldable pub followed : List ℕ → ℕ → ℕ
followed sums s = cond (ltb (get_or sums s 0) limit) s (head_of (live_of sums))

unfoldable pub step_at : List ℕ → List ℕ → ℕ → ℕ
step_at sums costs t = first_step sums costs (followed (sixteen (sum_at sums costs)) t)

abbrev pub prev_in : List ℕ → ℕ → ℕ
prev_in steps s = get_or steps s 0 / 8 % 16
