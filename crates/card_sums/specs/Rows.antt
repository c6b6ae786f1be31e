-- What is tested of a card's numbers, as the code tests it. What follows from it is said in crate card.
--   number_at ns at s          the number of the state s in the row at `at`
--   way_holds ns at costs t k  that of t in the next row is at most that of the k-th state before t and what the step between costs
--   holds ns at costs         the same of the four states before each of the sixteen
--   starts_at_zero ns           the numbers of the first row are 0
--   none_below ns at w         no number of the row at `at` is below w
use Rattle.std.specs.Prelude.{ℕ, ◌+◌, ◌/◌, ◌%◌, Bool, List, eqb, leb, get_or}
use Rattle.wei.specs.State.{before, between}
use Rattle.card_sums.specs.Every.{every_below}

abbrev pub number_at : List ℕ → ℕ → ℕ → ℕ
number_at ns at s = get_or ns (at + s) 0

unfoldable pub way_holds : List ℕ → ℕ → List ℕ → ℕ → ℕ → Bool
way_holds ns at costs t k = leb (number_at ns (at + 16) t) (number_at ns at (before t k) + get_or costs (between (before t k) t) 0)

unfoldable pub holds : List ℕ → ℕ → List ℕ → Bool
holds ns at costs = every_below (λ way. way_holds ns at costs (way / 4) (way % 4)) 64

unfoldable pub starts_at_zero : List ℕ → Bool
starts_at_zero ns = every_below (λ s. eqb (get_or ns s 0) 0) 16

unfoldable pub none_below : List ℕ → ℕ → ℕ → Bool
none_below ns at w = every_below (λ s. leb w (number_at ns at s)) 16
