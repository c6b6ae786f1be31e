-- Sixteen numbers of 32 bits in eight words, the first of two in the lower half. That they come back is proved in proofs/Halves.
--   half_at ws j      the j-th half of the words ws
--   unpacked ws      sixteen of them
--   pair_at xs i      the i-th word of the numbers xs
--   packed xs        eight of them
--   AllHalves xs     each number fits 32 bits
use Rattle.std.specs.Prelude.{ℕ, ◌+◌, ◌*◌, ◌/◌, ◌%◌, ◌<◌, cond, List, eqb, get_or}
use Rattle.lists.specs.Tabled.{tabled}

abbrev pub half_at : List ℕ → ℕ → ℕ
half_at ws j = cond (eqb (j % 2) 1) (get_or ws (j / 2) 0 / 4294967296) (get_or ws (j / 2) 0 % 4294967296)

unfoldable pub unpacked : List ℕ → List ℕ
unpacked ws = tabled (half_at ws) 16

abbrev pub pair_at : List ℕ → ℕ → ℕ
pair_at xs i = get_or xs (2 * i) 0 + 4294967296 * get_or xs (2 * i + 1) 0

unfoldable pub packed : List ℕ → List ℕ
packed xs = tabled (pair_at xs) 8

abbrev pub AllHalves : List ℕ → Type 0
AllHalves xs = (i : ℕ) → get_or xs i 0 < 4294967296
