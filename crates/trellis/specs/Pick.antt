-- How the best branch of Wei's code is found: the states before a state, the best symbol of each subset, and, for the measure of two
-- points, the nearest number of each label, by the true distance, and the nearer of the two types, by what distances count for.
--   least f n           the smallest number at which f is least, of 0 to n
--   Choice M            a symbol of each subset Y0, I1, I2', for what was heard
--   Chooses u M H       that choice is the first of its subset, by distance and then by the order of ties
--   befores t           the four states before t, rising
--   wei_search u M H same b   the search
--   near u d p l        the nearest number of label l to the received point p, the smaller of equals
--   gap_of u d p l       its true distance
--   type_sum u d n y y0 i1 i2 i3   what the nearest symbol with these bits counts for, by n
--   best_i3 u d n y y0 i1 i2       the nearer of the two types of a subset, the smaller I3' of equals
--   best_of u d n y y0 i1 i2       the best symbol of a subset: the choice for the measure of two points
--   pair_search u d n b  the search with that choice
use Rattle.std.specs.Prelude.{ℕ, zero, suc, ◌+◌, ◌-◌, ◌^◌, ◌<◌, ◌≡◌, Bool, true, false, List, [], ◌∷◌, ltb}
use Rattle.trellis.specs.Search.{Search}
use Rattle.trellis.specs.Measure.{Start, Measure, First, wei_code, Two, pairs}
use Rattle.trellis.specs.Same.{same_symbol}
use Rattle.wei.specs.State.{bit_w4, before, carry_i1, carry_i2}
use Rattle.wei.specs.Label.{turn_of, second_label}
use Rattle.wei.specs.Symbol.{Symbol}

abbrev pub keep_n : Bool → ℕ → ℕ → ℕ
keep_n true a b = b
keep_n false a b = a

unfoldable pub least : (ℕ → ℕ) → ℕ → ℕ
least f zero = zero
least f (suc n) = keep_n (ltb (f (suc n)) (f (least f n))) (least f n) (suc n)

abbrev pub Choice : Measure → Type 0
Choice M = M.Heard → ℕ → ℕ → ℕ → Symbol

-- all that a new measure has to show: then every theorem on sequences holds of it
pub record Chooses (u : ℕ) (M : Measure) (H : Choice M) : Type 0 where
  -- what is chosen in a subset is of that subset, and is its first
  pub has-y0 : (y : M.Heard) (y0 i1 i2 : ℕ) → (H y y0 i1 i2).y0 ≡ y0
  pub has-i1 : (y : M.Heard) (y0 i1 i2 : ℕ) → (H y y0 i1 i2).i1 ≡ i1
  pub has-i2 : (y : M.Heard) (y0 i1 i2 : ℕ) → (H y y0 i1 i2).i2 ≡ i2
  pub is-first : (y : M.Heard) (y0 i1 i2 : ℕ) → y0 < 2 → i1 < 2 → i2 < 2 → First u M y (H y y0 i1 i2)
  -- the order of ties tells the symbols of a subset apart
  pub antisym : (y : M.Heard) (c d : Symbol) → c.y0 ≡ d.y0 → c.i1 ≡ d.i1 → c.i2 ≡ d.i2 → M.ties y c d → M.ties y d c → c ≡ d

abbrev pub befores : ℕ → List ℕ
befores t = before t 0 ∷ before t 1 ∷ before t 2 ∷ before t 3 ∷ []

abbrev pub wei_search : (u : ℕ) (M : Measure) (H : Choice M) (same : (c d : Symbol) → Dec (c ≡ d)) (b : Start) → Search (wei_code u M b)
wei_search u M H same b = record { preds = befores; pick = λ y s t. H y (bit_w4 s) (carry_i1 s t) (carry_i2 s t); same = same }

module _ {P : Type 0} (u : ℕ) (d : P → ℕ → ℕ → ℕ) where
  unfoldable pub near : P → ℕ → ℕ
  near p l = least (d p l) (2 ^ u - 1)

  unfoldable pub gap_of : P → ℕ → ℕ
  gap_of p l = d p l (near p l)

  module _ (count : ℕ → ℕ) where
    unfoldable pub type_sum : Two P → ℕ → ℕ → ℕ → ℕ → ℕ
    type_sum y y0 i1 i2 i3 = count (gap_of y.first (turn_of i2 i3)) + count (gap_of y.second (second_label (turn_of i2 i3) y0 i1))

    unfoldable pub best_i3 : Two P → ℕ → ℕ → ℕ → ℕ
    best_i3 y y0 i1 i2 = least (type_sum y y0 i1 i2) 1

    unfoldable pub best_of : Two P → ℕ → ℕ → ℕ → Symbol
    best_of y y0 i1 i2 =
        let i3 = best_i3 y y0 i1 i2 in
        record { y0 = y0; i1 = i1; i2 = i2; i3 = i3; w1 = near y.first (turn_of i2 i3); w2 = near y.second (second_label (turn_of i2 i3) y0 i1) }

abbrev pub pair_search : {P : Type 0} (u : ℕ) (d : P → ℕ → ℕ → ℕ) (count : ℕ → ℕ) (b : Start) → Search (wei_code u (pairs P d count) b)
pair_search {P} u d count b = wei_search u (pairs P d count) (best_of u d count) same_symbol b
