-- 01's row of allowed and refused symbols: the labels it speaks of.
--   HasLabels l m c   the two points of c have the labels l and m
use Rattle.std.specs.Prelude.{◌≡◌, ℕ}
use Rattle.wei.specs.Symbol.{Symbol, first_label, last_label}

-- (A, A) are the labels 0 and 0, (A, C) the labels 0 and 1
abbrev pub HasLabels : ℕ → ℕ → Symbol → Type 0
HasLabels l m c = (first_label c ≡ l) × (last_label c ≡ m)
