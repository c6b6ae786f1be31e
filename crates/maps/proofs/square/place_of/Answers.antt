-- `place_of`: the coordinates' bits, woven; the label is read off the two lowest, the number off the others.
use mathlib.Core.Path.{◌≡◌, sym, ap, ap₂, subst, ◌∙◌}
use mathlib.Core.Bool.{true}
use Prim.Native.Nat.{ℕ, ◌+◌, ◌*◌, ◌/◌, ◌%◌, ◌^◌, ◌<◌}
use native.Mathlib.Omega.{arith}
use lib.Bits.{bit_and, bit_or, bit_xor, and_mask}
use lib.IntN.{ℤ, nat_abs}
use mir.Syntax.{w32}
use mir.Val.{to_z, of_z}
use Rattle.points.specs.declared.Point.{Point}
use Rattle.points.proofs.Signed.{reads}
use Rattle.wei.proofs.Finite.{equal1, equal2}
use Rattle.maps.specs.declared.square.Place.{Place}
use Rattle.maps.specs.SquareMap.{is_width, low_bits, OnGrid}
use Rattle.maps.specs.SquareInverse.{IsPlace}
use Rattle.maps.specs.SquareBits.{spread, woven, field_of, bits_of, label_of}
use Rattle.maps.proofs.SquareLaws.{half-below, side-is, i-below, j-below, place}
use Rattle.maps.proofs.square.place_of.Goals as goal

-- what the code computes: of spread bits their weaving, of that the label
joined : (i j : ℕ) → i < 32 → j < 32 → bit_or (spread i * 2 % 2 ^ 32) (spread j) ≡ woven i j
unfolding spread
joined = equal2 32 32 (λ i j. bit_or (spread i * 2 % 2 ^ 32) (spread j)) woven tt

abbrev label_code : ℕ → ℕ
label_code v = bit_xor (bit_and v 3) (bit_and v 3 / 2)

label-code : (v : ℕ) → label_code v ≡ label_of v
label-code v = ap (λ (n : ℕ). bit_xor n (n / 2)) (and_mask v 2) ∙ equal1 4 (λ n. bit_xor n (n / 2)) low_bits tt (v % 4) (omega arith)

module _ (u : ℕ) (p : Point) (h : (is_width u ≡ true) × OnGrid u p) where
  small-x : nat_abs p.x < 2 ^ 31
  small-x = omega (arith, side-is u h.0, h.1.x-in)

  small-y : nat_abs p.y < 2 ^ 31
  small-y = omega (arith, side-is u h.0, h.1.y-in)

  x-asked : (u / 2 < 5) × (nat_abs (to_z w32 (of_z w32 p.x)) < 2 ^ (u / 2 + 1))
  x-asked = (half-below u h.0, subst (λ (z : ℤ). nat_abs z < 2 ^ (u / 2 + 1)) (sym (reads w32 p.x small-x)) h.1.x-in)

  y-asked : (u / 2 < 5) × (nat_abs (to_z w32 (of_z w32 p.y)) < 2 ^ (u / 2 + 1))
  y-asked = (half-below u h.0, subst (λ (z : ℤ). nat_abs z < 2 ^ (u / 2 + 1)) (sym (reads w32 p.y small-y)) h.1.y-in)

  module _ (i : ℕ) (e : i ≡ field_of (u / 2) (to_z w32 (of_z w32 p.x))) where
    x-is : i ≡ field_of (u / 2) p.x
    x-is = e ∙ ap (field_of (u / 2)) (reads w32 p.x small-x)

    x-low : i < 32
    x-low = omega (arith, x-is, i-below u h.0 p h.1)

  module _ (j : ℕ) (e : j ≡ field_of (u / 2) (to_z w32 (of_z w32 p.y))) where
    y-is : j ≡ field_of (u / 2) p.y
    y-is = e ∙ ap (field_of (u / 2)) (reads w32 p.y small-y)

    y-low : j < 32
    y-low = omega (arith, y-is, j-below u h.0 p h.1)

  answered : (v : ℕ) → v ≡ bits_of (u / 2) p → IsPlace u p (record { l = label_code v; w = v / 4 })
  answered v e = subst (IsPlace u p) (ap₂ {C = Place} (λ (l w : ℕ). record { l = l; w = w }) (ap label_of (sym e) ∙ sym (label-code v)) (ap (λ (n : ℕ). n / 4) (sym e))) (place u h.0 p h.1)

  made : (i j x y : ℕ) → i ≡ field_of (u / 2) (to_z w32 (of_z w32 p.x)) → j ≡ field_of (u / 2) (to_z w32 (of_z w32 p.y)) → x ≡ spread i → y ≡ spread j → bit_or (x * 2 % 2 ^ 32) y ≡ bits_of (u / 2) p
  made i j x y a b c d =
      ap₂ (λ (x y : ℕ). bit_or (x * 2 % 2 ^ 32) y) c d
      ∙ joined i j (x-low i a) (y-low j b)
      ∙ ap₂ woven (x-is i a) (y-is j b)

pub spread_out-x-requires : goal.spread_out-x-requires
spread_out-x-requires c = x-low c.args.u c.args.p c.requires c.field.result c.field.ensures

pub spread_out-y-requires : goal.spread_out-y-requires
spread_out-y-requires c = y-low c.args.u c.args.p c.requires c.field-2.result c.field-2.ensures

pub returns : goal.returns
returns c =
    answered c.args.u c.args.p c.requires _
    (made c.args.u c.args.p c.requires c.field.result c.field-2.result c.spread_out-x.result c.spread_out-y.result
    c.field.ensures c.field-2.ensures c.spread_out-x.ensures c.spread_out-y.ensures)
