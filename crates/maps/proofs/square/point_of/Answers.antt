-- `point_of`: the bits of label and number, gathered for each coordinate.
use mathlib.Core.Path.{◌≡◌, sym, ap, ap₂, ◌∙◌}
use mathlib.Core.Bool.{true}
use Prim.Native.Nat.{ℕ, ◌+◌, ◌*◌, ◌/◌, ◌%◌, ◌^◌, ◌≤◌, ◌<◌}
use native.Mathlib.Omega.{arith}
use lib.Bits.{bit_or, bit_xor}
use lib.IntN.{ℤ, nat_abs}
use lib.Pow.{pow_mono}
use mir.Syntax.{w32}
use mir.Val.{to_z, of_z}
use Rattle.points.specs.declared.Map.TheVariants.{Square}
use Rattle.points.specs.declared.Point.{Point}
use Rattle.points.proofs.Agreed.{width-le}
use Rattle.points.proofs.Signed.{reads}
use Rattle.wei.proofs.Finite.{equal2}
use Rattle.maps.specs.SquareMap.{is_width, all_bits, square_of}
use Rattle.maps.specs.SquareBits.{gathered, coordinate}
use Rattle.maps.proofs.SquareLaws.{low_below, half-below, square-x, square-y, x_below, y-below, small}
use Rattle.maps.proofs.square.point_of.Goals as goal

-- what the code computes
abbrev code : ℕ → ℕ → ℕ
code l w = bit_or (w * 4 % 2 ^ 32) (bit_xor l (l / 2))

module _ (u l w : ℕ) (p : (is_width u ≡ true) × (l < 4) × (w < 2 ^ u)) where
  listed : w < 256
  listed = let e : 2 ^ u ≤ 256 = pow_mono (width-le Square u p.0) in omega (arith, p.2)

  code_is : code l w ≡ all_bits l w
  code_is = equal2 4 256 code all_bits tt l w p.1 listed

  code_below : code l w < 1024
  code_below = omega (arith, code_is, listed, low_below l)

  module _ (i j : ℕ) (a : i ≡ gathered (code l w / 2)) (b : j ≡ gathered (code l w)) where
    i-is : i ≡ gathered (all_bits l w / 2)
    i-is = a ∙ ap (λ (v : ℕ). gathered (v / 2)) code_is

    j-is : j ≡ gathered (all_bits l w)
    j-is = b ∙ ap gathered code_is

    both_below : (i < 2 ^ (u / 2 + 1)) × (j < 2 ^ (u / 2 + 1))
    both_below = (omega (arith, i-is, x_below u p.0 l w p.2), omega (arith, j-is, y-below u p.0 l w p.2))

    made : (x y : ℤ) → x ≡ coordinate (u / 2) i → y ≡ coordinate (u / 2) j → record { x = to_z w32 (of_z w32 x); y = to_z w32 (of_z w32 y) } ≡ square_of u l w
    made x y d e =
        let f : x ≡ (square_of u l w).x = d ∙ ap (coordinate (u / 2)) i-is ∙ sym (square-x u p.0 l w p.2) in
        let h : y ≡ (square_of u l w).y = e ∙ ap (coordinate (u / 2)) j-is ∙ sym (square-y u p.0 l w p.2) in
        let s = small u p.0 l w p.2 in
        ap₂ {C = Point} (λ (x y : ℤ). record { x = x; y = y })
        (reads w32 x (omega (arith, ap nat_abs f, s.0)) ∙ f)
        (reads w32 y (omega (arith, ap nat_abs h, s.1)) ∙ h)

pub gather-x-requires : goal.gather-x-requires
gather-x-requires c = omega (arith, code_below c.args.u c.args.l c.args.w c.requires)

pub gather-y-requires : goal.gather-y-requires
gather-y-requires c = code_below c.args.u c.args.l c.args.w c.requires

pub coordinate_of-requires : goal.coordinate_of-requires
coordinate_of-requires c =
    (half-below c.args.u c.requires.0, omega (arith, both_below c.args.u c.args.l c.args.w c.requires _ _ c.gather-x.ensures c.gather-y.ensures))

pub coordinate_of-requires-2 : goal.coordinate_of-requires-2
coordinate_of-requires-2 c =
    (half-below c.args.u c.requires.0, omega (arith, both_below c.args.u c.args.l c.args.w c.requires _ _ c.gather-x.ensures c.gather-y.ensures))

pub returns : goal.returns
returns c =
    made c.args.u c.args.l c.args.w c.requires _ _ c.gather-x.ensures c.gather-y.ensures _ _ c.coordinate_of.ensures c.coordinate_of-2.ensures
