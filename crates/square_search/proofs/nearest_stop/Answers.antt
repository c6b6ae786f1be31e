-- `nearest_stop`: the shifts are powers, the place is the nearest, and its distance is small enough to be squared.
use mathlib.Core.Path.{◌≡◌, ap, ap₂, ◌∙◌}
use Prim.Native.Nat.{ℕ, ◌+◌, ◌-◌, ◌*◌, ◌/◌, ◌%◌, ◌^◌, ◌≤◌, ◌<◌}
use native.Mathlib.Nat.{mul-le-mul}
use native.Mathlib.Omega.{arith}
use native.Mathlib.Decide.{dec_lt}
use mathlib.Core.Bool.{cond}
use lib.Dec.{ltb}
use borrow.Author.Tests.{lt-ltb, le-ltb}
use Rattle.std.specs.Prelude.{min, max}
use lib.Bits.{bit_and}
use lib.Pow.{pow_pos, pow_mono}
use mir.Syntax.{w32}
use mir.Val.{Fits}
use Rattle.wei.proofs.Words.{bit_at, masked}
use Rattle.maps.specs.SquareBits.{spread}
use Rattle.square_search.specs.declared.Stop.{Stop}
use Rattle.square_search.specs.Axis.{between_of, rounded_of, clamped_of, nearest_place, field_at, far, far_squared, stop_of}
use Rattle.square_search.proofs.Places.{field_below}
use Rattle.square_search.proofs.Axis.{place_in}
use Rattle.square_search.proofs.nearest_stop.Goals as goal

-- the library's clamp is the definition's
clamp-is : (q lo hi t : ℕ) → lo ≤ hi → t ≡ max lo (min q hi) → t ≡ clamped_of q lo hi
unfolding clamped_of
clamp-is q lo hi t h e = go (dec_lt q lo) (dec_lt hi q)
  where
    go : Dec (q < lo) → Dec (hi < q) → t ≡ cond (ltb q lo) lo (cond (ltb hi q) hi q)
    go (yes a) z = rw (lt-ltb q lo a) (let i : t ≡ lo = omega arith in i)
    go (no a) (yes b) = rw (le-ltb q lo (omega arith), lt-ltb hi q b) (let i : t ≡ hi = omega arith in i)
    go (no a) (no b) = rw (le-ltb q lo (omega arith), le-ltb hi q (omega arith)) (let i : t ≡ q = omega arith in i)

module _ (m e g : ℕ) (p : (m < 5) × (e < 2) × (g ≤ 16768)) where
  -- 1 << m
  abbrev side : ℕ
  side = 1 * 2 ^ m % 2 ^ 32

  side-is : side ≡ 2 ^ m
  side-is = bit_at m (omega (arith, p.0))

  side-in : (1 ≤ side) × (side ≤ 16)
  side-in =
      let s : 2 ^ m ≤ 16 = pow_mono (let z : m ≤ 4 = omega (arith, p.0) in z) in
      (omega (arith, side-is, pow_pos m), omega (arith, side-is))

  abbrev low : ℕ
  low = 17 - (side + e) / 2

  module _ (q t : ℕ) (a : q ≡ rounded_of g) (b : t ≡ max low (min q (low + (side - 1)))) where
    place_is : t ≡ nearest_place m e g
    unfolding nearest_place
    place_is = clamp-is q low (low + (side - 1)) t (omega arith) b ∙ ap₂ (λ (q s : ℕ). clamped_of q (17 - (s + e) / 2) (17 - (s + e) / 2 + (s - 1))) a side-is

    place-le : t ≤ 24
    place-le =
        let w = place_in m e g p.0 p.1 in
        let s : 2 ^ m ≤ 16 = pow_mono (let z : m ≤ 4 = omega (arith, p.0) in z) in
        omega (arith, place_is, w.1)

    field_is : bit_and (t + 15) (side - 1) ≡ field_at m t
    field_is = masked (t + 15) m (omega (arith, p.0))

    field-low : bit_and (t + 15) (side - 1) < 32
    field-low =
        let s : 2 ^ m ≤ 16 = pow_mono (let z : m ≤ 4 = omega (arith, p.0) in z) in
        omega (arith, field_is, field_below m t)

    module _ (d : ℕ) (f : d ≡ between_of g (t * 512 % 2 ^ 32)) where
      far-is : d ≡ far g t
      far-is = f ∙ ap (between_of g) (let z : t * 512 % 2 ^ 32 ≡ 512 * t = omega (arith, place-le) in z)

      far-le : d ≤ 16768
      far-le = omega (arith, far-is, place-le, p.2)

      square-fits : Fits w32 (d * d)
      square-fits = record { fits = omega (arith, mul-le-mul far-le far-le) }

      stop_is : (s : ℕ) → s ≡ spread (bit_and (t + 15) (side - 1)) → record { s = s; d = d * d } ≡ stop_of m e g
      unfolding stop_of
      stop_is s h =
          ap₂ {C = Stop} (λ (s d : ℕ). record { s = s; d = d * d }) (h ∙ ap spread field_is) far-is
          ∙ ap (λ (t : ℕ). record { s = spread (field_at m t); d = far_squared g t }) place_is

pub overflow_sub-lo : goal.overflow_sub-lo
overflow_sub-lo c = omega (arith, (side-in c.args.m c.args.e c.args.g c.requires).1)

pub spread_out-s-requires : goal.spread_out-s-requires
spread_out-s-requires c =
    field-low c.args.m c.args.e c.args.g c.requires _ _ c.rounded.ensures c.clamp-t.ensures

pub returns : goal.returns
returns c =
    stop_is c.args.m c.args.e c.args.g c.requires _ _ c.rounded.ensures c.clamp-t.ensures c.abs_diff-far.result c.abs_diff-far.ensures _ c.spread_out-s.ensures
