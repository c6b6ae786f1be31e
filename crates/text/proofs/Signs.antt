-- Signed numbers of 32 bits, worked on at 64 bits: of n, which is at most 2 ^ 31, the machine's 0 - n fits both widths and is -n.
use Prim.Native.Nat.{ℕ, zero, suc, ◌≤◌}
use mathlib.Core.Path.{◌≡◌, ◌∙◌}
use native.Mathlib.Omega.{arith}
use lib.IntN.{ℤ, pos, neg_ℤ, ◌-ℤ◌, +ℤ_idl}
use mir.Syntax.{w32, w64}
use mir.Val.{SFits, to_z, of_z}
use mir.ValLaws.{to_z-of_z, to_z_pos}

module _ (n : ℕ) (h : n ≤ 2147483648) where
  minus_is : pos 0 -ℤ to_z w64 n ≡ neg_ℤ (pos n)
  minus_is = rw (to_z_pos w64 n (omega arith)) (+ℤ_idl (neg_ℤ (pos n)))

  small : (k : ℕ) → k ≤ 2147483648 → SFits w32 (neg_ℤ (pos k))
  small zero g = record { sfits = omega arith }
  small (suc k) g = record { sfits = omega arith }

  wide : (z : ℤ) → SFits w32 z → SFits w64 z
  wide z g = record { sfits = omega (arith, g.sfits) }

  pub minus-64 : SFits w64 (pos 0 -ℤ to_z w64 n)
  minus-64 = rw minus_is (wide _ (small n h))

  pub minus-32 : SFits w32 (to_z w64 (of_z w64 (pos 0 -ℤ to_z w64 n)))
  minus-32 = rw (to_z-of_z w64 _ minus-64, minus_is) (small n h)

  pub minus-result : to_z w32 (of_z w32 (to_z w64 (of_z w64 (pos 0 -ℤ to_z w64 n)))) ≡ neg_ℤ (pos n)
  minus-result = to_z-of_z w32 _ minus-32 ∙ to_z-of_z w64 _ minus-64 ∙ minus_is
