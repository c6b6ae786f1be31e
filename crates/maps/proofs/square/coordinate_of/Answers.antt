-- `coordinate_of`: at all bits of every width.
use Prim.Native.Nat.{ℕ, ◌+◌, ◌*◌, ◌/◌, ◌%◌, ◌^◌}
use lib.Bits.{bit_or}
use lib.IntN.{ℤ, ◌-ℤ◌}
use lib.Signed.{mag}
use mir.Syntax.{w32}
use mir.Val.{to_z, of_z}
use Rattle.maps.specs.SquareBits.{coordinate}
use Rattle.maps.proofs.SquareTests.{same_z, equal_z, less}
use Rattle.maps.proofs.square.coordinate_of.Goals as goal

-- what the code computes
abbrev side : ℕ → ℕ
side m = 2 ^ (m + 1)

abbrev lower : ℕ → ℕ → ℕ
lower m k = bit_or (k * 2 % 2 ^ 32) 1

abbrev sign : ℕ → ℕ → ℕ
sign m k = k / 2 ^ m * 2 ^ (m + 2) % 2 ^ 32

abbrev code : ℕ → ℕ → ℤ
code m k = to_z w32 (lower m k) -ℤ to_z w32 (sign m k)

pub overflow_cast-result : goal.overflow_cast-result
overflow_cast-result c = record { sfits = less side lower (λ m k. 2 ^ 31) tt c.args.m c.args.k c.requires.0 c.requires.1 }

pub overflow_sub-result : goal.overflow_sub-result
overflow_sub-result c = record { sfits = less side (λ m k. mag (code m k)) (λ m k. 2 ^ 31) tt c.args.m c.args.k c.requires.0 c.requires.1 }

pub returns : goal.returns
unfolding same_z coordinate
returns c = equal_z side (λ m k. to_z w32 (of_z w32 (code m k))) coordinate tt c.args.m c.args.k c.requires.0 c.requires.1
