-- `field`: a small coordinate plus 64 is above 0, and a multiple of 2^(m+1) more is nothing in m + 1 bits.
use mathlib.Core.Path.{◌≡◌}
use Prim.Native.Nat.{ℕ, ◌+◌, ◌-◌, ◌*◌, ◌/◌, ◌%◌, ◌^◌, ◌<◌}
use native.Mathlib.Omega.{arith}
use lib.Bits.{bit_and}
use lib.Dec.{T}
use lib.IntN.{ℤ, pos, negsuc, nat_abs, ◌+ℤ◌}
use lib.Signed.{non_neg, mag}
use mir.Syntax.{w32}
use mir.Val.{SFits, Fits, to_z, of_z}
use Rattle.maps.specs.SquareBits.{field_of}
use Rattle.maps.proofs.SquareTests.{each_at, equal, less}
use Rattle.maps.proofs.square.field.Goals as goal

-- what the code computes
abbrev moved : ℤ → ℤ
moved z = to_z w32 (of_z w32 z) +ℤ pos 64

abbrev code : ℕ → ℤ → ℕ
code m z = bit_and (nat_abs (to_z w32 (of_z w32 (moved z))) / 2) (2 * 2 ^ m % 2 ^ 32 - 1)

abbrev side : ℕ → ℕ
side m = 2 ^ (m + 1)

moved-fits : (m : ℕ) (z : ℤ) → m < 5 → nat_abs z < 2 ^ (m + 1) → SFits w32 (moved z)
moved-fits m (pos n) g h = record { sfits = less side (λ m n. mag (moved (pos n))) (λ m n. 2 ^ 31) tt m n g h }
moved-fits m (negsuc n) g h = record { sfits = less side (λ m n. mag (moved (negsuc n))) (λ m n. 2 ^ 31) tt m n g (omega arith) }

-- as an unsigned number
abbrev up : ℤ → ℤ
up z = to_z w32 (of_z w32 (moved z))

moved_up : (m : ℕ) (z : ℤ) → m < 5 → nat_abs z < 2 ^ (m + 1) → T (non_neg (up z)) × Fits w32 (nat_abs (up z))
moved_up m (pos n) g h = (each_at side (λ m n. non_neg (up (pos n))) tt m n g h, record { fits = less side (λ m n. nat_abs (up (pos n))) (λ m n. 2 ^ 32) tt m n g h })
moved_up m (negsuc n) g h =
    let k : n < 2 ^ (m + 1) = omega arith in
    (each_at side (λ m n. non_neg (up (negsuc n))) tt m n g k, record { fits = less side (λ m n. nat_abs (up (negsuc n))) (λ m n. 2 ^ 32) tt m n g k })

code_is : (m : ℕ) (z : ℤ) → m < 5 → nat_abs z < 2 ^ (m + 1) → code m z ≡ field_of m z
unfolding field_of
code_is m (pos n) g h = equal side (λ m n. code m (pos n)) (λ m n. field_of m (pos n)) tt m n g h
code_is m (negsuc n) g h = equal side (λ m n. code m (negsuc n)) (λ m n. field_of m (negsuc n)) tt m n g (omega arith)

pub overflow_cast-result : goal.overflow_cast-result
overflow_cast-result c = moved_up c.args.m c.args.z c.requires.0 c.requires.1

pub returns : goal.returns
returns c = code_is c.args.m c.args.z c.requires.0 c.requires.1
