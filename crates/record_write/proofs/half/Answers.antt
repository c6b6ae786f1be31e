-- `half`: the two low bytes, in two's complement.
use Rattle.std.proofs.Common.{◌≡◌, ◌%◌, ◌/◌, ◌≤◌, arith, nat_abs, of_z, w32}
use lib.IntN.{ℤ, pos, negsuc}
use mir.Facts.{to_z-of_z}
use Rattle.records.specs.Values.{half_of}
use Rattle.record_write.proofs.half.Goals as goal

low : (x : ℤ) → nat_abs x ≤ 32768 → of_z w32 x % 256 ≡ half_of x % 256
unfolding half_of
low (pos n) h = omega arith
low (negsuc n) h = omega arith

high : (x : ℤ) → nat_abs x ≤ 32768 → of_z w32 x / 256 % 256 ≡ half_of x / 256
unfolding half_of
high (pos n) h = omega arith
high (negsuc n) h = omega arith

pub returns : goal.returns
returns c =
    let x = c.args.x in
    let e = simp (to_z-of_z c.ranges.x) at c.to_le_bytes.ensures in
    rw (e, low x c.requires, high x c.requires)
