-- Which patterns of 32 bits are no NaN's, by one comparison; and infinity is heard as the bits of a NaN are.
use Prim.Native.Nat.{ℕ, ◌%◌, ◌≤◌, ◌<◌}
use mathlib.Core.Path.{◌≡◌, sym, subst, ◌∙◌}
use mathlib.Core.Bool.{Bool, not}
use borrow.Author.Tests.{lt-ltb, le-ltb}
use lib.Dec.{T}
use lib.Ieee.{binary32, of_bits, nan_bits}
use lib.Ieee.Bits.{nan_bits_above}
use Rattle.samples.specs.Heard.{heard_fields, heard_bits, heard_coordinate}
use Rattle.samples.proofs.Laws.{nan-pattern-refused, heard-pattern}

pub no_nan : (b : ℕ) → b % 2147483648 ≤ 2139095040 → T (not (nan_bits binary32 b))
no_nan b h = subst (λ (t : Bool). T (not t)) (sym (nan_bits_above binary32 b ∙ le-ltb 2139095040 (b % 2147483648) h)) tt

pub nan-heard : (b : ℕ) → 2139095040 < b % 2147483648 → heard_coordinate (of_bits binary32 2139095040) ≡ heard_bits b
unfolding heard_bits heard_fields
nan-heard b h =
    heard-pattern 2139095040
    ∙ sym (nan-pattern-refused b (subst T (sym (nan_bits_above binary32 b ∙ lt-ltb 2139095040 (b % 2147483648) h)) tt))
