-- A word and its parts, from 01, "Words, labels, points": a word has 3 + 2u bits, bit 0 is I1, bit 1 is I2, bit 2 is I3, the next
-- u bits are w1 (low bit first), the next u bits w2, and higher bits are zero. That packing and unpacking undo one another is
-- proved in proofs/Words.
--   is_word u n     n has no bit at or above 3 + 2u
--   unpacked u n   the parts of the word n
--   packed u p     the word with the parts p
--   InRange u p    I1, I2 and I3 are bits, w1 and w2 have u bits each
use Rattle.std.specs.Prelude.{ℕ, ◌+◌, ◌*◌, ◌/◌, ◌%◌, ◌^◌, ◌<◌, Bool, ltb}
use Rattle.wei.specs.declared.word.Parts.{Parts}

abbrev pub is_word : ℕ → ℕ → Bool
is_word u n = ltb n (2 ^ (3 + u + u))

unfoldable pub unpacked : ℕ → ℕ → Parts
unpacked u n = record { i1 = n % 2; i2 = n / 2 % 2; i3 = n / 4 % 2; w1 = n / 8 % 2 ^ u; w2 = n / 8 / 2 ^ u % 2 ^ u }

unfoldable pub packed : ℕ → Parts → ℕ
packed u p = p.i1 + 2 * p.i2 + 4 * p.i3 + 8 * (p.w1 + 2 ^ u * p.w2)

pub record InRange (u : ℕ) (p : Parts) : Type 0 where
  pub i1-below : p.i1 < 2
  pub i2-below : p.i2 < 2
  pub i3-below : p.i3 < 2
  pub w1-below : p.w1 < 2 ^ u
  pub w2-below : p.w2 < 2 ^ u
