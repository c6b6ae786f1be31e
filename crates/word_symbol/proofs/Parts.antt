-- What `make` needs of a word's parts: they are in range, and the turn after them is the first label.
--   parts_in    the parts are in range
--   turn_is     the turn is the first label
use mathlib.Core.Path.{◌≡◌, sym, subst}
use Prim.Native.Nat.{ℕ}
use native.Mathlib.Omega.{arith}
use Rattle.wei.specs.declared.word.Parts as word
use Rattle.wei.specs.Word.{unpacked, InRange}
use Rattle.wei.specs.Label.{turn_on}
use Rattle.wei.specs.Symbol.{first_label, symbol_of}
use Rattle.wei.proofs.Words.{parts-range}

pub parts_in : (u n : ℕ) (p : word.Parts) → p ≡ unpacked u n → InRange u p
parts_in u n p e = subst (InRange u) (sym e) (parts-range u n)

pub turn_is : (u s q n : ℕ) → turn_on q (unpacked u n).i2 (unpacked u n).i3 ≡ first_label (symbol_of u s q n)
unfolding symbol_of
turn_is u s q n = omega arith
