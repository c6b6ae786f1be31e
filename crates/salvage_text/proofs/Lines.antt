-- Laws of the line.
--   line-short     it is no longer than 111 bytes
--   line-settled   any two lines that the promise allows say the same
use Prim.Native.Nat.{ℕ, ◌≤◌}
use mathlib.Core.Path.{◌≡◌, sym, ◌∙◌}
use native.Mathlib.Omega.{arith}
use lib.ListN.{length, take, length-append}
use Rattle.phrases.proofs.Phrases.{decimal-short}
use Rattle.salvage_text.specs.declared.Line.{Line}
use Rattle.salvage_text.specs.Says.{changes_line}

pub line-short : (r a m c : ℕ) → length (changes_line r a m c) ≤ 111
unfolding changes_line
line-short r a m c = simp length-append (omega (arith, decimal-short r, decimal-short a, decimal-short m, decimal-short c))

pub line-settled : (r a m c : ℕ) (x y : Line) → take x.size x.text ≡ changes_line r a m c → take y.size y.text ≡ changes_line r a m c
    → take x.size x.text ≡ take y.size y.text
line-settled r a m c x y e f = e ∙ sym f
