-- Both promises of the conversion settle it: any two results that they allow are equal, number by number and place by place.
--   samples-settled, converts-settled   one sample; a list of them, with marks or without
use Prim.Native.Nat.{ℕ}
use mathlib.Core.Path.{◌≡◌, sym, ◌∙◌}
use mathlib.Core.List.{List}
use lib.IntN.{ℤ}
use Rattle.c_samples.specs.Calls.{Sampling, SamplesCall}
use Rattle.c_samples.specs.Promise.{Samples, Converts}

pub samples-settled : (c : Sampling) (n m : ℕ) (out after : List ℤ) → Samples c n out → Samples c m after → (n ≡ m) × (out ≡ after)
samples-settled c n m out after a b = (a.number ∙ sym b.number, a.out-is ∙ sym b.out-is)

pub converts-settled : (c : SamplesCall) (n m : ℕ) (out after : List ℤ) (told then : List ℕ) → Converts c n out told → Converts c m after then → (n ≡ m) × (out ≡ after) × (told ≡ then)
converts-settled c n m out after told then a b = (a.number ∙ sym b.number, a.out-is ∙ sym b.out-is, a.told_is ∙ sym b.told_is)
