-- The promise of a recorded call settles it: any two results that it allows are equal, number by number and place by place.
use Prim.Native.Nat.{ℕ}
use mathlib.Core.Path.{◌≡◌, sym, ◌∙◌}
use mathlib.Core.List.{List}
use Rattle.c_recorder.specs.Calls.{Call}
use Rattle.c_recorder.specs.Promise.{Records}

pub records-settled : (c : Call) (n m : ℕ) (state other out after bytes then told last : List ℕ) → Records c n state out bytes told → Records c m other after then last →
    (n ≡ m) × (state ≡ other) × (out ≡ after) × (bytes ≡ then) × (told ≡ last)
records-settled c n m state other out after bytes then told last a b =
    (a.number ∙ sym b.number, a.state-is ∙ sym b.state-is, a.out-is ∙ sym b.out-is, a.bytes-are ∙ sym b.bytes-are, a.told_is ∙ sym b.told_is)
