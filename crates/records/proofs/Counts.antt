-- Counts at the end of 64 bits.
--   capped_small                a count that has room
--   capped-more                 a capped count and some more is the count and some more, capped
use mathlib.Core.Path.{◌≡◌, refl}
use mathlib.Core.Bool.{Bool, true, false, cond}
use Prim.Native.Nat.{ℕ, ◌+◌, ◌≤◌}
use native.Mathlib.Omega.{arith}
use borrow.Author.Tests.{le-ltb, ltb-false}
use lib.Dec.{ltb}
use Rattle.records.specs.Frames.{capped}

pub capped_small : (n : ℕ) → n ≤ 18446744073709551615 → capped n ≡ n
unfolding capped
capped_small n h = go (ltb n 18446744073709551615) refl
  where
    go : (b : Bool) → ltb n 18446744073709551615 ≡ b → cond b n 18446744073709551615 ≡ n
    go true e = refl
    go false e = let k : 18446744073709551615 ≤ n = ltb-false n 18446744073709551615 e in omega arith

pub capped-more : (n m : ℕ) → capped (capped n + m) ≡ capped (n + m)
unfolding capped
capped-more n m = go (ltb n 18446744073709551615) refl
  where
    go : (b : Bool) → ltb n 18446744073709551615 ≡ b → capped (cond b n 18446744073709551615 + m) ≡ capped (n + m)
    go true e = refl
    go false e =
        let k : 18446744073709551615 ≤ n = ltb-false n 18446744073709551615 e in
        rw (le-ltb (18446744073709551615 + m) 18446744073709551615 (omega arith), le-ltb (n + m) 18446744073709551615 (omega arith))
