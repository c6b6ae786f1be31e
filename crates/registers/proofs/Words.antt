-- A word is a list of bits, the newest lowest: three bits more move the others up by three and forget the three highest of 64.
--   low_bits             the bits below n are those of the remainder by 2 ^ n
--   new-bits, old-bits   three bits more
--   three-bits           a number below 8 from its bits
use mathlib.Core.Path.{◌≡◌, sym, ap, ◌∙◌}
use Prim.Native.Nat.{ℕ, zero, suc, ◌+◌, ◌-◌, ◌*◌, ◌/◌, ◌%◌, ◌^◌, ◌<◌}
use native.Mathlib.Omega.{arith}
use lib.Pow.{shr-shr, field, mod-mod-pow}
use Rattle.registers.specs.Registers.{bit_at, longer}

pub low_bits : (r n q : ℕ) → q < n → bit_at (r % 2 ^ n) q ≡ bit_at r q
low_bits r n q h =
    let e : n ≡ n - q + q = omega arith in
    let f : n - q ≡ n - q - 1 + 1 = omega arith in
    ap (λ (k : ℕ). r % 2 ^ k / 2 ^ q % 2) e
    ∙ ap (λ (x : ℕ). x % 2) (field r (n - q) q)
    ∙ ap (λ (k : ℕ). r / 2 ^ q % 2 ^ k % 2) f
    ∙ mod-mod-pow (r / 2 ^ q) (n - q - 1) 1

pub new-bits : (r c j : ℕ) → j < 3 → bit_at (longer r c) j ≡ bit_at c j
new-bits r c zero h = omega arith
new-bits r c (suc zero) h = omega arith
new-bits r c (suc (suc zero)) h = omega arith
new-bits r c (suc (suc (suc j))) h = absurd (omega arith)

pub old-bits : (r c j : ℕ) → c < 8 → j < 61 → bit_at (longer r c) (3 + j) ≡ bit_at r j
old-bits r c j h k =
    let rest : longer r c / 2 ^ 3 ≡ r % 2 ^ 61 = omega arith in
    ap (λ (x : ℕ). x % 2) (sym (shr-shr (longer r c) 3 j)) ∙ ap (λ (x : ℕ). x / 2 ^ j % 2) rest ∙ low_bits r 61 j k

pub three-bits : (x : ℕ) → 4 * bit_at x 2 + 2 * bit_at x 1 + bit_at x 0 ≡ x % 8
three-bits x = omega (arith, shr-shr x 1 1, shr-shr x 2 1)
