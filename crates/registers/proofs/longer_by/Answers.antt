-- `longer_by`: the shift drops the highest bits, and the new ones stand where nothing stood.
use Rattle.std.proofs.Common.{◌≡◌, ℕ, ◌+◌, ◌-◌, ◌*◌, ◌%◌, ◌^◌, ◌<◌, ap, ap₂, ◌∙◌, add-zero, arith}
use Rattle.std.proofs.Math.Nat.{mul-mod_left}
use lib.Bits.{bit_or, or_shifted}
use lib.Pow.{shl-shr, mod-pow-add}
use Rattle.registers.proofs.longer_by.Goals as goal

shifted : (r j n : ℕ) → r * 2 ^ n % 2 ^ (j + n) ≡ r % 2 ^ j * 2 ^ n
shifted r j n = mod-pow-add (r * 2 ^ n) j n ∙ ap₂ (λ (x y : ℕ). x % 2 ^ j * 2 ^ n + y) (shl-shr r n) (mul-mod_left r (2 ^ n)) ∙ add-zero _

put_in : (r n b : ℕ) → n < 64 → b < 2 ^ n → bit_or (r * 2 ^ n % 2 ^ 64) b ≡ r % 2 ^ (64 - n) * 2 ^ n + b
put_in r n b k h =
    let whole : 64 ≡ 64 - n + n = omega arith in
    ap (λ (w : ℕ). bit_or (r * 2 ^ n % 2 ^ w) b) whole ∙ ap (λ (x : ℕ). bit_or x b) (shifted r (64 - n) n) ∙ or_shifted (r % 2 ^ (64 - n)) n b h

pub returns : goal.returns
returns g c = put_in _ _ _ c.requires.0 c.requires.1
