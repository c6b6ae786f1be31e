-- `lowest_of`.
use Rattle.std.proofs.Common.{◌≡◌, ℕ, ◌-◌, ◌*◌, ◌%◌, ◌^◌, ◌<◌, Bool, cond, sym, ap, ◌∙◌, arith}
use borrow.Author.Tests.{lt-leb}
use lib.Bits.{bit_and, and_mask}
use lib.Pow.{shl_exact}
use Rattle.registers.specs.Registers.{lowest}
use Rattle.registers.proofs.lowest_of.Goals as goal

power : (n : ℕ) → n < 64 → 1 * 2 ^ n % 2 ^ 64 ≡ 2 ^ n
power n h = shl_exact {a = 1} 1 n 64 (omega arith) (omega arith) ∙ (let e : 1 * 2 ^ n ≡ 2 ^ n = omega arith in e)

masked : (d n : ℕ) → n < 64 → bit_and d (1 * 2 ^ n % 2 ^ 64 - 1) ≡ lowest d n
masked d n h = ap (λ (x : ℕ). bit_and d (x - 1)) (power n h) ∙ and_mask d n ∙ sym (ap (λ (x : Bool). d % 2 ^ cond x 64 n) (lt-leb 64 n h))

pub returns-then-n-lt64 : goal.returns-then-n-lt64
returns-then-n-lt64 c = masked _ _ c.if-n-lt64.true
