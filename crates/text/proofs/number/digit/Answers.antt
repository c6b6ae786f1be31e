-- `number::digit`: by the laws of each kind of byte.
use Rattle.std.proofs.Common.{arith}
use Rattle.text.proofs.Digits.{figure, large-letter, small-letter, no_digit}
use Rattle.text.proofs.number.digit.Goals as goal

pub returns-in-48-to-57 : goal.returns-in-48-to-57
returns-in-48-to-57 c = rw c.from.ensures (figure _ (omega arith) (omega arith))

pub returns-in-65-to-70 : goal.returns-in-65-to-70
returns-in-65-to-70 c = rw c.from-in-65-to-70.ensures (large-letter _ (omega arith) (omega arith))

pub returns-in-97-to-102 : goal.returns-in-97-to-102
returns-in-97-to-102 c = rw c.from-in-97-to-102.ensures (small-letter _ (omega arith) (omega arith))

pub returns-in_default : goal.returns-in_default
returns-in_default c = no_digit _ (λ p q. omega arith) (λ p q. omega arith) (λ p q. omega arith)

pub returns-in_default-2 : goal.returns-in_default-2
returns-in_default-2 c = no_digit _ (λ p q. omega arith) (λ p q. omega arith) (λ p q. omega arith)

pub returns-in_default-3 : goal.returns-in_default-3
returns-in_default-3 c = no_digit _ (λ p q. omega arith) (λ p q. omega arith) (λ p q. omega arith)

pub returns-in_default-4 : goal.returns-in_default-4
returns-in_default-4 c = no_digit _ (λ p q. omega arith) (λ p q. omega arith) (λ p q. omega arith)
