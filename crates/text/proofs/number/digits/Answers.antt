-- `number::digits`: by the laws of what is read so far; a step that 64 bits do not hold makes a number that they do not hold.
use Rattle.std.proofs.Common.{rules, arith, ◌∙◌}
use Rattle.text.proofs.Digits.{no_bytes, no-digit, other_byte, too_large, all_read, further}
use Rattle.text.proofs.number.digits.Goals as goal

pub returns-then-is_empty : goal.returns-then-is_empty
returns-then-is_empty c = no_bytes _ _ _ (search rules)

pub returns-in_err-d : goal.returns-in_err-d
returns-in_err-d c = c.from_residual.ensures ∙ no-digit c.loop-b.invariant.1 _ c.requires.1 (search rules) c.in_err-d.ensures

pub returns-then-base-d : goal.returns-then-base-d
returns-then-base-d c = other_byte c.loop-b.invariant.1 _ _ (search rules) c.in_ok-d.ensures c.if-base-d.true

pub returns-in_err-checked_mul : goal.returns-in_err-checked_mul
returns-in_err-checked_mul c =
    c.from_residual-in_err-checked_mul.ensures
    ∙ too_large (further c.loop-b.invariant.1 (search rules) c.in_ok-d.ensures (search rules)) _ (search rules) (grind arith)

pub returns-in_err-n : goal.returns-in_err-n
returns-in_err-n c =
    c.from_residual-in_err-n.ensures
    ∙ too_large (further c.loop-b.invariant.1 (search rules) c.in_ok-d.ensures (search rules)) _ (search rules) (grind arith)

pub returns-then-most-n : goal.returns-then-most-n
returns-then-most-n c =
    too_large (further c.loop-b.invariant.1 (search rules) c.in_ok-d.ensures (search rules)) _ (search rules) (grind arith)

pub returns : goal.returns
returns c = all_read c.loop-b.invariant.1 _ (search rules) (search rules) c.loop-b.invariant.0
