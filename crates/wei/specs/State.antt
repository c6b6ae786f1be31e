-- The state W1 W2 W3 W4, written as the number 8·W1 + 4·W2 + 2·W3 + W4, and its steps, from 01, "Sender rules". That `before`
-- lists exactly the states that lead to a state is proved in proofs/States, and that all this is the print of 000 in proofs/Printed.
--   state_of            the number of a state
--   bit_w1 .. bit_w4     its bits; the parity Y0 is W4
--   next_state s i1 i2  the state after s, with I1 and I2'
--   subset_of           the 4D subset 4·Y0 + 2·I1 + I2'
--   before t k         the k-th of the four states that lead to t, in rising order
--   carry_i1, carry_i2   the I1 and the I2' that carry s to t
--   between s t        the 4D subset of the step from s to t
use Rattle.std.specs.Prelude.{ℕ, ◌+◌, ◌*◌, ◌/◌, ◌%◌}

abbrev pub state_of : ℕ → ℕ → ℕ → ℕ → ℕ
state_of w1 w2 w3 w4 = 8 * w1 + 4 * w2 + 2 * w3 + w4

abbrev pub bit_w1 : ℕ → ℕ
bit_w1 s = s / 8 % 2

abbrev pub bit_w2 : ℕ → ℕ
bit_w2 s = s / 4 % 2

abbrev pub bit_w3 : ℕ → ℕ
bit_w3 s = s / 2 % 2

abbrev pub bit_w4 : ℕ → ℕ
bit_w4 s = s % 2

-- "W1 becomes W3, W2 becomes W4, W3 becomes W2 + I2', W4 becomes W1 + W3 + I1, all old values on the right, sums modulo 2"
unfoldable pub next_state : ℕ → ℕ → ℕ → ℕ
next_state s i1 i2 = state_of (bit_w3 s) (bit_w4 s) ((bit_w2 s + i2) % 2) ((bit_w1 s + bit_w3 s + i1) % 2)

-- "The 4D subset is 4·Y0 + 2·I1 + I2'"
abbrev pub subset_of : ℕ → ℕ → ℕ → ℕ
subset_of y0 i1 i2 = 4 * y0 + 2 * i1 + i2

unfoldable pub before : ℕ → ℕ → ℕ
before t k = t / 4 + 4 * k

unfoldable pub carry_i1 : ℕ → ℕ → ℕ
carry_i1 s t = (bit_w4 t + bit_w1 s + bit_w3 s) % 2

unfoldable pub carry_i2 : ℕ → ℕ → ℕ
carry_i2 s t = (bit_w3 t + bit_w2 s) % 2

unfoldable pub between : ℕ → ℕ → ℕ
unfolding carry_i1 carry_i2
between s t = subset_of (bit_w4 s) (carry_i1 s t) (carry_i2 s t)
