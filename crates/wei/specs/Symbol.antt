-- A symbol by its bits and numbers, and how symbols carry the states along, from 01, "Sender rules" and "The answer for a list".
-- The labels of both points and their numbers fix a symbol, and the other way round (proofs/Labels).
--   Symbol           Y0, I1, I2', I3' and the numbers w1 and w2 of the two points
--   first_label       the label of its first point, which is the turn
--   last_label        the label of its second point
--   Valid u c        c can be sent at width u
--   Carries u s t c  c is valid and carries the state s to t
--   AllowedFrom      symbols, the oldest first, that are allowed from a first state
--   ending           the state after them
--   symbol_of u s q n      the symbol that a sender makes of the word n in the state s after the turn q
--   symbols_from u s q ns  the symbols that it makes of the words ns, the oldest first
use Rattle.std.specs.Prelude.{ℕ, ◌/◌, ◌%◌, ◌^◌, ◌<◌, ◌≡◌, List, [], ◌∷◌}
use Rattle.wei.specs.State.{bit_w4, next_state}
use Rattle.wei.specs.Word.{unpacked}
use Rattle.wei.specs.Label.{turn_of, turn_on, second_label}

pub record Symbol : Type 0 where
  pub y0 : ℕ
  pub i1 : ℕ
  pub i2 : ℕ
  pub i3 : ℕ
  pub w1 : ℕ
  pub w2 : ℕ

abbrev pub first_label : Symbol → ℕ
first_label c = turn_of c.i2 c.i3

unfoldable pub last_label : Symbol → ℕ
last_label c = second_label (first_label c) c.y0 c.i1

-- "Width u uses w below 2^u"
pub record Valid (u : ℕ) (c : Symbol) : Type 0 where
  pub y0-below : c.y0 < 2
  pub i1-below : c.i1 < 2
  pub i2-below : c.i2 < 2
  pub i3-below : c.i3 < 2
  pub w1-below : c.w1 < 2 ^ u
  pub w2-below : c.w2 < 2 ^ u

-- "each symbol's Y0, I1 and I2' carry its state to the next by the rule above"; "Parity Y0 is W4"
pub record Carries (u s t : ℕ) (c : Symbol) : Type 0 where
  pub valid : Valid u c
  pub parity : c.y0 ≡ bit_w4 s
  pub leads : next_state s c.i1 c.i2 ≡ t

abbrev pub AllowedFrom : ℕ → ℕ → List Symbol → Type 0
AllowedFrom u s [] = Unit {0}
AllowedFrom u s (c ∷ cs) = Carries u s (next_state s c.i1 c.i2) c × AllowedFrom u (next_state s c.i1 c.i2) cs

abbrev pub ending : ℕ → List Symbol → ℕ
ending s [] = s
ending s (c ∷ cs) = ending (next_state s c.i1 c.i2) cs

-- "The new q is the old q plus 2·I3 + I2, modulo 4"; "Turn q = 2·I3' + I2'"; "Parity Y0 is W4"
unfoldable pub symbol_of : ℕ → ℕ → ℕ → ℕ → Symbol
symbol_of u s q n =
    let p = unpacked u n in
    let r = turn_on q p.i2 p.i3 in
    record { y0 = bit_w4 s; i1 = p.i1; i2 = r % 2; i3 = r / 2; w1 = p.w1; w2 = p.w2 }

unfoldable pub symbols_from : ℕ → ℕ → ℕ → List ℕ → List Symbol
symbols_from u s q [] = []
symbols_from u s q (n ∷ ns) =
    let c = symbol_of u s q n in
    c ∷ symbols_from u (next_state s c.i1 c.i2) (first_label c) ns
