-- A symbol as a card sends it, six numbers, and what is tested of it. That these tests are `Valid` and `Carries` of wei/specs/Symbol is
-- proved in proofs/Tests.
--   chosen_at cs at     the six numbers from the place `at` on
--   symbol_of c         the symbol that they are
--   is_valid u c        it can be sent at the width u
--   carries u s t c    it can be sent, s is a state, and it carries s to t
use Rattle.std.specs.Prelude.{ℕ, ◌+◌, ◌^◌, Bool, ◌&&◌, List, eqb, ltb, get_or}
use Rattle.wei.specs.State.{bit_w4, next_state}
use Rattle.wei.specs.Symbol.{Symbol}
use Rattle.card_symbol.specs.declared.Chosen.{Chosen}

abbrev pub chosen_at : List ℕ → ℕ → Chosen
chosen_at cs at =
    record {
      y0 = get_or cs at 0;
      i1 = get_or cs (at + 1) 0;
      i2 = get_or cs (at + 2) 0;
      i3 = get_or cs (at + 3) 0;
      w1 = get_or cs (at + 4) 0;
      w2 = get_or cs (at + 5) 0;
    }

abbrev pub symbol_of : Chosen → Symbol
symbol_of c = record { y0 = c.y0; i1 = c.i1; i2 = c.i2; i3 = c.i3; w1 = c.w1; w2 = c.w2 }

unfoldable pub is_valid : ℕ → Symbol → Bool
is_valid u c = ((((ltb c.y0 2 && ltb c.i1 2) && ltb c.i2 2) && ltb c.i3 2) && ltb c.w1 (2 ^ u)) && ltb c.w2 (2 ^ u)

unfoldable pub carries : ℕ → ℕ → ℕ → Symbol → Bool
carries u s t c = (is_valid u c && ltb s 16) && (eqb c.y0 (bit_w4 s) && eqb (next_state s c.i1 c.i2) t)
