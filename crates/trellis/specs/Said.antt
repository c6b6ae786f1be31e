-- What Wei's receiver says of the symbols that it has heard, newest first: the words that are final, and the words of the answer.
-- proofs/Spoken says that these are the words of the longest common beginning and of the answer, and that nothing else is.
--   spoken_words u M H b ys   the words that are final after ys
--   answer_words u M H b ys   the words of the answer for ys
use Rattle.std.specs.Prelude.{ℕ, List}
use Rattle.trellis.specs.Speak.{spoken, answered}
use Rattle.trellis.specs.Measure.{Start, Measure}
use Rattle.trellis.specs.Same.{same_symbol}
use Rattle.trellis.specs.Pick.{Choice, wei_search}
use Rattle.trellis.specs.Words.{word, turn_after, first_turn}

module _ (u : ℕ) (M : Measure) (H : Choice M) (b : Start) where
  unfoldable pub spoken_words : List M.Heard → List ℕ
  spoken_words ys = spoken (wei_search u M H same_symbol b) (word u) turn_after (first_turn b) ys

  unfoldable pub answer_words : List M.Heard → List ℕ
  answer_words ys = answered (wei_search u M H same_symbol b) (word u) turn_after (first_turn b) ys
