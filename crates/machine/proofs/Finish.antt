-- Finish: what was released and the way into the state of the least sum are the answer.
--   last-words   what finish writes: the words of the answer that are not yet said
--   last-many    as many as are pending
use mathlib.Core.Path.{◌≡◌, sym, ap, ap₂, subst, ◌∙◌}
use mathlib.Core.List.{List, ◌++◌}
use Prim.Native.Nat.{ℕ, ◌<◌}
use lib.Dec.{T, ltb→lt}
use native.Mathlib.Omega.{arith}
use lib.ListN.{length, get_or, take, drop}
use lib.Seq.{take_all}
use Rattle.trellis.specs.Code.{Path, symbols}
use Rattle.trellis.specs.Best.{Answer}
use Rattle.trellis.specs.Common.{common}
use Rattle.trellis.specs.Measure.{Start, GoodStart, Two}
use Rattle.trellis.specs.Words.{word, turn_after, words_from, first_turn}
use Rattle.trellis.specs.Said.{spoken_words, answer_words}
use Rattle.trellis.proofs.Onward.{some-answer}
use Rattle.trellis.proofs.Invariant.{holds-finish}
use Rattle.trellis.proofs.Speak.{speak-length, spoken-rest}
use Rattle.wei.specs.Symbol.{Symbol}
use Rattle.nearest.specs.declared.Received.{Received}
use Rattle.nearest.specs.Line.{line_measure, line_choice}
use Rattle.machine.specs.declared.Receiver.{Receiver}
use Rattle.select.specs.Select.{limit, row_of}
use Rattle.sums.specs.Sums.{end_of}
use Rattle.machine.specs.Machine.{way_from, last_symbols, last_words}
use Rattle.receiver_meaning.proofs.Search.{search_of, laws, onward}
use Rattle.machine.proofs.Trellis.{some_up}
use Rattle.machine.proofs.Arrivals.{up-sealed, end_is}
use Rattle.machine.proofs.Keeps.{Keeps}
use Rattle.machine.proofs.Step.{said_of}
use Rattle.machine.proofs.Way.{way-length}
use Rattle.receiver_meaning.specs.Told.{code_of}
use Rattle.points.specs.declared.Accord.{Accord}

finish-is : (ac : Accord) (b : Start) → GoodStart b → (ys : List (Two Received)) (rx : Receiver) → Keeps ac b ys rx → (p : Path Symbol) → Answer (code_of ac b) ys p →
    symbols p ≡ common (search_of ac b) ys ++ last_symbols rx
unfolding last_symbols
finish-is ac b g ys rx k p a =
    let way = way_from rx.core rx.registers rx.picks in
    let (s, h, t) = some_up ac b g ys k.holds.less (row_of rx.sums) k.holds.off in
    let l : get_or rx.sums s 0 < limit = ltb→lt (get_or rx.sums s 0) limit (subst T (up-sealed (get_or rx.sums s 0) tt) t) in
    holds-finish (search_of ac b) (laws ac b) ys (row_of rx.sums) way rx.core.pending k.holds p a
    ∙ ap (λ (m : ℕ). common (search_of ac b) ys ++ way m) (sym (end_is ac b rx.sums s h l))

pub last-words : (ac : Accord) (b : Start) → GoodStart b → (ys : List (Two Received)) (rx : Receiver) → Keeps ac b ys rx →
    last_words rx ≡ drop (length (said_of ac b ys)) (answer_words ac.u (line_measure ac) (line_choice ac) b ys)
unfolding spoken_words answer_words
last-words ac b g ys rx k =
    let (p, a) = some-answer (search_of ac b) (laws ac b) (onward ac b g) ys in
    ap₂ (λ (v : Accord) (q : ℕ). words_from v.u q (last_symbols rx)) k.accord k.turn
    ∙ sym (spoken-rest (search_of ac b) (laws ac b) (word ac.u) turn_after (first_turn b) ys p a (last_symbols rx) (finish-is ac b g ys rx k p a))

pub last-many : (rx : Receiver) → length (last_words rx) ≡ rx.core.pending
unfolding last_symbols
last-many rx = speak-length turn_after (word rx.core.accord.u) rx.core.turn (last_symbols rx) ∙ way-length rx.core rx.registers rx.picks (end_of rx.sums)

-- the words that the code writes from the end state
pub last-from : (rx : Receiver) (s : ℕ) → s ≡ end_of rx.sums →
    words_from rx.core.accord.u rx.core.turn (take rx.core.pending (way_from rx.core rx.registers rx.picks s)) ≡ last_words rx
unfolding last_symbols
last-from rx s e =
    let way : List Symbol = way_from rx.core rx.registers rx.picks s in
    ap (words_from rx.core.accord.u rx.core.turn)
    (take_all rx.core.pending way (omega (arith, way-length rx.core rx.registers rx.picks s)) ∙ ap (way_from rx.core rx.registers rx.picks) e)
