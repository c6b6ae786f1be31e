-- What a receiver that was told a fine history says: what is spoken stays spoken and begins the answer, and every word has 3 + 2u bits.
--   speaks                     the laws of speaking, as `calls` asks for them
--   fresh-below, rest_below    the words that one symbol adds, and those that a finish adds
--   piece-below, finish-below  the words of a piece and of a finish
use mathlib.Core.Path.{◌≡◌, refl, sym, ap, ◌∙◌}
use mathlib.Core.List.{List, ◌∷◌}
use Prim.Native.Nat.{ℕ, ◌+◌, ◌*◌, ◌^◌, ◌<◌}
use lib.ListN.{length, drop}
use lib.Seq.{drop_at}
use Rattle.calls.specs.Calls.{Speaks, fresh, rest}
use Rattle.calls.proofs.Steps.{walk-said}
use Rattle.trellis.specs.Lists.{Every}
use Rattle.trellis.specs.Measure.{Two}
use Rattle.trellis.proofs.Lists.{every_drop}
use Rattle.trellis.proofs.Spoken.{spoken-below, answer-below}
use Rattle.trellis.proofs.Line.{wei-speaks}
use Rattle.nearest.specs.declared.Received.{Received}
use Rattle.nearest.proofs.Laws.{line-chooses}
use Rattle.nearest.specs.Line.{line_measure, line_choice}
use Rattle.receiver_meaning.specs.Told.{Told, speaker_of, judge_of, Fine}
use Rattle.receiver_meaning.specs.Piece.{Piece}
use Rattle.receiver_meaning.specs.Owed.{ended_of, piece_owed, finish_owed}
use Rattle.receiver_meaning.proofs.Cases.{piece-cases, finish-cases}

module _ (t : Told) (f : Fine t) where
  pub speaks : Speaks (speaker_of t)
  speaks = wei-speaks t.accord.u (line_measure t.accord) (line_choice t.accord) (line-chooses t.accord) t.start f.good_start

  abbrev IsWord : ℕ → Type 0
  IsWord n = n < 2 ^ (3 + 2 * t.accord.u)

  spoken-words : (ys : List (Two Received)) → Every IsWord ((speaker_of t).spoken ys)
  spoken-words ys = spoken-below t.accord.u (line_measure t.accord) (line_choice t.accord) (line-chooses t.accord) t.start f.good_start ys

  pub fresh-below : (ys : List (Two Received)) (y : Two Received) → Every IsWord (fresh (speaker_of t) ys y)
  fresh-below ys y = every_drop IsWord (length ((speaker_of t).spoken ys)) ((speaker_of t).spoken (y ∷ ys)) (spoken-words (y ∷ ys))

  pub rest_below : (ys : List (Two Received)) → Every IsWord (rest (speaker_of t) ys)
  rest_below ys =
      every_drop IsWord (length ((speaker_of t).spoken ys)) ((speaker_of t).answered ys)
      (answer-below t.accord.u (line_measure t.accord) (line_choice t.accord) (line-chooses t.accord) t.start f.good_start ys)

  pub piece-below : (p : Piece) (room : ℕ) → Every IsWord (piece_owed t p room).words
  piece-below p room =
      let e = ended_of t p room in
      let k = length ((speaker_of t).spoken t.heard) in
      let said : e.said ≡ drop k ((speaker_of t).spoken e.heard) =
      sym (drop_at ((speaker_of t).spoken t.heard) e.said k refl) ∙ ap (drop k) (walk-said (speaker_of t) speaks (judge_of t) t.heard p.symbols room) in
      piece-cases t p room (λ d. Every IsWord d.words) (λ _. rw said (every_drop IsWord k ((speaker_of t).spoken e.heard) (spoken-words e.heard))) (λ _. tt)

  pub finish-below : (room : ℕ) → Every IsWord (finish_owed t room).words
  finish-below room = finish-cases t room (λ d. Every IsWord d.words) (λ _. tt) (λ _. rest_below t.heard)
