-- A clean line by its own condition: what is heard exactly lies on what was sent and on nothing else (proofs/Clean), so the answer for it is what was sent. The demand's
-- theorems follow from what is heard through noise (proofs/Served); these say the same of a clean line alone.
--   clean-answer   the answer's words are those sent
--   clean-ended    after a finish they are
--   clean-talk     the words written begin them
--   words-sent     a sender's run accepted words alone
--   some-taken     the first m symbols of a sender's run
use mathlib.Core.Path.{◌≡◌, ap, subst, ◌∙◌}
use mathlib.Core.Bool.{true}
use mathlib.Core.List.{List, reverse, IsPrefix}
use Prim.Native.Nat.{ℕ}
use native.Mathlib.Omega.{arith}
use lib.IntN.{ℤ}
use lib.ListN.{take}
use Rattle.points.specs.declared.Accord.{Accord}
use Rattle.wei.specs.Word.{is_word}
use Rattle.wei.specs.Symbol.{symbols_from}
use Rattle.trellis.specs.Lists.{Every}
use Rattle.trellis.specs.Words.{as_heard}
use Rattle.trellis.proofs.Clean as trellis
use Rattle.nearest.proofs.Laws.{line-chooses}
use Rattle.nearest.specs.Line.{line_measure, line_choice}
use Rattle.openings.specs.Opening.{Receiver}
use Rattle.receiver_meaning.specs.Told.{Fine, speaker_of}
use Rattle.receiver_meaning.specs.Piece.{symbols_of}
use Rattle.receiver_meaning.proofs.Speaks.{speaks}
use Rattle.openings.specs.declared.Start.{Start}
use Rattle.openings.specs.Given.{start_of}
use Rattle.sender.specs.declared.Sender.{Sender}
use Rattle.sender.specs.Run as sender
use Rattle.promises.specs.Talk.{Talk, Ended}
use Rattle.promises.specs.Clean.{all_on_line, cleanly, StartsAtZero}
use Rattle.promises.proofs.Follows.{told_of, follows, ended-fine, answers}
use Rattle.promises.proofs.Clean.{exact, hits, first-sent, accepted}
use Rattle.promises.proofs.Demand2.{sent-cleanly}

module _ (ac : Accord) (w : ℕ) (b : Start) (z : StartsAtZero b) (sent : List ℕ) (e : Every (λ n. is_word ac.u n ≡ true) sent) where
  pub clean-answer : Fine (told_of ac w b (cleanly ac sent)) → (speaker_of (told_of ac w b (cleanly ac sent))).answered (reverse (cleanly ac sent)) ≡ as_heard (start_of b) sent
  clean-answer f =
      trellis.round_trip ac.u (line_measure ac) (line_choice ac) (line-chooses ac) (start_of b) f.good_start 0 (omega arith) z (cleanly ac sent)
      (exact ac f.agreed (symbols_from ac.u 0 0 sent)) sent e
      (hits ac (symbols_from ac.u 0 0 sent))

  pub clean-ended : (ws : List ℕ) → Ended ac w b (cleanly ac sent) ws → ws ≡ as_heard (start_of b) sent
  clean-ended ws k = answers ac w b (cleanly ac sent) ws k ∙ clean-answer (ended-fine ac w b (cleanly ac sent) ws k)

  pub clean-talk : (ws : List ℕ) (rx : Receiver) → Talk ac w b (cleanly ac sent) ws rx → IsPrefix ws (as_heard (start_of b) sent)
  clean-talk ws rx k =
      let f = follows ac w b (cleanly ac sent) ws rx k in
      rw f.said (subst (IsPrefix ((speaker_of (told_of ac w b (cleanly ac sent))).spoken (reverse (cleanly ac sent)))) (clean-answer f.fine)
      ((speaks (told_of ac w b (cleanly ac sent)) f.fine).within (reverse (cleanly ac sent))))

module _ (ac : Accord) (sent : List ℕ) (ps : List ℤ) (s : Sender) (k : sender.Talk ac sent ps s) where
  pub words-sent : Every (λ n. is_word ac.u n ≡ true) sent
  words-sent = accepted ac sent ps s k

  pub some-taken : (m : ℕ) → take m (symbols_of (all_on_line ps)) ≡ cleanly ac (take m sent)
  some-taken m = ap (take m) (sent-cleanly ac sent ps s k) ∙ first-sent ac m sent
