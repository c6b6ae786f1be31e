-- Runs of calls on a line that serves: for any condition under which no other point is as near (`Serves`, proofs/Carried) the words sent come back.
-- Noise has the conditions, and Demand2 the clean line.
--   sent-closest                 each received symbol is closest to the one sent in its place
--   served-back, served-begins   after a finish the words are the first ones sent; before it those written begin the words sent
--   clean_back, clean-begins     of the first m symbols of a clean line
--   clean-many                   a clean line has as many symbols as words
use mathlib.Core.Path.{◌≡◌, refl, sym, ap, subst, ◌∙◌}
use mathlib.Core.Bool.{true}
use mathlib.Core.List.{List, [], ◌∷◌, reverse, IsPrefix}
use Prim.Native.Nat.{ℕ, zero, suc}
use native.Mathlib.Omega.{arith}
use lib.IntN.{ℤ}
use lib.ListN.{length, take, drop, take-append-drop}
use Rattle.wei.specs.Word.{is_word}
use Rattle.wei.specs.State.{next_state}
use Rattle.wei.specs.Symbol.{first_label, symbol_of, symbols_from}
use Rattle.points.specs.declared.Accord.{Accord}
use Rattle.points.specs.declared.Point.{Point}
use Rattle.calls.proofs.Prefixes.{prefix_trans}
use Rattle.trellis.specs.Measure.{Two}
use Rattle.trellis.specs.Words.{as_heard}
use Rattle.trellis.specs.Along.{Along, Closest}
use Rattle.trellis.proofs.Words.{symbols-allowed, heard-take}
use Rattle.trellis.proofs.IvEight.{allowed-valid}
use Rattle.trellis.proofs.Closest as trellis
use Rattle.distance.specs.declared.Spot.{Spot}
use Rattle.nearest.specs.declared.Received.{Received}
use Rattle.nearest.specs.Line.{line_measure, line_choice}
use Rattle.nearest.proofs.Laws.{line-chooses}
use Rattle.receiver_meaning.specs.Told.{Fine, speaker_of}
use Rattle.receiver_meaning.specs.Piece.{symbols_of}
use Rattle.receiver_meaning.proofs.Speaks.{speaks}
use Rattle.openings.specs.Opening.{Receiver}
use Rattle.openings.specs.declared.Start.{Start}
use Rattle.openings.specs.Given.{start_of}
use Rattle.sender.specs.declared.Sender.{Sender}
use Rattle.sender.specs.Send.{four}
use Rattle.sender.specs.Run as sender
use Rattle.promises.specs.Talk.{Talk, Ended}
use Rattle.promises.specs.Clean.{all_on_line, StartsAtZero}
use Rattle.promises.specs.Noise.{Near, Carried}
use Rattle.promises.proofs.Follows.{told_of, follows, ended-fine, answers}
use Rattle.promises.proofs.Clean.{agreed-sent, every_take, accepted}
use Rattle.promises.proofs.Carried.{carried-along, carried-front, sent-written, Serves, near-serves, serves-closest, clean-carried}

-- ---- what serves

module _ (ac : Accord) (sent : List ℕ) (ps : List ℤ) (s : Sender) (k : sender.Talk ac sent ps s) where
  module _ (P : Spot → Point → Type 0) (S : Serves ac P) (took : List (Two Received)) (c : Carried P took ps) where
    pub sent-closest : Along (Closest ac.u (line_measure ac)) took (symbols_from ac.u 0 0 (take (length took) sent))
    sent-closest =
        let ns = take (length took) sent in
        serves-closest ac (agreed-sent ac sent ps s k) P S took (symbols_from ac.u 0 0 ns) (allowed-valid ac.u 0 (symbols_from ac.u 0 0 ns) (symbols-allowed ac.u 0 0 ns))
        (carried-along ac P 0 0 sent took (subst (Carried P took) (sent-written ac sent ps s k) c))

    module _ (w : ℕ) (b : Start) (z : StartsAtZero b) where
      answered : Fine (told_of ac w b took) → (speaker_of (told_of ac w b took)).answered (reverse took) ≡ take (length took) (as_heard (start_of b) sent)
      answered f =
          trellis.round_trip ac.u (line_measure ac) (line_choice ac) (line-chooses ac) (start_of b) f.good_start 0 (omega arith) z took
          (take (length took) sent) (every_take (λ n. is_word ac.u n ≡ true) (length took) sent (accepted ac sent ps s k)) sent-closest
          ∙ heard-take (start_of b) (length took) sent

      pub served-back : (ws : List ℕ) → Ended ac w b took ws → ws ≡ take (length took) (as_heard (start_of b) sent)
      served-back ws e = answers ac w b took ws e ∙ answered (ended-fine ac w b took ws e)

      pub served-begins : (ws : List ℕ) (rx : Receiver) → Talk ac w b took ws rx → IsPrefix ws (as_heard (start_of b) sent)
      served-begins ws rx t =
          let f = follows ac w b took ws rx t in
          let all = as_heard (start_of b) sent in
          rw f.said (prefix_trans ((speaker_of (told_of ac w b took)).spoken (reverse took)) (take (length took) all) all
          (subst (IsPrefix ((speaker_of (told_of ac w b took)).spoken (reverse took))) (answered f.fine) ((speaks (told_of ac w b took) f.fine).within (reverse took)))
          (drop (length took) all, take-append-drop (length took) all))

-- ---- a clean line

-- four coordinates to a symbol, and a symbol to a word
symbols-many : (ac : Accord) (s q : ℕ) (ns : List ℕ) → length (symbols_of (all_on_line (sender.coordinates_of ac (symbols_from ac.u s q ns)))) ≡ length ns
unfolding symbols_from four
symbols-many ac s q [] = refl
symbols-many ac s q (n ∷ ns) = let c = symbol_of ac.u s q n in ap suc (symbols-many ac (next_state s c.i1 c.i2) (first_label c) ns)

take-many : {A B : Type 0} (m : ℕ) (xs : List A) (ys : List B) → length xs ≡ length ys → take (length (take m xs)) ys ≡ take m ys
take-many zero xs ys e = refl
take-many (suc m) [] [] e = refl
take-many (suc m) [] (y ∷ ys) e = absurd (omega arith)
take-many (suc m) (x ∷ xs) [] e = absurd (omega arith)
take-many {B = B} (suc m) (x ∷ xs) (y ∷ ys) e = ap (λ (l : List B). y ∷ l) (take-many m xs ys (omega arith))

module _ (ac : Accord) (sent : List ℕ) (ps : List ℤ) (s : Sender) (k : sender.Talk ac sent ps s) where
  pub clean-many : length (symbols_of (all_on_line ps)) ≡ length sent
  clean-many = ap (λ (l : List ℤ). length (symbols_of (all_on_line l))) (sent-written ac sent ps s k) ∙ symbols-many ac 0 0 sent

  clean_all : Carried (Near 0) (symbols_of (all_on_line ps)) ps
  clean_all = subst (λ (l : List ℤ). Carried (Near 0) (symbols_of (all_on_line l)) l) (sym (sent-written ac sent ps s k)) (clean-carried ac (symbols_from ac.u 0 0 sent))

  -- the first m of what is heard then
  clean-first : (m : ℕ) → Carried (Near 0) (take m (symbols_of (all_on_line ps))) ps
  clean-first m =
      let rs = symbols_of (all_on_line ps) in
      carried-front (Near 0) (take m rs) (drop m rs) ps (subst (λ (l : List (Two Received)). Carried (Near 0) l ps) (sym (take-append-drop m rs)) clean_all)

  zero-off : Serves ac (Near 0)
  zero-off = near-serves ac (agreed-sent ac sent ps s k) 0 (omega arith)

  module _ (w : ℕ) (b : Start) (z : StartsAtZero b) (m : ℕ) where
    pub clean_back : (ws : List ℕ) → Ended ac w b (take m (symbols_of (all_on_line ps))) ws → ws ≡ take m (as_heard (start_of b) sent)
    clean_back ws e =
        let rs = take m (symbols_of (all_on_line ps)) in
        served-back ac sent ps s k (Near 0) zero-off rs (clean-first m) w b z ws e ∙ sym (heard-take (start_of b) (length rs) sent)
        ∙ ap (as_heard (start_of b)) (take-many m (symbols_of (all_on_line ps)) sent clean-many) ∙ heard-take (start_of b) m sent

    pub clean-begins : (ws : List ℕ) (rx : Receiver) → Talk ac w b (take m (symbols_of (all_on_line ps))) ws rx → IsPrefix ws (as_heard (start_of b) sent)
    clean-begins = served-begins ac sent ps s k (Near 0) zero-off (take m (symbols_of (all_on_line ps))) (clean-first m) w b z
