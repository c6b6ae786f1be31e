-- WHAT A DROPOUT COSTS. A fresh sender's points, some of them missing, the others each heard nearer to itself than to any other point used at that
-- width and map, whatever its label. If after a symbol that misses one point comes a whole one, and after one that misses both come two whole
-- ones, then after a finish every word is the word sent but for the bits of a missing point's number, which are 0; and where both were missing,
-- bit 2 of that word and of the next. With start 0; and with a free start if the first four symbols are whole, but for bits 1 and 2 of
-- the first word, which `as_heard` clears.
--
-- `sender.Talk ac sent ps s` is any run of calls on a sender that accepted the words `sent` and wrote the coordinates ps for them; `Partly P
-- took ps` says that P holds of each received point taken that was heard and of the point sent in its place, `rested` is the rule and `fixed` what a
-- free start asks (specs/Gaps). `Ended` is any run of calls on a receiver, with marks and without them (promises/specs/Talk), cut as it may be and
-- whichever calls refuse: `took` are the symbols taken. `CameBack` says which bits are spoiled (specs/Spoiled). Nothing is said of how many symbols are pending:
-- with dropouts there is no bound (Window), so the window must hold what is taken.
--   spoiled-back, begins     no other point as near: after a finish; and before it, of the words written so far
--   noisy, noisy-begins      within 127 line units in each coordinate
--   euclid                   less than 128 line units away: squared distance below 16384
--   clean-marked             the sender's coordinates, 128 times, with marks that obey the rule
use mathlib.Core.Path.{◌≡◌, refl, sym, subst, ◌∙◌}
use mathlib.Core.Bool.{Bool, true, false}
use mathlib.Core.List.{List, [], ◌∷◌, ◌++◌, reverse, reverse-reverse}
use Prim.Native.Nat.{ℕ, ◌<◌}
use native.Mathlib.Omega.{arith}
use lib.Dec.{T, eqb→eq}
use lib.IntN.{ℤ}
use lib.ListN.{length, take}
use Rattle.wei.specs.Word.{is_word}
use Rattle.wei.specs.Symbol.{Symbol, AllowedFrom, symbols_from}
use Rattle.points.specs.declared.Accord.{Accord}
use Rattle.points.specs.declared.Point.{Point}
use Rattle.maps.specs.PointMap.{first_at, second_at}
use Rattle.trellis.specs.Code.{Path, symbols}
use Rattle.trellis.specs.Best.{Answer}
use Rattle.trellis.specs.Measure as measure
use Rattle.trellis.specs.Measure.{may_start, Two}
use Rattle.trellis.specs.Words.{first_turn, as_heard}
use Rattle.trellis.specs.Same.{same_symbol}
use Rattle.trellis.specs.Pick.{wei_search}
use Rattle.trellis.proofs.Onward.{some-answer}
use Rattle.trellis.proofs.WeiLaws.{wei-laws, wei-onward}
use Rattle.trellis.proofs.Paths.{allowed-runs}
use Rattle.trellis.proofs.IvEight.{allowed-valid}
use Rattle.trellis.proofs.Words.{symbols-allowed, words-heard, heard-take, first-turn}
use Rattle.distance.specs.declared.Spot.{Spot}
use Rattle.distance.specs.Distance.{on_line, distance}
use Rattle.nearest.specs.declared.Received.{Received}
use Rattle.nearest.specs.Line.{line_measure, line_choice}
use Rattle.nearest.proofs.Laws.{line-chooses}
use Rattle.receiver_meaning.specs.Told.{code_of, words_of}
use Rattle.receiver_meaning.specs.Piece.{point_from, first_missing, second_missing, mark_of, later_marks, symbols_with, symbols_of}
use Rattle.openings.specs.declared.Start.{Start}
use Rattle.openings.specs.Given.{start_of}
use Rattle.openings.specs.Opening.{Receiver}
use Rattle.sender.specs.declared.Sender.{Sender}
use Rattle.sender.specs.Send.{four}
use Rattle.sender.specs.Run as sender
use Rattle.promises.specs.Talk.{Talk, Ended}
use Rattle.promises.specs.Clean.{all_on_line, StartsAtZero}
use Rattle.promises.proofs.Follows.{follows}
use Rattle.promises.proofs.Demand2.{least}
use Rattle.promises.proofs.Demand3.{final}
use Rattle.promises.proofs.Clean.{agreed-sent, every_take, accepted}
use Rattle.trellis.specs.Along.{Along}
use Rattle.promises.specs.Noise.{Near, OnlyNearest, Carried}
use Rattle.promises.proofs.Carried.{sent-written, Serves, only-serves, near-serves, euclid-serves, clean-carried}
use Rattle.dropouts.specs.Gaps.{IfHeard, Partly, rested, fixed}
use Rattle.dropouts.specs.Spoiled.{CameBack}
use Rattle.dropouts.proofs.Beside.{Beside, beside-with}
use Rattle.dropouts.proofs.Agree.{Agrees, LeastAt, partly-along, partly-least, answer-agrees}
use Rattle.dropouts.proofs.Zeros.{Zeroed, answer-zeroed}
use Rattle.dropouts.proofs.States.{Kept, Matches, all-kept, all-fixed}
use Rattle.dropouts.proofs.Back.{one-turn, words_back, back_more, back-front}

-- ---- the theory: symbols ds, sent from state 0

module _ (k : Accord) (xs : List (Two Received)) (ds : List Symbol) (l : Along (LeastAt k) xs ds) (a : AllowedFrom k.u 0 ds) (r : T (rested 0 xs)) where
  kept : (b : measure.Start) → T (may_start b 0) → T (fixed b xs) → (cs : List Symbol) (s : ℕ) → s < 16 → T (may_start b s) → AllowedFrom k.u s cs → Beside Matches xs cs ds → Beside Kept xs cs ds
  kept measure.free z f cs s h m c e = all-fixed k.u s 0 h (omega arith) xs cs ds c a e f r
  kept (measure.named n) z f cs s h m c e =
      let q : s ≡ 0 = eqb→eq s n m ∙ sym (eqb→eq 0 n z) in
      all-kept k.u 0 xs cs ds (subst (λ (t : ℕ). AllowedFrom k.u t cs) q c) a e r

  module _ (b : measure.Start) (z : T (may_start b 0)) (f : T (fixed b xs)) (p : Path Symbol) (A : Answer (code_of k b) (reverse xs) p) where
    answer-kept : Beside Kept xs (symbols p) ds
    answer-kept =
        let n = allowed-runs k.u (line_measure k) b (reverse xs) p A.allowed in
        let g : Along Zeroed xs (symbols p) = subst (λ (ys : List (Two Received)). Along Zeroed ys (symbols p)) (reverse-reverse xs) (answer-zeroed k b (reverse xs) p A) in
        kept b z f (symbols p) n.from n.from-below n.from_start n.allowed
        (beside-with Agrees Zeroed xs (symbols p) ds (answer-agrees k b 0 (omega arith) z xs ds l a p A) g)

    -- the answer's words are the words of what was sent, spoiled
    pub answer_back : CameBack k.u false xs (words_of k b ds) (words_of k b (symbols p))
    answer_back =
        let n = allowed-runs k.u (line_measure k) b (reverse xs) p A.allowed in
        words_back k.u false (first_turn b) (first_turn b) (one-turn (first_turn b) (omega (arith, first-turn b))) xs (symbols p) ds
        (allowed-valid k.u n.from (symbols p) n.allowed) (allowed-valid k.u 0 ds a) answer-kept

-- ---- a clean line, with marks

-- a line that carries every point, of which some are then marked as missing
point-marked : (P : Spot → Point → Type 0) (m : Bool) (x y : ℤ) (p : Point) → P (record { x = x; y = y }) p → IfHeard P (point_from m x y) p
point-marked P true x y p h = tt
point-marked P false x y p h = h

marked-partly : (P : Spot → Point → Type 0) (k : Accord) (ms : List ℕ) (cs : List Symbol) →
    let ps = sender.coordinates_of k cs in Carried P (symbols_of (all_on_line ps)) ps → Partly P (symbols_with ms (all_on_line ps)) ps
unfolding four
marked-partly P k ms [] h = tt
marked-partly P k ms (c ∷ cs) h =
    let p = first_at k c in
    let q = second_at k c in (
      point-marked P (first_missing (mark_of ms)) (on_line p.x) (on_line p.y) p h.0,
      point-marked P (second_missing (mark_of ms)) (on_line q.x) (on_line q.y) q h.1,
      marked-partly P k (later_marks ms) cs h.2,
    )

-- ---- runs of the doors

module _ (ac : Accord) (sent : List ℕ) (ps : List ℤ) (s : Sender) (k : sender.Talk ac sent ps s) where
  module _ (P : Spot → Point → Type 0) (S : Serves ac P) (xs : List (Two Received)) (c : Partly P xs ps) where
    sent-least : Along (LeastAt ac) xs (symbols_from ac.u 0 0 (take (length xs) sent))
    sent-least =
        let ns = take (length xs) sent in
        partly-least ac (agreed-sent ac sent ps s k) P S xs (symbols_from ac.u 0 0 ns) (allowed-valid ac.u 0 (symbols_from ac.u 0 0 ns) (symbols-allowed ac.u 0 0 ns))
        (partly-along ac P 0 0 sent xs (subst (Partly P xs) (sent-written ac sent ps s k) c))

    module _ (w : ℕ) (b : Start) (z : StartsAtZero b) (r : T (rested 0 xs)) (f : T (fixed (start_of b) xs)) where
      -- of every answer
      answer-words : (p : Path Symbol) → Answer (code_of ac (start_of b)) (reverse xs) p → CameBack ac.u false xs (as_heard (start_of b) sent) (words_of ac (start_of b) (symbols p))
      answer-words p A =
          let ns = take (length xs) sent in
          let h : words_of ac (start_of b) (symbols_from ac.u 0 0 ns) ≡ take (length xs) (as_heard (start_of b) sent) =
          words-heard ac.u (start_of b) 0 ns (every_take (λ n. is_word ac.u n ≡ true) (length xs) sent (accepted ac sent ps s k)) ∙ heard-take (start_of b) (length xs) sent in
          back_more ac.u false xs (as_heard (start_of b) sent) (words_of ac (start_of b) (symbols p))
          (rw (sym h) (answer_back ac xs (symbols_from ac.u 0 0 ns) sent-least (symbols-allowed ac.u 0 0 ns) r (start_of b) z f p A))

      -- after a finish
      served : (ws : List ℕ) → Ended ac w b xs ws → CameBack ac.u false xs (as_heard (start_of b) sent) ws
      served ws e = let m = least ac w b xs ws e in rw m.words_are (answer-words m.path m.is-answer)

      -- and before it, where the symbols taken so far begin xs
      served-begins : (took zs : List (Two Received)) → took ++ zs ≡ xs → (ws : List ℕ) (rx : Receiver) → Talk ac w b took ws rx →
          CameBack ac.u false (take (length ws) xs) (as_heard (start_of b) sent) ws
      served-begins took zs e ws rx t =
          let g = (follows ac w b took ws rx t).fine.good_start in
          let (p, A) =
          some-answer (wei_search ac.u (line_measure ac) (line_choice ac) same_symbol (start_of b))
          (wei-laws ac.u (line_measure ac) (line_choice ac) (line-chooses ac) same_symbol (start_of b)) (wei-onward ac.u (line_measure ac) (start_of b) g) (reverse xs) in
          back-front ac.u false xs (as_heard (start_of b) sent) ws (words_of ac (start_of b) (symbols p))
          (final ac w b took ws rx t zs p (subst (λ (l : List (Two Received)). Answer (code_of ac (start_of b)) (reverse l) p) (sym e) A)) (answer-words p A)

  module _ (w : ℕ) (b : Start) (z : StartsAtZero b) where
    module _ (took : List (Two Received)) (r : T (rested 0 took)) (f : T (fixed (start_of b) took)) where
      -- no other point as near
      pub spoiled-back : Partly (OnlyNearest ac) took ps → (ws : List ℕ) → Ended ac w b took ws → CameBack ac.u false took (as_heard (start_of b) sent) ws
      spoiled-back c = served (OnlyNearest ac) (only-serves ac) took c w b z r f

      -- within 127 line units in each coordinate
      pub noisy : Partly (Near 127) took ps → (ws : List ℕ) → Ended ac w b took ws → CameBack ac.u false took (as_heard (start_of b) sent) ws
      noisy c = served (Near 127) (near-serves ac (agreed-sent ac sent ps s k) 127 (omega arith)) took c w b z r f

      -- less than 128 line units away
      pub euclid : Partly (λ h p. distance h p < 16384) took ps → (ws : List ℕ) → Ended ac w b took ws → CameBack ac.u false took (as_heard (start_of b) sent) ws
      euclid c = served (λ h p. distance h p < 16384) (euclid-serves ac (agreed-sent ac sent ps s k)) took c w b z r f

    -- before a finish: the symbols `took` so far, and any zs with which the line goes on by the rule
    module _ (took zs : List (Two Received)) (r : T (rested 0 (took ++ zs))) (f : T (fixed (start_of b) (took ++ zs))) where
      pub begins : Partly (OnlyNearest ac) (took ++ zs) ps → (ws : List ℕ) (rx : Receiver) → Talk ac w b took ws rx → CameBack ac.u false (take (length ws) (took ++ zs)) (as_heard (start_of b) sent) ws
      begins c = served-begins (OnlyNearest ac) (only-serves ac) (took ++ zs) c w b z r f took zs refl

      pub noisy-begins : Partly (Near 127) (took ++ zs) ps → (ws : List ℕ) (rx : Receiver) → Talk ac w b took ws rx → CameBack ac.u false (take (length ws) (took ++ zs)) (as_heard (start_of b) sent) ws
      noisy-begins c = served-begins (Near 127) (near-serves ac (agreed-sent ac sent ps s k) 127 (omega arith)) (took ++ zs) c w b z r f took zs refl

  -- nothing moved: the sender's coordinates, 128 times, with the marks ms
  pub clean-marked : (w : ℕ) (b : Start) → StartsAtZero b → (ms : List ℕ) → T (rested 0 (symbols_with ms (all_on_line ps))) → T (fixed (start_of b) (symbols_with ms (all_on_line ps))) →
      (ws : List ℕ) → Ended ac w b (symbols_with ms (all_on_line ps)) ws → CameBack ac.u false (symbols_with ms (all_on_line ps)) (as_heard (start_of b) sent) ws
  clean-marked w b z ms r f =
      served (Near 0) (near-serves ac (agreed-sent ac sent ps s k) 0 (omega arith)) (symbols_with ms (all_on_line ps))
      (subst (λ (l : List ℤ). Partly (Near 0) (symbols_with ms (all_on_line l)) l) (sym (sent-written ac sent ps s k)) (marked-partly (Near 0) ac ms (symbols_from ac.u 0 0 sent) (clean-carried ac (symbols_from ac.u 0 0 sent)))) w b z r f
