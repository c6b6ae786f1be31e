-- DEMAND 2. "For every width, start and list of good symbols, the receiver's answer is the allowed sequence with the least sum, ties by
-- 01's order; nothing else is. Round trip: a fresh sender's points for any list of accepted words, at 128 times their coordinates (and
-- as floats through `samples`), into a fresh receiver of the same width with a free start or start 0 and any window, however cut into
-- calls, none refused and the finish done, come back as the words sent." 02, Wish 5: "The clean round trip of demand 2 then excepts
-- these two bits with a free start": `as_heard` (trellis/specs/Words) clears bits 1 and 2 of the first word there, and changes nothing
-- with start 0. Wish 8: demand 2 "reads 'least sum of counted distances'", and the order of ties is its own: both are in `line_measure`
-- (nearest/specs/Line). And with no condition on refusals: "if the symbols taken are the first m of the sender's, the words written so far begin
-- the words sent, and with a finish that succeeds they are the first m." Wish 11: the round trip "is for the same map at both ends": both
-- have the one accord `ac`.
--
-- `Talk u w b took ws rx` and `Ended u w b took ws` (specs/Talk) are any runs of calls on a receiver, cut as they may be and whichever
-- calls refuse; `sender.Talk u sent ps s` (sender/specs/Run) is any run of calls on a sender that accepted the words `sent` and wrote
-- the coordinates ps for them. `symbols_of (all_on_line ps)` are these coordinates, 128 times, four to a symbol. Lists are in the order
-- of time.
--   least         after a finish that succeeded the words are those of the answer, and the answer is one
--   any-cut       so neither the window nor the cut into calls matters
--   sent-cleanly  a sender's run, heard 128 times, is heard exactly
--   round_trip    what a sender sent comes back
--   begins        with the first m symbols taken, the words written begin the words sent
--   first_back    and with a finish that succeeds they are the first m
--   as_floats     the sender's coordinates, each as an f32, are heard by the front end as the same coordinates, 128 times
use mathlib.Core.Path.{◌≡◌, sym, ap, subst, ◌∙◌}
use mathlib.Core.List.{List, reverse, IsPrefix}
use Prim.Native.Nat.{ℕ}
use native.Mathlib.Omega.{arith}
use lib.IntN.{ℤ}
use lib.ListN.{length, take}
use lib.Seq.{take_all}
use Rattle.points.specs.declared.Accord.{Accord}
use Rattle.wei.specs.Symbol.{Symbol, symbols_from}
use Rattle.trellis.specs.Code.{Path, symbols}
use Rattle.trellis.specs.Best.{Answer}
use Rattle.trellis.specs.Measure.{Two}
use Rattle.trellis.specs.Same.{same_symbol}
use Rattle.trellis.specs.Pick.{wei_search}
use Rattle.trellis.proofs.Answer.{answer-only}
use Rattle.trellis.proofs.Onward.{some-answer}
use Rattle.trellis.proofs.WeiLaws.{wei-laws, wei-onward}
use Rattle.trellis.specs.Words.{as_heard}
use Rattle.nearest.specs.declared.Received.{Received}
use Rattle.nearest.proofs.Laws.{line-chooses}
use Rattle.nearest.specs.Line.{line_measure, line_choice}
use Rattle.openings.specs.Opening.{Receiver}
use Rattle.receiver_meaning.specs.Told.{code_of, words_of}
use Rattle.openings.specs.declared.Start.{Start}
use Rattle.openings.specs.Given.{start_of}
use Rattle.receiver_meaning.specs.Piece.{symbols_of}
use Rattle.sender.specs.declared.Sender.{Sender}
use Rattle.sender.specs.Run as sender
use Rattle.sender.proofs.Run.{ran}
use Rattle.promises.specs.Talk.{Talk, Ended}
use Rattle.promises.specs.Clean.{all_on_line, cleanly, floats_heard, samples_at, StartsAtZero}
use Rattle.promises.proofs.Follows.{ended-fine, answers}
use Rattle.promises.proofs.Demand3.{whole}
use Rattle.promises.proofs.Clean.{read_back, floats, agreed-sent}
use Rattle.promises.proofs.Served.{clean-many, clean_back, clean-begins}
use Rattle.promises.proofs.Noise as noise

-- ---- the least sum

-- the words ws are those of the answer for the symbols `took`, and there is no other answer
pub record LeastWords (ac : Accord) (b : Start) (took : List (Two Received)) (ws : List ℕ) : Type 0 where
  pub path : Path Symbol
  pub is-answer : Answer (code_of ac (start_of b)) (reverse took) path
  pub only : (q : Path Symbol) → Answer (code_of ac (start_of b)) (reverse took) q → q ≡ path
  pub words_are : ws ≡ words_of ac (start_of b) (symbols path)

pub least : (ac : Accord) (w : ℕ) (b : Start) (took : List (Two Received)) (ws : List ℕ) → Ended ac w b took ws → LeastWords ac b took ws
least ac w b took ws k =
    let L = wei-laws ac.u (line_measure ac) (line_choice ac) (line-chooses ac) same_symbol (start_of b) in
    let (p, a) =
    some-answer (wei_search ac.u (line_measure ac) (line_choice ac) same_symbol (start_of b)) L
    (wei-onward ac.u (line_measure ac) (start_of b) (ended-fine ac w b took ws k).good_start) (reverse took) in
    record {
      path = p;
      is-answer = a;
      only = λ q c. answer-only (code_of ac (start_of b)) L.antisym (reverse took) q p c a;
      words_are = whole ac w b took ws k p a;
    }

pub any-cut : (ac : Accord) (v w : ℕ) (b : Start) (took : List (Two Received)) (ws vs : List ℕ) → Ended ac v b took ws → Ended ac w b took vs → ws ≡ vs
any-cut ac v w b took ws vs k l = answers ac v b took ws k ∙ sym (answers ac w b took vs l)

-- ---- a clean line: noise of 0 units

module _ (ac : Accord) (w : ℕ) (b : Start) (z : StartsAtZero b) (sent : List ℕ) (ps : List ℤ) (s : Sender) (k : sender.Talk ac sent ps s) where
  pub round_trip : (ws : List ℕ) → Ended ac w b (symbols_of (all_on_line ps)) ws → ws ≡ as_heard (start_of b) sent
  round_trip ws h =
      let rs = symbols_of (all_on_line ps) in
      clean_back ac sent ps s k w b z (length rs) ws (subst (λ (l : List (Two Received)). Ended ac w b l ws) (sym (take_all (length rs) rs (omega arith))) h)
      ∙ noise.whole b sent (length rs) (clean-many ac sent ps s k)

  pub begins : (m : ℕ) (ws : List ℕ) (rx : Receiver) → Talk ac w b (take m (symbols_of (all_on_line ps))) ws rx → IsPrefix ws (as_heard (start_of b) sent)
  begins = clean-begins ac sent ps s k w b z

  pub first_back : (m : ℕ) (ws : List ℕ) → Ended ac w b (take m (symbols_of (all_on_line ps))) ws → ws ≡ take m (as_heard (start_of b) sent)
  first_back = clean_back ac sent ps s k w b z

pub as_floats : (ac : Accord) (sent : List ℕ) (ps : List ℤ) (s : Sender) → sender.Talk ac sent ps s → floats_heard ps ≡ samples_at (all_on_line ps)
as_floats ac sent ps s k =
    let r = ran ac sent ps s k in
    subst (λ (l : List ℤ). floats_heard l ≡ samples_at (all_on_line l)) (sym r.written) (floats ac 0 r.symbols (agreed-sent ac sent ps s k) r.allowed)

-- a sender's run, heard 128 times
pub sent-cleanly : (ac : Accord) (sent : List ℕ) (ps : List ℤ) (s : Sender) → sender.Talk ac sent ps s → symbols_of (all_on_line ps) ≡ cleanly ac sent
sent-cleanly ac sent ps s k =
    let r = ran ac sent ps s k in
    ap (λ (l : List ℤ). symbols_of (all_on_line l)) (r.written ∙ ap (sender.coordinates_of ac) r.are) ∙ read_back ac (symbols_from ac.u 0 0 sent)
