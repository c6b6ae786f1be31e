-- 02, WISH 10. "We want it shown that with a free start, and if no second symbol sequence has an equally small sum, turning every received
-- point by the same number of quarter turns leaves every word the same after finish. It holds for runs where neither receiver refused a
-- symbol. Release times may differ where sums tie on the way, and nothing is claimed of runs with several nearest sequences. Show the same
-- for the sender: turned points form an allowed sequence again, from a start state that may be another one." 02, Wish 11: "Wish 10 holds
-- here for I1, I2 and I3 only, since w changes under a turn": that is `SameWords` (turn_meaning/specs/Same).
--
-- `Ended ac v Free took ws` (specs/Talk) is any run of a receiver with a free start and the window v, cut as it may be, with marks or without,
-- in which the symbols `took` were taken, and after a finish the words are ws. The second receiver, of the same accord and any window, took
-- these symbols turned. `Alone` (turn_meaning/specs/Alone) is the condition. Lists are in the order of time.
--   quarter-turn     the words after finish are the same
--   turned-in-range  what is turned is in range again, so it is never a 5; turned coordinates make it: `piece-turned`
--   clean_line       on a clean line the condition holds
--   sender-turned    turned points of a sender form an allowed sequence again
--   condition-needed with two nearest sequences the words can differ
--   release-differs  a clean line where turned points are released later
use mathlib.Core.Path.{◌≡◌, refl, sym, ap, ap₂, subst, subst₂, ◌∙◌}
use mathlib.Core.Bool.{true}
use mathlib.Core.List.{List, [], ◌∷◌, map, reverse, reverse-reverse}
use Prim.Native.Nat.{ℕ, zero, suc}
use native.Mathlib.Omega.{arith}
use lib.IntN.{ℤ, neg_ℤ}
use lib.ListN.{replicate}
use Rattle.wei.specs.State.{next_state}
use Rattle.wei.specs.Word.{unpacked}
use Rattle.wei.specs.Label.{second_label}
use Rattle.wei.specs.Symbol.{Symbol, last_label, AllowedFrom, symbol_of, symbols_from}
use Rattle.points.specs.declared.Accord.{Accord}
use Rattle.points.specs.declared.Point.{Point}
use Rattle.points.specs.Agreed.{is_accord, of_width}
use Rattle.points.specs.Points.{coordinates, a_point}
use Rattle.points.specs.Turn.{point_of}
use Rattle.maps.specs.PointMap.{first_at, second_at}
use Rattle.trellis.specs.Lists.{Every}
use Rattle.trellis.specs.Measure.{free, Two}
use Rattle.trellis.proofs.Lists.{every-reverse}
use Rattle.trellis.proofs.Words.{symbols-allowed}
use Rattle.trellis.proofs.IvEight.{allowed-valid}
use Rattle.nearest.specs.declared.Received.{Received}
use Rattle.nearest.specs.Line.{BothInRange, line_measure}
use Rattle.receiver_meaning.specs.Told.{Told, code_of, FineList}
use Rattle.receiver_meaning.specs.Piece.{symbols_of}
use Rattle.openings.specs.declared.Start.{Start}
use Rattle.openings.specs.declared.Start.TheVariants.{Free}
use Rattle.openings.specs.Opening.{Receiver}
use Rattle.sender.specs.declared.Sender.{Sender}
use Rattle.sender.specs.Send.{four}
use Rattle.sender.specs.Run as sender
use Rattle.sender.proofs.Run.{ran}
use Rattle.turn_meaning.specs.Alone.{Alone}
use Rattle.turn_meaning.specs.Turned.{times, turned_by, coordinates_turned, start_turned}
use Rattle.turn_meaning.specs.Same.{SameWords}
pub use Rattle.turn_meaning.proofs.Pieces.{piece-turned}
pub use Rattle.turn_meaning.proofs.Examples.{several, w-changes}
use Rattle.turn_meaning.proofs.Line.{in-range, answer-turned}
use Rattle.turn_meaning.proofs.Sent.{sent_turned, first-at, second_at_lem, allowed-from, start-turned, start-below}
use Rattle.turn_meaning.proofs.Closest.{closest-alone}
use Rattle.turn_meaning.proofs.Examples.{halfway, eight, words-differ, fewer-released}
use Rattle.promises.specs.Talk.{Talk, Ended}
use Rattle.promises.specs.Clean.{all_on_line}
use Rattle.promises.proofs.Follows.{told_of, follows, ended-fine, answers}
use Rattle.promises.proofs.Clean.{agreed-sent}
use Rattle.promises.proofs.Carried.{sent-written, clean-closest}

-- ---- the receiver

module _ (ac : Accord) (v w k : ℕ) (took : List (Two Received)) (ws vs : List ℕ) where
  pub quarter-turn : Alone (code_of ac free) (reverse took) → Ended ac v Free took ws → Ended ac w Free (map (turned_by k) took) vs →
      SameWords ac.map vs ws
  quarter-turn A d e =
      subst₂ (SameWords ac.map) (sym (answers ac w Free (map (turned_by k) took) vs e)) (sym (answers ac v Free took ws d))
      (answer-turned ac (ended-fine ac v Free took ws d).agreed k took A)

-- ---- in range again

all-good : (t : Told) (ys : List (Two Received)) → FineList t ys → Every BothInRange ys
all-good t [] f = tt
all-good t (y ∷ ys) f = (f.0, all-good t ys f.2)

all-turned : (k : ℕ) (ys : List (Two Received)) → Every BothInRange ys → Every BothInRange (map (turned_by k) ys)
all-turned k [] g = tt
all-turned k (y ∷ ys) g = (in-range k y g.0, all-turned k ys g.1)

pub turned-in-range : (ac : Accord) (w k : ℕ) (b : Start) (took : List (Two Received)) (ws : List ℕ) (rx : Receiver) → Talk ac w b took ws rx →
    Every BothInRange (map (turned_by k) took)
turned-in-range ac w k b took ws rx t =
    let f = (follows ac w b took ws rx t).fine in
    let g = every-reverse BothInRange (reverse took) (all-good (told_of ac w b took) (reverse took) f.each) in
    all-turned k took (subst (Every BothInRange) (reverse-reverse took) g)

-- ---- a clean line

heard-cleanly : (ac : Accord) → is_accord ac ≡ true → (sent : List ℕ) →
    Alone (code_of ac free) (reverse (symbols_of (all_on_line (sender.coordinates_of ac (symbols_from ac.u 0 0 sent)))))
heard-cleanly ac g sent =
    let cs = symbols_from ac.u 0 0 sent in
    let a = symbols-allowed ac.u 0 0 sent in
    closest-alone ac.u (line_measure ac) free 0 (omega arith) tt (symbols_of (all_on_line (sender.coordinates_of ac cs))) cs
    (clean-closest ac g cs (allowed-valid ac.u 0 cs a)) a

pub clean_line : (ac : Accord) (sent : List ℕ) (ps : List ℤ) (s : Sender) → sender.Talk ac sent ps s →
    Alone (code_of ac free) (reverse (symbols_of (all_on_line ps)))
clean_line ac sent ps s t =
    subst (λ (l : List ℤ). Alone (code_of ac free) (reverse (symbols_of (all_on_line l)))) (sym (sent-written ac sent ps s t))
    (heard-cleanly ac (agreed-sent ac sent ps s t) sent)

-- ---- the sender

-- the coordinates ps, k quarter turns later, are those of symbols that are allowed from the turned start
pub record TurnedRun (ac : Accord) (k : ℕ) (ps : List ℤ) : Type 0 where
  pub symbols : List Symbol
  pub allowed : AllowedFrom ac.u (start_turned k) symbols
  pub points : sender.coordinates_of ac symbols ≡ times coordinates_turned k ps

points-once : (ac : Accord) (g : is_accord ac ≡ true) (s : ℕ) (cs : List Symbol) → AllowedFrom ac.u s cs →
    sender.coordinates_of ac (map (sent_turned ac g) cs) ≡ coordinates_turned (sender.coordinates_of ac cs)
unfolding four
points-once ac g s [] a = refl
points-once ac g s (c ∷ cs) a =
    let p = first_at ac c in
    let q = second_at ac c in
    ap₂ (λ (x y : Point). x.x ∷ x.y ∷ y.x ∷ y.y ∷ sender.coordinates_of ac (map (sent_turned ac g) cs))
    (first-at ac g c a.0.valid) (second_at_lem ac g c a.0.valid)
    ∙ ap (λ (l : List ℤ). p.y ∷ neg_ℤ p.x ∷ q.y ∷ neg_ℤ q.x ∷ l) (points-once ac g (next_state s c.i1 c.i2) cs a.1)

pub sender-turned : (ac : Accord) (sent : List ℕ) (ps : List ℤ) (s : Sender) → sender.Talk ac sent ps s → (k : ℕ) → TurnedRun ac k ps
sender-turned ac sent ps s t zero =
    let r = ran ac sent ps s t in
    record { symbols = r.symbols; allowed = r.allowed; points = sym r.written }
sender-turned ac sent ps s t (suc k) =
    let r = sender-turned ac sent ps s t k in
    let g = agreed-sent ac sent ps s t in
    let cs = map (sent_turned ac g) r.symbols in
    let a = allowed-from ac g (start_turned k) r.symbols (start-below k) r.allowed in
    record {
      symbols = cs;
      allowed = subst (λ (n : ℕ). AllowedFrom ac.u n cs) (start-turned k) a;
      points = points-once ac g (start_turned k) r.symbols r.allowed ∙ ap coordinates_turned r.points;
    }

-- ---- what is not claimed

-- "nothing is claimed of runs with several nearest sequences": here are two, and the words differ
pub condition-needed : (v w : ℕ) (ws vs : List ℕ) → Ended (of_width 0) v Free halfway ws →
    Ended (of_width 0) w Free (map (turned_by 1) halfway) vs → (ws ≡ 1 ∷ 0 ∷ []) × (vs ≡ 0 ∷ 2 ∷ [])
condition-needed v w ws vs d e = (
  answers (of_width 0) v Free halfway ws d ∙ words-differ.0,
  answers (of_width 0) w Free (map (turned_by 1) halfway) vs e ∙ words-differ.1,
)

-- "Release times may differ where sums tie on the way": of eight words 0 on a clean line three are released, one after a quarter turn
pub release-differs : (v w : ℕ) (ws vs : List ℕ) (rx ry : Receiver) → Talk (of_width 0) v Free eight ws rx →
    Talk (of_width 0) w Free (map (turned_by 1) eight) vs ry → (ws ≡ replicate 3 0) × (vs ≡ replicate 1 0)
release-differs v w ws vs rx ry d e = (
  (follows (of_width 0) v Free eight ws rx d).said ∙ fewer-released.0,
  (follows (of_width 0) w Free (map (turned_by 1) eight) vs ry e).said ∙ fewer-released.1,
)

eight-clean : symbols_of (all_on_line (sender.coordinates_of (of_width 0) (symbols_from 0 0 0 (replicate 8 0)))) ≡ eight
unfolding four symbols_from symbol_of unpacked next_state last_label second_label first_at second_at point_of a_point coordinates
eight-clean = refl

pub eight-alone : Alone (code_of (of_width 0) free) (reverse eight)
eight-alone =
    subst (λ (l : List (Two Received)). Alone (code_of (of_width 0) free) (reverse l)) eight-clean (heard-cleanly (of_width 0) refl (replicate 8 0))
