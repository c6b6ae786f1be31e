-- 02, WISH 9. "The records clerk's tool relied on 64, so that its first 64 symbols were never refused with 6; it must name it now." What a
-- window of w promises, whatever w is: 32 for a plain opening, 64 for one that is named so.
--   never-six       none of the first w good symbols is answered with a 6
--   first-ones      a run stops at a 6 only when w symbols have been taken
use mathlib.Core.Path.{◌≡◌, refl}
use mathlib.Core.List.{List, ◌++◌, reverse}
use Prim.Native.Nat.{ℕ, ◌+◌, ◌-◌, ◌≤◌, ◌<◌}
use native.Mathlib.Omega.{arith}
use lib.ListN.{length, take, length-append, length-reverse, length-take}
use Rattle.points.specs.declared.Accord.{Accord}
use Rattle.trellis.specs.Measure.{Two}
use Rattle.nearest.specs.declared.Received.{Received}
use Rattle.reasons.specs.Reason.{Reason, given_of}
use Rattle.receiver_meaning.specs.Told.{Told, judge_symbol}
use Rattle.receiver_meaning.specs.Piece.{Piece}
use Rattle.openings.specs.declared.Start.{Start}
use Rattle.openings.specs.Opening.{Receiver}
use Rattle.receiver.specs.declared.Answer.{Answer}
use Rattle.receiver.specs.Promise.{Hears}
use Rattle.promises.specs.Talk.{Talk}
use Rattle.promises.specs.Table as table
use Rattle.promises.proofs.Numbers.{said-case}
use Rattle.promises.proofs.Follows.{told_of, follows}
use Rattle.promises.proofs.Demand1.{hears}

six-late : (t : Told) (ys : List (Two Received)) (y : Two Received) (room : ℕ) (g : Reason) → table.SymbolGives t ys y room g → g.number ≡ 6 → t.window ≤ length ys
six-late t ys y room g (table.SymbolGives.five a) e = absurd (omega arith)
six-late t ys y room g (table.SymbolGives.six a b) e = omega arith
six-late t ys y room g (table.SymbolGives.eight a b c) e = absurd (omega arith)
six-late t ys y room g (table.SymbolGives.taken a b c) e = absurd (omega arith)

pub never-six : (t : Told) (ys : List (Two Received)) (y : Two Received) (room : ℕ) → length ys < t.window → (judge_symbol t ys y room).number ≡ 6 → ⊥
never-six t ys y room h e = omega (arith, six-late t ys y room (judge_symbol t ys y room) (said-case t ys y room) e)

pub first-ones : (ac : Accord) (w : ℕ) (b : Start) (took : List (Two Received)) (ws : List ℕ) (rx : Receiver) → Talk ac w b took ws rx →
    (q : Piece) (out : List ℕ) (r : Answer) (o : List ℕ) → Hears rx q out r o → (given_of r.why).number ≡ 6 → w ≤ length took + r.taken
first-ones ac w b took ws rx k q out r o h e =
    let f = follows ac w b took ws rx k in
    go (given_of r.why) ((hears (told_of ac w b took) f.fine rx f.machine out r o q h (given_of r.why)).0 refl) e
  where
    go : (g : Reason) → table.PieceGives (told_of ac w b took) q (length out) r.taken r.written g → g.number ≡ 6 → w ≤ length took + r.taken
    go g (table.PieceGives.ten a x y) z = absurd (omega arith)
    go g (table.PieceGives.whole a x y) z = absurd (omega arith)
    go g (table.PieceGives.stopped a y later d s g' n c) z =
        omega (
          arith,
          six-late (told_of ac w b took) (reverse (take r.taken q.symbols) ++ reverse took) y (length out - r.written) g c z,
          length-append (reverse (take r.taken q.symbols)) (reverse took),
          length-reverse (take r.taken q.symbols),
          length-reverse took,
          length-take r.taken q.symbols,
        )
