-- DEMAND 1: "A refused symbol .. leaves the state and the lent output as they stood." What a piece leaves behind.
--   hears-left      the receiver has been told exactly the symbols taken more, and the output beyond the words written is unchanged
--   hears-refused   where no symbol was taken (a 9, a 10, or the first symbol refused) nothing was written, and all is as it was
use mathlib.Core.Path.{◌≡◌, refl, sym, ap, subst, ◌∙◌}
use mathlib.Core.List.{List, [], ◌∷◌, ◌++◌, reverse}
use mathlib.Core.Logic.{⊎_elim}
use Prim.Native.Nat.{ℕ}
use native.Mathlib.Omega.{arith}
use lib.ListN.{length, take, drop}
use lib.Seq.{drop_at}
use Rattle.trellis.specs.Measure.{Two}
use Rattle.nearest.specs.declared.Received.{Received}
use Rattle.reasons.specs.Reason.{Reason, given_of}
use Rattle.receiver_meaning.specs.Told.{Told, with_heard, Fine}
use Rattle.receiver_meaning.specs.Piece.{Piece}
use Rattle.receiver_meaning.specs.Owed.{piece_owed}
use Rattle.receiver_meaning.proofs.Cases.{piece-cases}
use Rattle.openings.specs.Opening.{Receiver, shut, machine_of}
use Rattle.receiver.specs.declared.Answer.{Answer}
use Rattle.receiver.specs.Doors.{Ran, hearing}
use Rattle.receiver.specs.Promise.{Hears}
use Rattle.receiver.proofs.Left.{shut-hears}
use Rattle.promises.specs.End.{End}
use Rattle.promises.specs.Table as table
use Rattle.promises.proofs.Ends.{Known, end_known}
use Rattle.promises.proofs.Numbers.{heard-then}
use Rattle.promises.proofs.Demand1.{hears}

-- the words stand in front, and behind them all is as before
behind : (ws out o : List ℕ) (n : ℕ) → n ≡ length ws → o ≡ ws ++ drop (length ws) out → drop n o ≡ drop n out
behind ws out o n e f = ap (drop n) f ∙ drop_at ws (drop (length ws) out) n (sym e) ∙ ap (λ (m : ℕ). drop m out) (sym e)

-- what the receiver has been told after the first m symbols of a piece
abbrev pub told_more : Told → Piece → ℕ → Told
told_more t q m = with_heard t (reverse (take m q.symbols) ++ t.heard)

told-after : (t : Told) (q : Piece) (room : ℕ) → (piece_owed t q room).told ≡ told_more t q (piece_owed t q room).taken
told-after t q room =
    piece-cases t q room (λ d. d.told ≡ told_more t q d.taken) (λ _. ap (with_heard t) (heard-then t t.heard q.symbols room)) (λ _. refl)

module _ (t : Told) (f : Fine t) (rx : Receiver) (m : rx ≡ machine_of t) (q : Piece) (out : List ℕ) (r : Answer) (o : List ℕ) (h : Hears rx q out r o) where
  pub hears-left : (r.receiver ≡ machine_of (told_more t q r.taken)) × (drop r.written o ≡ drop r.written out)
  hears-left =
      let w = h.owed t f m in
      let d = piece_owed t q (length out) in
      (w.receiver ∙ ap machine_of (told-after t q (length out) ∙ ap (told_more t q) (sym w.taken)), behind d.words out o r.written w.written w.output)

  none_written : r.taken ≡ 0 → r.written ≡ 0
  none_written z = go (given_of r.why) ((hears t f rx m out r o q h (given_of r.why)).0 refl)
    where
      no_words : (ys zs : List (Two Received)) (room n : ℕ) → zs ≡ [] → table.Takes t ys zs room n → n ≡ 0
      no_words ys zs room n e (table.Takes.none ys' room') = refl
      no_words ys zs room n e (table.Takes.next ys' zs' y room' n' s k) = absurd (let l : ◌≡◌ {A = ℕ} (length zs) 0 = ap length e in omega arith)

      go : (g : Reason) → table.PieceGives t q (length out) r.taken r.written g → r.written ≡ 0
      go g (table.PieceGives.ten a b c) = c
      go g (table.PieceGives.whole a b k) = no_words t.heard q.symbols (length out) r.written (empty q.symbols (sym b ∙ z)) k
        where
          empty : (l : List (Two Received)) → length l ≡ 0 → l ≡ []
          empty [] e = refl
          empty (x ∷ l) e = absurd (omega arith)
      go g (table.PieceGives.stopped a y later d k g' z' s) = no_words t.heard (take r.taken q.symbols) (length out) r.written (ap (λ (n : ℕ). take n q.symbols) z) k

-- whatever the end, closed or told something
pub hears-refused : (rx : Receiver) → End rx → (q : Piece) (out : List ℕ) (r : Answer) (o : List ℕ) → Hears rx q out r o → r.taken ≡ 0 → (r.receiver ≡ rx) × (r.written ≡ 0) × (o ≡ out)
hears-refused rx e q out r o h z = ⊎_elim closed going (end_known rx e)
  where
    closed : rx ≡ shut → (r.receiver ≡ rx) × (r.written ≡ 0) × (o ≡ out)
    closed s =
        let ran = ap (λ (k : Receiver). hearing k q (length out)) s ∙ shut-hears q (length out) in (
          h.always.receiver ∙ ap (λ (x : Ran). x.receiver) ran ∙ sym s,
          h.always.written ∙ ap (λ (x : Ran). length x.words) ran,
          h.always.output ∙ ap (λ (x : Ran). x.words ++ drop (length x.words) out) ran,
        )

    going : Known rx → (r.receiver ≡ rx) × (r.written ≡ 0) × (o ≡ out)
    going k =
        let l = hears-left k.told k.fine rx k.machine q out r o h in
        let n = none_written k.told k.fine rx k.machine q out r o h z in
        (l.0 ∙ ap (λ (m : ℕ). machine_of (told_more k.told q m)) z ∙ sym k.machine, n, subst (λ (m : ℕ). drop m o ≡ drop m out) n l.1)
