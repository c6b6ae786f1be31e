-- DEMAND 1, its numbers. "Each refusal's number is reached by a computed case and is given exactly when 01 says"; 02, Wish 6: 7 leaves the
-- table, and no run is overlong.
--
-- When 01 gives each number is written in specs/Table, one type for each door, the tests in their order. Each theorem here says of any
-- result that a door's promise allows: the number is k exactly if the table gives k.
--   sender-opens, sends            the sender's opening: 1; sending a word to an end: 9, 4, 8
--   sends-list                     sending a list to an end: 9, then 4, 8 for the first word that is refused
--   list-empty, list-shut          an empty list to an open sender is a 0, any list to a closed one a 9; neither changes anything
--   receiver-opens                 the receiver's opening: 1, 2, 3
--   hears, finishes                a piece and a finish for a receiver that has been told something: 10, then 5, 6, 8 for the first
--                                  symbol that is refused; 8 at a finish
--   hears-nine, finishes-nine      9 exactly if the end is closed; an end is closed or has been told something (`end_known`)
--   however-many                   a good symbol that the window holds, with room for its words, is taken, whatever came before it
--   never-seven                    no reason of the receiver has the number 7
--   sends-left, list_left, list-none, opens-left, finishes-left   what a refusal leaves behind; of a list, the places behind what was written,
--                                  and all where no word was sent
-- Every number is reached by a computed case (proofs/Reached). That for every n calls give an end with n symbols taken, which takes
-- another, is proved in proofs/History (`no_last`).
use mathlib.Core.Path.{◌≡◌, refl, sym, ap, subst, ◌∙◌}
use mathlib.Core.Bool.{true, false}
use mathlib.Core.Logic.{◌↔◌, ⊎_elim}
use mathlib.Core.List.{List, [], ◌∷◌, ◌++◌, reverse}
use Prim.Native.Nat.{ℕ, ◌-◌, ◌*◌, ◌≤◌}
use native.Mathlib.Omega.{arith}
use lib.IntN.{ℤ}
use lib.ListN.{length, take, drop}
use Rattle.points.specs.declared.Accord.{Accord}
use Rattle.trellis.specs.Measure.{Two}
use Rattle.nearest.specs.declared.Received.{Received}
use Rattle.nearest.specs.Line.{BothInRange}
use Rattle.calls.specs.Calls.{fresh}
use Rattle.receiver_meaning.specs.Told.{Told, speaker_of, pending_after, judge_symbol, Fine}
use Rattle.reasons.specs.Reason.{Reason, reason, given_of}
use Rattle.sender.specs.declared.Sender.{Sender}
use Rattle.sender.specs.declared.Sent.{Sent}
use Rattle.sender.specs.declared.SentList.{SentList}
use Rattle.sender.specs.Send as sender
use Rattle.sender.specs.SendList.{GivenList}
use Rattle.sender.specs.Promise as sender-promise
use Rattle.sender.proofs.Exactly.{refused-keeps}
use Rattle.sender.proofs.Sound.{end-sound}
use Rattle.sender.proofs.Lists.{list_open, list-nine, list-kept}
use Rattle.openings.specs.declared.Start.{Start}
use Rattle.openings.specs.declared.Opened.{Opened}
use Rattle.receiver.specs.declared.Answer.{Answer}
use Rattle.openings.specs.Opening.{Receiver, shut, machine_of, Opens}
use Rattle.openings.proofs.Openings.{shut-live}
use Rattle.receiver.proofs.Left.{shut-hears, shut-finishes}
use Rattle.promises.proofs.Ends.{Known, end_known, known-live}
pub use Rattle.openings.proofs.Openings.{opens-left}
pub use Rattle.receiver.proofs.Left.{finishes-left}
pub use Rattle.reasons.proofs.Apart.{never-seven}
use Rattle.receiver_meaning.specs.Piece.{Piece}
use Rattle.receiver.specs.Doors.{Ran, stopped, hearing, finishing}
use Rattle.promises.specs.End.{End}
use Rattle.receiver_meaning.specs.Owed.{finish_owed}
use Rattle.receiver.specs.Promise.{Hears, Finishes}
use Rattle.promises.specs.Table as table
use Rattle.promises.proofs.Listed.{list-case, list-is, list-behind, all-empty}
use Rattle.promises.proofs.Numbers.{sender-opening-case, sender-opening-is, sending-case, sending-is}
use Rattle.promises.proofs.Numbers.{opening-case, opening-is, said-is, piece-case, piece-one, finish-case, finish-is, apart}

-- ---- the sender

pub sender-opens : (ac : Accord) (r : Sent) → sender-promise.Opens ac r → (k : ℕ) → (sender.number_of r.why ≡ k) ↔ table.SenderOpens ac k
sender-opens ac r p k = (λ e. subst (table.SenderOpens ac) (sym p.number ∙ e) (sender-opening-case ac), λ h. p.number ∙ sender-opening-is ac k h)

module _ (s : Sender) (n : ℕ) (out : List ℤ) (r : Sent) (o : List ℤ) (p : sender-promise.Sends s n out r o) where
  pub sends : sender.End s → (k : ℕ) → (sender.number_of r.why ≡ k) ↔ table.SendGives s n out k
  sends e k = (λ z. subst (table.SendGives s n out) (sym p.number ∙ z) (sending-case s e n out), λ h. p.number ∙ sending-is s e n out k h)

  pub sends-left : (sender.number_of r.why ≡ 0 → ⊥) → (r.sender ≡ s) × (o ≡ out)
  sends-left z = let k = refused-keeps s n out (λ e. z (p.number ∙ e)) in (p.sender ∙ k.0, p.output ∙ k.1)

module _ (s : Sender) (ns : List ℕ) (out : List ℤ) (r : SentList) (o : List ℤ) (p : sender-promise.SendsList s ns out r o) where
  pub sends-list : sender.End s → (k : ℕ) → (sender.number_of r.why ≡ k) ↔ table.ListGives s ns out r.sent k
  sends-list e k = (
    λ z. rw (p.sent, sym (sym p.number ∙ z)) (list-case s e ns out),
    λ h. p.number ∙ list-is s e ns out r.sent k p.sent h,
  )

  -- "writes four coordinates for each after those already written": all else of the output is as it was lent; where no word was sent the
  -- sender is as it was too
  pub list_left : drop (4 * r.sent) o ≡ drop (4 * r.sent) out
  list_left = rw (p.sent, p.output) (list-behind s ns out)

  pub list-none : r.sent ≡ 0 → (r.sender ≡ s) × (o ≡ out)
  list-none z = (p.sender ∙ list-kept s ns out (sym p.sent ∙ z), subst (λ (k : ℕ). drop (4 * k) o ≡ drop (4 * k) out) z list_left)

-- "An empty list to an open sender sends nothing and answers 0, to a closed one 9" (02, Wish 1)
module _ (s : Sender) (e : sender.End s) (out : List ℤ) (r : SentList) (o : List ℤ) where
  -- the number k, no word sent, and all as before
  abbrev NoneSent : ℕ → Type 0
  NoneSent k = (sender.number_of r.why ≡ k) × (r.sent ≡ 0) × (r.sender ≡ s) × (o ≡ out)

  pub list-empty : s.live ≡ true → sender-promise.SendsList s [] out r o → NoneSent 0
  list-empty l p =
      let g = list_open s [] out (end-sound s e l) ∙ all-empty s out in
      let n : r.sent ≡ 0 = p.sent ∙ ap (λ (x : GivenList). x.sent) g in
      let k = list-none s [] out r o p n in
      (p.number ∙ ap (λ (x : GivenList). x.number) g, n, k.0, k.1)

  pub list-shut : s.live ≡ false → (ns : List ℕ) → sender-promise.SendsList s ns out r o → NoneSent 9
  list-shut l ns p =
      let g = list-nine s ns out (rw l) in
      let n : r.sent ≡ 0 = p.sent ∙ ap (λ (x : GivenList). x.sent) g in
      let k = list-none s ns out r o p n in
      (p.number ∙ ap (λ (x : GivenList). x.number) g, n, k.0, k.1)

-- ---- the receiver's opening

module _ (ac : Accord) (w : ℕ) (b : Start) (r : Opened) (p : Opens ac w b r) where
  pub receiver-opens : (k : ℕ) → ((given_of r.why).number ≡ k) ↔ table.ReceiverOpens ac w b k
  receiver-opens k = (λ e. subst (table.ReceiverOpens ac w b) (sym p.owed ∙ e) (opening-case ac w b), λ h. p.owed ∙ opening-is ac w b k h)

-- ---- a piece and a finish

module _ (t : Told) (f : Fine t) (rx : Receiver) (m : rx ≡ machine_of t) (out : List ℕ) (r : Answer) (o : List ℕ) where
  pub hears : (q : Piece) → Hears rx q out r o → (g : Reason) → (given_of r.why ≡ g) ↔ table.PieceGives t q (length out) r.taken r.written g
  hears q p g =
      let w = p.owed t f m in
      let c : table.PieceGives t q (length out) r.taken r.written (given_of r.why) =
      rw (w.given, w.taken, w.written) (piece-case t q (length out)) in
      (λ e. subst (table.PieceGives t q (length out) r.taken r.written) e c, λ h. piece-one t q (length out) r.taken r.written (given_of r.why) g c h)

  pub finishes : Finishes rx out r o → (k : ℕ) → ((given_of r.why).number ≡ k) ↔ table.FinishGives t (length out) k
  finishes p k =
      let e : (given_of r.why).number ≡ (finish_owed t (length out)).reason.number = ap (λ (x : Reason). x.number) (p.owed t f m).given in
      (λ z. subst (table.FinishGives t (length out)) (sym e ∙ z) (finish-case t (length out)), λ h. e ∙ finish-is t (length out) k h)

-- no table of an open receiver has a 9
said-open : (t : Told) (ys : List (Two Received)) (y : Two Received) (room : ℕ) (g : Reason) → table.SymbolGives t ys y room g → g.number ≡ 9 → ⊥
said-open t ys y room g (table.SymbolGives.five i) e = omega arith
said-open t ys y room g (table.SymbolGives.six i j) e = omega arith
said-open t ys y room g (table.SymbolGives.eight i j k) e = omega arith
said-open t ys y room g (table.SymbolGives.taken i j k) e = omega arith

hears-open : (t : Told) (q : Piece) (room m n : ℕ) (g : Reason) → table.PieceGives t q room m n g → g.number ≡ 9 → ⊥
hears-open t q room m n g (table.PieceGives.ten a b c) e = omega arith
hears-open t q room m n g (table.PieceGives.whole a b c) e = omega arith
hears-open t q room m n g (table.PieceGives.stopped a y later d k g' z s) e = said-open t (reverse (take m q.symbols) ++ t.heard) y (room - n) g s e

finishes-open : (t : Told) (room k : ℕ) → table.FinishGives t room k → k ≡ 9 → ⊥
finishes-open t room k (table.FinishGives.eight h) e = omega arith
finishes-open t room k (table.FinishGives.done h) e = omega arith

module _ (rx : Receiver) (e : End rx) (out : List ℕ) (r : Answer) (o : List ℕ) where
  pub hears-nine : (q : Piece) → Hears rx q out r o → ((given_of r.why).number ≡ 9) ↔ (rx.live ≡ false)
  hears-nine q p = ⊎_elim closed going (end_known rx e)
    where
      closed : rx ≡ shut → ((given_of r.why).number ≡ 9) ↔ (rx.live ≡ false)
      closed z = (
        λ _. ap (λ (x : Receiver). x.live) z ∙ shut-live,
        λ _. ap (λ (g : Reason). g.number) (p.always.given ∙ ap (λ (x : Ran). given_of x.why) (ap (λ (k : Receiver). hearing k q (length out)) z ∙ shut-hears q (length out))),
      )

      going : Known rx → ((given_of r.why).number ≡ 9) ↔ (rx.live ≡ false)
      going k = (
        λ z. absurd (hears-open k.told q (length out) r.taken r.written (given_of r.why) ((hears k.told k.fine rx k.machine out r o q p (given_of r.why)).0 refl) z),
        λ z. absurd (apart rx.live (known-live rx k) z),
      )

  pub finishes-nine : Finishes rx out r o → ((given_of r.why).number ≡ 9) ↔ (rx.live ≡ false)
  finishes-nine p = ⊎_elim closed going (end_known rx e)
    where
      closed : rx ≡ shut → ((given_of r.why).number ≡ 9) ↔ (rx.live ≡ false)
      closed z = (
        λ _. ap (λ (x : Receiver). x.live) z ∙ shut-live,
        λ _. ap (λ (g : Reason). g.number) (p.always.given ∙ ap (λ (x : Ran). given_of x.why) (ap (λ (q : Receiver). finishing q (length out)) z ∙ shut-finishes (length out))),
      )

      going : Known rx → ((given_of r.why).number ≡ 9) ↔ (rx.live ≡ false)
      going k = (
        λ z. absurd (finishes-open k.told (length out) (given_of r.why).number ((finishes k.told k.fine rx k.machine out r o p (given_of r.why).number).0 refl) z),
        λ z. absurd (apart rx.live (known-live rx k) z),
      )

-- ---- no run is overlong

pub however-many : (t : Told) (ys : List (Two Received)) (y : Two Received) (room : ℕ) → BothInRange y → pending_after t (y ∷ ys) ≤ t.window →
    length (fresh (speaker_of t) ys y) ≤ room → judge_symbol t ys y room ≡ reason 0
however-many t ys y room r h k = said-is t ys y room (reason 0) (table.SymbolGives.taken r h k)
