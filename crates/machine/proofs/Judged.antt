-- What the machine says to a symbol is what the meaning judges: 6, 8 or 0, and with it the words and the receiver.
--   Judged t y r o       the outcome o for the symbol y is what the reason r says
--   judged               the machine's outcome is what the judge says
use mathlib.Core.Path.{◌≡◌, refl, sym, subst}
use mathlib.Core.Bool.{Bool, true, false, cond}
use mathlib.Core.List.{List, [], ◌∷◌}
use Prim.Native.Nat.{ℕ}
use native.Mathlib.Omega.{arith}
use lib.Dec.{eqb, ltb}
use lib.ListN.{length}
use borrow.Author.Tests.{ltb-false}
use Rattle.std.specs.Prelude.{Result, Ok, Err, ⊤}
use Rattle.calls.specs.Calls.{fresh}
use Rattle.trellis.specs.Measure.{Two}
use Rattle.trellis.specs.Words.{words_from}
use Rattle.nearest.specs.declared.Received.{Received}
use Rattle.nearest.specs.Line.{BothInRange}
use Rattle.machine.specs.declared.Receiver.{Receiver}
use Rattle.reasons.specs.declared.Why.{Why}
use Rattle.reasons.specs.declared.Why.TheVariants.{Full, NoRoom}
use Rattle.machine.specs.Machine.{Outcome, refused, taking, agreed_of, kept_of, released_of, grown, machine_of}
use Rattle.receiver_meaning.specs.Told.{Told, with_heard, speaker_of, pending_after, judge_symbol, Fine}
use Rattle.reasons.specs.Reason.{Reason, reason, given_of}
use Rattle.machine.proofs.Step.{Stepped}
use Rattle.machine.proofs.Owes.{owes, owes-step}
use Rattle.machine.proofs.Telling.{telling-machine}
use Rattle.receiver_meaning.proofs.Telling.{telling-fine, no-fault}

taking-with : (rx : Receiver) (y : Two Received) (room w k n : ℕ) (ws : List ℕ) → rx.core.window ≡ w → kept_of rx y ≡ k → agreed_of rx y ≡ n →
    words_from rx.core.accord.u rx.core.turn (released_of rx y) ≡ ws →
    taking rx y room ≡ cond (ltb w k) (refused rx (Err Full)) (cond (ltb room n) (refused rx (Err NoRoom)) (record { receiver = grown rx y; words = ws; why = Ok tt }))
unfolding taking
taking-with rx y room w k n ws e₁ e₂ e₃ e₄ = cc

-- refused: no word, and the receiver as it was; taken: the words that y adds, and the receiver that was told y too, which is fine
pub record Judged (t : Told) (y : Two Received) (r : Reason) (o : Outcome) : Type 0 where
  pub why : r ≡ given_of o.why
  pub when-refused : eqb r.number 0 ≡ false → (o.words ≡ []) × (o.receiver ≡ machine_of t)
  pub when-taken : eqb r.number 0 ≡ true → (o.words ≡ fresh (speaker_of t) t.heard y) × (o.receiver ≡ machine_of (with_heard t (y ∷ t.heard))) × Fine (with_heard t (y ∷ t.heard))

module _ (t : Told) (f : Fine t) (y : Two Received) (r : BothInRange y) (room : ℕ) where
  abbrev ys : List (Two Received)
  ys = t.heard

  abbrev rx : Receiver
  rx = machine_of t

  abbrev Right : Reason → Outcome → Type 0
  Right = Judged t y

  refused-right : (w : Result ⊤ Why) → (eqb (given_of w).number 0 ≡ true → ⊥) → Right (given_of w) (refused rx w)
  refused-right w n = record { why = refl; when-refused = λ e. (refl, refl); when-taken = λ e. absurd (n e) }

  never : ◌≡◌ {A = Bool} false true → ⊥
  never e = let z : ◌≡◌ {A = ℕ} 0 1 = cc in omega arith

  in-range : judge_symbol t ys y room
      ≡ cond (ltb t.window (pending_after t (y ∷ ys))) (reason 6) (cond (ltb room (length (fresh (speaker_of t) ys y))) (reason 8) (reason 0))
  unfolding judge_symbol
  in-range = rw (no-fault y r)

  same : {a b : Reason} {o p : Outcome} → a ≡ b → o ≡ p → Right b p → Right a o
  same {a} {b} {o} {p} e z j = subst (λ (x : Reason). Right x o) (sym e) (subst (Right b) (sym z) j)

  pub judged : Judged t y (judge_symbol t t.heard y room) (taking (machine_of t) y room)
  judged =
      let S : Stepped t.accord t.start t.heard y (machine_of t) = owes-step t f y in
      same in-range
      (taking-with rx y room t.window (pending_after t (y ∷ ys)) (length (fresh (speaker_of t) ys y)) (fresh (speaker_of t) ys y)
      (owes t f).window S.kept S.agreed S.words)
      (go (ltb t.window (pending_after t (y ∷ ys))) (ltb room (length (fresh (speaker_of t) ys y))) refl)
    where
      go : (i j : Bool) → ltb t.window (pending_after t (y ∷ ys)) ≡ i →
          Right (cond i (reason 6) (cond j (reason 8) (reason 0)))
          (cond i (refused rx (Err Full)) (cond j (refused rx (Err NoRoom)) (record { receiver = grown rx y; words = fresh (speaker_of t) ys y; why = Ok tt })))
      go true j e = refused-right (Err Full) never
      go false true e = refused-right (Err NoRoom) never
      go false false e =
          record {
            why = refl;
            when-refused = λ z. absurd (never (sym z));
            when-taken = λ z. (refl, sym (telling-machine t y), telling-fine t f y r (ltb-false t.window (pending_after t (y ∷ ys)) e));
          }
