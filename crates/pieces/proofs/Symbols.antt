-- One symbol of a piece: what the machine says to it is what 01 says of it, for whatever the receiver has been told.
--   Judged t ys y room o   the outcome o of the symbol y, heard after ys, is the judged one
--   symbol-judged          the theorem
use mathlib.Core.Path.{◌≡◌, refl, sym, ap, subst, ◌∙◌}
use mathlib.Core.Bool.{Bool, true, false, cond}
use mathlib.Core.List.{List, ◌∷◌}
use Prim.Native.Nat.{ℕ}
use native.Mathlib.Omega.{arith}
use borrow.Author.Tests.{eq-eqb}
use lib.Dec.{ltb}
use Rattle.calls.specs.Calls.{fresh}
use Rattle.trellis.specs.Measure.{Two}
use Rattle.nearest.specs.declared.Received.{Received}
use Rattle.nearest.specs.Line.{BothInRange}
use Rattle.machine.specs.declared.Receiver.{Receiver}
use Rattle.std.specs.Prelude.{Err}
use Rattle.reasons.specs.declared.Why.TheVariants.{BadSample}
use Rattle.machine.specs.Machine.{Outcome, refused, taking, machine_after}
use Rattle.receiver_meaning.specs.Told.{Told, speaker_of, fault_of, judge_symbol, Fine, with_heard}
use Rattle.reasons.specs.Reason.{Reason, given_of}
use Rattle.machine.proofs.Owed.{taking-told, machine-same}
use Rattle.receiver_meaning.proofs.Telling.{telling-judge, in-range}
use Rattle.pieces.specs.Running.{symbol_at}

pub record Judged (t : Told) (ys : List (Two Received)) (y : Two Received) (room : ℕ) (o : Outcome) : Type 0 where
  pub given : given_of o.why ≡ judge_symbol t ys y room
  pub words : (judge_symbol t ys y room).number ≡ 0 → o.words ≡ fresh (speaker_of t) ys y
  pub receiver : (judge_symbol t ys y room).number ≡ 0 → o.receiver ≡ machine_after t (y ∷ ys)
  pub fine : (judge_symbol t ys y room).number ≡ 0 → Fine (with_heard t (y ∷ ys))

-- in range: as `machine` proves it
takes : (t : Told) (ys : List (Two Received)) → Fine (with_heard t ys) → (y : Two Received) → BothInRange y → (room : ℕ) → Judged t ys y room (taking (machine_after t ys) y room)
takes t ys f y r room =
    let k = taking-told (with_heard t ys) f y r room in
    let e = machine-same t ys ys in
    let z = telling-judge t ys ys y room in
    subst (λ (rx : Receiver). Judged t ys y room (taking rx y room)) e
    (record {
      given = sym k.why ∙ z;
      words = λ n. (k.when-taken (eq-eqb (judge_symbol (with_heard t ys) ys y room).number 0 (ap (λ (q : Reason). q.number) z ∙ n))).0;
      receiver = λ n. (k.when-taken (eq-eqb (judge_symbol (with_heard t ys) ys y room).number 0 (ap (λ (q : Reason). q.number) z ∙ n))).1 ∙ machine-same t (y ∷ ys) (y ∷ ys);
      fine = λ n. (k.when-taken (eq-eqb (judge_symbol (with_heard t ys) ys y room).number 0 (ap (λ (q : Reason). q.number) z ∙ n))).2;
    })

module _ (t : Told) (ys : List (Two Received)) (f : Fine (with_heard t ys)) (y : Two Received) (room : ℕ) where
  at-fault : ltb (fault_of y) 4 ≡ true → Judged t ys y room (refused (machine_after t ys) (Err (BadSample (fault_of y))))
  unfolding judge_symbol
  at-fault e =
      let j : judge_symbol t ys y room ≡ record { number = 5; place = fault_of y } = rw e in
      let no : (judge_symbol t ys y room).number ≡ 0 → ⊥ = λ z. let k = ap (λ (r : Reason). r.number) j in omega arith in
      record { given = sym j; words = λ z. absurd (no z); receiver = λ z. absurd (no z); fine = λ z. absurd (no z) }

  pub symbol-judged : Judged t ys y room (symbol_at (machine_after t ys) y room)
  unfolding symbol_at
  symbol-judged = go (ltb (fault_of y) 4) refl
    where
      go : (b : Bool) → ltb (fault_of y) 4 ≡ b → Judged t ys y room (cond b (refused (machine_after t ys) (Err (BadSample (fault_of y)))) (taking (machine_after t ys) y room))
      go true e = at-fault e
      go false e = takes t ys f y (in-range y e) room
