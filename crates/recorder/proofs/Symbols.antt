-- One symbol: what the machine says where it is lent no more places than the bytes can record, and where they cannot hold its own record.
--   released-many   as many words are released as are agreed
--   enough          with bytes for its own record: the machine's own answer with so many places
--   short           with fewer: 5 or 6 as it says it, and else 8
use mathlib.Core.Path.{◌≡◌, refl, ◌∙◌}
use mathlib.Core.Bool.{Bool, true, false, cond, ◌&&◌}
use mathlib.Core.List.{List}
use Prim.Native.Nat.{ℕ, ◌-◌, ◌/◌, ◌<◌, ◌≤◌, min}
use native.Mathlib.Omega.{arith}
use borrow.Author.Tests.{ltb-true, ltb-false, lt-ltb, le-ltb}
use lib.Dec.{ltb}
use lib.ListN.{length, take}
use lib.Seq.{length-take-le}
use Rattle.std.specs.Prelude.{Result, Ok, Err, ⊤}
use Rattle.trellis.specs.Measure.{Two}
use Rattle.trellis.specs.Words.{word, words_from, turn_after}
use Rattle.trellis.proofs.Speak.{speak-length}
use Rattle.nearest.specs.declared.Received.{Received}
use Rattle.select.specs.Select.{prev_in}
use Rattle.machine.specs.declared.Receiver.{Receiver}
use Rattle.machine.specs.Machine.{Outcome, refused, taking, next_steps, way_from, agreed_of, kept_of, released_of, grown}
use Rattle.machine.proofs.Agree.{agreed-few}
use Rattle.machine.proofs.Way.{way-length}
use Rattle.reasons.specs.declared.Why.{Why}
use Rattle.reasons.specs.declared.Why.TheVariants.{BadSample, Full, NoRoom}
use Rattle.reasons.specs.Reason.{is_done}
use Rattle.receiver_meaning.specs.Told.{fault_of}
use Rattle.pieces.specs.Running.{symbol_at}
use Rattle.record_write.specs.Front.{symbol_records, symbol_space, space_of}
use Rattle.record_write.proofs.Fronts.{symbol-space}
use Rattle.recorder.specs.Taping.{taped_at}

module _ (rx : Receiver) (y : Two Received) where
  abbrev words : List ℕ
  words = words_from rx.core.accord.u rx.core.turn (released_of rx y)

  pub released-many : length words ≡ agreed_of rx y
  unfolding released_of
  released-many =
      let way = way_from rx.core rx.registers rx.picks (prev_in (next_steps rx y) 0) in
      speak-length turn_after (word rx.core.accord.u) rx.core.turn (take (agreed_of rx y) way)
      ∙ length-take-le (agreed_of rx y) way (omega (arith, agreed-few rx y, way-length rx.core rx.registers rx.picks (prev_in (next_steps rx y) 0)))

  -- an outcome where the bytes are given
  abbrev within : ℕ → Outcome → Outcome
  within bytes o = cond (is_done o.why && ltb bytes (space_of (symbol_records y o.words))) (refused rx (Err NoRoom)) o

  -- what is said once it is neither 5 nor 6
  abbrev roomy : Bool → Outcome
  roomy b = cond b (refused rx (Err NoRoom)) (record { receiver = grown rx y; words = words; why = Ok tt })

  -- both ways of asking, by cases on 5, 6
  by_cases : (P : Outcome → Outcome → Type 0) (room other : ℕ) → ((w : Result ⊤ Why) → is_done w ≡ false → P (refused rx w) (refused rx w)) →
      P (roomy (ltb room (agreed_of rx y))) (roomy (ltb other (agreed_of rx y))) → P (symbol_at rx y room) (symbol_at rx y other)
  unfolding symbol_at taking
  by_cases P room other not rest = go (ltb (fault_of y) 4) (ltb rx.core.window (kept_of rx y))
    where
      full : Bool → Bool → ℕ → Outcome
      full a c m = cond a (refused rx (Err (BadSample (fault_of y)))) (cond c (refused rx (Err Full)) (roomy (ltb m (agreed_of rx y))))

      go : (a c : Bool) → P (full a c room) (full a c other)
      go true c = not (Err (BadSample (fault_of y))) refl
      go false true = not (Err Full) refl
      go false false = rest

  -- what both rooms hold
  abbrev fitting : ℕ → ℕ → ℕ
  fitting room bytes = min room ((bytes - symbol_space y) / 5)

  pub enough : (room bytes : ℕ) → symbol_space y ≤ bytes → taped_at rx y room bytes ≡ symbol_at rx y (fitting room bytes)
  unfolding taped_at
  enough room bytes h = by_cases (λ p q. within bytes p ≡ q) room (fitting room bytes) (λ w d. rw d) (go (ltb room n) refl)
    where
      n : ℕ
      n = agreed_of rx y

      go : (b : Bool) → ltb room n ≡ b → within bytes (roomy b) ≡ roomy (ltb (fitting room bytes) n)
      go true e = rw (lt-ltb (fitting room bytes) n (omega (arith, ltb-true room n e)))
      go false e = last (ltb bytes (space_of (symbol_records y words))) refl
        where
          last : (b : Bool) → ltb bytes (space_of (symbol_records y words)) ≡ b → cond b (refused rx (Err NoRoom)) (roomy false) ≡ roomy (ltb (fitting room bytes) n)
          last true k =
              rw (lt-ltb (fitting room bytes) n (omega (arith, symbol-space y words, released-many, ltb-true bytes (space_of (symbol_records y words)) k)))
          last false k =
              let l = ltb-false bytes (space_of (symbol_records y words)) k in
              rw (le-ltb (fitting room bytes) n (omega (arith, symbol-space y words, released-many, l, ltb-false room n e)))

  pub short : (room bytes : ℕ) → bytes < symbol_space y → taped_at rx y room bytes ≡ refused rx (cond (is_done (symbol_at rx y 0).why) (Err NoRoom) (symbol_at rx y 0).why)
  unfolding taped_at
  short room bytes h =
      by_cases (λ p q. within bytes p ≡ refused rx (cond (is_done q.why) (Err NoRoom) q.why)) room 0 (λ w d. rw d) (go (ltb room n) (ltb 0 n))
    where
      n : ℕ
      n = agreed_of rx y

      none : ltb bytes (space_of (symbol_records y words)) ≡ true
      none = lt-ltb bytes (space_of (symbol_records y words)) (omega (arith, symbol-space y words))

      go : (a b : Bool) → within bytes (roomy a) ≡ refused rx (cond (is_done (roomy b).why) (Err NoRoom) (roomy b).why)
      go true true = refl
      go true false = refl
      go false true = rw none
      go false false = rw none
