-- The outcomes of `hear_piece_lent`, `hear` and `finish`, one law each.
--   nothing rx w                          an answer that took, wrote and recorded nothing
--   tape-closed, tape-uneven, tape-parts  a piece: refused as a whole, or its symbols
--   lent_shut, lent_open                  whether lent parts are an open receiver's
--   tapes-lent                            the promise of `hear` from that of `hear_piece_lent`
--   finish-closed, finish-short, finish-refused, finish-written, finish-done   a finish
use mathlib.Core.Path.{◌≡◌, refl, sym, ap, subst, ◌∙◌}
use mathlib.Core.Bool.{Bool, true, false, cond}
use mathlib.Core.List.{List, []}
use Prim.Native.Nat.{ℕ, ◌+◌, ◌*◌, ◌<◌, ◌≤◌}
use native.Mathlib.Omega.{arith}
use borrow.Author.Tests.{lt-ltb, le-ltb}
use lib.Dec.{T, eqb, ltb}
use lib.ListN.{length, take, drop}
use lib.Seq.{take-append_seam}
use Rattle.std.specs.Prelude.{Result, Ok, Err, ⊤}
use Rattle.machine.specs.declared.Core.{Core}
use Rattle.machine.specs.declared.Receiver.{Receiver}
use Rattle.machine.specs.Machine.{shut, last_words, sound}
use Rattle.machine.specs.Parts.{whole}
use Rattle.machine.proofs.Finish.{last-many}
use Rattle.machine.proofs.Sound.{sound-live}
use Rattle.reasons.specs.declared.Why.{Why}
use Rattle.reasons.specs.declared.Why.TheVariants.{NoRoom, Closed, Uneven}
use Rattle.reasons.specs.Reason.{Reason, given_of, is_done}
use Rattle.reasons.proofs.Apart.{refused-err}
use Rattle.receiver_meaning.specs.Piece.{Piece}
use Rattle.receiver.specs.declared.Answer.{Answer}
use Rattle.receiver.specs.Doors as doors
use Rattle.receiver.specs.Promise as receives
use Rattle.receiver.specs.Promise.{parts_of}
use Rattle.receiver.proofs.Doors.{lent-live, lent_none}
use Rattle.receiver.proofs.Left.{finishes-left}
use Rattle.records.specs.Values.{bytes_of}
use Rattle.record_write.specs.Front.{Fronted, finish_records, space_of}
use Rattle.record_write.proofs.Fronts.{finish-space}
use Rattle.recorder.specs.declared.piece.Kept.{Kept}
use Rattle.recorder.specs.Taping.{Ran, taping}
use Rattle.recorder.specs.Lent.{RunsTaped}
use Rattle.recorder.specs.declared.Taped.{Taped}
use Rattle.recorder.specs.Doors.{stopped, taped_hearing, taped_finishing}
use Rattle.recorder.specs.Promise.{Is, taped_parts, as_lent, TapesLent, Tapes, FinishTaped}
use Rattle.recorder.proofs.Owes.{tapes, finish-tapes}

abbrev pub nothing : Receiver → Result ⊤ Why → Taped
nothing rx w = record { receiver = rx; taken = 0; written = 0; recorded = 0; why = w }

nothing_is : (rx : Receiver) (w : Result ⊤ Why) (out bytes : List ℕ) → Is (stopped rx w) out bytes (nothing rx w) out bytes
unfolding bytes_of
nothing_is rx w out bytes = record { receiver = refl; taken = refl; written = refl; recorded = refl; given = refl; output = refl; bytes-are = refl }

-- ---- a piece

module _ (rx : Receiver) (out bytes : List ℕ) (p : Piece) where
  abbrev Heard : Taped → List ℕ → List ℕ → Type 0
  Heard r o b = Is (taped_hearing rx p (length out) (length bytes)) out bytes r o b

  pub tape-closed : sound rx ≡ false → Heard (nothing rx (Err Closed)) out bytes
  unfolding taped_hearing
  tape-closed e = rw e (nothing_is rx (Err Closed) out bytes)

  pub tape-uneven : sound rx ≡ true → p.fits ≡ false → Heard (nothing rx (Err Uneven)) out bytes
  unfolding taped_hearing
  tape-uneven e n = rw (e, n) (nothing_is rx (Err Uneven) out bytes)

  tape-is : sound rx ≡ true → p.fits ≡ true → (r : Taped) (o b : List ℕ) → Is (taping p.symbols rx 0 [] [] (length out) (length bytes)) out bytes r o b → Heard r o b
  unfolding taped_hearing
  tape-is e z r o b is = rw (e, z) is

  -- an open receiver is live, and its piece is a run
  pub tape-parts : sound rx ≡ true → p.fits ≡ true → (h : Kept) (sums registers picks o b : List ℕ) →
      RunsTaped (taping p.symbols (whole rx.core rx.sums rx.registers rx.picks) 0 [] [] (length out) (length bytes)) out bytes h sums registers picks o b →
      Heard (taped_parts rx.live h sums registers picks) o b
  tape-parts e z h sums registers picks o b k =
      tape-is e z (taped_parts rx.live h sums registers picks) o b
      (subst (λ (v : Bool). Is (taping p.symbols (lives v) 0 [] [] (length out) (length bytes)) out bytes (taped_parts v h sums registers picks) o b) (sym (sound-live rx e))
      (record {
        receiver = k.receiver;
        taken = k.taken;
        written = k.written;
        recorded = k.recorded;
        given = k.given;
        output = k.output;
        bytes-are = k.bytes-are;
      }))
    where
      lives : Bool → Receiver
      lives v = parts_of v rx.core rx.sums rx.registers rx.picks

-- lent parts, by the tests of the code: other picks than 72 are no receiver's
module _ (live : Bool) (core : Core) (sums registers picks : List ℕ) where
  abbrev pub lent : Receiver
  lent = as_lent (parts_of live core sums registers picks)

  pub lent_shut : (length picks ≡ 72 → ⊥) → sound lent ≡ false
  unfolding sound
  lent_shut n = rw (lent_none live picks n)

  pub lent_open : length picks ≡ 72 → (b : Bool) → b ≡ sound (parts_of live core sums registers picks) → sound lent ≡ b
  lent_open n b e = rw (lent-live live picks n) (sym e)

-- a receiver that lends its own picks
pub tapes-lent : (rx : Receiver) (p : Piece) (out bytes : List ℕ) (h : Kept) (sums registers picks o b : List ℕ) → length rx.picks ≡ 72 →
    TapesLent rx p out bytes h sums registers picks o b → Tapes rx p out bytes (taped_parts rx.live h sums registers picks) o b
tapes-lent rx p out bytes h sums registers picks o b n is =
    tapes rx p out bytes (taped_parts rx.live h sums registers picks) o b (subst Lent (lent-live rx.live rx.picks n) is)
  where
    Lent : Bool → Type 0
    Lent v =
        Is (taped_hearing (parts_of v rx.core rx.sums rx.registers rx.picks) p (length out) (length bytes)) out bytes
        (taped_parts v h sums registers picks) o b

-- ---- a finish

module _ (rx : Receiver) (out bytes : List ℕ) where
  abbrev Ended : Ran → Taped → Type 0
  Ended ran r = Is ran out bytes r out bytes

  pub finish-closed : sound rx ≡ false → FinishTaped rx out bytes (nothing rx (Err Closed)) out bytes
  unfolding taped_finishing doors.finishing
  finish-closed e = finish-tapes rx out bytes (nothing rx (Err Closed)) out bytes (rw e (nothing_is rx (Err Closed) out bytes))

  abbrev h : doors.Ran
  h = doors.finishing rx (length out)

  -- what the receiver says: whether it is open, and whether its places are too few
  abbrev said : Bool → Bool → doors.Ran
  said a b = cond a (cond b (doors.stopped rx (Err NoRoom)) (record { receiver = shut; taken = 0; words = last_words rx; why = Ok tt })) (doors.stopped rx (Err Closed))

  finish-many : is_done h.why ≡ true → length h.words ≡ rx.core.pending
  unfolding doors.finishing
  finish-many = go (sound rx) (ltb (length out) rx.core.pending) where
    go : (a b : Bool) → is_done (said a b).why ≡ true → length (said a b).words ≡ rx.core.pending
    go true true e = absurd (subst T (sym e) tt)
    go true false e = last-many rx
    go false b e = absurd (subst T (sym e) tt)

  refused-eight : sound rx ≡ true → is_done h.why ≡ false → h.why ≡ (Err NoRoom)
  unfolding doors.finishing
  refused-eight e = rw e (pick (ltb (length out) rx.core.pending)) where
    pick : (b : Bool) → is_done (said true b).why ≡ false → (said true b).why ≡ (Err NoRoom)
    pick true d = refl
    pick false d = absurd (subst T d tt)

  -- what the recorder makes of it
  abbrev recorded_of : Bool → Bool → Ran
  recorded_of done short =
      cond done (cond short (stopped rx (Err NoRoom)) (record { receiver = h.receiver; taken = 0; words = h.words; records = finish_records h.words; why = Ok tt })) (stopped rx h.why)

  short-by : Bool
  short-by = ltb (length bytes) (space_of (finish_records h.words))

  -- an 8 of the receiver's own, or of the bytes
  pub finish-short : sound rx ≡ true → length bytes < 1 + 5 * rx.core.pending → FinishTaped rx out bytes (nothing rx (Err NoRoom)) out bytes
  unfolding taped_finishing short-by
  finish-short e few = finish-tapes rx out bytes (nothing rx (Err NoRoom)) out bytes (go (is_done h.why) refl)
    where
      go : (b : Bool) → is_done h.why ≡ b → Ended (recorded_of b short-by) (nothing rx (Err NoRoom))
      go true d =
          rw (lt-ltb (length bytes) (space_of (finish_records h.words)) (omega (arith, finish-space h.words, finish-many d))) (nothing_is rx (Err NoRoom) out bytes)
      go false d = rw (refused-eight e d) (nothing_is rx (Err NoRoom) out bytes)

  module _ (a : Answer) (o : List ℕ) (is : receives.Finishes rx out a o) where
    same : is_done a.why ≡ is_done h.why
    same = ap (λ (r : Reason). eqb r.number 0) is.always.given

    stays : is_done a.why ≡ false → FinishTaped rx out bytes (nothing rx a.why) o bytes
    unfolding taped_finishing bytes_of
    stays d =
        let not0 : (given_of a.why).number ≡ 0 → ⊥ = λ z. let e : ◌≡◌ {A = Bool} false true = sym d ∙ ap (λ (n : ℕ). eqb n 0) z in subst T (sym e) tt in
        let l = finishes-left rx out a o is not0 in
        finish-tapes rx out bytes (nothing rx a.why) o bytes
        (rw (sym same ∙ d) (record { receiver = refl; taken = refl; written = refl; recorded = refl; given = is.always.given; output = l.1; bytes-are = refl }))

    pub finish-refused : (w : Why) → a.why ≡ Err w → FinishTaped rx out bytes (nothing rx (Err w)) o bytes
    finish-refused w e =
        subst (λ (v : Result ⊤ Why). FinishTaped rx out bytes (nothing rx v) o bytes) e (stays (ap is_done e ∙ refused-err w))

    module _ (d : is_done a.why ≡ true) where
      words_are : take a.written o ≡ h.words
      words_are = rw (is.always.written, is.always.output) (take-append_seam h.words (drop (length h.words) out))

      pub finish-written : a.written ≡ rx.core.pending
      finish-written = is.always.written ∙ finish-many (sym same ∙ d)

      abbrev done : Taped
      done = record { receiver = a.receiver; taken = 0; written = a.written; recorded = 1 + 5 * a.written; why = Ok tt }

      pub finish-done : 1 + 5 * rx.core.pending ≤ length bytes → (b : List ℕ) → Fronted (finish_records (take a.written o)) bytes b → FinishTaped rx out bytes done o b
      unfolding taped_finishing
      finish-done room b put =
          let n = is.always.written in
          let k = sym same ∙ d in
          finish-tapes rx out bytes done o b
          (rw (k, le-ltb (length bytes) (space_of (finish_records h.words)) (omega (arith, finish-space h.words, finish-many k)))
          (record {
            receiver = is.always.receiver;
            taken = refl;
            written = n;
            recorded = rw (finish-space h.words, n);
            given = refl;
            output = is.always.output;
            bytes-are = subst (λ (l : List ℕ). Fronted (finish_records l) bytes b) words_are put;
          }))
