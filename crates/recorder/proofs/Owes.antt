-- What the recorder owes: from what the machine does to a record, what the promises say for whatever the receiver has been told.
--   recorded-judged   one symbol
--   tapes-as          a run of symbols goes as the walk
--   tapes, finish-tapes   a result that is the machine's keeps the promise of `hear`, and that of `finish`
use mathlib.Core.Path.{◌≡◌, refl, sym, ap, subst, ◌∙◌}
use mathlib.Core.Bool.{Bool, true, false, cond, ◌&&◌, ◌||◌}
use mathlib.Core.List.{List, [], ◌∷◌, ◌++◌, append_assoc, append-nil}
use Prim.Native.Nat.{ℕ, ◌+◌, ◌-◌}
use native.Mathlib.Nat.{sub-zero}
use native.Mathlib.Omega.{arith}
use borrow.Author.Tests.{eqb-true}
use lib.Dec.{eqb, ltb}
use lib.ListN.{length, drop, length-append}
use Rattle.std.specs.Prelude.{Ok, Err}
use Rattle.calls.specs.Calls.{fresh, rest}
use Rattle.trellis.specs.Measure.{Two}
use Rattle.nearest.specs.declared.Received.{Received}
use Rattle.machine.specs.declared.Receiver.{Receiver}
use Rattle.machine.specs.Machine.{Outcome, refused, shut, machine_of, machine_after}
use Rattle.machine.proofs.Owed.{machine-same, sound-told}
use Rattle.reasons.specs.declared.Why.TheVariants.{NoRoom, Uneven}
use Rattle.reasons.specs.Reason.{Reason, reason, given_of, is_done}
use Rattle.receiver_meaning.specs.Told.{Told, speaker_of, judge_symbol, Fine, with_heard}
use Rattle.receiver_meaning.specs.Piece.{Piece}
use Rattle.receiver_meaning.specs.Owed.{finish_owed}
use Rattle.pieces.specs.Running.{symbol_at}
use Rattle.receiver.specs.Doors as doors
use Rattle.pieces.proofs.Symbols.{Judged, symbol-judged}
use Rattle.receiver.proofs.Doors.{EndedBy, finishing-owes}
use Rattle.records.specs.Values.{Entry, bytes_of}
use Rattle.record_write.proofs.Fronts.{bytes-append}
use Rattle.recorder.specs.declared.Taped.{Taped}
use Rattle.record_write.specs.Front.{symbol_records, finish_records, space_of}
use Rattle.recorder.specs.Taping.{taped_at, Ran, taping}
use Rattle.recorder.specs.Recorded.{judge_recorded, Walked, stops_before, goes_on, walk_recorded}
use Rattle.recorder.specs.Recorded.{PieceRecorded, piece_recorded, FinishRecorded, finish_recorded}
use Rattle.recorder.specs.Doors.{stopped, taped_hearing, taped_finishing}
use Rattle.recorder.specs.Promise.{Is, Tapes, FinishTaped}

-- ---- one symbol

record JudgedAs (t : Told) (ys : List (Two Received)) (y : Two Received) (r : Reason) (o : Outcome) : Type 0 where
  given : given_of o.why ≡ r
  words : r.number ≡ 0 → o.words ≡ fresh (speaker_of t) ys y
  receiver : r.number ≡ 0 → o.receiver ≡ machine_after t (y ∷ ys)
  fine : r.number ≡ 0 → Fine (with_heard t (y ∷ ys))

module _ (t : Told) (ys : List (Two Received)) (f : Fine (with_heard t ys)) (y : Two Received) (room bytes : ℕ) where
  abbrev rx : Receiver
  rx = machine_after t ys

  abbrev o : Outcome
  o = symbol_at rx y room

  abbrev j : Reason
  j = judge_symbol t ys y room

  abbrev ws : List ℕ
  ws = fresh (speaker_of t) ys y

  k : Judged t ys y room o
  k = symbol-judged t ys f y room

  -- whether so many words have no room
  abbrev tight : List ℕ → Bool
  tight vs = ltb bytes (space_of (symbol_records y vs))

  -- the two tests are one
  tests : (is_done o.why && tight o.words) ≡ (eqb j.number 0 && tight ws)
  unfolding k
  tests = go (eqb j.number 0) refl where
    d : is_done o.why ≡ eqb j.number 0
    d = ap (λ (r : Reason). eqb r.number 0) k.given

    go : (b : Bool) → eqb j.number 0 ≡ b → (is_done o.why && tight o.words) ≡ (eqb j.number 0 && tight ws)
    go true e = rw (d, k.words (eqb-true j.number 0 e))
    go false e = rw (d, e)

  recorded-judged : JudgedAs t ys y (judge_recorded t ys y room bytes) (taped_at rx y room bytes)
  unfolding taped_at judge_recorded k
  recorded-judged =
      subst (λ (b : Bool). JudgedAs t ys y (cond (eqb j.number 0 && tight ws) (reason 8) j) (cond b (refused rx (Err NoRoom)) o)) (sym tests) (go (eqb j.number 0 && tight ws))
    where
      go : (b : Bool) → JudgedAs t ys y (cond b (reason 8) j) (cond b (refused rx (Err NoRoom)) o)
      go true = record { given = refl; words = λ z. absurd (omega arith); receiver = λ z. absurd (omega arith); fine = λ z. absurd (omega arith) }
      go false = record { given = k.given; words = k.words; receiver = k.receiver; fine = k.fine }

-- ---- a run

record RunsAs (t : Told) (e : Walked) (n : ℕ) (ws : List ℕ) (rs : List Entry) (r : Ran) : Type 0 where
  given : given_of r.why ≡ e.why
  taken : r.taken ≡ n + e.taken
  words : r.words ≡ ws ++ e.words
  records : r.records ≡ rs ++ e.records
  fine : Fine (with_heard t e.heard)
  receiver : r.receiver ≡ machine_after t e.heard

space-append : (rs qs : List Entry) → space_of (rs ++ qs) ≡ space_of rs + space_of qs
space-append rs qs = ap length (bytes-append rs qs) ∙ length-append (bytes_of rs) (bytes_of qs)

module _ (t : Told) where
  abbrev Runs : List (Two Received) → Type 0
  Runs zs =
      (ys : List (Two Received)) → Fine (with_heard t ys) → (n : ℕ) (ws : List ℕ) (rs : List Entry) (room bytes : ℕ) →
      RunsAs t (walk_recorded t ys zs (room - length ws) (bytes - space_of rs)) n ws rs (taping zs (machine_after t ys) n ws rs room bytes)

  stops : (ys : List (Two Received)) → Fine (with_heard t ys) → (n : ℕ) (ws : List ℕ) (rs : List Entry) (j : Reason) (o : Outcome) → given_of o.why ≡ j →
      RunsAs t (stops_before ys j) n ws rs (record { receiver = machine_after t ys; taken = n; words = ws; records = rs; why = o.why })
  stops ys f n ws rs j o g = record { given = g; taken = omega arith; words = sym (append-nil ws); records = sym (append-nil rs); fine = f; receiver = refl }

  goes_on_lem : (ys : List (Two Received)) (y : Two Received) (n : ℕ) (ws vs : List ℕ) (rs : List Entry) (e : Walked) (r : Ran) →
      vs ≡ fresh (speaker_of t) ys y → RunsAs t e (n + 1) (ws ++ vs) (rs ++ symbol_records y vs) r →
      RunsAs t (goes_on (fresh (speaker_of t) ys y) (symbol_records y (fresh (speaker_of t) ys y)) e) n ws rs r
  goes_on_lem ys y n ws vs rs e r w k =
      record {
        given = k.given;
        taken = omega (arith, k.taken);
        words = k.words ∙ append_assoc ws vs e.words ∙ ap (λ (l : List ℕ). ws ++ (l ++ e.words)) w;
        records = k.records ∙ append_assoc rs (symbol_records y vs) e.records ∙ ap (λ (l : List ℕ). rs ++ (symbol_records y l ++ e.records)) w;
        fine = k.fine;
        receiver = k.receiver;
      }

  runs : (zs : List (Two Received)) → Runs zs
  unfolding walk_recorded taping
  runs [] ys f n ws rs room bytes = record { given = refl; taken = omega arith; words = sym (append-nil ws); records = sym (append-nil rs); fine = f; receiver = refl }
  runs (y ∷ zs) ys f n ws rs room bytes = go (eqb j.number 0) refl (runs zs)
    where
      left : ℕ
      left = room - length ws

      left-bytes : ℕ
      left-bytes = bytes - space_of rs

      vs : List ℕ
      vs = fresh (speaker_of t) ys y

      j : Reason
      j = judge_recorded t ys y left left-bytes

      o : Outcome
      o = taped_at (machine_after t ys) y left left-bytes

      jd : JudgedAs t ys y j o
      jd = recorded-judged t ys f y left left-bytes

      done-is : is_done o.why ≡ eqb j.number 0
      done-is = ap (λ (r : Reason). eqb r.number 0) jd.given

      further : Walked
      further = walk_recorded t (y ∷ ys) zs (left - length vs) (left-bytes - space_of (symbol_records y vs))

      -- the run after this symbol
      on : Ran
      on = taping zs o.receiver (n + 1) (ws ++ o.words) (rs ++ symbol_records y o.words) room bytes

      both : Bool → Bool → Type 0
      both a b =
          RunsAs t (cond a (goes_on vs (symbol_records y vs) further) (stops_before ys j)) n ws rs
          (cond b on (record { receiver = machine_after t ys; taken = n; words = ws; records = rs; why = o.why }))

      more : j.number ≡ 0 → Runs zs → both true true
      more z ih =
          let w = jd.words z in
          let k = ih (y ∷ ys) (jd.fine z) (n + 1) (ws ++ o.words) (rs ++ symbol_records y o.words) room bytes in
          let l : room - length (ws ++ o.words) ≡ left - length vs = omega (arith, length-append ws o.words, ap length w) in
          let m : bytes - space_of (rs ++ symbol_records y o.words) ≡ left-bytes - space_of (symbol_records y vs) =
          omega (arith, space-append rs (symbol_records y o.words), ap (λ (v : List ℕ). space_of (symbol_records y v)) w) in
          goes_on_lem ys y n ws o.words rs further on w
          (rw (jd.receiver z, sym l, sym m) k)

      go : (b : Bool) → eqb j.number 0 ≡ b → Runs zs → both b (is_done o.why)
      go true e ih = subst (both true) (sym (done-is ∙ e)) (more (eqb-true j.number 0 e) ih)
      go false e ih = subst (both false) (sym (done-is ∙ e)) (stops ys f n ws rs j o jd.given)

-- ---- a piece

record OwedBy (h : Ran) (d : PieceRecorded) : Type 0 where
  given : given_of h.why ≡ d.reason
  taken : h.taken ≡ d.taken
  words : h.words ≡ d.words
  records : h.records ≡ d.records
  fine : Fine d.told
  receiver : h.receiver ≡ machine_of d.told

hearing-owes : (t : Told) → Fine t → (p : Piece) (room bytes : ℕ) → OwedBy (taped_hearing (machine_of t) p room bytes) (piece_recorded t p room bytes)
unfolding taped_hearing piece_recorded bytes_of
hearing-owes t f p room bytes = rw (sound-told t f) (go p.fits)
  where
    w : Walked
    w = walk_recorded t t.heard p.symbols room bytes

    e : RunsAs t w 0 [] [] (taping p.symbols (machine_of t) 0 [] [] room bytes)
    e =
        subst (λ (m : ℕ). RunsAs t (walk_recorded t t.heard p.symbols m bytes) 0 [] [] (taping p.symbols (machine_of t) 0 [] [] room bytes)) (sub-zero room)
        (subst (λ (m : ℕ). RunsAs t (walk_recorded t t.heard p.symbols (room - 0) m) 0 [] [] (taping p.symbols (machine_of t) 0 [] [] room bytes)) (sub-zero bytes)
        (runs t p.symbols t.heard f 0 [] [] room bytes))

    go : (b : Bool) → OwedBy (cond b (taping p.symbols (machine_of t) 0 [] [] room bytes) (stopped (machine_of t) (Err Uneven)))
        (cond b (record { reason = w.why; taken = w.taken; words = w.words; records = w.records; told = with_heard t w.heard })
        (record { reason = reason 10; taken = 0; words = []; records = []; told = t }))
    go true =
        record {
          given = e.given;
          taken = omega (arith, e.taken);
          words = e.words;
          records = e.records;
          fine = e.fine;
          receiver = e.receiver ∙ sym (machine-same t w.heard w.heard);
        }
    go false = record { given = refl; taken = refl; words = refl; records = refl; fine = f; receiver = refl }

pub tapes : (rx : Receiver) (p : Piece) (out bytes : List ℕ) (r : Taped) (o b : List ℕ) → Is (taped_hearing rx p (length out) (length bytes)) out bytes r o b → Tapes rx p out bytes r o b
tapes rx p out bytes r o b k =
    record {
      always = k;
      owed = λ t f e.
          let h = subst (λ (q : Receiver). Is (taped_hearing q p (length out) (length bytes)) out bytes r o b) e k in
          let d = hearing-owes t f p (length out) (length bytes) in
          record {
            given = h.given ∙ d.given;
            taken = h.taken ∙ d.taken;
            written = h.written ∙ ap length d.words;
            recorded = h.recorded ∙ ap space_of d.records;
            output = h.output ∙ ap (λ (ws : List ℕ). ws ++ drop (length ws) out) d.words;
            bytes-are = h.bytes-are ∙ ap (λ (rs : List Entry). bytes_of rs ++ drop (length (bytes_of rs)) bytes) d.records;
            fine = d.fine;
            receiver = h.receiver ∙ d.receiver;
          };
    }

-- ---- a finish

record EndsAs (h : Ran) (rx : Receiver) (d : FinishRecorded) : Type 0 where
  given : given_of h.why ≡ d.reason
  taken : h.taken ≡ 0
  words : h.words ≡ d.words
  records : h.records ≡ d.records
  receiver : h.receiver ≡ cond d.closes shut rx

finishing-tapes : (t : Told) → Fine t → (room bytes : ℕ) → EndsAs (taped_finishing (machine_of t) room bytes) (machine_of t) (finish_recorded t room bytes)
unfolding taped_finishing finish_recorded finish_owed
finishing-tapes t f room bytes = go (ltb room (length ws)) (finishing-owes t f room)
  where
    ws : List ℕ
    ws = rest (speaker_of t) t.heard

    rx : Receiver
    rx = machine_of t

    h : doors.Ran
    h = doors.finishing rx room

    refusal : FinishRecorded
    refusal = record { reason = reason 8; words = []; records = []; closes = false }

    success : FinishRecorded
    success = record { reason = reason 0; words = ws; records = finish_records ws; closes = true }

    -- what the recorder makes of the receiver's answer, where its bytes are too short and where not
    made : Bool → Ran
    made b = cond b (stopped rx (Err NoRoom)) (record { receiver = h.receiver; taken = 0; words = h.words; records = finish_records h.words; why = Ok tt })

    short : (b : Bool) → EndedBy h rx (record { reason = reason 0; words = ws; closes = true }) → EndsAs (made b) rx (cond b refusal success)
    short true k = record { given = refl; taken = refl; words = refl; records = refl; receiver = refl }
    short false k = record { given = refl; taken = refl; words = k.words; records = ap finish_records k.words; receiver = k.receiver }

    go : (b : Bool) → EndedBy h rx (cond b (record { reason = reason 8; words = []; closes = false }) (record { reason = reason 0; words = ws; closes = true })) →
        EndsAs (cond (is_done h.why) (made (ltb bytes (space_of (finish_records h.words)))) (stopped rx h.why)) rx
        (cond (b || ltb bytes (space_of (finish_records ws))) refusal success)
    go true k =
        let d : is_done h.why ≡ false = ap (λ (r : Reason). eqb r.number 0) k.given in
        rw d (record { given = k.given; taken = refl; words = refl; records = refl; receiver = refl })
    go false k =
        let d : is_done h.why ≡ true = ap (λ (r : Reason). eqb r.number 0) k.given in
        let e : ltb bytes (space_of (finish_records h.words)) ≡ ltb bytes (space_of (finish_records ws)) = ap (λ (v : List ℕ). ltb bytes (space_of (finish_records v))) k.words in
        rw (d, e) (short (ltb bytes (space_of (finish_records ws))) k)

pub finish-tapes : (rx : Receiver) (out bytes : List ℕ) (r : Taped) (o b : List ℕ) → Is (taped_finishing rx (length out) (length bytes)) out bytes r o b → FinishTaped rx out bytes r o b
finish-tapes rx out bytes r o b k =
    record {
      always = k;
      owed = λ t f e.
          let h = subst (λ (q : Receiver). Is (taped_finishing q (length out) (length bytes)) out bytes r o b) e k in
          let d = finishing-tapes t f (length out) (length bytes) in
          record {
            given = h.given ∙ d.given;
            taken = h.taken ∙ d.taken;
            written = h.written ∙ ap length d.words;
            recorded = h.recorded ∙ ap space_of d.records;
            output = h.output ∙ ap (λ (ws : List ℕ). ws ++ drop (length ws) out) d.words;
            bytes-are = h.bytes-are ∙ ap (λ (rs : List Entry). bytes_of rs ++ drop (length (bytes_of rs)) bytes) d.records;
            receiver = h.receiver ∙ d.receiver ∙ ap (cond (finish_recorded t (length out) (length bytes)).closes shut) (sym e);
          };
    }
