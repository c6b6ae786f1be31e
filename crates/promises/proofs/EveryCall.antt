-- EVERY CALL. A run of plain and recorded calls, in any mix, is a run of plain calls, so the demands hold of it word for word. A recorded piece
-- that took m symbols did what a plain call does with its first m; a recorded finish that was done is a finish, and one that was refused did nothing.
--   heard-as, finish-done, finish-kept   a recorded piece, and a recorded finish, as the plain doors go
--   plainly, ended-plainly       a mixed run of the doors is a run of specs/Talk
--   end-plainly                  an end of any calls is an end of specs/End
--   library-plainly, library-ended-plainly   a mixed run of the library's calls is a run of specs/Library
--   exact, final, whole          DEMAND 3 of mixed runs of the library
--   least, any-cut, round_trip   DEMAND 2: after a finish, recorded or not, the words are those of the answer, and it is one; neither the window nor the
--                                cut into calls matters; what a sender sent comes back
--   piece-recorded, finish-recorded   DEMAND 1: what a recorded call answers after such a run (recorder/specs/Recorded: 8 too where its bytes are too short)
use mathlib.Core.Path.{◌≡◌, refl, sym, ap, subst, ◌∙◌}
use mathlib.Core.Bool.{Bool, true, false, cond, ◌&&◌}
use mathlib.Core.List.{List, [], ◌∷◌, ◌++◌, append-nil, reverse, IsPrefix}
use Prim.Native.Nat.{ℕ, suc, ◌+◌, ◌-◌, ◌≤◌, ◌<◌}
use native.Mathlib.Nat.{add-zero}
use native.Mathlib.Omega.{arith}
use borrow.Author.Tests.{le-ltb, lt-ltb, eq-eqb, eqb-true, eqb-false}
use lib.Dec.{eqb, ltb}
use lib.IntN.{ℤ}
use lib.ListN.{length, get_or, take, drop}
use lib.Seq.{take-take}
use Rattle.std.specs.Prelude.{Result, Ok, Err, ⊤}
use Rattle.wei.specs.Symbol.{Symbol}
use Rattle.points.specs.declared.Accord.{Accord}
use Rattle.trellis.specs.Code.{Path, symbols}
use Rattle.trellis.specs.Best.{Answer as IsAnswer, Longest}
use Rattle.trellis.specs.Measure.{Two}
use Rattle.trellis.specs.Words.{as_heard}
use Rattle.nearest.specs.declared.Received.{Received}
use Rattle.machine.specs.Machine.{Outcome, refused, sound}
use Rattle.reasons.specs.declared.Why.{Why}
use Rattle.reasons.specs.declared.Why.TheVariants.{NoRoom, Closed, Uneven}
use Rattle.reasons.specs.Reason.{Reason, given_of, is_done}
use Rattle.receiver_meaning.specs.Told.{code_of, words_of}
use Rattle.receiver_meaning.specs.Piece.{Piece, symbols_of}
use Rattle.openings.specs.declared.Start.{Start}
use Rattle.openings.specs.Given.{start_of}
use Rattle.openings.specs.Opening.{Receiver}
use Rattle.pieces.specs.Running.{symbol_at, running}
use Rattle.receiver.specs.Doors as doors
use Rattle.receiver.specs.Promise as receiver
use Rattle.receiver.proofs.Doors as kept
use Rattle.records.specs.Values.{Entry, bytes_of}
use Rattle.record_write.specs.Front.{symbol_records, finish_records, space_of}
use Rattle.recorder.specs.Taping.{taped_at, taping}
use Rattle.recorder.specs.Taping as tape
use Rattle.recorder.specs.declared.Taped.{Taped}
use Rattle.recorder.specs.Doors.{taped_hearing, taped_finishing}
use Rattle.recorder.specs.Doors as recorder
use Rattle.recorder.specs.Recorded.{piece_recorded, finish_recorded}
use Rattle.recorder.specs.Promise.{Is}
use Rattle.recorder.proofs.Owes as owes
use Rattle.c_layout.specs.Layout.{receiver_length}
use Rattle.c_states.specs.State.{receiver_in, words_of_receiver}
use Rattle.c_samples.specs.Counts.{told_of}
use Rattle.c_recorder.specs.Calls as taped
use Rattle.c_recorder.specs.Promise.{Records}
use Rattle.demfizagu.specs.Calls.{hear_call, finish_call}
use Rattle.demfizagu.specs.Promise as library
use Rattle.promises.specs.Talk as talk
use Rattle.promises.specs.Clean.{all_on_line, StartsAtZero}
use Rattle.promises.specs.End.{End}
use Rattle.promises.specs.End as end
use Rattle.promises.specs.Library.{taken, written, LibraryHears, LibraryEnded}
use Rattle.promises.specs.Library as plain
use Rattle.promises.specs.EveryCall.{Called, Mixed, MixedEnded, AnyEnd, LibraryCalled, LibraryMixed, LibraryMixedEnded}
use Rattle.promises.proofs.Follows as follows
use Rattle.promises.proofs.Demand2 as demand2
use Rattle.promises.proofs.Library as demands

-- ---- a recorded piece

-- the first m symbols of a piece
abbrev pub first_of : ℕ → Piece → Piece
first_of m p = record { fits = true; symbols = take m p.symbols }

not_done : (w : Result ⊤ Why) → is_done w ≡ false → is_done w ≡ true → ⊥
not_done w e f = let z : ◌≡◌ {A = ℕ} 0 1 = cc in omega arith

-- a symbol that was recorded went as the receiver says
taped-as : (rx : Receiver) (y : Two Received) (room bytes : ℕ) → is_done (taped_at rx y room bytes).why ≡ true → taped_at rx y room bytes ≡ symbol_at rx y room
unfolding taped_at
taped-as rx y room bytes = go (is_done (symbol_at rx y room).why && ltb bytes (space_of (symbol_records y (symbol_at rx y room).words)))
  where
    go : (b : Bool) → is_done (cond b (refused rx (Err NoRoom)) (symbol_at rx y room)).why ≡ true → cond b (refused rx (Err NoRoom)) (symbol_at rx y room) ≡ symbol_at rx y room
    go true e = absurd (not_done (Err NoRoom) refl e)
    go false e = refl

-- so many of the symbols were taken, and running these alone gives the same
record RunsAs (zs : List (Two Received)) (rx : Receiver) (n : ℕ) (ws : List ℕ) (room : ℕ) (t : tape.Ran) : Type 0 where
  more : ℕ
  count : t.taken ≡ n + more
  runs : running (take more zs) rx n ws room ≡ record { receiver = t.receiver; taken = t.taken; words = t.words; why = Ok tt }

module _ (y : Two Received) (zs : List (Two Received)) (rx : Receiver) (n : ℕ) (ws : List ℕ) (rs : List Entry) (room bytes : ℕ) where
  abbrev o : Outcome
  o = taped_at rx y (room - length ws) (bytes - space_of rs)

  abbrev further : tape.Ran
  further = taping zs o.receiver (n + 1) (ws ++ o.words) (rs ++ symbol_records y o.words) room bytes

  abbrev halted : tape.Ran
  halted = record { receiver = rx; taken = n; words = ws; records = rs; why = o.why }

  abbrev goes_on : ℕ → Outcome → doors.Ran
  goes_on m q =
      cond (is_done q.why) (running (take m zs) q.receiver (n + 1) (ws ++ q.words) room) (record { receiver = rx; taken = n; words = ws; why = q.why })

  one_more : (b : Bool) → is_done o.why ≡ b → RunsAs zs o.receiver (n + 1) (ws ++ o.words) room further → RunsAs (y ∷ zs) rx n ws room (cond b further halted)
  unfolding running
  one_more true e r =
      record {
        more = suc r.more;
        count = omega (arith, r.count);
        runs = ap (goes_on r.more) (sym (taped-as rx y (room - length ws) (bytes - space_of rs) e)) ∙ rw e r.runs;
      }
  one_more false e r = record { more = 0; count = sym (add-zero n); runs = refl }

runs_as : (zs : List (Two Received)) (rx : Receiver) (n : ℕ) (ws : List ℕ) (rs : List Entry) (room bytes : ℕ) → RunsAs zs rx n ws room (taping zs rx n ws rs room bytes)
unfolding taping running
runs_as [] rx n ws rs room bytes = record { more = 0; count = sym (add-zero n); runs = refl }
runs_as (y ∷ zs) rx n ws rs room bytes =
    let q = taped_at rx y (room - length ws) (bytes - space_of rs) in
    one_more y zs rx n ws rs room bytes (is_done q.why) refl (runs_as zs q.receiver (n + 1) (ws ++ q.words) (rs ++ symbol_records y q.words) room bytes)

pub record Alike (h : doors.Ran) (t : tape.Ran) : Type 0 where
  pub receiver : h.receiver ≡ t.receiver
  pub taken : h.taken ≡ t.taken
  pub words : h.words ≡ t.words

pub heard-as : (rx : Receiver) (p : Piece) (room bytes : ℕ) → let t = taped_hearing rx p room bytes in Alike (doors.hearing rx (first_of t.taken p) room) t
unfolding taped_hearing doors.hearing running
heard-as rx p room bytes = go (sound rx) p.fits
  where
    go : (a b : Bool) → let t = cond a (cond b (taping p.symbols rx 0 [] [] room bytes) (recorder.stopped rx (Err Uneven))) (recorder.stopped rx (Err Closed)) in
        Alike (cond a (running (take t.taken p.symbols) rx 0 [] room) (doors.stopped rx (Err Closed))) t
    go true true =
        let t = taping p.symbols rx 0 [] [] room bytes in
        let r = runs_as p.symbols rx 0 [] [] room bytes in
        let m : r.more ≡ t.taken = omega (arith, r.count) in
        let e : running (take t.taken p.symbols) rx 0 [] room ≡ record { receiver = t.receiver; taken = t.taken; words = t.words; why = Ok tt } =
        ap (λ (i : ℕ). running (take i p.symbols) rx 0 [] room) (sym m) ∙ r.runs in
        record { receiver = ap (λ (x : doors.Ran). x.receiver) e; taken = ap (λ (x : doors.Ran). x.taken) e; words = ap (λ (x : doors.Ran). x.words) e }
    go true false = record { receiver = refl; taken = refl; words = refl }
    go false b = record { receiver = refl; taken = refl; words = refl }

-- ---- a recorded finish

module _ (rx : Receiver) (room bytes : ℕ) where
  abbrev h : doors.Ran
  h = doors.finishing rx room

  abbrev t : tape.Ran
  t = taped_finishing rx room bytes

  abbrev made : Bool → Bool → tape.Ran
  made a b =
      cond a (cond b (recorder.stopped rx (Err NoRoom)) (record { receiver = h.receiver; taken = 0; words = h.words; records = finish_records h.words; why = Ok tt }))
      (recorder.stopped rx h.why)

  zero-done : (w : Result ⊤ Why) → (given_of w).number ≡ 0 → is_done w ≡ true
  zero-done w e = eq-eqb (given_of w).number 0 e

  pub finish-done : (given_of t.why).number ≡ 0 → ((given_of h.why).number ≡ 0) × (h.receiver ≡ t.receiver) × (h.words ≡ t.words)
  unfolding taped_finishing
  finish-done = go (is_done h.why) (ltb bytes (space_of (finish_records h.words))) refl
    where
      go : (a b : Bool) → is_done h.why ≡ a → (given_of (made a b).why).number ≡ 0 → ((given_of h.why).number ≡ 0) × (h.receiver ≡ (made a b).receiver) × (h.words ≡ (made a b).words)
      go true true e z = absurd (omega arith)
      go true false e z = (eqb-true (given_of h.why).number 0 e, refl, refl)
      go false b e z = absurd (not_done h.why e (zero-done h.why z))

  pub finish-kept : ((given_of t.why).number ≡ 0 → ⊥) → (t.receiver ≡ rx) × (t.words ≡ [])
  unfolding taped_finishing
  finish-kept = go (is_done h.why) (ltb bytes (space_of (finish_records h.words)))
    where
      go : (a b : Bool) → ((given_of (made a b).why).number ≡ 0 → ⊥) → ((made a b).receiver ≡ rx) × ((made a b).words ≡ [])
      go true true z = (refl, refl)
      go true false z = absurd (z refl)
      go false b z = (refl, refl)

-- ---- runs of the doors

module _ (k : Accord) (w : ℕ) (b : Start) where
  moved : (took : List (Two Received)) {zs zs' : List (Two Received)} (ws : List ℕ) {vs vs' : List ℕ} {rx rx' : Receiver} → zs ≡ zs' → vs ≡ vs' → rx ≡ rx' →
      talk.Talk k w b (took ++ zs) (ws ++ vs) rx → talk.Talk k w b (took ++ zs') (ws ++ vs') rx'
  moved took ws e f g x = subst (λ l. l) (λ i. talk.Talk k w b (took ++ e i) (ws ++ f i) (g i)) x

  idle : {took : List (Two Received)} {ws : List ℕ} {rx rx' : Receiver} (vs : List ℕ) → vs ≡ [] → rx' ≡ rx → talk.Talk k w b took ws rx → talk.Talk k w b (took ++ []) (ws ++ vs) rx'
  idle {took = took} {ws = ws} vs e f x = rw (e, append-nil took, append-nil ws, f) x

  -- one call
  step : {took zs : List (Two Received)} {ws vs : List ℕ} {rx rx' : Receiver} → talk.Talk k w b took ws rx → Called rx zs vs rx' → talk.Talk k w b (took ++ zs) (ws ++ vs) rx'
  step x (Called.hears p out o r is) = talk.hears x p out o r is
  step {took = took} {ws = ws} {rx = rx} x (Called.tapes p out bytes o b' r is) =
      let t = taped_hearing rx p (length out) (length bytes) in
      let q = first_of t.taken p in
      let h = doors.hearing rx q (length out) in
      let a = heard-as rx p (length out) (length bytes) in
      let same : receiver.Is h out (demands.answer h) o =
      record { receiver = refl; taken = refl; written = refl; given = refl; output = is.always.output ∙ ap (λ (l : List ℕ). l ++ drop (length l) out) (sym a.words) } in
      moved took ws
      (ap (λ (i : ℕ). take i (take t.taken p.symbols)) a.taken ∙ take-take t.taken t.taken p.symbols (omega arith) ∙ ap (λ (i : ℕ). take i p.symbols) (sym is.always.taken))
      (ap (λ (l : List ℕ). take (length l) o) a.words ∙ ap (λ (i : ℕ). take i o) (sym is.always.written))
      (a.receiver ∙ sym is.always.receiver)
      (talk.hears x q out o (demands.answer h) (kept.hears rx q out (demands.answer h) o same))
  step {took = took} x (Called.refuses out o r is z) = rw (append-nil took) (talk.refuses x out o r is z)
  step {rx = rx} x (Called.tape-refuses out bytes o b' r is z) =
      let k = finish-kept rx (length out) (length bytes) (λ e. z (ap (λ (g : Reason). g.number) is.always.given ∙ e)) in
      idle (take r.written o) (ap (λ (i : ℕ). take i o) (is.always.written ∙ ap length k.1)) (is.always.receiver ∙ k.0) x

  pub plainly : {took : List (Two Received)} {ws : List ℕ} {rx : Receiver} → Mixed k w b took ws rx → talk.Talk k w b took ws rx
  plainly (Mixed.opens r is z) = talk.opens r is z
  plainly (Mixed.calls m c) = step (plainly m) c

  pub ended-plainly : {took : List (Two Received)} {ws : List ℕ} → MixedEnded k w b took ws → talk.Ended k w b took ws
  ended-plainly (MixedEnded.ends m out o r is z) = talk.ends (plainly m) out o r is z
  ended-plainly {took = took} (MixedEnded.tape-ends {ws = ws} {rx = rx} m out bytes o b' r is z) =
      let h = doors.finishing rx (length out) in
      let d = finish-done rx (length out) (length bytes) (ap (λ (g : Reason). g.number) (sym is.always.given) ∙ z) in
      let same : receiver.Is h out (demands.answer h) o =
      record { receiver = refl; taken = refl; written = refl; given = refl; output = is.always.output ∙ ap (λ (l : List ℕ). l ++ drop (length l) out) (sym d.2) } in
      subst (talk.Ended k w b took) (ap (λ (i : ℕ). ws ++ take i o) (ap length d.2 ∙ sym is.always.written))
      (talk.ends (plainly m) out o (demands.answer h) (kept.finishes rx out (demands.answer h) o same) d.0)

pub end-plainly : {rx : Receiver} → AnyEnd rx → End rx
end-plainly (AnyEnd.fresh k w b) = end.fresh k w b
end-plainly (AnyEnd.heard e p room) = end.heard (end-plainly e) p room
end-plainly (AnyEnd.finished e room) = end.finished (end-plainly e) room
end-plainly (AnyEnd.taped-heard {rx = rx} e p room bytes) =
    subst End (heard-as rx p room bytes).receiver (end.heard (end-plainly e) (first_of (taped_hearing rx p room bytes).taken p) room)
end-plainly (AnyEnd.taped-finished {rx = rx} e room bytes) = go (end-plainly e) (eqb (given_of (taped_finishing rx room bytes).why).number 0) refl
  where
    go : End rx → (b : Bool) → eqb (given_of (taped_finishing rx room bytes).why).number 0 ≡ b → End (taped_finishing rx room bytes).receiver
    go x true z = subst End (finish-done rx room bytes (eqb-true (given_of (taped_finishing rx room bytes).why).number 0 z)).1 (end.finished x room)
    go x false z = subst End (sym (finish-kept rx room bytes (eqb-false (given_of (taped_finishing rx room bytes).why).number 0 z)).0) x

-- ---- what a recorded call of the library answers

record Answered (r : tape.Ran) (out : List ℕ) (n : ℕ) (state o told : List ℕ) : Type 0 where
  number : n ≡ (given_of r.why).number
  reads : receiver_in state ≡ r.receiver
  out-is : o ≡ r.words ++ drop (length r.words) out
  taken_is : taken told ≡ r.taken
  written_is : written told ≡ length r.words
  place_is : get_or told 2 0 ≡ (given_of r.why).place

answered : (c : taped.Call) (changed : Bool) (r : tape.Ran) (state out bytes told : List ℕ) → c ≡ taped.call_of changed r state out bytes told → (n : ℕ) (state' o b told' : List ℕ) →
    Records c n state' o b told' → Answered r out n state' o told'
answered c changed r state out bytes told e n state' o b told' a =
    let tells = a.told_is ∙ ap (λ (x : taped.Call). x.told) e in
    record {
      number = a.number ∙ ap (λ (x : taped.Call). x.number) e;
      reads = a.reads ∙ ap (λ (x : taped.Call). x.receiver) e;
      out-is = a.out-is ∙ ap (λ (x : taped.Call). x.out) e;
      taken_is = ap (λ (l : List ℕ). get_or l 0 0) tells;
      written_is = ap (λ (l : List ℕ). get_or l 1 0) tells;
      place_is = ap (λ (l : List ℕ). get_or l 2 0) tells;
    }

module _ (state out bytes told : List ℕ) (n : ℕ) (state' o b told' : List ℕ) where
  abbrev heard : Piece → tape.Ran
  heard piece = taped_hearing (receiver_in state) piece (length out) (length bytes)

  abbrev finished : tape.Ran
  finished = taped_finishing (receiver_in state) (length out) (length bytes)

  heard-by : 4 ≤ length told → (piece : Piece) → Records (taped.hear_call state piece out bytes told) n state' o b told' →
      Answered (heard piece) out n state' o told' × (state' ≡ cond (ltb 0 (heard piece).taken) (words_of_receiver (heard piece).receiver ++ drop receiver_length state) state)
  unfolding taped.hear_call
  heard-by long piece a =
      let e : taped.hear_call state piece out bytes told ≡ taped.call_of (ltb 0 (heard piece).taken) (heard piece) state out bytes told = rw (le-ltb (length told) 4 long) in (
        answered (taped.hear_call state piece out bytes told) (ltb 0 (heard piece).taken) (heard piece) state out bytes told e n state' o b told' a,
        a.state-is ∙ ap (λ (x : taped.Call). x.state) e,
      )

  ended_by : 4 ≤ length told → Records (taped.finish_call state out bytes told) n state' o b told' →
      Answered finished out n state' o told' × (state' ≡ cond (eqb (given_of finished.why).number 0) (words_of_receiver finished.receiver ++ drop receiver_length state) state)
  unfolding taped.finish_call
  ended_by long a =
      let e : taped.finish_call state out bytes told ≡ taped.call_of (eqb (given_of finished.why).number 0) finished state out bytes told = rw (le-ltb (length told) 4 long) in (
        answered (taped.finish_call state out bytes told) (eqb (given_of finished.why).number 0) finished state out bytes told e n state' o b told' a,
        a.state-is ∙ ap (λ (x : taped.Call). x.state) e,
      )

  untold : length told < 4 → (piece : Piece) → Records (taped.hear_call state piece out bytes told) n state' o b told' → receiver_in state' ≡ receiver_in state
  unfolding taped.hear_call
  untold few piece a = a.reads ∙ rw (lt-ltb (length told) 4 few)

  untold-finish : length told < 4 → Records (taped.finish_call state out bytes told) n state' o b told' → receiver_in state' ≡ receiver_in state
  unfolding taped.finish_call
  untold-finish few a = a.reads ∙ rw (lt-ltb (length told) 4 few)

-- ---- the plain call that does the same

-- a `told` of three places
abbrev three : List ℕ
three = 0 ∷ 0 ∷ 0 ∷ []

abbrev three_of : doors.Ran → List ℕ
three_of r = r.taken ∷ length r.words ∷ (given_of r.why).place ∷ []

module _ (state out state' o : List ℕ) where
  as-heard : (piece : Piece) (t : tape.Ran) → let h = doors.hearing (receiver_in state) piece (length out) in
      Alike h t → receiver_in state' ≡ t.receiver → state' ≡ cond (ltb 0 t.taken) (words_of_receiver t.receiver ++ drop receiver_length state) state →
      o ≡ t.words ++ drop (length t.words) out → library.Answers (hear_call state piece out three) (given_of h.why).number state' o (three_of h)
  unfolding hear_call told_of
  as-heard piece t a r s e =
      record {
        number = refl;
        state-is = s ∙ (λ i. cond (ltb 0 (sym a.taken i)) (words_of_receiver (sym a.receiver i) ++ drop receiver_length state) state);
        reads = r ∙ sym a.receiver;
        out-is = e ∙ ap (λ (l : List ℕ). l ++ drop (length l) out) (sym a.words);
        told_is = refl;
      }

  as-ended : (t : tape.Ran) → let h = doors.finishing (receiver_in state) (length out) in
      (given_of h.why).number ≡ 0 → (given_of t.why).number ≡ 0 → h.receiver ≡ t.receiver → h.words ≡ t.words → receiver_in state' ≡ t.receiver →
      state' ≡ cond (eqb (given_of t.why).number 0) (words_of_receiver t.receiver ++ drop receiver_length state) state →
      o ≡ t.words ++ drop (length t.words) out → library.Answers (finish_call state out three) (given_of h.why).number state' o (three_of h)
  unfolding finish_call told_of
  as-ended t z z' f g r s e =
      record {
        number = refl;
        state-is = s ∙ (λ i. cond (eqb ((z' ∙ sym z) i) 0) (words_of_receiver (sym f i) ++ drop receiver_length state) state);
        reads = r ∙ sym f;
        out-is = e ∙ ap (λ (l : List ℕ). l ++ drop (length l) out) (sym g);
        told_is = refl;
      }

-- ---- runs of the library's calls

module _ (k : Accord) (w : ℕ) (b : Start) where
  lib-moved : (took : List (Two Received)) {zs zs' : List (Two Received)} (ws : List ℕ) {vs vs' state : List ℕ} → zs ≡ zs' → vs ≡ vs' →
      LibraryHears k w b (took ++ zs) (ws ++ vs) state → LibraryHears k w b (took ++ zs') (ws ++ vs') state
  lib-moved took ws {state = state} e f x = subst (λ l. l) (λ i. LibraryHears k w b (took ++ e i) (ws ++ f i) state) x

  lib-idle : {took : List (Two Received)} {ws state : List ℕ} (state' vs : List ℕ) → vs ≡ [] → receiver_in state' ≡ receiver_in state → LibraryHears k w b took ws state →
      LibraryHears k w b (took ++ []) (ws ++ vs) state'
  lib-idle {took = took} {ws = ws} state' vs e f x = rw (e, append-nil took, append-nil ws) (plain.copied x state' f)

  lib-step : {took zs : List (Two Received)} {ws vs state state' : List ℕ} → LibraryHears k w b took ws state → LibraryCalled state zs vs state' →
      LibraryHears k w b (took ++ zs) (ws ++ vs) state'
  lib-step x (LibraryCalled.hears piece out told long n s' o told' a) = plain.hears x piece out told long n s' o told' a
  lib-step {took = took} {ws = ws} {state = state} x (LibraryCalled.tapes piece out bytes told long n s' o b' told' a) =
      let d = heard-by state out bytes told n s' o b' told' long piece a in
      let t = taped_hearing (receiver_in state) piece (length out) (length bytes) in
      let q = first_of t.taken piece in
      let h = doors.hearing (receiver_in state) q (length out) in
      let e = heard-as (receiver_in state) piece (length out) (length bytes) in
      lib-moved took ws
      (ap (λ (i : ℕ). take i (take t.taken piece.symbols)) e.taken ∙ take-take t.taken t.taken piece.symbols (omega arith)
      ∙ ap (λ (i : ℕ). take i piece.symbols) (sym d.0.taken_is))
      (ap (λ (l : List ℕ). take (length l) o) e.words ∙ ap (λ (i : ℕ). take i o) (sym d.0.written_is))
      (plain.hears x q out three (omega arith) (given_of h.why).number s' o (three_of h) (as-heard state out s' o q t e d.0.reads d.1 d.0.out-is))
  lib-step {took = took} x (LibraryCalled.refuses out told long n s' o told' a z) = rw (append-nil took) (plain.refuses x out told long n s' o told' a z)
  lib-step {state = state} x (LibraryCalled.tape-refuses out bytes told long n s' o b' told' a z) =
      let d = ended_by state out bytes told n s' o b' told' long a in
      let f = finish-kept (receiver_in state) (length out) (length bytes) (λ e. z (d.0.number ∙ e)) in
      lib-idle s' (take (written told') o) (ap (λ (i : ℕ). take i o) (d.0.written_is ∙ ap length f.1)) (d.0.reads ∙ f.0) x
  lib-step {state = state} x (LibraryCalled.short piece out told few n s' o told' a) = lib-idle s' [] refl (a.reads ∙ demands.too_short state piece out told few) x
  lib-step {state = state} x (LibraryCalled.tape-short piece out bytes told few n s' o b' told' a) = lib-idle s' [] refl (untold state out bytes told n s' o b' told' few piece a) x
  lib-step {state = state} x (LibraryCalled.short-finish out told few n s' o told' a) = lib-idle s' [] refl (a.reads ∙ demands.too-short-to-finish state out told few) x
  lib-step {state = state} x (LibraryCalled.tape-short-finish out bytes told few n s' o b' told' a) = lib-idle s' [] refl (untold-finish state out bytes told n s' o b' told' few a) x
  lib-step x (LibraryCalled.copied other e) = lib-idle other [] refl e x

  pub library-plainly : {took : List (Two Received)} {ws state : List ℕ} → LibraryMixed k w b took ws state → LibraryHears k w b took ws state
  library-plainly (LibraryMixed.opens before state n p z) = plain.opens before state n p z
  library-plainly (LibraryMixed.calls m c) = lib-step (library-plainly m) c

  pub library-ended-plainly : {took : List (Two Received)} {ws : List ℕ} → LibraryMixedEnded k w b took ws → LibraryEnded k w b took ws
  library-ended-plainly (LibraryMixedEnded.ends m out told long n s' o told' a z) = plain.ends (library-plainly m) out told long n s' o told' a z
  library-ended-plainly {took = took} (LibraryMixedEnded.tape-ends {ws = ws} {state = state} m out bytes told long n s' o b' told' a z) =
      let d = ended_by state out bytes told n s' o b' told' long a in
      let t = taped_finishing (receiver_in state) (length out) (length bytes) in
      let h = doors.finishing (receiver_in state) (length out) in
      let z' : (given_of t.why).number ≡ 0 = sym d.0.number ∙ z in
      let f = finish-done (receiver_in state) (length out) (length bytes) z' in
      subst (LibraryEnded k w b took) (ap (λ (i : ℕ). ws ++ take i o) (ap length f.2 ∙ sym d.0.written_is))
      (plain.ends (library-plainly m) out three (omega arith) (given_of h.why).number s' o (three_of h)
      (as-ended state out s' o t f.0 z' f.1 f.2 d.0.reads d.1 d.0.out-is) f.0)

-- ---- the demands

module _ (k : Accord) (w : ℕ) (b : Start) (took : List (Two Received)) (ws : List ℕ) where
  pub exact : (state : List ℕ) → LibraryMixed k w b took ws state → (l : List Symbol) → Longest (code_of k (start_of b)) (reverse took) l → ws ≡ words_of k (start_of b) l
  exact state m = demands.exact k w b took ws state (library-plainly k w b m)

  pub final : (state : List ℕ) → LibraryMixed k w b took ws state → (zs : List (Two Received)) (p : Path Symbol) →
      IsAnswer (code_of k (start_of b)) (reverse (took ++ zs)) p → IsPrefix ws (words_of k (start_of b) (symbols p))
  final state m = demands.final k w b took ws state (library-plainly k w b m)

  pub whole : LibraryMixedEnded k w b took ws → (p : Path Symbol) → IsAnswer (code_of k (start_of b)) (reverse took) p → ws ≡ words_of k (start_of b) (symbols p)
  whole m = demands.whole k w b took ws (library-ended-plainly k w b m)

  pub least : LibraryMixedEnded k w b took ws → demand2.LeastWords k b took ws
  least m = demand2.least k w b took ws (demands.ended k w b took ws (library-ended-plainly k w b m))

  pub any-cut : (v : ℕ) (vs : List ℕ) → LibraryMixedEnded k w b took ws → LibraryMixedEnded k v b took vs → ws ≡ vs
  any-cut v vs m n =
      demand2.any-cut k w v b took ws vs (demands.ended k w b took ws (library-ended-plainly k w b m)) (demands.ended k v b took vs (library-ended-plainly k v b n))

  -- what a recorded call answers after such a run
  module _ (state : List ℕ) (m : LibraryMixed k w b took ws state) (out bytes told : List ℕ) (long : 4 ≤ length told) (n : ℕ) (state' o b' told' : List ℕ) where
    run : follows.Follows k w b took ws (receiver_in state)
    run = follows.follows k w b took ws (receiver_in state) (demands.talks k w b took ws state (library-plainly k w b m))

    -- the recorder's answer, with the bytes that it leaves
    answer_of : tape.Ran → Taped
    answer_of r = record { receiver = r.receiver; taken = r.taken; written = length r.words; recorded = space_of r.records; why = r.why }

    bytes_after : tape.Ran → List ℕ
    bytes_after r = bytes_of r.records ++ drop (space_of r.records) bytes

    is : (r : tape.Ran) → o ≡ r.words ++ drop (length r.words) out → Is r out bytes (answer_of r) o (bytes_after r)
    unfolding answer_of bytes_after
    is r e = record { receiver = refl; taken = refl; written = refl; recorded = refl; given = refl; output = e; bytes-are = refl }

    pub piece-recorded : (piece : Piece) → Records (taped.hear_call state piece out bytes told) n state' o b' told' →
        let d = piece_recorded (follows.told_of k w b took) piece (length out) (length bytes) in
        (record { number = n; place = get_or told' 2 0 } ≡ d.reason) × (taken told' ≡ d.taken) × (written told' ≡ length d.words) × (o ≡ d.words ++ drop (length d.words) out)
    unfolding answer_of
    piece-recorded piece a =
        let x = (heard-by state out bytes told n state' o b' told' long piece a).0 in
        let r = taped_hearing (receiver_in state) piece (length out) (length bytes) in
        let p = (owes.tapes (receiver_in state) piece out bytes (answer_of r) o (bytes_after r) (is r x.out-is)).owed (follows.told_of k w b took) run.fine run.machine in
        ((λ i. record { number = x.number i; place = x.place_is i }) ∙ p.given, x.taken_is ∙ p.taken, x.written_is ∙ p.written, p.output)

    pub finish-recorded : Records (taped.finish_call state out bytes told) n state' o b' told' →
        let d = finish_recorded (follows.told_of k w b took) (length out) (length bytes) in
        (n ≡ d.reason.number) × (written told' ≡ length d.words) × (o ≡ d.words ++ drop (length d.words) out)
    unfolding answer_of
    finish-recorded a =
        let x = (ended_by state out bytes told n state' o b' told' long a).0 in
        let r = taped_finishing (receiver_in state) (length out) (length bytes) in
        let p = (owes.finish-tapes (receiver_in state) out bytes (answer_of r) o (bytes_after r) (is r x.out-is)).owed (follows.told_of k w b took) run.fine run.machine in
        (x.number ∙ ap (λ (g : Reason). g.number) p.given, x.written_is ∙ p.written, p.output)

pub round_trip : (k : Accord) (w : ℕ) (b : Start) → StartsAtZero b → (words : List ℕ) (ps : List ℤ) (state ws : List ℕ) → plain.LibrarySends k words ps state →
    LibraryMixedEnded k w b (symbols_of (all_on_line ps)) ws → ws ≡ as_heard (start_of b) words
round_trip k w b z words ps state ws s m = demands.round_trip k w b z words ps state ws s (library-ended-plainly k w b m)
