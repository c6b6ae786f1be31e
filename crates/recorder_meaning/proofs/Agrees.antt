-- THE THEOREM. What the recorder writes from an opening on, however cut into calls and whichever refuse, replays as `agree N` with N the
-- words written, with or without a finish, on either map. `Recording` and `Ended` (specs/Recording) are any runs of calls; `verdict_of`
-- (replay/specs/Meaning) is 02's verdict on the bytes of a capture.
--   agrees         without a finish
--   ended-agrees   with one
--   words-recorded, ended-recorded   and the words that it records are the words written to the output, in order
use mathlib.Core.Path.{◌≡◌, refl, sym, ap, ap₂, ◌∙◌}
use mathlib.Core.Bool.{Bool, true, false, cond, ◌&&◌, ◌||◌}
use mathlib.Core.List.{List, [], ◌∷◌, ◌++◌, append-nil}
use Prim.Native.Nat.{ℕ, ◌+◌, ◌-◌, ◌<◌}
use native.Mathlib.Nat.{add-zero}
use native.Mathlib.Omega.{arith}
use borrow.Author.Tests.{eqb-true, eq-eqb}
use lib.Dec.{eqb, ltb}
use lib.ListN.{length, take, drop, length-append}
use lib.Seq.{take-append_seam}
use Rattle.calls.specs.Calls.{fresh, rest}
use Rattle.trellis.specs.Lists.{Every}
use Rattle.trellis.specs.Measure.{Two}
use Rattle.nearest.specs.declared.Received.{Received}
use Rattle.points.specs.declared.Accord.{Accord}
use Rattle.machine.specs.declared.Receiver.{Receiver}
use Rattle.machine.specs.Machine.{machine_of}
use Rattle.reasons.specs.Reason.{Reason, reason, given_of}
use Rattle.openings.specs.Given.{start_at}
use Rattle.openings.specs.Given as goal
use Rattle.receiver_meaning.specs.Told.{Told, with_heard, speaker_of, judge_symbol, Fine}
use Rattle.receiver_meaning.specs.Piece.{Piece}
use Rattle.pieces.proofs.Symbols.{symbol-judged}
use Rattle.records.specs.declared.Phase.{Phase}
use Rattle.records.specs.declared.Phase.TheVariants.{Start}
use Rattle.records.specs.Values.{Entry, open_entry, bytes_of}
use Rattle.records.specs.Reading.{Reading, WellFormed, clean}
use Rattle.records.proofs.Back.{read_back}
use Rattle.record_write.specs.Front.{symbol_records, finish_records, space_of}
use Rattle.record_write.proofs.Fronts.{bytes-append}
use Rattle.recorder.specs.declared.Taped.{Taped}
use Rattle.recorder.specs.Recorded.{judge_recorded, Walked, stops_before, goes_on, walk_recorded}
use Rattle.recorder.specs.Recorded.{PieceRecorded, piece_recorded, FinishRecorded, finish_recorded, opening_recorded}
use Rattle.recorder.specs.Promise.{Pays, EndPays}
use Rattle.recorder.proofs.Opens.{open-space}
use Rattle.replay_judge.specs.declared.Verdict.TheVariants.{Agree}
use Rattle.replay.specs.Meaning.{Line, closed, told, Seen, nothing_seen, takings, closing, verdict_of}
use Rattle.recorder_meaning.specs.Recording.{Recording, opens, hears, refuses, Ended, ends}
use Rattle.replay.proofs.Forms.{Formed, phase_after, well, formed-append, phase-append}
use Rattle.replay.proofs.Words.{seen, takings-append, all_small}
use Rattle.receiver_meaning.proofs.Speaks.{fresh-below, rest_below}
use Rattle.recorder_meaning.proofs.Forms.{Ready, Runs, none_runs, runs_append, symbol-runs, open-runs, finish-formed}
use Rattle.recorder_meaning.specs.WordsIn.{words_of, words_in}
use Rattle.recorder_meaning.proofs.WordsIn.{words_append, symbol-words, finish-words, open-words}
use Rattle.recorder_meaning.proofs.Seeing.{symbol-seen, open-seen, finish-seen}

-- ---- one piece

-- what a walk records: its form, and what replay sees of it
record Walks (t : Told) (ys : List (Two Received)) (p : Phase) (m n : ℕ) (e : Walked) : Type 0 where
  form : Runs p e.records
  words : words_of e.records ≡ e.words
  number : ℕ
  sees : takings (seen (told (with_heard t ys)) [] m n) e.records ≡ seen (told (with_heard t e.heard)) [] number (n + length e.words)

taken-judged : (t : Told) (ys : List (Two Received)) (y : Two Received) (room bytes : ℕ) → (judge_recorded t ys y room bytes).number ≡ 0 → (judge_symbol t ys y room).number ≡ 0
unfolding judge_recorded
taken-judged t ys y room bytes = go (ltb bytes (space_of (symbol_records y (fresh (speaker_of t) ys y)))) (eqb (judge_symbol t ys y room).number 0) refl where
  go : (b a : Bool) → eqb (judge_symbol t ys y room).number 0 ≡ a → (cond {A = Reason} (a && b) (reason 8) (judge_symbol t ys y room)).number ≡ 0 →
      (judge_symbol t ys y room).number ≡ 0
  go b true e z = eqb-true (judge_symbol t ys y room).number 0 e
  go b false e z = z

-- the words that a symbol adds fit a record
fresh-small : (t : Told) (ys : List (Two Received)) → Fine (with_heard t ys) → (y : Two Received) → Every (λ w. w < 4294967296) (fresh (speaker_of t) ys y)
fresh-small t ys f y = all_small (with_heard t ys) f (fresh (speaker_of t) ys y) (fresh-below (with_heard t ys) f ys y)

walks : (t : Told) (zs ys : List (Two Received)) → Fine (with_heard t ys) → (p : Phase) → Ready p → (room bytes m n : ℕ) → Walks t ys p m n (walk_recorded t ys zs room bytes)
unfolding walk_recorded takings words_of
walks t [] ys f p r room bytes m n = record { form = none_runs p r; words = refl; number = m; sees = ap (seen (told (with_heard t ys)) [] m) (sym (add-zero n)) }
walks t (y ∷ zs) ys f p r room bytes m n = go (eqb (judge_recorded t ys y room bytes).number 0) refl (walks t zs (y ∷ ys))
  where
    vs : List ℕ
    vs = fresh (speaker_of t) ys y

    rs : List Entry
    rs = symbol_records y vs

    further : Walked
    further = walk_recorded t (y ∷ ys) zs (room - length vs) (bytes - space_of rs)

    go : (b : Bool) → eqb (judge_recorded t ys y room bytes).number 0 ≡ b →
        (Fine (with_heard t (y ∷ ys)) → (q : Phase) → Ready q → (room bytes m n : ℕ) → Walks t (y ∷ ys) q m n (walk_recorded t (y ∷ ys) zs room bytes)) →
        Walks t ys p m n (cond b (goes_on vs rs further) (stops_before ys (judge_recorded t ys y room bytes)))
    go false e ih = record { form = none_runs p r; words = refl; number = m; sees = ap (seen (told (with_heard t ys)) [] m) (sym (add-zero n)) }
    go true e ih =
        let z = taken-judged t ys y room bytes (eqb-true (judge_recorded t ys y room bytes).number 0 e) in
        let g = (symbol-judged t ys f y room).fine z in
        let a = symbol-runs p r y vs in
        let k = ih g (phase_after p rs) a.ready (room - length vs) (bytes - space_of rs) (m + 1 + length vs) (n + length vs) in
        let l : n + length vs + length further.words ≡ n + length (vs ++ further.words) = omega (arith, length-append vs further.words) in
        record {
          form = runs_append p rs further.records a k.form;
          words = words_append rs further.records ∙ ap₂ (λ (l m : List ℕ). l ++ m) (symbol-words y vs (fresh-small t ys f y)) k.words;
          number = k.number;
          sees =
              takings-append (seen (told (with_heard t ys)) [] m n) rs further.records
              ∙ ap (λ (s : Seen). takings s further.records) (symbol-seen t ys f y g room z m n)
              ∙ k.sees
              ∙ ap (seen (told (with_heard t further.heard)) [] k.number) l;
        }

-- ---- a run

record Follows (k : Accord) (w s : ℕ) (ws bs : List ℕ) (rx : Receiver) : Type 0 where
  told_is : Told
  fine : Fine told_is
  is : rx ≡ machine_of told_is
  records : List Entry
  bytes : bs ≡ bytes_of records
  form : Runs Start records
  words : words_of records ≡ ws
  number : ℕ
  sees : takings nothing_seen records ≡ seen (told told_is) [] number (length ws)

-- a call that wrote nothing and left all as it was
module _ (k : Accord) (w s : ℕ) (ws bs : List ℕ) (rx : Receiver) (F : Follows k w s ws bs rx) where
  idle : (vs cs : List ℕ) (rx' : Receiver) → vs ≡ [] → cs ≡ [] → rx' ≡ rx → Follows k w s (ws ++ vs) (bs ++ cs) rx'
  idle vs cs rx' a b c =
      record {
        told_is = F.told_is;
        fine = F.fine;
        is = c ∙ F.is;
        records = F.records;
        bytes = rw (b, append-nil bs) F.bytes;
        form = F.form;
        words = rw (a, append-nil ws) F.words;
        number = F.number;
        sees = rw (a, append-nil ws) F.sees;
      }

  -- a walk of symbols
  walked : (e : Walked) → Walks F.told_is F.told_is.heard (phase_after Start F.records) F.number (length ws) e → Fine (with_heard F.told_is e.heard) →
      (vs cs : List ℕ) (rx' : Receiver) → vs ≡ e.words → cs ≡ bytes_of e.records → rx' ≡ machine_of (with_heard F.told_is e.heard) →
      Follows k w s (ws ++ vs) (bs ++ cs) rx'
  walked e x f vs cs rx' a b c =
      record {
        told_is = with_heard F.told_is e.heard;
        fine = f;
        is = c;
        records = F.records ++ e.records;
        bytes = ap₂ (λ (l m : List ℕ). l ++ m) F.bytes b ∙ sym (bytes-append F.records e.records);
        form = runs_append Start F.records e.records F.form x.form;
        words = words_append F.records e.records ∙ ap₂ (λ (l m : List ℕ). l ++ m) F.words (x.words ∙ sym a);
        number = x.number;
        sees =
            takings-append nothing_seen F.records e.records
            ∙ ap (λ (q : Seen). takings q e.records) F.sees
            ∙ x.sees
            ∙ ap (seen (told (with_heard F.told_is e.heard)) [] x.number) (rw a (sym (length-append ws e.words)));
      }

taken-words : (words out o : List ℕ) (n : ℕ) → n ≡ length words → o ≡ words ++ drop (length words) out → take n o ≡ words
taken-words words out o n e is = rw (e, is) (take-append_seam words (drop (length words) out))

heard-follows : (k : Accord) (w s : ℕ) (ws bs : List ℕ) (rx : Receiver) (F : Follows k w s ws bs rx) (p : Piece) (out bytes o b : List ℕ) (r : Taped) →
    Pays (piece_recorded F.told_is p (length out) (length bytes)) out bytes r o b →
    Follows k w s (ws ++ take r.written o) (bs ++ take r.recorded b) r.receiver
unfolding piece_recorded bytes_of
heard-follows k w s ws bs rx F p out bytes o b r = go p.fits
  where
    t : Told
    t = F.told_is

    e : Walked
    e = walk_recorded t t.heard p.symbols (length out) (length bytes)

    piece : Bool → PieceRecorded
    piece c =
        cond c (record { reason = e.why; taken = e.taken; words = e.words; records = e.records; told = with_heard t e.heard })
        (record { reason = reason 10; taken = 0; words = []; records = []; told = t })

    -- the words and the bytes of what is paid
    said : (d : PieceRecorded) → Pays d out bytes r o b → (take r.written o ≡ d.words) × (take r.recorded b ≡ bytes_of d.records)
    said d q = (taken-words d.words out o r.written q.written q.output, taken-words (bytes_of d.records) bytes b r.recorded q.recorded q.bytes-are)

    went : Walks t t.heard (phase_after Start F.records) F.number (length ws) e
    went = walks t p.symbols t.heard F.fine (phase_after Start F.records) F.form.ready (length out) (length bytes) F.number (length ws)

    go : (c : Bool) → Pays (piece c) out bytes r o b → Follows k w s (ws ++ take r.written o) (bs ++ take r.recorded b) r.receiver
    go true q =
        let v = said (piece true) q in
        walked k w s ws bs rx F e went q.fine (take r.written o) (take r.recorded b) r.receiver v.0 v.1 q.receiver
    go false q =
        let v = said (piece false) q in
        idle k w s ws bs rx F (take r.written o) (take r.recorded b) r.receiver v.0 v.1 (q.receiver ∙ sym F.is)

-- a finish: refused, it leaves all as it was; done, the capture ends with it
module _ (k : Accord) (w s : ℕ) (ws bs : List ℕ) (rx : Receiver) (F : Follows k w s ws bs rx) (out bytes o b : List ℕ) (r : Taped) where
  abbrev t : Told
  t = F.told_is

  abbrev last : List ℕ
  last = rest (speaker_of t) t.heard

  abbrev refusal : FinishRecorded
  refusal = record { reason = reason 8; words = []; records = []; closes = false }

  abbrev success : FinishRecorded
  success = record { reason = reason 0; words = last; records = finish_records last; closes = true }

  abbrev finished : Bool → FinishRecorded
  finished c = cond c refusal success

  short : Bool
  short = ltb (length out) (length last) || ltb (length bytes) (space_of (finish_records last))

  -- the words and the bytes of what is paid
  said : (d : FinishRecorded) → EndPays d rx out bytes r o b → (take r.written o ≡ d.words) × (take r.recorded b ≡ bytes_of d.records)
  said d q = (taken-words d.words out o r.written q.written q.output, taken-words (bytes_of d.records) bytes b r.recorded q.recorded q.bytes-are)

  refused-follows : EndPays (finish_recorded t (length out) (length bytes)) rx out bytes r o b → ((given_of r.why).number ≡ 0 → ⊥) →
      Follows k w s (ws ++ take r.written o) (bs ++ take r.recorded b) r.receiver
  unfolding finish_recorded short bytes_of
  refused-follows q z = go short q where
    go : (c : Bool) → EndPays (finished c) rx out bytes r o b → Follows k w s (ws ++ take r.written o) (bs ++ take r.recorded b) r.receiver
    go true q = idle k w s ws bs rx F (take r.written o) (take r.recorded b) r.receiver (said refusal q).0 (said refusal q).1 q.receiver
    go false q = absurd (z (ap (λ (x : Reason). x.number) q.given))

  ended_is : EndPays (finish_recorded t (length out) (length bytes)) rx out bytes r o b → (given_of r.why).number ≡ 0 →
      (take r.written o ≡ last) × (take r.recorded b ≡ bytes_of (finish_records last))
  unfolding finish_recorded short
  ended_is q z = go short q where
    go : (c : Bool) → EndPays (finished c) rx out bytes r o b → (take r.written o ≡ last) × (take r.recorded b ≡ bytes_of (finish_records last))
    go true q = absurd (let e : ◌≡◌ {A = ℕ} 8 0 = sym (ap (λ (x : Reason). x.number) q.given) ∙ z in omega arith)
    go false q = said success q

-- ---- the verdict

verdict-is : (rs : List Entry) (l : Line) (m n : ℕ) → WellFormed Start rs → takings nothing_seen rs ≡ seen l [] m n → verdict_of (bytes_of rs) ≡ Agree n
unfolding verdict_of
verdict-is rs l m n f e = rw (read_back rs f) (ap (λ (q : Seen). closing q clean) e)

follows-agree : (k : Accord) (w s : ℕ) (ws bs : List ℕ) (rx : Receiver) → Follows k w s ws bs rx → verdict_of bs ≡ Agree (length ws)
follows-agree k w s ws bs rx F =
    let f = well Start F.records F.form.formed F.form.ready.begun in
    ap verdict_of F.bytes ∙ verdict-is F.records (told F.told_is) F.number (length ws) f F.sees

follows : (k : Accord) (w s : ℕ) (ws bs : List ℕ) (rx : Receiver) → Recording k w s ws bs rx → Follows k w s ws bs rx
unfolding opening_recorded
follows k w s ws bs rx (opens r is z bytes b n o e) =
    record {
      told_is = record { accord = k; window = w; start = goal.start_of (start_at s); heard = [] };
      fine = (is.fresh z).0;
      is = (is.fresh z).1;
      records = open_entry k w s ∷ [];
      bytes = taken-words (bytes_of (open_entry k w s ∷ [])) bytes b 4 four put;
      form = open-runs k w s;
      words = open-words k w s;
      number = 1;
      sees = open-seen k w s (sym is.owed ∙ z);
    }
  where
    four : ◌≡◌ {A = ℕ} 4 (length (bytes_of (open_entry k w s ∷ [])))
    four = sym (open-space k w s)

    put : b ≡ bytes_of (open_entry k w s ∷ []) ++ drop (length (bytes_of (open_entry k w s ∷ []))) bytes
    put = rw (eq-eqb (opening_recorded k w s (length bytes)) 0 (sym o.number ∙ e)) at o.bytes-are
follows k w s ws bs rx (hears {ws = vs} {bs = cs} {rx = ry} q p out bytes o b r is) =
    let F = follows k w s vs cs ry q in
    heard-follows k w s vs cs ry F p out bytes o b r (is.owed F.told_is F.fine F.is)
follows k w s ws bs rx (refuses {ws = vs} {bs = cs} {rx = ry} q out bytes o b r is z) =
    let F = follows k w s vs cs ry q in
    refused-follows k w s vs cs ry F out bytes o b r (is.owed F.told_is F.fine F.is) z

pub agrees : (k : Accord) (w s : ℕ) (ws bs : List ℕ) (rx : Receiver) → Recording k w s ws bs rx → verdict_of bs ≡ Agree (length ws)
agrees k w s ws bs rx q = follows-agree k w s ws bs rx (follows k w s ws bs rx q)

-- what the capture of well-formed records reads as
read-words : (rs : List Entry) → WellFormed Start rs → words_in (bytes_of rs) ≡ words_of rs
read-words rs f = ap (λ (q : Reading). words_of q.records) (read_back rs f)

pub words-recorded : (k : Accord) (w s : ℕ) (ws bs : List ℕ) (rx : Receiver) → Recording k w s ws bs rx → words_in bs ≡ ws
words-recorded k w s ws bs rx q =
    let F = follows k w s ws bs rx q in
    ap words_in F.bytes ∙ read-words F.records (well Start F.records F.form.formed F.form.ready.begun) ∙ F.words

-- a run that a finish ended, as its records
record Over (ws bs : List ℕ) : Type 0 where
  records : List Entry
  bytes : bs ≡ bytes_of records
  form : WellFormed Start records
  words : words_of records ≡ ws
  number : ℕ
  sees : takings nothing_seen records ≡ seen closed [] number (length ws)

over : (k : Accord) (w s : ℕ) (ws bs : List ℕ) → Ended k w s ws bs → Over ws bs
over k w s ws bs (ends {ws = vs} {bs = cs} {rx = ry} q out bytes o b r is z) =
    let F = follows k w s vs cs ry q in
    let t = F.told_is in
    let last = rest (speaker_of t) t.heard in
    let x = ended_is k w s vs cs ry F out bytes o b r (is.owed t F.fine F.is) z in
    let all = F.records ++ finish_records last in
    let g = finish-formed (phase_after Start F.records) F.form.ready last in
    let f : Formed Start all = formed-append Start F.records (finish_records last) F.form.formed g.0 in
    let small : Every (λ w. w < 4294967296) last = all_small t F.fine last (rest_below t F.fine t.heard) in
    record {
      records = all;
      bytes = ap₂ (λ (l m : List ℕ). l ++ m) F.bytes x.1 ∙ sym (bytes-append F.records (finish_records last));
      form = well Start all f (rw (phase-append Start F.records (finish_records last)) g.1);
      words = words_append F.records (finish_records last) ∙ ap₂ (λ (l m : List ℕ). l ++ m) F.words (finish-words last small ∙ sym x.0);
      number = F.number + 1 + length last;
      sees =
          takings-append nothing_seen F.records (finish_records last) ∙ ap (λ (y : Seen). takings y (finish_records last)) F.sees
          ∙ finish-seen t F.fine F.number (length vs) ∙ ap (seen closed [] (F.number + 1 + length last)) (rw x.0 (sym (length-append vs last)));
    }

pub ended-agrees : (k : Accord) (w s : ℕ) (ws bs : List ℕ) → Ended k w s ws bs → verdict_of bs ≡ Agree (length ws)
ended-agrees k w s ws bs e = let d = over k w s ws bs e in ap verdict_of d.bytes ∙ verdict-is d.records closed d.number (length ws) d.form d.sees

pub ended-recorded : (k : Accord) (w s : ℕ) (ws bs : List ℕ) → Ended k w s ws bs → words_in bs ≡ ws
ended-recorded k w s ws bs e = let d = over k w s ws bs e in ap words_in d.bytes ∙ read-words d.records d.form ∙ d.words
