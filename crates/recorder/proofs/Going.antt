-- A recorded piece under way: where the loop stands after some symbols, one turn of it, and its two ends. As pieces/proofs/Going, with the
-- bytes beside the output.
--   Given, Stand     what the loop was given, and where it stands
--   Going            what was taken, written and recorded so far leads to the same end as the whole piece
--   start, end       before the first symbol and after the last
--   Turn             a turn of the loop: one symbol more; go_on and stop are its ends
use mathlib.Core.Path.{◌≡◌, refl, sym, ap, ap₂, ◌∙◌}
use mathlib.Core.Bool.{true, false, cond}
use mathlib.Core.List.{List, [], ◌∷◌, ◌++◌, append-nil}
use Prim.Native.Nat.{ℕ, ◌+◌, ◌-◌, ◌*◌, ◌/◌, ◌%◌, ◌<◌, ◌≤◌}
use native.Mathlib.Nat.{add-zero}
use native.Mathlib.Omega.{arith}
use lib.IntN.{ℤ}
use lib.ListN.{get_or, length, take, drop, length-drop, take-append-drop, drop_of_length-le}
use lib.Seq.{length-take-le, drop-drop}
use Rattle.std.specs.Prelude.{Ok}
use Rattle.trellis.specs.Measure.{Two}
use Rattle.nearest.specs.declared.Received.{Received}
use Rattle.machine.specs.declared.Core.{Core}
use Rattle.machine.specs.declared.Receiver.{Receiver}
use Rattle.machine.specs.Machine.{Outcome, sound}
use Rattle.machine.specs.Parts.{whole}
use Rattle.reasons.specs.Reason.{given_of, is_done}
use Rattle.receiver_meaning.specs.Piece.{symbols_with, mark_of, later_marks}
use Rattle.piece_input.proofs.Marks.{mark-from, later-from}
use Rattle.pieces.proofs.Lent.{part, lent_fits, back_is, back-take, back-drop, back-length}
use Rattle.records.specs.Values.{Entry, bytes_of}
use Rattle.record_write.specs.Front.{symbol_in, symbol_records, space_of}
use Rattle.record_write.proofs.Fronts.{bytes-append}
use Rattle.recorder.specs.declared.piece.Step.{Step}
use Rattle.recorder.specs.Taping.{taped_at, records_of, Ran, taping}
use Rattle.recorder.specs.Lent.{StepIs, RunsTaped}
use Rattle.recorder.proofs.Left.{taped-refused, taped-sound}

pub record Given : Type 0 where
  pub ms : List ℕ
  pub xs : List ℤ
  pub out : List ℕ
  pub bytes : List ℕ
  pub rx : Receiver

pub record Stand : Type 0 where
  pub out : List ℕ
  pub bytes : List ℕ
  pub rx : Receiver
  pub taken : ℕ
  pub written : ℕ
  pub recorded : ℕ

-- the end of the whole piece
abbrev pub all_of : Given → Ran
all_of z = taping (symbols_with z.ms z.xs) z.rx 0 [] [] (length z.out) (length z.bytes)

pub record Going (z : Given) (s : Stand) : Type 0 where
  pub even : length z.xs % 4 ≡ 0
  pub within : 4 * s.taken ≤ length z.xs
  pub room : s.written ≤ length z.out
  pub long : length s.out ≡ length z.out
  pub space : s.recorded ≤ length z.bytes
  pub wide : length s.bytes ≡ length z.bytes
  pub fit : sound s.rx ≡ true
  pub picks : length s.rx.picks ≡ 72
  pub rest : drop s.written s.out ≡ drop s.written z.out
  pub rest-bytes : drop s.recorded s.bytes ≡ drop s.recorded z.bytes
  pub records : List Entry
  pub are : take s.recorded s.bytes ≡ bytes_of records
  pub same : all_of z ≡ taping (symbols_with (drop s.taken z.ms) (drop (4 * s.taken) z.xs)) s.rx s.taken (take s.written s.out) records (length z.out) (length z.bytes)

-- the symbol at the front of some coordinates, with its mark, and those after it
front-symbol : (ms : List ℕ) (zs : List ℤ) → 4 ≤ length zs → symbols_with ms zs ≡ symbol_in (mark_of ms) (take 4 zs) ∷ symbols_with (later_marks ms) (drop 4 zs)
front-symbol ms [] h = absurd (omega arith)
front-symbol ms (a ∷ []) h = absurd (omega arith)
front-symbol ms (a ∷ b ∷ []) h = absurd (omega arith)
front-symbol ms (a ∷ b ∷ c ∷ []) h = absurd (omega arith)
front-symbol ms (a ∷ b ∷ c ∷ d ∷ zs) h = refl

-- one symbol of a run
module _ (y : Two Received) (zs : List (Two Received)) (rx : Receiver) (n : ℕ) (ws : List ℕ) (rs : List Entry) (room bytes : ℕ)
    (o : Outcome) (e : taped_at rx y (room - length ws) (bytes - space_of rs) ≡ o) where
  abbrev further : Outcome → Ran
  further o = taping zs o.receiver (n + 1) (ws ++ o.words) (rs ++ symbol_records y o.words) room bytes

  abbrev halted : Outcome → Ran
  halted o = record { receiver = rx; taken = n; words = ws; records = rs; why = o.why }

  once : taping (y ∷ zs) rx n ws rs room bytes ≡ cond (is_done o.why) (further o) (halted o)
  unfolding taping
  once = ap (λ (q : Outcome). cond (is_done q.why) (further q) (halted q)) e

  run_on : is_done o.why ≡ true → taping (y ∷ zs) rx n ws rs room bytes ≡ further o
  run_on d = once ∙ rw d

  run-stop : is_done o.why ≡ false → taping (y ∷ zs) rx n ws rs room bytes ≡ halted o
  run-stop d = once ∙ rw d

-- ---- before the first symbol, and after the last

module _ (z : Given) where
  pub start : length z.xs % 4 ≡ 0 → sound z.rx ≡ true → length z.rx.picks ≡ 72 →
      Going z (record { out = z.out; bytes = z.bytes; rx = z.rx; taken = 0; written = 0; recorded = 0 })
  unfolding bytes_of
  start even fit of-72 =
      record {
        even = even;
        within = omega arith;
        room = omega arith;
        long = refl;
        space = omega arith;
        wide = refl;
        fit = fit;
        picks = of-72;
        rest = refl;
        rest-bytes = refl;
        records = [];
        are = refl;
        same = refl;
      }

  module _ (s : Stand) (g : Going z s) where
    wrote : length (take s.written s.out) ≡ s.written
    wrote = length-take-le s.written s.out (omega (arith, g.room, g.long))

    space-is : space_of g.records ≡ s.recorded
    space-is = ap length (sym g.are) ∙ length-take-le s.recorded s.bytes (omega (arith, g.space, g.wide))

  pub end : (core : Core) (sums registers picks out bytes : List ℕ) (taken w v : ℕ) →
      Going z (record { out = out; bytes = bytes; rx = whole core sums registers picks; taken = taken; written = w; recorded = v }) →
      length z.xs / 4 ≤ taken →
      RunsTaped (all_of z) z.out z.bytes (record { core = core; taken = length z.xs / 4; written = w; recorded = v; why = Ok tt }) sums registers picks out bytes
  unfolding taping
  end core sums registers picks out bytes taken w v g past =
      let s : Stand = record { out = out; bytes = bytes; rx = whole core sums registers picks; taken = taken; written = w; recorded = v } in
      let ran : all_of z ≡ record { receiver = s.rx; taken = taken; words = take w out; records = g.records; why = Ok tt } =
      g.same ∙ ap (λ (zs : List ℤ). taping (symbols_with (drop taken z.ms) zs) s.rx taken (take w out) g.records (length z.out) (length z.bytes))
      (drop_of_length-le z.xs {i = 4 * taken} (omega (arith, g.even, past))) in
      rw ran
      (record {
        receiver = refl;
        taken = omega (arith, g.within, past);
        written = sym (wrote s g);
        recorded = sym (space-is s g);
        given = refl;
        output = rw (wrote s g, ← g.rest) (sym (take-append-drop w out));
        bytes-are = rw (space-is s g, ← g.rest-bytes, ← g.are) (sym (take-append-drop v bytes));
      })

-- ---- a turn of the loop

-- the four coordinates from the place i on; a list from the place w on, as it is lent, and the list when that has come back as ys
abbrev pub four_at : List ℤ → ℕ → List ℤ
four_at xs i = take (i + 4 - i) (drop i xs)

abbrev pub lent_from : ℕ → List ℕ → List ℕ
lent_from w l = take (length l - w) (drop w l)

abbrev pub returned : ℕ → List ℕ → List ℕ → List ℕ
returned w l ys = take w l ++ (ys ++ drop (length l - w) (drop w l))

module _ (z : Given) (s : Stand) (g : Going z s) (more : s.taken < length z.xs / 4) where
  pub four : 4 * s.taken + 4 ≤ length z.xs
  four = omega (arith, g.even, more)

  pub four-long : length (four_at z.xs (4 * s.taken)) ≡ 4
  four-long =
      let n : 4 * s.taken + 4 - 4 * s.taken ≡ 4 = omega arith in
      rw n (length-take-le 4 (drop (4 * s.taken) z.xs) (rw length-drop (omega (arith, four))))

pub record Turn (z : Given) (s : Stand) : Type 0 where
  pub going : Going z s
  pub more : s.taken < length z.xs / 4
  pub mark : ℕ
  pub mark-is : mark ≡ get_or z.ms s.taken 0
  pub step : Step
  pub sums : List ℕ
  pub registers : List ℕ
  pub picks : List ℕ
  pub ys : List ℕ
  pub zs : List ℕ
  pub is : StepIs s.rx (symbol_in mark (four_at z.xs (4 * s.taken))) (lent_from s.written s.out) (lent_from s.recorded s.bytes) step sums registers picks ys zs
  pub kept : length ys ≡ length (lent_from s.written s.out)
  pub kept-bytes : length zs ≡ length (lent_from s.recorded s.bytes)

module _ (z : Given) (s : Stand) (t : Turn z s) where
  abbrev g : Going z s
  g = t.going

  abbrev r : Step
  r = t.step

  abbrev y : Two Received
  y = symbol_in t.mark (four_at z.xs (4 * s.taken))

  abbrev left : ℕ
  left = length (lent_from s.written s.out)

  abbrev left-bytes : ℕ
  left-bytes = length (lent_from s.recorded s.bytes)

  abbrev o : Outcome
  o = taped_at s.rx y left left-bytes

  abbrev new : List Entry
  new = records_of y o

  abbrev ahead : List (Two Received)
  ahead = symbols_with (drop (s.taken + 1) z.ms) (drop (4 * (s.taken + 1)) z.xs)

  -- the output and the bytes after it
  abbrev pub out_next : List ℕ
  out_next = returned s.written s.out t.ys

  abbrev pub bytes_next : List ℕ
  bytes_next = returned s.recorded s.bytes t.zs

  symbols-are : symbols_with (drop s.taken z.ms) (drop (4 * s.taken) z.xs) ≡ y ∷ ahead
  symbols-are =
      let n : 4 * s.taken + 4 - 4 * s.taken ≡ 4 = omega arith in
      let on : 4 * (s.taken + 1) ≡ 4 * s.taken + 4 = omega arith in
      front-symbol (drop s.taken z.ms) (drop (4 * s.taken) z.xs) (rw length-drop (omega (arith, four z s g t.more)))
      ∙ rw (on, n, drop-drop 4 (4 * s.taken) z.xs, mark-from z.ms s.taken, later-from z.ms s.taken, t.mark-is)

  here : taped_at s.rx y (length z.out - length (take s.written s.out)) (length z.bytes - space_of g.records) ≡ o
  here =
      let b : left ≡ length z.out - length (take s.written s.out) =
      rw (part s.out z.out o.words t.ys s.written g.long g.room g.rest t.is.output t.kept, length-drop, wrote z s g) in
      let c : left-bytes ≡ length z.bytes - space_of g.records =
      rw (part s.bytes z.bytes (bytes_of new) t.zs s.recorded g.wide g.space g.rest-bytes t.is.bytes-are t.kept-bytes, length-drop, space-is z s g) in
      rw (sym b, sym c)

  same-on : all_of z ≡ taping (y ∷ ahead) s.rx s.taken (take s.written s.out) g.records (length z.out) (length z.bytes)
  same-on = g.same ∙ ap (λ (l : List (Two Received)). taping l s.rx s.taken (take s.written s.out) g.records (length z.out) (length z.bytes)) symbols-are

  pub more-fits : s.written + r.written ≤ length z.out
  more-fits = rw t.is.written (lent_fits s.out z.out o.words t.ys s.written g.long g.room g.rest t.is.output t.kept)

  pub more-space : s.recorded + r.recorded ≤ length z.bytes
  more-space =
      rw t.is.recorded (lent_fits s.bytes z.bytes (bytes_of new) t.zs s.recorded g.wide g.space g.rest-bytes t.is.bytes-are t.kept-bytes)

  pub more-length : length out_next ≡ length z.out
  more-length = back-length s.out z.out o.words t.ys s.written g.long g.room g.rest t.is.output t.kept

  pub more-wide : length bytes_next ≡ length z.bytes
  more-wide = back-length s.bytes z.bytes (bytes_of new) t.zs s.recorded g.wide g.space g.rest-bytes t.is.bytes-are t.kept-bytes

  spoken : take (s.written + r.written) out_next ≡ take s.written s.out ++ o.words
  spoken =
      ap (λ (n : ℕ). take (s.written + n) out_next) t.is.written
      ∙ back-take s.out z.out o.words t.ys s.written g.long g.room g.rest t.is.output t.kept

  grown : take (s.recorded + r.recorded) bytes_next ≡ take s.recorded s.bytes ++ bytes_of new
  grown =
      ap (λ (n : ℕ). take (s.recorded + n) bytes_next) t.is.recorded
      ∙ back-take s.bytes z.bytes (bytes_of new) t.zs s.recorded g.wide g.space g.rest-bytes t.is.bytes-are t.kept-bytes

  abbrev pub next : Stand
  next =
      record {
        out = out_next;
        bytes = bytes_next;
        rx = whole r.core t.sums t.registers t.picks;
        taken = s.taken + 1;
        written = s.written + r.written;
        recorded = s.recorded + r.recorded;
      }

  pub go_on : is_done r.why ≡ true → length t.picks ≡ 72 → Going z next
  go_on done of-72 =
      let d : is_done o.why ≡ true = ap is_done (sym t.is.why) ∙ done in
      let k : new ≡ symbol_records y o.words = rw d in
      record {
        even = g.even;
        within = omega (arith, four z s g t.more);
        room = more-fits;
        long = more-length;
        space = more-space;
        wide = more-wide;
        fit = ap sound t.is.receiver ∙ taped-sound s.rx g.fit y left left-bytes;
        picks = of-72;
        rest = rw t.is.written (back-drop s.out z.out o.words t.ys s.written g.long g.room g.rest t.is.output t.kept);
        rest-bytes =
            rw t.is.recorded (back-drop s.bytes z.bytes (bytes_of new) t.zs s.recorded g.wide g.space g.rest-bytes t.is.bytes-are t.kept-bytes);
        records = g.records ++ symbol_records y o.words;
        are = grown ∙ ap₂ (λ (l m : List ℕ). l ++ m) g.are (ap bytes_of k) ∙ sym (bytes-append g.records (symbol_records y o.words));
        same =
            same-on ∙ run_on y ahead s.rx s.taken (take s.written s.out) g.records (length z.out) (length z.bytes) o here d
            ∙ ap₂ (λ (x : Receiver) (ws : List ℕ). taping ahead x (s.taken + 1) ws (g.records ++ symbol_records y o.words) (length z.out) (length z.bytes))
            (sym t.is.receiver) (sym spoken);
      }

  pub stop : is_done r.why ≡ false →
      RunsTaped (all_of z) z.out z.bytes (record { core = r.core; taken = s.taken; written = s.written + r.written; recorded = s.recorded + r.recorded; why = r.why })
      t.sums t.registers t.picks out_next bytes_next
  unfolding bytes_of
  stop no_more =
      let d : is_done o.why ≡ false = ap is_done (sym t.is.why) ∙ no_more in
      let k = taped-refused s.rx y left left-bytes d in
      let l = wrote z s g in
      let n : r.written ≡ 0 = t.is.written ∙ ap length k.0 in
      let none : new ≡ [] = rw d in
      let m : r.recorded ≡ 0 = t.is.recorded ∙ ap space_of none in
      let ran : all_of z ≡ record { receiver = s.rx; taken = s.taken; words = take s.written s.out; records = g.records; why = o.why } =
      same-on ∙ run-stop y ahead s.rx s.taken (take s.written s.out) g.records (length z.out) (length z.bytes) o here d in
      rw ran
      (record {
        receiver = t.is.receiver ∙ k.1;
        taken = refl;
        written = omega (arith, l, n);
        recorded = omega (arith, space-is z s g, m);
        given = ap given_of t.is.why;
        output =
            back_is s.out z.out o.words t.ys s.written g.long g.room g.rest t.is.output t.kept ∙ rw (k.0, append-nil, l, add-zero);
        bytes-are =
            back_is s.bytes z.bytes (bytes_of new) t.zs s.recorded g.wide g.space g.rest-bytes t.is.bytes-are t.kept-bytes
            ∙ rw (none, append-nil, g.are, space-is z s g, add-zero);
      })
