-- A piece under way: where the loop stands after some symbols, one turn of it, and its two ends.
--   Going     what was taken and written so far leads to the same end as the whole piece
--   start, go_on, stop, end
use mathlib.Core.Path.{◌≡◌, refl, sym, ap, ◌∙◌}
use mathlib.Core.Bool.{true, false, cond}
use mathlib.Core.List.{List, [], ◌∷◌, ◌++◌, append-nil}
use Prim.Native.Nat.{ℕ, suc, ◌+◌, ◌-◌, ◌*◌, ◌/◌, ◌%◌, ◌<◌, ◌≤◌}
use native.Mathlib.Nat.{add-zero}
use native.Mathlib.Numerals.{add-one, add-two, add-three, add-four}
use native.Mathlib.Omega.{arith}
use lib.IntN.{ℤ, pos}
use lib.ListN.{get_or, length, take, drop, length-drop, take-append-drop, drop_of_length-le}
use lib.Seq.{length-take-le, drop-cons}
use Rattle.std.specs.Prelude.{Ok}
use Rattle.trellis.specs.Measure.{Two}
use Rattle.nearest.specs.declared.Received.{Received}
use Rattle.machine.specs.declared.Core.{Core}
use Rattle.machine.specs.declared.Receiver.{Receiver}
use Rattle.one_symbol.specs.declared.Took.{Took}
use Rattle.machine.specs.Machine.{Outcome, sound}
use Rattle.reasons.specs.Reason.{given_of, is_done}
use Rattle.receiver_meaning.specs.Piece.{symbols_with}
use Rattle.pieces.specs.Running.{symbol_at, Ran, running}
use Rattle.piece_input.specs.Looks.{symbol_in}
use Rattle.pieces.specs.Lent.{RunsLent}
use Rattle.machine.specs.Parts.{whole}
use Rattle.one_symbol.specs.Taken.{TookIs}
use Rattle.piece_input.proofs.Marks.{mark-from, later-from}
use Rattle.pieces.proofs.Kept.{symbol-refused, symbol-sound, symbol-accord}
use Rattle.pieces.proofs.Lent.{part, back_is, lent_fits, back-take, back-drop, back-length}

pub record Going (ms : List ℕ) (xs : List ℤ) (out₀ : List ℕ) (rx₀ : Receiver) (out : List ℕ) (rx : Receiver) (taken written : ℕ) : Type 0 where
  pub even : length xs % 4 ≡ 0
  pub within : 4 * taken ≤ length xs
  pub room : written ≤ length out₀
  pub long : length out ≡ length out₀
  pub fit : sound rx ≡ true
  pub picks : length rx.picks ≡ 72
  pub accord : rx.core.accord ≡ rx₀.core.accord
  pub rest : drop written out ≡ drop written out₀
  pub same : running (symbols_with ms xs) rx₀ 0 [] (length out₀) ≡ running (symbols_with (drop taken ms) (drop (4 * taken) xs)) rx taken (take written out) (length out₀)

-- the symbols from the place i on, with the marks from the place j on
symbols-from : (ms : List ℕ) (j : ℕ) (xs : List ℤ) (i : ℕ) → i + 4 ≤ length xs →
    symbols_with (drop j ms) (drop i xs) ≡ symbol_in (get_or ms j 0) xs i ∷ symbols_with (drop (j + 1) ms) (drop (i + 4) xs)
symbols-from ms j xs i h = ap (symbols_with (drop j ms)) four ∙ rw (mark-from ms j, later-from ms j)
  where
    four : drop i xs ≡ get_or xs i (pos 0) ∷ get_or xs (i + 1) (pos 0) ∷ get_or xs (i + 2) (pos 0) ∷ get_or xs (i + 3) (pos 0) ∷ drop (i + 4) xs
    four =
        drop-cons xs i (pos 0) (omega (arith, h))
        ∙ rw (
          drop-cons xs (suc i) (pos 0) (omega (arith, h)),
          drop-cons xs (suc (suc i)) (pos 0) (omega (arith, h)),
          drop-cons xs (suc (suc (suc i))) (pos 0) (omega (arith, h)),
          add-one,
          add-two,
          add-three,
          add-four,
        )

-- one symbol of a run
module _ (y : Two Received) (zs : List (Two Received)) (rx : Receiver) (n : ℕ) (ws : List ℕ) (room : ℕ) (o : Outcome) (e : symbol_at rx y (room - length ws) ≡ o) where
  abbrev onward : Outcome → Ran
  onward o = cond (is_done o.why) (running zs o.receiver (n + 1) (ws ++ o.words) room) (record { receiver = rx; taken = n; words = ws; why = o.why })

  once : running (y ∷ zs) rx n ws room ≡ onward o
  unfolding running
  once = ap onward e

  run_on : is_done o.why ≡ true → running (y ∷ zs) rx n ws room ≡ running zs o.receiver (n + 1) (ws ++ o.words) room
  run_on d = once ∙ rw d

  run-stop : is_done o.why ≡ false → running (y ∷ zs) rx n ws room ≡ record { receiver = rx; taken = n; words = ws; why = o.why }
  run-stop d = once ∙ rw d

-- ---- a turn of the loop

module _ (ms : List ℕ) (xs : List ℤ) (out₀ : List ℕ) (rx₀ : Receiver) (out : List ℕ) (rx : Receiver) (taken w : ℕ)
    (g : Going ms xs out₀ rx₀ out rx taken w) (more : taken < length xs / 4) (mark : ℕ) (m : mark ≡ get_or ms taken 0) where
  abbrev i : ℕ
  i = 4 * taken

  pub four-more : i + 4 ≤ length xs
  four-more = omega (arith, g.even, more)

  -- what is lent to the symbol: the output from the place w on
  abbrev lent : List ℕ
  lent = take (length out - w) (drop w out)

  -- the symbol
  abbrev y : Two Received
  y = symbol_in mark xs i

  abbrev o : Outcome
  o = symbol_at rx y (length lent)

  module _ (r : Took) (sums registers picks ys : List ℕ) (is : TookIs o r sums registers picks lent ys) (kept : length ys ≡ length lent) where
    -- the output after it
    abbrev after : List ℕ
    after = take w out ++ (ys ++ drop (length out - w) (drop w out))

    here : symbol_at rx y (length out₀ - length (take w out)) ≡ o
    here =
        let a : length (take w out) ≡ w = length-take-le w out (omega arith) in
        let b : length lent ≡ length out₀ - length (take w out) = rw (part out out₀ o.words ys w g.long g.room g.rest is.out kept, length-drop, a) in
        ap (symbol_at rx y) (sym b)

    abbrev ahead : List (Two Received)
    ahead = symbols_with (drop (taken + 1) ms) (drop (i + 4) xs)

    same-on : running (symbols_with ms xs) rx₀ 0 [] (length out₀) ≡ running (y ∷ ahead) rx taken (take w out) (length out₀)
    same-on = g.same ∙ ap (λ (zs : List (Two Received)). running zs rx taken (take w out) (length out₀)) (symbols-from ms taken xs i four-more ∙ ap (λ (n : ℕ). symbol_in n xs i ∷ ahead) (sym m))

    pub more-fits : w + r.written ≤ length out₀
    more-fits = rw is.written (lent_fits out out₀ o.words ys w g.long g.room g.rest is.out kept)

    pub more-length : length after ≡ length out₀
    more-length = back-length out out₀ o.words ys w g.long g.room g.rest is.out kept

    pub go_on : is_done r.why ≡ true → length picks ≡ 72 →
        Going ms xs out₀ rx₀ after (whole r.core sums registers picks) (taken + 1) (w + r.written)
    go_on done of-72 =
        let four-on : i + 4 ≡ 4 * (taken + 1) = omega arith in
        record {
          even = g.even;
          within = omega (arith, four-more);
          room = more-fits;
          long = more-length;
          fit = ap sound is.receiver ∙ symbol-sound rx g.fit y (length lent);
          picks = of-72;
          accord = ap (λ (x : Receiver). x.core.accord) is.receiver ∙ symbol-accord rx y (length lent) ∙ g.accord;
          rest = rw is.written (back-drop out out₀ o.words ys w g.long g.room g.rest is.out kept);
          same =
              same-on ∙ run_on y ahead rx taken (take w out) (length out₀) o here (ap is_done (sym is.why) ∙ done)
              ∙ rw (is.written, back-take out out₀ o.words ys w g.long g.room g.rest is.out kept, is.receiver, ← four-on);
        }

    pub stop : is_done r.why ≡ false →
        RunsLent (running (symbols_with ms xs) rx₀ 0 [] (length out₀)) out₀ (record { core = r.core; taken = taken; written = w + r.written; why = r.why }) sums registers picks after
    stop no_more =
        let d : is_done o.why ≡ false = ap is_done (sym is.why) ∙ no_more in
        let k = symbol-refused rx y (length lent) d in
        let l : length (take w out) ≡ w = length-take-le w out (omega (arith, g.room, g.long)) in
        let n : r.written ≡ 0 = is.written ∙ ap length k.0 in
        let ran : running (symbols_with ms xs) rx₀ 0 [] (length out₀) ≡ record { receiver = rx; taken = taken; words = take w out; why = o.why } =
        same-on ∙ run-stop y ahead rx taken (take w out) (length out₀) o here d in
        rw ran
        (record {
          receiver = is.receiver ∙ k.1;
          taken = refl;
          written = omega (arith, l, n);
          given = ap given_of is.why;
          output = back_is out out₀ o.words ys w g.long g.room g.rest is.out kept ∙ rw (k.0, append-nil, l, add-zero);
        })

-- ---- before the first symbol, and after the last

module _ (ms : List ℕ) (xs : List ℤ) (out : List ℕ) (rx : Receiver) where
  pub start : length xs % 4 ≡ 0 → sound rx ≡ true → length rx.picks ≡ 72 → Going ms xs out rx out rx 0 0
  start even fit of-72 =
      record {
        even = even;
        within = omega arith;
        room = omega arith;
        long = refl;
        fit = fit;
        picks = of-72;
        accord = refl;
        rest = refl;
        same = refl;
      }

  pub end : (out₁ : List ℕ) (core : Core) (sums registers picks : List ℕ) (taken w : ℕ) → Going ms xs out rx out₁ (whole core sums registers picks) taken w →
      length xs / 4 ≤ taken →
      RunsLent (running (symbols_with ms xs) rx 0 [] (length out)) out (record { core = core; taken = length xs / 4; written = w; why = Ok tt }) sums registers picks out₁
  unfolding running
  end out₁ core sums registers picks taken w g past =
      let rx₁ = whole core sums registers picks in
      let l : length (take w out₁) ≡ w = length-take-le w out₁ (omega (arith, g.room, g.long)) in
      let ran : running (symbols_with ms xs) rx 0 [] (length out) ≡ record { receiver = rx₁; taken = taken; words = take w out₁; why = Ok tt } =
      g.same ∙ ap (λ (zs : List ℤ). running (symbols_with (drop taken ms) zs) rx₁ taken (take w out₁) (length out)) (drop_of_length-le xs {i = 4 * taken} (omega (arith, g.even, past))) in
      rw ran (record { receiver = refl; taken = omega (arith, g.within, past); written = sym l; given = refl; output = rw (l, ← g.rest) (sym (take-append-drop w out₁)) })
