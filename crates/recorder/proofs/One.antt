-- One symbol as the code hears it: a piece of four coordinates to the machine, with so many places for words.
--   Asked                        such a piece, and what the machine left
--   refuses-eight, refuses-so    what a copy says with no place for a word
--   Lends                        the same, where the output is lent to its m-th place and the bytes hold the symbol's own record
--   step-short, step-refused, step-taken    the three ends of a symbol
--   small, space, lent-few, words-many, words-space    what its records ask
use mathlib.Core.Path.{◌≡◌, refl, sym, ap, subst, ◌∙◌}
use mathlib.Core.Bool.{Bool, true, false, cond}
use mathlib.Core.List.{List, [], ◌∷◌, ◌++◌}
use Prim.Native.Nat.{ℕ, ◌+◌, ◌-◌, ◌*◌, ◌/◌, ◌<◌, ◌≤◌, min}
use native.Mathlib.Nat.{sub-zero}
use native.Mathlib.Omega.{arith}
use lib.Dec.{T, ltb}
use lib.IntN.{ℤ}
use lib.ListN.{length, take, drop, length-append, length-drop, take-append-drop}
use lib.Seq.{length-take-le}
use Rattle.std.specs.Prelude.{Result, Ok, Err, ⊤}
use Rattle.trellis.specs.Measure.{Two}
use Rattle.nearest.specs.declared.Received.{Received}
use Rattle.nearest.specs.declared.Received.TheVariants.{Heard as At, Missing}
use Rattle.nearest.specs.Line.{InRange, BothInRange}
use Rattle.machine.specs.declared.Core.{Core}
use Rattle.machine.specs.declared.Receiver.{Receiver}
use Rattle.machine.specs.Machine.{Outcome, refused}
use Rattle.machine.specs.Parts.{whole}
use Rattle.reasons.specs.declared.Why.{Why}
use Rattle.reasons.specs.declared.Why.TheVariants.{NoRoom}
use Rattle.reasons.specs.Reason.{given_of, is_done}
use Rattle.reasons.proofs.Apart.{given-one, done-given, refused-err}
use Rattle.receiver_meaning.specs.Told.{fault_of}
use Rattle.receiver_meaning.specs.Piece.{marked_symbol, symbols_with}
use Rattle.receiver_meaning.proofs.Telling.{in-range}
use Rattle.pieces.specs.declared.Heard.{Heard}
use Rattle.pieces.specs.Running.{symbol_at, Ran, running}
use Rattle.pieces.specs.Lent.{RunsLent}
use Rattle.pieces.proofs.Kept.{symbol-refused}
use Rattle.records.specs.Values.{bytes_of}
use Rattle.record_write.specs.Front.{symbol_in, spot_of, symbol_space, symbol_records, Fronted, SmallSpot, Small}
use Rattle.record_write.proofs.Fronts.{symbol-space}
use Rattle.recorder.specs.Taping.{taped_at}
use Rattle.recorder.specs.Lent.{Refuses, StepOf, StepIs}
use Rattle.recorder.proofs.Prefix.{few, back, front}
use Rattle.recorder.proofs.Symbols.{enough, short}

-- ---- four coordinates are one symbol

-- how the run of it goes, by its outcome
abbrev took : Outcome → Ran
took o = record { receiver = o.receiver; taken = 1; words = o.words; why = Ok tt }

abbrev stayed : Receiver → Outcome → Ran
stayed rx o = record { receiver = rx; taken = 0; words = []; why = o.why }

abbrev one : Receiver → Outcome → Ran
one rx o = cond (is_done o.why) (took o) (stayed rx o)

run-one : (rx : Receiver) (n : ℕ) (xs : List ℤ) → length xs ≡ 4 → (room : ℕ) → running (symbols_with (n ∷ []) xs) rx 0 [] room ≡ one rx (symbol_at rx (symbol_in n xs) room)
unfolding running
run-one rx n [] f room = absurd (omega arith)
run-one rx n (a ∷ []) f room = absurd (omega arith)
run-one rx n (a ∷ b ∷ []) f room = absurd (omega arith)
run-one rx n (a ∷ b ∷ c ∷ []) f room = absurd (omega arith)
run-one rx n (a ∷ b ∷ c ∷ d ∷ []) f room = ap (λ (m : ℕ). one rx (symbol_at rx (marked_symbol n a b c d) m)) (sub-zero room)
run-one rx n (a ∷ b ∷ c ∷ d ∷ e ∷ xs) f room = absurd (omega arith)

-- a symbol that is taken is in range
taken-in-range : (rx : Receiver) (y : Two Received) (room : ℕ) → is_done (symbol_at rx y room).why ≡ true → BothInRange y
unfolding symbol_at
taken-in-range rx y room e = go (ltb (fault_of y) 4) refl where
  go : (b : Bool) → ltb (fault_of y) 4 ≡ b → BothInRange y
  go true k = absurd (let z : ◌≡◌ {A = Bool} false true = rw k at e in subst T (sym z) tt)
  go false k = in-range y k

-- so 16 bits hold its coordinates
spot-small : (h : Received) → InRange h → SmallSpot (spot_of h)
spot-small (At s) r = (omega (arith, r.x-in), omega (arith, r.y-in))
spot-small Missing r = (omega arith, omega arith)

-- ---- what the machine left

pub record Asked (rx : Receiver) (n : ℕ) (xs : List ℤ) (room : List ℕ) : Type 0 where
  pub four : length xs ≡ 4
  pub heard : Heard
  pub sums : List ℕ
  pub registers : List ℕ
  pub picks : List ℕ
  pub after : List ℕ
  pub was : RunsLent (running (symbols_with (n ∷ []) xs) rx 0 [] (length room)) room heard sums registers picks after

module _ (rx : Receiver) (n : ℕ) (xs : List ℤ) (room : List ℕ) (a : Asked rx n xs room) where
  abbrev y : Two Received
  y = symbol_in n xs

  abbrev o : Outcome
  o = symbol_at rx y (length room)

  abbrev Went : Ran → Type 0
  Went r = RunsLent r room a.heard a.sums a.registers a.picks a.after

  is_one : Went (one rx o)
  is_one = subst Went (run-one rx n xs a.four (length room)) a.was

  why-is : a.heard.why ≡ o.why
  why-is = given-one a.heard.why o.why (is_one.given ∙ go (is_done o.why) refl) where
    go : (b : Bool) → is_done o.why ≡ b → given_of (cond b (took o) (stayed rx o)).why ≡ given_of o.why
    go true e = sym (done-given o.why e)
    go false e = refl

  short-as : length room ≡ 0 → (m bytes : ℕ) → bytes < symbol_space y → taped_at rx y m bytes ≡ refused rx (cond (is_done a.heard.why) (Err NoRoom) a.heard.why)
  short-as z m bytes few =
      let e : (symbol_at rx y 0).why ≡ a.heard.why = ap (λ (n : ℕ). (symbol_at rx y n).why) (sym z) ∙ sym why-is in
      short rx y m bytes few ∙ ap (λ (v : Result ⊤ Why). refused rx (cond (is_done v) (Err NoRoom) v)) e

  pub refuses-eight : length room ≡ 0 → is_done a.heard.why ≡ true → Refuses rx y (Err NoRoom)
  refuses-eight z e = (refl, λ m bytes few. short-as z m bytes few ∙ rw e)

  pub refuses-so : length room ≡ 0 → (w : Why) → a.heard.why ≡ Err w → Refuses rx y (Err w)
  refuses-so z w e = (refused-err w, λ m bytes few. short-as z m bytes few ∙ rw (e, refused-err w))

  -- how it went, by whether it was taken
  refused-is : is_done o.why ≡ false → Went (stayed rx o)
  refused-is e = rw e at is_one

  taken_is : is_done o.why ≡ true → Went (took o)
  taken_is e = rw e at is_one

  not_taken : a.heard.taken ≡ 0 → is_done o.why ≡ false
  not_taken z = go (is_done o.why) refl where
    go : (b : Bool) → is_done o.why ≡ b → is_done o.why ≡ false
    go true e = absurd (omega (arith, (taken_is e).taken))
    go false e = e

  is-taken : (a.heard.taken ≡ 0 → ⊥) → is_done o.why ≡ true
  is-taken z = go (is_done o.why) refl where
    go : (b : Bool) → is_done o.why ≡ b → is_done o.why ≡ true
    go true e = e
    go false e = absurd (z (refused-is e).taken)

-- ---- the ends of a symbol

pub step-short : (core : Core) (sums registers picks out bytes : List ℕ) (y : Two Received) (w : Result ⊤ Why) → Refuses (whole core sums registers picks) y w → length bytes < symbol_space y →
    StepIs (whole core sums registers picks) y out bytes (record { core = core; written = 0; recorded = 0; why = w }) sums registers picks out bytes
unfolding bytes_of
step-short core sums registers picks out bytes y w r few =
    rw (r.1 (length out) (length bytes) few) (record { receiver = refl; why = refl; written = refl; recorded = rw r.0; output = refl; bytes-are = rw r.0 })

pub record Lends (rx : Receiver) (n : ℕ) (xs : List ℤ) (out bytes : List ℕ) : Type 0 where
  pub size : ℕ
  pub size_is : size ≡ symbol_space (symbol_in n xs)
  pub wide : size ≤ length bytes
  pub m : ℕ
  pub m-is : m ≡ min (length out) ((length bytes - size) / 5)
  pub asked : Asked rx n xs (take m out)
  pub kept : length asked.after ≡ length (take m out)

module _ (rx : Receiver) (n : ℕ) (xs : List ℤ) (out bytes : List ℕ) (l : Lends rx n xs out bytes) where
  abbrev a : Asked rx n xs (take l.m out)
  a = l.asked

  abbrev h : Heard
  h = a.heard

  abbrev it : Two Received
  it = symbol_in n xs

  abbrev said : Outcome
  said = symbol_at rx it (length (take l.m out))

  -- the whole output after the call
  abbrev out_after : List ℕ
  out_after = a.after ++ drop l.m out

  m-in : l.m ≤ length out
  m-in = omega (arith, l.m-is)

  same : said ≡ taped_at rx it (length out) (length bytes)
  same =
      let e : length (take l.m out) ≡ min (length out) ((length bytes - symbol_space it) / 5) = length-take-le l.m out m-in ∙ l.m-is ∙ rw l.size_is in
      sym (enough rx it (length out) (length bytes) (omega (arith, l.size_is, l.wide)) ∙ ap (symbol_at rx it) (sym e))

  -- the step is the outcome's, where it is that of what was said
  abbrev Steps : ℕ → ℕ → List ℕ → Outcome → Type 0
  Steps written recorded b q = StepOf it q out bytes (record { core = h.core; written = written; recorded = recorded; why = h.why }) a.sums a.registers a.picks out_after b

  pub step-refused : h.taken ≡ 0 → Steps 0 0 bytes (taped_at rx it (length out) (length bytes))
  unfolding bytes_of
  step-refused z =
      let e = not_taken rx n xs (take l.m out) a z in
      let k = symbol-refused rx it (length (take l.m out)) e in
      let r = refused-is rx n xs (take l.m out) a e in
      let y-is : a.after ≡ take l.m out = r.output in
      subst (Steps 0 0 bytes) same
      (record {
        receiver = r.receiver ∙ sym k.1;
        why = why-is rx n xs (take l.m out) a;
        written = rw k.0;
        recorded = rw e;
        output = rw (k.0, y-is) (take-append-drop l.m out);
        bytes-are = rw e;
      })

  module _ (some : h.taken ≡ 0 → ⊥) where
    done : is_done said.why ≡ true
    done = is-taken rx n xs (take l.m out) a some

    r : RunsLent (took said) (take l.m out) h a.sums a.registers a.picks a.after
    r = taken_is rx n xs (take l.m out) a done

    few_words : length said.words ≤ l.m
    unfolding r
    few_words = few out said.words a.after l.m m-in r.output l.kept

    pub space : l.size + 5 * h.written ≤ length bytes
    unfolding r
    space = omega (arith, r.written, few_words, l.m-is, l.wide)

    pub lent-few : h.written ≤ length out_after
    unfolding r
    lent-few =
        rw (length-append a.after (drop l.m out), length-drop)
        (omega (arith, r.written, few_words, m-in, length-take-le l.m out m-in, l.kept))

    words_are : take h.written out_after ≡ said.words
    unfolding r
    words_are = ap (λ (n : ℕ). take n out_after) r.written ∙ front out said.words a.after l.m m-in r.output l.kept

    pub words-many : h.written ≡ length (take h.written out_after)
    words-many = sym (length-take-le h.written out_after lent-few)

    pub words-space : symbol_space it + 5 * length (take h.written out_after) ≤ length bytes
    words-space = omega (arith, words-many, space, l.size_is)

    pub small : Small it
    unfolding done
    small =
        let r = taken-in-range rx it (length (take l.m out)) done in
        (spot-small it.first r.first-in, spot-small it.second r.second-in)

    -- the records are put
    pub step-taken : (b : List ℕ) → Fronted (symbol_records it (take h.written out_after)) bytes b →
        Steps h.written (l.size + 5 * h.written) b (taped_at rx it (length out) (length bytes))
    unfolding r done
    step-taken b put =
        let w : h.written ≡ length said.words = r.written in
        subst (Steps h.written (l.size + 5 * h.written) b) same
        (record {
          receiver = r.receiver;
          why = why-is rx n xs (take l.m out) a;
          written = w;
          recorded = rw (done, symbol-space it said.words, w, l.size_is);
          output = back out said.words a.after l.m m-in r.output l.kept;
          bytes-are = rw done (subst (λ (v : List ℕ). Fronted (symbol_records it v) bytes b) words_are put);
        })
