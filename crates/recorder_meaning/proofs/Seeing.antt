-- What replay sees of a recorder's records: each symbol is taken again, and each word is the one that is due.
--   symbol-seen, open-seen, finish-seen    after a symbol with its words, an open, a finish with its words (replay/proofs/Words has the words)
use mathlib.Core.Path.{◌≡◌, refl, sym, ap, ◌∙◌}
use mathlib.Core.Bool.{Bool, true, false, cond}
use mathlib.Core.List.{List, [], ◌∷◌, append-nil}
use Prim.Native.Nat.{ℕ, ◌+◌, ◌<◌, ◌≤◌}
use native.Mathlib.Omega.{arith}
use borrow.Author.Tests.{eqb-true, le-ltb, le-leb}
use lib.Dec.{eqb, ltb}
use lib.IntN.{ℤ, nat_abs}
use lib.ListN.{length}
use Rattle.lists.specs.UpTo.{all_up_to}
use Rattle.calls.specs.Calls.{walk, fresh, rest}
use Rattle.trellis.specs.Measure.{Two}
use Rattle.trellis.specs.Lists.{Every}
use Rattle.distance.specs.declared.Spot.{Spot}
use Rattle.nearest.specs.declared.Received.{Received}
use Rattle.nearest.specs.declared.Received.TheVariants.{Heard, Missing}
use Rattle.nearest.specs.Line.{InRange}
use Rattle.points.specs.declared.Accord.{Accord}
use Rattle.points.specs.declared.Map.{Map}
use Rattle.points.specs.declared.Map.TheVariants.{Round, Square}
use Rattle.machine.proofs.Owed.{fresh-most, rest-most}
use Rattle.reasons.specs.Reason.{Reason, reason}
use Rattle.openings.specs.Given.{start_at}
use Rattle.openings.specs.Given as goal
use Rattle.openings.specs.Opening.{opening_owed}
use Rattle.receiver_meaning.specs.Told.{Told, with_heard, speaker_of, pending_after, fault_of, judge_symbol, Fine}
use Rattle.receiver_meaning.specs.Piece.{marked_symbol, marked_piece}
use Rattle.receiver_meaning.specs.Owed.{Owed, piece_owed, FinishOwed, finish_owed}
use Rattle.receiver_meaning.proofs.Telling.{telling-judge}
use Rattle.receiver_meaning.proofs.Speaks.{fresh-below, rest_below}
use Rattle.records.specs.Kinds.{kind_of}
use Rattle.records.specs.Values.{open_entry, symbol_entry, marked_entry, finish_entry, half_bytes, coordinates_from}
use Rattle.records.proofs.Back.{coordinate-back}
use Rattle.record_write.specs.Front.{spot_of, mark_for, symbol_record, word_entries, symbol_records, finish_records}
use Rattle.replay.specs.Meaning.{closed, told, Seen, nothing_seen, answered, taking, takings}
use Rattle.replay.proofs.Words.{seen, words-seen, all_small}

-- ---- a symbol

module _ (t : Told) (ys : List (Two Received)) (y : Two Received) where
  -- a symbol that was taken is taken with room for 65 words
  roomy : (room : ℕ) → (judge_symbol t ys y room).number ≡ 0 → length (fresh (speaker_of t) ys y) ≤ 65 → judge_symbol t ys y 65 ≡ reason 0
  unfolding judge_symbol
  roomy room z few =
      rw (le-ltb 65 (length (fresh (speaker_of t) ys y)) few)
      (go (ltb (fault_of y) 4) (ltb t.window (pending_after t (y ∷ ys))) (ltb room (length (fresh (speaker_of t) ys y))) z)
    where
      go : (a c d : Bool) → (cond {A = Reason} a (record { number = 5; place = fault_of y }) (cond c (reason 6) (cond d (reason 8) (reason 0)))).number ≡ 0 →
          cond a (record { number = 5; place = fault_of y }) (cond c (reason 6) (reason 0)) ≡ reason 0
      go true c d e = absurd (omega arith)
      go false true d e = absurd (omega arith)
      go false false d e = refl

-- the piece of one symbol
one-owed : (t : Told) (m : ℕ) (a b c d : ℤ) (y : Two Received) → marked_symbol m a b c d ≡ y → m ≤ 3 → judge_symbol t t.heard y 65 ≡ reason 0 →
    piece_owed t (marked_piece (m ∷ []) (a ∷ b ∷ c ∷ d ∷ [])) 65
    ≡ record { reason = reason 0; taken = 1; words = fresh (speaker_of t) t.heard y; told = with_heard t (y ∷ t.heard) }
unfolding piece_owed walk all_up_to
one-owed t m a b c d y e few j = rw (le-leb m 3 few, e, j, append-nil (fresh (speaker_of t) t.heard y))

-- ---- what the record of a symbol says

abbrev Near : Spot → Type 0
Near s = (nat_abs s.x < 32768) × (nat_abs s.y < 32768)

spot-near : (h : Received) → InRange h → Near (spot_of h)
spot-near (Heard s) r = (omega (arith, r.x-in), omega (arith, r.y-in))
spot-near Missing r = (omega arith, omega arith)

-- the mark and the spots are those of the symbol
symbol-back : (a b : Received) → let p = spot_of a in let q = spot_of b in
    (marked_symbol (mark_for (record { first = a; second = b })) p.x p.y q.x q.y ≡ record { first = a; second = b }) × (mark_for (record { first = a; second = b }) ≤ 3)
symbol-back (Heard a) (Heard b) = (refl, omega arith)
symbol-back (Heard a) Missing = (refl, omega arith)
symbol-back Missing (Heard b) = (refl, omega arith)
symbol-back Missing Missing = (refl, omega arith)

module _ (t : Told) (ys : List (Two Received)) (f : Fine (with_heard t ys)) (y : Two Received) (g : Fine (with_heard t (y ∷ ys))) (room : ℕ) (z : (judge_symbol t ys y room).number ≡ 0) where
  abbrev ws : List ℕ
  ws = fresh (speaker_of t) ys y

  few : length ws ≤ 64
  few = fresh-most (with_heard t ys) f y

  small : Every (λ w. w < 4294967296) ws
  small = all_small (with_heard t ys) f ws (fresh-below (with_heard t ys) f ys y)

  again : judge_symbol (with_heard t ys) ys y 65 ≡ reason 0
  again = telling-judge t ys ys y 65 ∙ roomy t ys y room z (omega (arith, few))

  abbrev p : Spot
  p = spot_of y.first

  abbrev q : Spot
  q = spot_of y.second

  abbrev mark : ℕ
  mark = mark_for y

  -- a record of kind 2 or 5 is heard as the piece of the symbol
  owed : piece_owed (with_heard t ys) (marked_piece (mark ∷ []) (p.x ∷ p.y ∷ q.x ∷ q.y ∷ [])) 65
      ≡ record { reason = reason 0; taken = 1; words = ws; told = with_heard t (y ∷ ys) }
  owed = let b = symbol-back y.first y.second in one-owed (with_heard t ys) mark p.x p.y q.x q.y y b.0 b.1 again

  taken : (m n : ℕ) → taking (seen (told (with_heard t ys)) [] m n) (symbol_record y) ≡ seen (told (with_heard t (y ∷ ys))) ws (m + 1) n
  unfolding taking kind_of
  taken m n = go (eqb mark 0) refl
    where
      a : Near p
      a = spot-near y.first g.each.0.first-in

      b : Near q
      b = spot-near y.second g.each.0.second-in

      heard_as : Owed → Seen
      heard_as d = answered (seen (told (with_heard t ys)) [] m n) d.reason.number (told d.told) d.words

      heard : ℕ → List ℤ → Seen
      heard k xs = heard_as (piece_owed (with_heard t ys) (marked_piece (k ∷ []) xs) 65)

      read : ◌≡◌ {A = List ℤ} (coordinates_from 0 (half_bytes p.x (half_bytes p.y (half_bytes q.x (half_bytes q.y []))))) (p.x ∷ p.y ∷ q.x ∷ q.y ∷ [])
      read = rw (coordinate-back p.x a.0, coordinate-back p.y a.1, coordinate-back q.x b.0, coordinate-back q.y b.1)

      go : (c : Bool) → eqb mark 0 ≡ c → taking (seen (told (with_heard t ys)) [] m n) (cond c (symbol_entry p.x p.y q.x q.y) (marked_entry mark p.x p.y q.x q.y))
          ≡ seen (told (with_heard t (y ∷ ys))) ws (m + 1) n
      go true e = ap (heard 0) read ∙ ap (λ (k : ℕ). heard k (p.x ∷ p.y ∷ q.x ∷ q.y ∷ [])) (sym (eqb-true mark 0 e)) ∙ ap heard_as owed
      go false e = ap (heard mark) read ∙ ap heard_as owed

  pub symbol-seen : (m n : ℕ) → takings (seen (told (with_heard t ys)) [] m n) (symbol_records y ws) ≡ seen (told (with_heard t (y ∷ ys))) [] (m + 1 + length ws) (n + length ws)
  unfolding takings
  symbol-seen m n = ap (λ (s : Seen). takings s (word_entries ws)) (taken m n) ∙ words-seen (told (with_heard t (y ∷ ys))) ws (m + 1) n small

-- ---- an open and a finish

-- the kind says which map's line it is
pub open-seen : (k : Accord) (w s : ℕ) → opening_owed k w (start_at s) ≡ 0 →
    takings nothing_seen (open_entry k w s ∷ []) ≡ seen (told (record { accord = k; window = w; start = goal.start_of (start_at s); heard = [] })) [] 1 0
unfolding takings taking kind_of
open-seen k w s = go k.map
  where
    go : (n : Map) → let v : Accord = record { map = n; u = k.u } in opening_owed v w (start_at s) ≡ 0 →
        takings nothing_seen (open_entry v w s ∷ []) ≡ seen (told (record { accord = v; window = w; start = goal.start_of (start_at s); heard = [] })) [] 1 0
    go Round z = rw z
    go Square z = rw z

finish-owed : (t : Told) → Fine t → finish_owed t 65 ≡ record { reason = reason 0; words = rest (speaker_of t) t.heard; closes = true }
unfolding finish_owed
finish-owed t f = rw (le-ltb 65 (length (rest (speaker_of t) t.heard)) (omega (arith, rest-most t f)))

finish-taken : (t : Told) → Fine t → (m n : ℕ) → taking (seen (told t) [] m n) finish_entry ≡ seen closed (rest (speaker_of t) t.heard) (m + 1) n
unfolding taking kind_of
finish-taken t f m n = ap (λ (d : FinishOwed). answered (seen (told t) [] m n) d.reason.number closed d.words) (finish-owed t f)

pub finish-seen : (t : Told) → Fine t → (m n : ℕ) → let ws = rest (speaker_of t) t.heard in
    takings (seen (told t) [] m n) (finish_records ws) ≡ seen closed [] (m + 1 + length ws) (n + length ws)
unfolding takings
finish-seen t f m n =
    let ws = rest (speaker_of t) t.heard in
    ap (λ (s : Seen). takings s (word_entries ws)) (finish-taken t f m n)
    ∙ words-seen closed ws (m + 1) n (all_small t f ws (rest_below t f t.heard))
