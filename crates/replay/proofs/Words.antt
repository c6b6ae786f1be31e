-- What a replay sees of words that are due, and that the words of a line fit a record.
--   seen l due m n   what is seen, as long as no fault is found: the words due, the number of the next record, the words that agreed
--   words-seen       after the words that are due nothing is due
--   all_small        words of a line fit 32 bits
use mathlib.Core.Path.{◌≡◌, refl, sym, ap, ap₂, ◌∙◌}
use mathlib.Core.List.{List, [], ◌∷◌, ◌++◌}
use Prim.Native.Nat.{ℕ, ◌+◌, ◌*◌, ◌^◌, ◌<◌, ◌≤◌}
use native.Mathlib.Nat.{add-zero}
use native.Mathlib.Omega.{arith}
use borrow.Author.Tests.{eq-eqb}
use lib.ListN.{length}
use lib.Pow.{pow_mono}
use Rattle.trellis.specs.Lists.{Every}
use Rattle.points.proofs.Agreed.{accord-width}
use Rattle.receiver_meaning.specs.Told.{Told, Fine}
use Rattle.records.specs.Kinds.{kind_of}
use Rattle.records.specs.Values.{Entry, word_entry}
use Rattle.records.proofs.Back.{word_back}
use Rattle.record_write.specs.Front.{word_entries}
use Rattle.replay_judge.specs.declared.Verdict.TheVariants.{Agree}
use Rattle.replay.specs.Meaning.{Line, Seen, taking, takings}

abbrev pub seen : Line → List ℕ → ℕ → ℕ → Seen
seen l due m n = record { line = l; due = due; number = m; verdict = Agree n }

pub takings-append : (s : Seen) (rs qs : List Entry) → takings s (rs ++ qs) ≡ takings (takings s rs) qs
unfolding takings
takings-append s [] qs = refl
takings-append s (r ∷ rs) qs = takings-append (taking s r) rs qs

word-seen : (l : Line) (w : ℕ) (ws : List ℕ) (m n : ℕ) → w < 4294967296 → taking (seen l (w ∷ ws) m n) (word_entry w) ≡ seen l ws (m + 1) (n + 1)
unfolding taking kind_of
word-seen l w ws m n h = rw (word_back w h, eq-eqb w w refl)

pub words-seen : (l : Line) (ws : List ℕ) (m n : ℕ) → Every (λ w. w < 4294967296) ws → takings (seen l ws m n) (word_entries ws) ≡ seen l [] (m + length ws) (n + length ws)
unfolding takings
words-seen l [] m n h = ap₂ (seen l []) (sym (add-zero m)) (sym (add-zero n))
words-seen l (w ∷ ws) m n h =
    ap (λ (s : Seen). takings s (word_entries ws)) (word-seen l w ws m n h.0)
    ∙ words-seen l ws (m + 1) (n + 1) h.1
    ∙ ap₂ (seen l []) (omega arith) (omega arith)

word_small : (u w : ℕ) → u ≤ 8 → w < 2 ^ (3 + 2 * u) → w < 4294967296
word_small u w h k = let l : 3 + 2 * u ≤ 19 = omega arith in let e : 2 ^ (3 + 2 * u) ≤ 2 ^ 19 = pow_mono l in omega arith

every-small : (u : ℕ) → u ≤ 8 → (ws : List ℕ) → Every (λ w. w < 2 ^ (3 + 2 * u)) ws → Every (λ w. w < 4294967296) ws
every-small u h [] k = tt
every-small u h (w ∷ ws) k = (word_small u w h k.0, every-small u h ws k.1)

pub all_small : (t : Told) → Fine t → (ws : List ℕ) → Every (λ w. w < 2 ^ (3 + 2 * t.accord.u)) ws → Every (λ w. w < 4294967296) ws
all_small t f = every-small t.accord.u (accord-width t.accord f.agreed)
