-- The words of the pending symbols on the way into a state, the oldest first, as a loop writes them.
--   turn_below              the turn after a word
--   turn_more, words_more   one word more
use mathlib.Core.Path.{◌≡◌, refl, sym, ap, ap₂, ◌∙◌}
use mathlib.Core.List.{List, [], ◌∷◌, ◌++◌}
use Prim.Native.Nat.{ℕ, ◌+◌, ◌≤◌, ◌<◌}
use native.Mathlib.Numerals.{add-one}
use native.Mathlib.Omega.{arith}
use lib.ListN.{length, take, drop, set}
use lib.Seq.{take-suc, length-take-le}
use Rattle.lists.proofs.Filled.{set_next}
use Rattle.registers.specs.Registers.{subset_in}
use Rattle.picks.specs.declared.Said.{Said}
use Rattle.picks.specs.Picks.{type_at, numbers_at, said_of}
use Rattle.picks.proofs.CodeWords.{symbol-valid}
use Rattle.wei.specs.Symbol.{Symbol}
use Rattle.trellis.specs.Speak.{speak, after}
use Rattle.trellis.specs.Words.{word, words_from, turn_after}
use Rattle.trellis.proofs.Speak.{speak-length, speak-append}
use Rattle.machine.specs.declared.Core.{Core}
use Rattle.machine.specs.Machine.{slot_of, age_of, pending_at, way_from}
use Rattle.machine.proofs.Way.{way-length, way_at}

after-snoc : (q : ℕ) (l : List Symbol) (c : Symbol) → after turn_after q (l ++ (c ∷ [])) ≡ turn_after (after turn_after q l) c
unfolding after
after-snoc q [] c = refl
after-snoc q (x ∷ l) c = after-snoc (turn_after q x) l c

words_snoc : (u q : ℕ) (l : List Symbol) (c : Symbol) → words_from u q (l ++ (c ∷ [])) ≡ words_from u q l ++ (word u (after turn_after q l) c ∷ [])
unfolding speak
words_snoc u q l c = speak-append turn_after (word u) q l (c ∷ [])

module _ (core : Core) (registers picks out₀ out : List ℕ) (s n j turn : ℕ) (few : n ≤ core.pending) (more : j < n) where
  abbrev all : List Symbol
  all = way_from core registers picks s

  abbrev here : Symbol
  here = pending_at core registers picks s j

  long : j < length all
  long = omega (arith, way-length core registers picks s)

  one_more : take (j + 1) all ≡ take j all ++ (here ∷ [])
  one_more = rw (add-one j) (take-suc all j here long ∙ ap (λ (c : Symbol). take j all ++ (c ∷ [])) (way_at core registers picks s j here (omega arith)))

  module _ (r : Said) (is : r ≡ said_of core.accord.u turn here) where
    pub turn_below : r.turn < 4
    turn_below =
        let v = symbol-valid core.accord.u (type_at picks (subset_in registers s (age_of core j)) (age_of core j)) (numbers_at picks (slot_of core j)) (subset_in registers s (age_of core j)) (omega arith) in
        rw is (omega (arith, v.i2-below, v.i3-below))

    module _ (turned : turn ≡ after turn_after core.turn (take j all)) where
      pub turn_more : r.turn ≡ after turn_after core.turn (take (j + 1) all)
      turn_more = ap (λ (x : Said). x.turn) is ∙ sym (ap (after turn_after core.turn) one_more ∙ after-snoc core.turn (take j all) here)

      pub words_more : n ≤ length out₀ → out ≡ words_from core.accord.u core.turn (take j all) ++ drop j out₀
          → set out j r.word ≡ words_from core.accord.u core.turn (take (j + 1) all) ++ drop (j + 1) out₀
      words_more room so_far =
          let w = words_from core.accord.u core.turn (take j all) in
          let l : length w ≡ j = speak-length turn_after (word core.accord.u) core.turn (take j all) ∙ length-take-le j all (omega (arith, long)) in
          let said-is : r.word ≡ word core.accord.u (after turn_after core.turn (take j all)) here = ap (λ (x : Said). x.word) is ∙ ap (λ (q : ℕ). word core.accord.u q here) turned in
          ap₂ (λ (m : List ℕ) (x : ℕ). set m j x) so_far said-is
          ∙ set_next w out₀ j 0 (word core.accord.u (after turn_after core.turn (take j all)) here) l (omega arith)
          ∙ ap₂ (λ (m : List ℕ) (i : ℕ). m ++ drop i out₀)
          (sym (ap (words_from core.accord.u core.turn) one_more ∙ words_snoc core.accord.u core.turn (take j all) here)) (sym (add-one j))
