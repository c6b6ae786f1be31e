-- Runs of symbols: one more symbol at the end of an allowed run, and of the symbols that a sender makes.
--   turns_to q cs   the turn after the symbols cs, where q is the turn before
use mathlib.Core.Path.{◌≡◌, refl, ap}
use mathlib.Core.List.{List, [], ◌∷◌, ◌++◌}
use Prim.Native.Nat.{ℕ}
use Rattle.wei.specs.State.{next_state}
use Rattle.wei.specs.Symbol.{Symbol, first_label, Carries, AllowedFrom, ending, symbol_of, symbols_from}

pub ending-snoc : (s : ℕ) (cs : List Symbol) (c : Symbol) → ending s (cs ++ (c ∷ [])) ≡ next_state (ending s cs) c.i1 c.i2
ending-snoc s [] c = refl
ending-snoc s (d ∷ cs) c = ending-snoc (next_state s d.i1 d.i2) cs c

pub allowed-snoc : (u s : ℕ) (cs : List Symbol) (c : Symbol) → AllowedFrom u s cs → Carries u (ending s cs) (next_state (ending s cs) c.i1 c.i2) c → AllowedFrom u s (cs ++ (c ∷ []))
allowed-snoc u s [] c a b = (b, tt)
allowed-snoc u s (d ∷ cs) c a b = (a.0, allowed-snoc u (next_state s d.i1 d.i2) cs c a.1 b)

abbrev pub turns_to : ℕ → List Symbol → ℕ
turns_to q [] = q
turns_to q (c ∷ cs) = turns_to (first_label c) cs

pub turns-snoc : (q : ℕ) (cs : List Symbol) (c : Symbol) → turns_to q (cs ++ (c ∷ [])) ≡ first_label c
turns-snoc q [] c = refl
turns-snoc q (d ∷ cs) c = turns-snoc (first_label d) cs c

pub symbols-snoc : (u s q : ℕ) (ns : List ℕ) (n : ℕ) →
    let cs : List Symbol = symbols_from u s q ns in symbols_from u s q (ns ++ (n ∷ [])) ≡ cs ++ (symbol_of u (ending s cs) (turns_to q cs) n ∷ [])
unfolding symbols_from
symbols-snoc u s q [] n = refl
symbols-snoc u s q (m ∷ ns) n =
    let c = symbol_of u s q m in
    ap (λ (l : List Symbol). c ∷ l) (symbols-snoc u (next_state s c.i1 c.i2) (first_label c) ns n)
