-- A record's values stand in its own bytes: what lies behind them in the frame makes no difference.
--   took-own    a record taken with the frame's nine bytes, and with as many as its kind has
use mathlib.Core.Path.{◌≡◌, refl, sym}
use mathlib.Core.Bool.{Bool, true, false, cond}
use mathlib.Core.List.{List}
use Prim.Native.Nat.{ℕ, ◌+◌, ◌≤◌, ◌<◌}
use native.Mathlib.Omega.{arith}
use borrow.Author.Tests.{eqb-true}
use lib.Dec.{eqb}
use lib.ListN.{get_or, take}
use lib.Seq.{get_or-take}
use Rattle.records.specs.declared.Kind.{Kind}
use Rattle.records.specs.declared.Role.TheVariants.{Open, Symbol, Word, Finish, Unknown}
use Rattle.records.specs.Kinds.{kind_of, row}
use Rattle.records.specs.Values.{entry, lead_of}
use Rattle.replay_judge.specs.declared.Verdict.{Verdict}
use Rattle.replay_judge.specs.declared.Verdict.TheVariants.{Agree, Differs, Extra, Missing, Refused, Malformed}
use Rattle.replay_judge.specs.Judging.{State, by_role, upon, took, heard}

module _ (s : State) (n : ℕ) (b : List ℕ) where
  record Own (k : ℕ) (r : Kind) : Type 0 where
    own : by_role r.role s n k (take r.size b) ≡ by_role r.role s n k b

  open_own : (k : ℕ) → Own k (row Open 3)
  open_own k = record { own = rw (get_or-take 3 b 0 0 (omega arith), get_or-take 3 b 1 0 (omega arith), get_or-take 3 b 2 0 (omega arith)) }

  -- the coordinates stand behind the mark, and the mark in front
  symbol-own : (k size : ℕ) → lead_of k + 8 ≤ size → Own k (row Symbol size)
  unfolding heard
  symbol-own k size h =
      let i = lead_of k in
      let at : (j : ℕ) → j < 8 → get_or (take size b) (i + j) 0 ≡ get_or b (i + j) 0 = λ j l. get_or-take size b (i + j) 0 (omega arith) in
      let z : get_or (take size b) i 0 ≡ get_or b i 0 = get_or-take size b i 0 (omega arith) in
      let m : get_or (take size b) 0 0 ≡ get_or b 0 0 = get_or-take size b 0 0 (omega arith) in
      record {
        own = rw (
          z,
          m,
          at 1 (omega arith),
          at 2 (omega arith),
          at 3 (omega arith),
          at 4 (omega arith),
          at 5 (omega arith),
          at 6 (omega arith),
          at 7 (omega arith),
        );
      }

  word-own : (k : ℕ) → Own k (row Word 4)
  word-own k =
      record { own = rw (get_or-take 4 b 0 0 (omega arith), get_or-take 4 b 1 0 (omega arith), get_or-take 4 b 2 0 (omega arith), get_or-take 4 b 3 0 (omega arith)) }

  finish-own : (k : ℕ) → Own k (row Finish 0)
  finish-own k = record { own = refl }

  unknown-own : (k : ℕ) → Own k (row Unknown 0)
  unknown-own k = record { own = refl }

  -- kind 2 has no mark
  bare : (k : ℕ) → eqb k 2 ≡ true → lead_of k + 8 ≤ 8
  bare k e = let z : k ≡ 2 = eqb-true k 2 e in rw z (omega arith)

  lead-most : (c : Bool) → cond c 1 0 + 8 ≤ 9
  lead-most true = omega arith
  lead-most false = omega arith

  kind-own : (k : ℕ) → Own k (kind_of k)
  unfolding kind_of
  kind-own k =
      either (eqb k 1) (λ _. open_own k) (either (eqb k 2) (λ e. symbol-own k 8 (bare k e)) (either (eqb k 3) (λ _. word-own k) (either (eqb k 4) (λ _. finish-own k)
      (either (eqb k 5) (λ _. symbol-own k 9 (lead-most (eqb k 5))) (either (eqb k 6) (λ _. open_own k) (unknown-own k))))))
    where
      -- a row of the table, and the rest of it
      either : (b : Bool) {r t : Kind} → (b ≡ true → Own k r) → Own k t → Own k (cond b r t)
      either true h g = h refl
      either false h g = g

pub took-own : (s : State) (k : ℕ) (b : List ℕ) → took s (entry k b) ≡ took s (entry k (take (kind_of k).size b))
unfolding took
took-own s k b = go s.verdict
  where
    go : (v : Verdict) → upon v s (entry k b) ≡ upon v s (entry k (take (kind_of k).size b))
    go (Agree n) = sym (kind-own s n b k).own
    go (Differs n g h) = refl
    go (Extra n g) = refl
    go (Missing n h) = refl
    go (Refused n w) = refl
    go (Malformed p) = refl
