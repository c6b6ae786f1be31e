-- Each number exactly when 01's table gives it, and what is left behind: `outcome` says which of the four ways `sending` goes, and
-- the laws below it read off each number.
--   Outcome            the four ways, each with the tests that lead there
--   refused-keeps      a refused word leaves the sender and the output as they stood
--   nine, four-given, eight, done   when each number is given
use mathlib.Core.Path.{◌≡◌, refl}
use mathlib.Core.Bool.{Bool, true, false, cond}
use mathlib.Core.List.{List, [], ◌++◌}
use mathlib.Core.Logic.{◌↔◌}
use Prim.Native.Nat.{ℕ, ◌≤◌, ◌<◌}
use native.Mathlib.Omega.{arith}
use borrow.Author.Tests.{leb-true, leb-false}
use lib.Dec.{leb}
use lib.IntN.{ℤ}
use lib.ListN.{length, drop}
use Rattle.points.specs.declared.Accord.{Accord}
use Rattle.points.specs.Agreed.{is_accord}
use Rattle.wei.specs.Word.{is_word}
use Rattle.sender.specs.declared.Sender.{Sender}
use Rattle.sender.specs.Send.{sound, symbol_for, after, four, Given, fresh, shut, opening, sending}

abbrev given : ℕ → Sender → List ℤ → Given
given n s out = record { number = n; sender = s; output = out }

true-false : {b : Bool} → b ≡ true → b ≡ false → ⊥
true-false e f = let z : ◌≡◌ {A = ℕ} 0 1 = cc in omega arith

-- ---- the opening

-- 1 exactly if there is no such line
pub one : (k : Accord) → ((opening k).number ≡ 1) ↔ (is_accord k ≡ false)
unfolding opening
one k = go (is_accord k) refl
  where
    go : (b : Bool) → is_accord k ≡ b → ((cond b (given 0 (fresh k) []) (given 1 shut [])).number ≡ 1) ↔ (is_accord k ≡ false)
    go true e = (λ z. absurd (omega arith), λ h. absurd (true-false e h))
    go false e = (λ z. e, λ h. refl)

-- an opening that is done gives a fresh sender
pub opened_with : (k : Accord) → (opening k).number ≡ 0 → (opening k).sender ≡ fresh k
unfolding opening
opened_with k h = go (is_accord k) h
  where
    go : (b : Bool) → (cond b (given 0 (fresh k) []) (given 1 shut [])).number ≡ 0 → (cond b (given 0 (fresh k) []) (given 1 shut [])).sender ≡ fresh k
    go true h = refl
    go false h = absurd (omega arith)

-- ---- sending a word

module _ (s : Sender) (n : ℕ) (out : List ℤ) where
  pub data Outcome : Given → Type 0 where
    closed : sound s ≡ false → Outcome (given 9 s out)
    bad-word : sound s ≡ true → is_word s.accord.u n ≡ false → Outcome (given 4 s out)
    no_room : sound s ≡ true → is_word s.accord.u n ≡ true → length out < 4 → Outcome (given 8 s out)
    taken : sound s ≡ true → is_word s.accord.u n ≡ true → 4 ≤ length out → Outcome (given 0 (after s n) (four s.accord (symbol_for s n) ++ drop 4 out))

  pub outcome : Outcome (sending s n out)
  unfolding sending
  outcome = go (sound s) (is_word s.accord.u n) (leb 4 (length out)) refl refl refl
    where
      go : (a b c : Bool) → sound s ≡ a → is_word s.accord.u n ≡ b → leb 4 (length out) ≡ c →
          Outcome (cond a (cond b (cond c (given 0 (after s n) (four s.accord (symbol_for s n) ++ drop 4 out)) (given 8 s out)) (given 4 s out)) (given 9 s out))
      go true true true e f g = taken e f (leb-true 4 (length out) g)
      go true true false e f g = no_room e f (leb-false 4 (length out) g)
      go true false c e f g = bad-word e f
      go false b c e f g = closed e

  -- "word has a bit ..: all as before"; "end is closed: all as before"; "output shorter than needed: word not done"
  pub refused-keeps : ((sending s n out).number ≡ 0 → ⊥) → ((sending s n out).sender ≡ s) × ((sending s n out).output ≡ out)
  refused-keeps = go (sending s n out) outcome
    where
      go : (g : Given) → Outcome g → (g.number ≡ 0 → ⊥) → (g.sender ≡ s) × (g.output ≡ out)
      go g (closed e) h = (refl, refl)
      go g (bad-word e f) h = (refl, refl)
      go g (no_room e f l) h = (refl, refl)
      go g (taken e f l) h = absurd (h refl)

  -- what a taken word has shown, and what it gives
  pub record Taken : Type 0 where
    pub is_open : sound s ≡ true
    pub word : is_word s.accord.u n ≡ true
    pub room : 4 ≤ length out
    pub sender : (sending s n out).sender ≡ after s n
    pub output : (sending s n out).output ≡ four s.accord (symbol_for s n) ++ drop 4 out

  pub done : (sending s n out).number ≡ 0 → Taken
  done h = go (sending s n out) outcome refl h
    where
      go : (g : Given) → Outcome g → sending s n out ≡ g → g.number ≡ 0 → Taken
      go g (closed e) t h = absurd (omega arith)
      go g (bad-word e f) t h = absurd (omega arith)
      go g (no_room e f l) t h = absurd (omega arith)
      go g (taken e f l) t h = record { is_open = e; word = f; room = l; sender = rw t; output = rw t }

  -- 9 exactly if the sender is closed
  pub nine : ((sending s n out).number ≡ 9) ↔ (sound s ≡ false)
  nine = go (sending s n out) outcome
    where
      go : (g : Given) → Outcome g → (g.number ≡ 9) ↔ (sound s ≡ false)
      go g (closed e) = (λ z. e, λ z. refl)
      go g (bad-word e f) = (λ z. absurd (omega arith), λ z. absurd (true-false e z))
      go g (no_room e f l) = (λ z. absurd (omega arith), λ z. absurd (true-false e z))
      go g (taken e f l) = (λ z. absurd (omega arith), λ z. absurd (true-false e z))

  -- 4 exactly if it is open and the word has a bit at or above 3 + 2u
  pub four-given : ((sending s n out).number ≡ 4) ↔ ((sound s ≡ true) × (is_word s.accord.u n ≡ false))
  four-given = go (sending s n out) outcome
    where
      go : (g : Given) → Outcome g → (g.number ≡ 4) ↔ ((sound s ≡ true) × (is_word s.accord.u n ≡ false))
      go g (closed e) = (λ z. absurd (omega arith), λ z. absurd (true-false z.0 e))
      go g (bad-word e f) = (λ z. (e, f), λ z. refl)
      go g (no_room e f l) = (λ z. absurd (omega arith), λ z. absurd (true-false f z.1))
      go g (taken e f l) = (λ z. absurd (omega arith), λ z. absurd (true-false f z.1))

  -- 8 exactly if it is open, the word is one and the output has no four places
  pub eight : ((sending s n out).number ≡ 8) ↔ ((sound s ≡ true) × (is_word s.accord.u n ≡ true) × (length out < 4))
  eight = go (sending s n out) outcome
    where
      go : (g : Given) → Outcome g → (g.number ≡ 8) ↔ ((sound s ≡ true) × (is_word s.accord.u n ≡ true) × (length out < 4))
      go g (closed e) = (λ z. absurd (omega arith), λ z. absurd (true-false z.0 e))
      go g (bad-word e f) = (λ z. absurd (omega arith), λ z. absurd (true-false z.1 f))
      go g (no_room e f l) = (λ z. (e, f, l), λ z. refl)
      go g (taken e f l) = (λ z. absurd (omega arith), λ z. absurd (omega (arith, z.2)))
