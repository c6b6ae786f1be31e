-- Words and their limits.
--   within-by                         the test of each word beside its limit
--   within-at                         what is known of words within their limits
--   kind_fits, turn_fits, got_fits, wanted_fits, body_fits   the numbers that a frame and a judge need
--   few                               as many words, each at most its limit
--   small_all, all_small              small at each place
use mathlib.Core.Path.{◌≡◌, refl, ap}
use mathlib.Core.Bool.{Bool, true, ◌&&◌}
use mathlib.Core.List.{List, [], ◌∷◌}
use Prim.Native.Nat.{ℕ, zero, suc, ◌+◌, ◌≤◌, ◌<◌}
use native.Mathlib.Omega.{arith}
use borrow.Author.Tests.{le-leb, leb-true}
use lib.Dec.{leb}
use lib.ListN.{get_or, length, replicate, length-replicate, get_or-replicate}
use Rattle.std.specs.List.{list_all, zip}
use Rattle.std.proofs.lemmas.Bool.{and_parts}
use Rattle.c_replay_state.specs.Table.{half, limits, within, Small}

-- the test of each word beside its limit
pub within-by : (ls ws : List ℕ) → length ls ≤ length ws → list_all (λ (p : ℕ × ℕ). leb p.0 p.1) (zip ws ls) ≡ within ls ws
unfolding within
within-by [] [] h = refl
within-by [] (w ∷ ws) h = refl
within-by (l ∷ ls) [] h = absurd (omega arith)
within-by (l ∷ ls) (w ∷ ws) h = ap (λ (b : Bool). leb w l && b) (within-by ls ws (omega arith))

pub within-at : (ls ws : List ℕ) → within ls ws ≡ true → (i : ℕ) → i < length ls → get_or ws i 0 ≤ get_or ls i 0
unfolding within
within-at [] ws e i h = omega arith
within-at (l ∷ ls) [] e i h = cc
within-at (l ∷ ls) (w ∷ ws) e zero h = leb-true w l (and_parts (leb w l) (within ls ws) e).0
within-at (l ∷ ls) (w ∷ ws) e (suc i) h = within-at ls ws (and_parts (leb w l) (within ls ws) e).1 i (omega arith)

-- what a frame and a judge need of their numbers
module _ (ns : List ℕ) (e : within limits ns ≡ true) where
  pub kind_fits : get_or ns 2 0 ≤ 255
  kind_fits = within-at limits ns e 2 (omega arith)

  pub turn_fits : get_or ns 14 0 ≤ half
  turn_fits = within-at limits ns e 14 (omega arith)

  pub got_fits : get_or ns 16 0 ≤ half
  got_fits = within-at limits ns e 16 (omega arith)

  pub wanted_fits : get_or ns 17 0 ≤ half
  wanted_fits = within-at limits ns e 17 (omega arith)

  byte_fits : (i : ℕ) → i < 9 → get_or ns (suc (suc (suc i))) 0 ≤ 255
  byte_fits i h = at i h (within-at limits ns e (suc (suc (suc i))) (omega arith))
    where
      at : (i : ℕ) → i < 9 → get_or ns (suc (suc (suc i))) 0 ≤ get_or limits (suc (suc (suc i))) 0 → get_or ns (suc (suc (suc i))) 0 ≤ 255
      at zero h k = k
      at (suc zero) h k = k
      at (suc (suc zero)) h k = k
      at (suc (suc (suc zero))) h k = k
      at (suc (suc (suc (suc zero)))) h k = k
      at (suc (suc (suc (suc (suc zero))))) h k = k
      at (suc (suc (suc (suc (suc (suc zero)))))) h k = k
      at (suc (suc (suc (suc (suc (suc (suc zero))))))) h k = k
      at (suc (suc (suc (suc (suc (suc (suc (suc zero)))))))) h k = k
      at (suc (suc (suc (suc (suc (suc (suc (suc (suc i))))))))) h k = absurd (omega arith)

  pub body_fits : (i : ℕ) → i < 9 → get_or ns (3 + i) 0 ≤ 255
  body_fits i h = let e : 3 + i ≡ suc (suc (suc i)) = omega arith in rw e (byte_fits i h)

pub few : (n : ℕ) (ws : List ℕ) → n ≤ length ws → Small ws → within (replicate n half) ws ≡ true
unfolding within
few zero ws h f = refl
few (suc n) [] h f = absurd (omega arith)
few (suc n) (w ∷ ws) h f = rw (le-leb w half (f 0)) (few n ws (omega arith) (λ i. f (suc i)))

pub small_all : (ws : List ℕ) → ((i : ℕ) → i < length ws → get_or ws i 0 ≤ half) → Small ws
small_all [] f i = omega arith
small_all (w ∷ ws) f zero = f 0 (omega arith)
small_all (w ∷ ws) f (suc i) = small_all ws (λ j h. f (suc j) (omega arith)) i

pub all_small : (n : ℕ) (ws : List ℕ) → length ws ≤ n → within (replicate n half) ws ≡ true → Small ws
all_small n ws h e = small_all ws (λ i k. omega (arith, within-at (replicate n half) ws e i (rw length-replicate (omega arith)), get_or-replicate n i half 0 (omega arith)))
