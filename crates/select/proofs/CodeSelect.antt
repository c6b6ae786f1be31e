-- Add, compare and select by keys: the least of the four keys into a state is that of the way which the definition names, the least key of
-- all states has the least sum, and what the code makes of sixteen keys is what `advance` promises.
--   step-below           a step is below 128
--   best                 the least of four keys
--   sum-at, step-at      what the keys say of a state
--   keys-sums, keys-steps   the keys that are selected
--   lowest-is            the least key
--   low_fits, kept-is, follows   what a state keeps and the step into it, as the code picks them
--   all-kept, all-followed  where all states are reached
--   advanced             a symbol
use mathlib.Core.Path.{◌≡◌, refl, sym, ap, ap₂, ◌∙◌}
use mathlib.Core.Bool.{Bool, true, false, cond}
use mathlib.Core.List.{List}
use Prim.Native.Nat.{ℕ, suc, ◌-◌, ◌/◌, ◌%◌, ◌≤◌, ◌<◌, min}
use native.Mathlib.Omega.{arith}
use lib.Dec.{ltb}
use lib.ListN.{get_or}
use borrow.Author.Tests.{lt-ltb, ltb-true, ltb-false}
use Rattle.trellis.specs.Pick.{keep_n, least}
use Rattle.trellis.proofs.Least.{least-is}
use Rattle.wei.specs.State.{before}
use Rattle.wei.proofs.States.{before-below, before-rises, between-below}
use Rattle.select.specs.declared.Selected.{Selected}
use Rattle.select.specs.Select.{limit, sixteen, arrive, winner, sum_at, first_step, lowered, live_of, head_of, followed, step_at}
use Rattle.select.specs.Ways.{step_by, key_by, key_at, sums_in, steps_in, followed_step}
use Rattle.lists.specs.UpTo.{all_up_to}
use Rattle.sums.specs.Sums.{end_of, lowest}
use Rattle.lists.proofs.UpTo.{up-to-all}
use Rattle.sums.proofs.Least.{end_below, lowest-le}
use Rattle.select.proofs.Lists.{sixteen-at, sixteen-same}
use Rattle.select.proofs.Followed.{followed-live, followed-below, followed-is}

-- ── the least of four ──
pub step-below : (t k : ℕ) → t < 16 → k < 4 → step_by t k < 128
step-below t k h l = omega (arith, before-below t k h l, between-below (before t k) t)

module _ (sums costs : List ℕ) (t : ℕ) (h : t < 16) where
  abbrev sum : ℕ → ℕ
  sum = arrive sums costs t

  abbrev key : ℕ → ℕ
  key = key_by sums costs t

  -- the way from an earlier state before wins where the sums are equal
  nearer-is : (i j : ℕ) → i < j → j < 4 → min (key i) (key j) ≡ key (keep_n (ltb (sum j) (sum i)) i j)
  unfolding key_by
  nearer-is i j l k = go (ltb (sum j) (sum i)) refl
    where
      go : (b : Bool) → ltb (sum j) (sum i) ≡ b → min (key i) (key j) ≡ key (keep_n b i j)
      go true e = omega (arith, ltb-true (sum j) (sum i) e, step-below t j h k)
      go false e = omega (arith, ltb-false (sum j) (sum i) e, before-rises t i j l, between-below (before t i) t)

  one_more : (n : ℕ) → suc n < 4 → min (key (least sum n)) (key (suc n)) ≡ key (least sum (suc n))
  unfolding least
  one_more n l = nearer-is (least sum n) (suc n) (omega (arith, (least-is sum n).low)) l

  pub best : (a b c d p q r : ℕ) → a ≡ key_by sums costs t 0 → b ≡ key_by sums costs t 1 → c ≡ key_by sums costs t 2 → d ≡ key_by sums costs t 3
      → p ≡ min a b → q ≡ min c d → r ≡ min p q → r ≡ key_at sums costs t
  unfolding key_at key_by first_step sum_at winner least
  best a b c d p q r ea eb ec ed ep eq er =
      let chain : r ≡ min (min (min a b) c) d = omega arith in
      let two : min (min (key 0) (key 1)) (key 2) ≡ key (least sum 2) = ap (λ (x : ℕ). min x (key 2)) (one_more 0 (omega arith)) ∙ one_more 1 (omega arith) in
      chain ∙ rw (ea, eb, ec, ed) (ap (λ (x : ℕ). min x (key 3)) two ∙ one_more 2 (omega arith))

-- ── what sixteen keys say ──
module _ (keys : List ℕ) (s : ℕ) (h : s < 16) where
  pub sum-at : get_or (sums_in keys) s 0 ≡ get_or keys s 0 / 128
  sum-at = sixteen-at (λ i. get_or keys i 0 / 128) s h

  pub step-at : get_or (steps_in keys) s 0 ≡ get_or keys s 0 % 128
  step-at = sixteen-at (λ i. get_or keys i 0 % 128) s h

module _ (sums costs : List ℕ) where
  key-parts : (t : ℕ) → t < 16 → (key_at sums costs t / 128 ≡ sum_at sums costs t) × (key_at sums costs t % 128 ≡ first_step sums costs t)
  unfolding key_at first_step winner
  key-parts t h =
      let l : step_by t (winner sums costs t) < 128 = step-below t (winner sums costs t) h (omega (arith, (least-is (arrive sums costs t) 3).low)) in
      (omega arith, omega arith)

  pub keys-sums : sums_in (sixteen (key_at sums costs)) ≡ sixteen (sum_at sums costs)
  keys-sums =
      sixteen-same (λ s. get_or (sixteen (key_at sums costs)) s 0 / 128) (sum_at sums costs)
      (λ t h. ap (λ (x : ℕ). x / 128) (sixteen-at (key_at sums costs) t h) ∙ (key-parts t h).0)

  pub keys-steps : steps_in (sixteen (key_at sums costs)) ≡ sixteen (first_step sums costs)
  keys-steps =
      sixteen-same (λ s. get_or (sixteen (key_at sums costs)) s 0 % 128) (first_step sums costs)
      (λ t h. ap (λ (x : ℕ). x % 128) (sixteen-at (key_at sums costs) t h) ∙ (key-parts t h).1)

pub lowest-is : (keys : List ℕ) → lowest keys / 128 ≡ lowest (sums_in keys)
unfolding lowest
lowest-is keys =
    let sums : List ℕ = sums_in keys in
    let e = end_of keys in
    let d = end_of sums in
    omega (arith, lowest-le sums e (end_below keys), sum-at keys e (end_below keys), lowest-le keys d (end_below sums), sum-at keys d (end_below sums))

-- ── state by state ──
module _ (keys : List ℕ) (s : ℕ) (h : s < 16) where
  pub low_fits : (low : ℕ) → low ≡ lowest (sums_in keys) → low ≤ get_or keys s 0 / 128
  low_fits low e = omega (arith, lowest-le (sums_in keys) s h, sum-at keys s h)

  pub kept-is : (low x : ℕ) → low ≡ lowest (sums_in keys)
      → x ≡ cond (ltb (get_or keys s 0 / 128) limit) (get_or keys s 0 / 128 - low) limit → x ≡ lowered (sums_in keys) s
  unfolding lowered
  kept-is low x e q = q ∙ ap₂ (λ (v l : ℕ). cond (ltb v limit) (v - l) limit) (sym (sum-at keys s h)) e

  pub follows : (d x : ℕ) → d ≡ head_of (live_of (sums_in keys)) → d < 16
      → x ≡ cond (ltb (get_or keys s 0 / 128) limit) (get_or keys s 0 % 128) (get_or keys d 0 % 128) → x ≡ followed_step (sums_in keys) (steps_in keys) s
  follows d x e l q =
      followed-is (sums_in keys) (steps_in keys) s d x e
      (q ∙ ap₂ (λ (v w : ℕ). cond (ltb v limit) w (get_or keys d 0 % 128)) (sym (sum-at keys s h)) (sym (step-at keys s h))
      ∙ ap (cond (ltb (get_or (sums_in keys) s 0) limit) (get_or (steps_in keys) s 0)) (sym (step-at keys d l)))

-- ── where all states are reached ──
module _ (keys : List ℕ) (all : all_up_to 268435455 keys ≡ true) where
  reached : (s : ℕ) → s < 16 → get_or (sums_in keys) s 0 < limit
  reached s h = omega (arith, sum-at keys s h, up-to-all 268435455 keys all s)

  pub all-kept : (low : ℕ) → low ≡ lowest (sums_in keys) → sixteen (λ s. get_or keys s 0 / 128 - low) ≡ sixteen (lowered (sums_in keys))
  unfolding lowered
  all-kept low e =
      sixteen-same (λ s. get_or keys s 0 / 128 - low) (lowered (sums_in keys))
      (λ s h. ap₂ (λ (a b : ℕ). a - b) (sym (sum-at keys s h)) e ∙ sym (rw (lt-ltb _ _ (reached s h))))

  pub all-followed : steps_in keys ≡ sixteen (followed_step (sums_in keys) (steps_in keys))
  unfolding followed_step
  all-followed =
      sixteen-same (λ s. get_or keys s 0 % 128) (followed_step (sums_in keys) (steps_in keys))
      (λ s h. sym (step-at keys s h) ∙ ap (λ (k : ℕ). get_or (steps_in keys) k 0) (sym (followed-live (sums_in keys) s (reached s h))))

-- ── a symbol ──
followed-steps : (sums costs : List ℕ) → sixteen (followed_step (sixteen (sum_at sums costs)) (sixteen (first_step sums costs))) ≡ sixteen (step_at sums costs)
unfolding followed_step step_at
followed-steps sums costs =
    let new = sixteen (sum_at sums costs) in
    sixteen-same (followed_step new (sixteen (first_step sums costs))) (step_at sums costs)
    (λ s h. sixteen-at (first_step sums costs) (followed new s) (followed-below new s h))

module _ (sums costs keys : List ℕ) (is : keys ≡ sixteen (key_at sums costs)) where
  pub advanced : (kept steps : List ℕ) → kept ≡ sixteen (lowered (sums_in keys)) → steps ≡ sixteen (followed_step (sums_in keys) (steps_in keys))
      → ◌≡◌ {A = Selected} (record { sums = kept; steps = steps }) (record { sums = sixteen (lowered (sixteen (sum_at sums costs))); steps = sixteen (step_at sums costs) })
  advanced kept steps k s =
      let a : sums_in keys ≡ sixteen (sum_at sums costs) = ap sums_in is ∙ keys-sums sums costs in
      let b : steps_in keys ≡ sixteen (first_step sums costs) = ap steps_in is ∙ keys-steps sums costs in
      let p : kept ≡ sixteen (lowered (sixteen (sum_at sums costs))) = k ∙ ap (λ (l : List ℕ). sixteen (lowered l)) a in
      let q : steps ≡ sixteen (step_at sums costs) = s ∙ ap₂ (λ (l m : List ℕ). sixteen (followed_step l m)) a b ∙ followed-steps sums costs in
      λ i. record { sums = p i; steps = q i }
