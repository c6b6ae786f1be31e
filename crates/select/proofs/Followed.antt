-- A state that nothing reaches follows the first reached one.
--   reached-in, reached-out   what stands in the list of reached states
--   followed-live         a reached state follows itself
--   followed-below, followed-up   what is followed is a state, and is reached where any is
--   followed-is           the step as the code picks it
--   head-found            the first reached state, as a search by keys finds it
use mathlib.Core.Path.{◌≡◌, refl, sym, ap, subst, ◌∙◌}
use mathlib.Core.Bool.{Bool, true, false, cond}
use mathlib.Core.List.{List, [], ◌∷◌}
use mathlib.Core.Logic.{inl, inr, ⊎_elim}
use Prim.Native.Nat.{ℕ, suc, ◌+◌, ◌/◌, ◌<◌}
use native.Mathlib.Omega.{arith}
use lib.Dec.{ltb}
use lib.ListN.{length, get_or}
use borrow.Author.Tests.{ltb-true, lt-ltb, le-ltb}
use native.Mathlib.Decide.{dec_lt}
use Rattle.std.specs.Prelude.{not, Option, Some, None}
use Rattle.std.specs.Option.{unwrap_or}
use Rattle.std.specs.List.{position_or_len}
use Rattle.trellis.specs.Lists.{In}
use Rattle.trellis.specs.Search.{range}
use Rattle.trellis.proofs.Lists.{state-in, state-below}
use Rattle.sums.specs.Sums.{limit}
use Rattle.select.specs.Select.{reached_of, live_of, head_of, followed}
use Rattle.select.specs.Ways.{sums_in, followed_step}
use Rattle.select.proofs.Lists.{sixteen-at}

module _ (sums : List ℕ) where
  abbrev live : ℕ → Bool
  live s = ltb (get_or sums s 0) limit

  reached-in : (xs : List ℕ) (s : ℕ) → In s xs → live s ≡ true → In s (reached_of sums xs)
  unfolding reached_of
  reached-in [] s m e = absurd m
  reached-in (x ∷ xs) s m e = go (λ j. reached-in xs s j e) (live x) refl m
    where
      go : (In s xs → In s (reached_of sums xs)) → (b : Bool) → live x ≡ b → In s (x ∷ xs) → In s (cond b (x ∷ reached_of sums xs) (reached_of sums xs))
      go r true q m = ⊎_elim (λ p. inl p) (λ j. inr (r j)) m
      go r false q m = ⊎_elim (λ p. let z : ◌≡◌ {A = Bool} false true = sym q ∙ ap live (sym p) ∙ e in absurd (let y : ◌≡◌ {A = ℕ} 0 1 = cc in omega arith)) r m

  reached-out : (xs : List ℕ) (s : ℕ) → In s (reached_of sums xs) → In s xs × (live s ≡ true)
  unfolding reached_of
  reached-out [] s m = absurd m
  reached-out (x ∷ xs) s m = go (λ j. reached-out xs s j) (live x) refl m
    where
      go : (In s (reached_of sums xs) → In s xs × (live s ≡ true)) → (b : Bool) → live x ≡ b → In s (cond b (x ∷ reached_of sums xs) (reached_of sums xs)) → In s (x ∷ xs) × (live s ≡ true)
      go r true q m = ⊎_elim (λ p. (inl p, ap live p ∙ q)) (λ j. (inr (r j).0, (r j).1)) m
      go r false q m = (inr (r m).0, (r m).1)

  head-below : head_of (live_of sums) < 16
  unfolding live_of
  head-below = go (reached_of sums (range 0 16)) refl
    where
      go : (l : List ℕ) → reached_of sums (range 0 16) ≡ l → head_of l < 16
      go [] e = omega arith
      go (x ∷ l) e = state-below 16 x (reached-out (range 0 16) x (subst (In x) (sym e) (inl refl))).0

  head-up : (s : ℕ) → s < 16 → get_or sums s 0 < limit → get_or sums (head_of (live_of sums)) 0 < limit
  unfolding live_of
  head-up s h k = go (reached_of sums (range 0 16)) refl
    where
      go : (l : List ℕ) → reached_of sums (range 0 16) ≡ l → get_or sums (head_of l) 0 < limit
      go [] e = absurd (subst (In s) e (reached-in (range 0 16) s (state-in 16 s h) (lt-ltb (get_or sums s 0) limit k)))
      go (x ∷ l) e = ltb-true (get_or sums x 0) limit (reached-out (range 0 16) x (subst (In x) (sym e) (inl refl))).1

  pub followed-live : (s : ℕ) → get_or sums s 0 < limit → followed sums s ≡ s
  unfolding followed
  followed-live s h = rw (lt-ltb (get_or sums s 0) limit h)

  pub followed-below : (s : ℕ) → s < 16 → followed sums s < 16
  unfolding followed
  followed-below s h = go (live s)
    where
      go : (b : Bool) → cond b s (head_of (live_of sums)) < 16
      go true = h
      go false = head-below

  pub followed-up : (t : ℕ) → t < 16 → get_or sums t 0 < limit → (s : ℕ) → get_or sums (followed sums s) 0 < limit
  unfolding followed
  followed-up t h k s = go (live s) refl
    where
      go : (b : Bool) → live s ≡ b → get_or sums (cond b s (head_of (live_of sums))) 0 < limit
      go true e = ltb-true (get_or sums s 0) limit e
      go false e = head-up t h k

pub followed-is : (sums steps : List ℕ) (s h x : ℕ) → h ≡ head_of (live_of sums) → x ≡ cond (ltb (get_or sums s 0) limit) (get_or steps s 0) (get_or steps h 0) → x ≡ followed_step sums steps s
unfolding followed_step followed
followed-is sums steps s h x e q = q ∙ go (ltb (get_or sums s 0) limit)
  where
    go : (b : Bool) → cond b (get_or steps s 0) (get_or steps h 0) ≡ get_or steps (cond b s (head_of (live_of sums))) 0
    go true = refl
    go false = ap (λ (n : ℕ). get_or steps n 0) e

-- ── the first reached state, as a search by keys finds it ──
abbrev test : ℕ → Bool
test key = ltb (key / 128) limit

one_on : (n p a : ℕ) → cond (ltb p n) (suc a + p) 0 ≡ cond (ltb (1 + p) (suc n)) (a + (1 + p)) 0
one_on n p a = go (dec_lt p n)
  where
    go : Dec (p < n) → cond (ltb p n) (suc a + p) 0 ≡ cond (ltb (1 + p) (suc n)) (a + (1 + p)) 0
    go (yes h) = rw (lt-ltb p n h, lt-ltb (1 + p) (suc n) (omega arith)) (omega arith)
    go (no h) = rw (le-ltb p n (omega arith), le-ltb (1 + p) (suc n) (omega arith))

-- from a on
head-from : (sums keys : List ℕ) (a : ℕ) → ((i : ℕ) → i < length keys → get_or sums (a + i) 0 ≡ get_or keys i 0 / 128) →
    head_of (reached_of sums (range a (length keys))) ≡ cond (ltb (position_or_len test keys) (length keys)) (a + position_or_len test keys) 0
unfolding range reached_of
head-from sums [] a h = refl
head-from sums (k ∷ keys) a h =
    let here : get_or sums a 0 ≡ k / 128 = ap (λ (i : ℕ). get_or sums i 0) (let e : a ≡ a + 0 = omega arith in e) ∙ h 0 (omega arith) in
    let rest = head-from sums keys (suc a) (λ i l. ap (λ (j : ℕ). get_or sums j 0) (let e : suc a + i ≡ a + suc i = omega arith in e) ∙ h (suc i) (omega arith)) in
    rw here (go (test k) (rest ∙ one_on (length keys) (position_or_len test keys) a))
  where
    n : ℕ
    n = length keys

    p : ℕ
    p = position_or_len test keys

    go : (b : Bool) → head_of (reached_of sums (range (suc a) n)) ≡ cond (ltb (1 + p) (suc n)) (a + (1 + p)) 0 →
        head_of (cond b (a ∷ reached_of sums (range (suc a) n)) (reached_of sums (range (suc a) n))) ≡ cond (ltb (cond (not b) (1 + p) 0) (suc n)) (a + cond (not b) (1 + p) 0) 0
    go true r = rw (lt-ltb 0 (suc n) (omega arith)) (omega arith)
    go false r = r

unwrapped : (b : Bool) (p : ℕ) → unwrap_or (cond b (Some p) None) 0 ≡ cond b (0 + p) 0
unwrapped true p = omega arith
unwrapped false p = refl

pub head-found : (keys : List ℕ) (r : Option ℕ) (v : ℕ) → length keys ≡ 16 → r ≡ cond (ltb (position_or_len test keys) (length keys)) (Some (position_or_len test keys)) None →
    v ≡ unwrap_or r 0 → (v ≡ head_of (live_of (sums_in keys))) × (v < 16)
unfolding live_of
head-found keys r v long e q =
    let from = head-from (sums_in keys) keys 0 (λ i l. ap (λ (j : ℕ). get_or (sums_in keys) j 0) (let z : 0 + i ≡ i = omega arith in z) ∙ sixteen-at (λ j. get_or keys j 0 / 128) i (omega arith)) in
    let found : v ≡ head_of (live_of (sums_in keys)) = q ∙ ap (λ (o : Option ℕ). unwrap_or o 0) e ∙ unwrapped (ltb (position_or_len test keys) (length keys)) (position_or_len test keys)
    ∙ sym from ∙ ap (λ (n : ℕ). head_of (reached_of (sums_in keys) (range 0 n))) long in
    (found, rw found (head-below (sums_in keys)))
