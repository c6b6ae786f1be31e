-- What all states agree on, by the bits in which their words differ.
--   clear_or, clear_xor   no bit is set in one of two; two bits are the same
--   clear-out, clear_in   a bit in which words do not differ is the same in all of them
--   same_out, same_in     what it is that all have one subset
--   same-age, same_bit    an age is agreed exactly if none of its three bits differs
--   oldest-le, oldest-holds, oldest-most, oldest-is   the count of the oldest that obey: all of them do, and no more do
use mathlib.Core.Path.{◌≡◌, refl, sym, ap, ap₂, subst, ◌∙◌}
use mathlib.Core.Bool.{Bool, true, false, cond, ◌&&◌}
use mathlib.Core.List.{List, [], ◌∷◌}
use Prim.Native.Nat.{ℕ, zero, suc, ◌+◌, ◌-◌, ◌*◌, ◌/◌, ◌%◌, ◌^◌, ◌≤◌, ◌<◌}
use native.Mathlib.Omega.{arith}
use native.Mathlib.Decide.{ℕ_discrete, dec_lt}
use lib.Dec.{eqb}
use lib.Bits.{bit_or, bit_xor, or_add_and, xor_add_and, and_le_l, and_le_r, or_shr, xor_shr, or_mod, xor_mod, xor_self}
use lib.ListN.{length, get_or}
use lib.Pow.{shr_le}
use borrow.Author.Tests.{eq-eqb, ne_eqb, eqb-true, eqb-false}
use Rattle.lists.proofs.Filled.{tabled-length, tabled-at}
use Rattle.registers.specs.Registers.{bit_at, bit_in, subset_in, came_from, word_before, words_before, same_from, same_at, oldest, clear_at, apart_from, apart_of}

or-none : (a b : ℕ) → bit_or a b ≡ 0 → (a ≡ 0) × (b ≡ 0)
or-none a b e = (omega (arith, or_add_and a b, and_le_r a b), omega (arith, or_add_and a b, and_le_l a b))

xor-none : (a b : ℕ) → bit_xor a b ≡ 0 → a ≡ b
xor-none a b e = omega (arith, xor_add_and a b, and_le_l a b, and_le_r a b)

split-and : (a b : Bool) → (a && b) ≡ true → (a ≡ true) × (b ≡ true)
split-and true b e = (refl, e)
split-and false b e = let z : ◌≡◌ {A = ℕ} 0 1 = cc in absurd (omega arith)

-- ── one bit ──
clear_or : (d e q : ℕ) → clear_at (bit_or d e) q ≡ (clear_at d q && clear_at e q)
clear_or d e q = go (clear_at d q) (clear_at e q) refl refl
  where
    same : bit_at (bit_or d e) q ≡ bit_or (bit_at d q) (bit_at e q)
    same = ap (λ (x : ℕ). x % 2) (or_shr d e q) ∙ or_mod (d / 2 ^ q) (e / 2 ^ q) 1

    go : (x y : Bool) → clear_at d q ≡ x → clear_at e q ≡ y → clear_at (bit_or d e) q ≡ (x && y)
    go true true p r = eq-eqb _ _ (same ∙ ap₂ bit_or (eqb-true (bit_at d q) 0 p) (eqb-true (bit_at e q) 0 r))
    go true false p r = ne_eqb _ _ (λ z. eqb-false (bit_at e q) 0 r (or-none (bit_at d q) (bit_at e q) (sym same ∙ z)).1)
    go false y p r = ne_eqb _ _ (λ z. eqb-false (bit_at d q) 0 p (or-none (bit_at d q) (bit_at e q) (sym same ∙ z)).0)

clear_xor : (a b q : ℕ) → clear_at (bit_xor a b) q ≡ eqb (bit_at a q) (bit_at b q)
clear_xor a b q = go (eqb (bit_at a q) (bit_at b q)) refl
  where
    same : bit_at (bit_xor a b) q ≡ bit_xor (bit_at a q) (bit_at b q)
    same = ap (λ (x : ℕ). x % 2) (xor_shr a b q) ∙ xor_mod (a / 2 ^ q) (b / 2 ^ q) 1

    go : (x : Bool) → eqb (bit_at a q) (bit_at b q) ≡ x → clear_at (bit_xor a b) q ≡ x
    go true p = eq-eqb _ _ (same ∙ ap (λ (x : ℕ). bit_xor x (bit_at b q)) (eqb-true (bit_at a q) (bit_at b q) p) ∙ xor_self (bit_at b q))
    go false p = ne_eqb _ _ (λ z. eqb-false (bit_at a q) (bit_at b q) p (xor-none (bit_at a q) (bit_at b q) (sym same ∙ z)))

-- ── words that do not differ in a bit ──
module _ (f q : ℕ) where
  out-from : (l : List ℕ) (d : ℕ) → clear_at (apart_from f d l) q ≡ true → (clear_at d q ≡ true) × ((s : ℕ) → s < length l → bit_at (get_or l s 0) q ≡ bit_at f q)
  unfolding apart_from
  out-from [] d e = (e, λ s h. absurd (omega arith))
  out-from (w ∷ l) d e =
      let (x, r) = out-from l (bit_or d (bit_xor w f)) e in
      let (y, z) = split-and (clear_at d q) (clear_at (bit_xor w f) q) (sym (clear_or d (bit_xor w f) q) ∙ x) in
      (y, λ s h. here s h (eqb-true (bit_at w q) (bit_at f q) (sym (clear_xor w f q) ∙ z)) r)
    where
      here : (s : ℕ) → s < length (w ∷ l) → bit_at w q ≡ bit_at f q → ((s : ℕ) → s < length l → bit_at (get_or l s 0) q ≡ bit_at f q) → bit_at (get_or (w ∷ l) s 0) q ≡ bit_at f q
      here zero h a r = a
      here (suc s) h a r = r s (omega arith)

  in-from : (l : List ℕ) (d : ℕ) → clear_at d q ≡ true → ((s : ℕ) → s < length l → bit_at (get_or l s 0) q ≡ bit_at f q) → clear_at (apart_from f d l) q ≡ true
  unfolding apart_from
  in-from [] d e h = e
  in-from (w ∷ l) d e h =
      in-from l (bit_or d (bit_xor w f)) (clear_or d (bit_xor w f) q ∙ ap₂ ◌&&◌ e (clear_xor w f q ∙ eq-eqb (bit_at w q) (bit_at f q) (h zero (omega arith)))) (λ s k. h (suc s) (omega arith))

zero_clear : (q : ℕ) → clear_at 0 q ≡ true
zero_clear q = eq-eqb (bit_at 0 q) 0 (omega (arith, shr_le 0 q))

pub clear-out : (ways : List ℕ) (q : ℕ) → clear_at (apart_of ways) q ≡ true → (s : ℕ) → s < length ways → bit_at (get_or ways s 0) q ≡ bit_at (get_or ways 0 0) q
clear-out ways q e = (out-from (get_or ways 0 0) q ways 0 e).1

pub clear_in : (ways : List ℕ) (q : ℕ) → ((s : ℕ) → s < length ways → bit_at (get_or ways s 0) q ≡ bit_at (get_or ways 0 0) q) → clear_at (apart_of ways) q ≡ true
clear_in ways q h = in-from (get_or ways 0 0) q ways 0 (zero_clear q) h

-- ── all have one subset ──
module _ (registers : List ℕ) (s q : ℕ) where
  pub same_out : (l : List ℕ) → same_from registers s q l ≡ true → (i : ℕ) → i < length l → subset_in registers (came_from (get_or l i 0)) q ≡ subset_in registers s q
  unfolding same_from
  same_out [] e i h = absurd (omega arith)
  same_out (x ∷ l) e zero h = eqb-true (subset_in registers (came_from x) q) (subset_in registers s q) (split-and (eqb (subset_in registers (came_from x) q) (subset_in registers s q)) (same_from registers s q l) e).0
  same_out (x ∷ l) e (suc i) h = same_out l (split-and (eqb (subset_in registers (came_from x) q) (subset_in registers s q)) (same_from registers s q l) e).1 i (omega arith)

  pub same_in : (l : List ℕ) → ((i : ℕ) → i < length l → subset_in registers (came_from (get_or l i 0)) q ≡ subset_in registers s q) → same_from registers s q l ≡ true
  unfolding same_from
  same_in [] f = refl
  same_in (x ∷ l) f = rw (eq-eqb (subset_in registers (came_from x) q) (subset_in registers s q) (f zero (omega arith))) (same_in l (λ i h. f (suc i) (omega arith)))

-- ── an age and its three bits ──
-- whether bit i is the same in all states that the steps name
abbrev pub clear_bit : List ℕ → List ℕ → ℕ → Bool
clear_bit registers steps i = clear_at (apart_of (words_before registers steps (i / 64))) (i % 64)

three : (a b c x y z : ℕ) → a < 2 → b < 2 → c < 2 → x < 2 → y < 2 → z < 2 → 4 * c + 2 * b + a ≡ 4 * z + 2 * y + x → (a ≡ x) × (b ≡ y) × (c ≡ z)
three a b c x y z ha hb hc hx hy hz e = (omega arith, omega arith, omega arith)

module _ (registers steps : List ℕ) (long : length steps ≡ 16) where
  abbrev from : ℕ → ℕ
  from s = came_from (get_or steps s 0)

  word_at : (b s : ℕ) → s < 16 → get_or (words_before registers steps b) s 0 ≡ get_or registers (16 * b + from s) 0
  unfolding words_before
  word_at b s h = tabled-at (word_before registers steps b) 16 s h

  words_long : (b : ℕ) → length (words_before registers steps b) ≡ 16
  unfolding words_before
  words_long b = tabled-length (word_before registers steps b) 16

  bit-out : (i : ℕ) → clear_bit registers steps i ≡ true → (s : ℕ) → s < 16 → bit_in registers (from s) i ≡ bit_in registers (from 0) i
  bit-out i e s h =
      let w = words_before registers steps (i / 64) in
      ap (λ (x : ℕ). bit_at x (i % 64)) (sym (word_at (i / 64) s h)) ∙ clear-out w (i % 64) e s (omega (arith, words_long (i / 64)))
      ∙ ap (λ (x : ℕ). bit_at x (i % 64)) (word_at (i / 64) 0 (omega arith))

  bit_in_lem : (i : ℕ) → ((s : ℕ) → s < 16 → bit_in registers (from s) i ≡ bit_in registers (from 0) i) → clear_bit registers steps i ≡ true
  bit_in_lem i f =
      let w = words_before registers steps (i / 64) in
      clear_in w (i % 64) (λ s h.
      let k : s < 16 = omega (arith, words_long (i / 64)) in
      ap (λ (x : ℕ). bit_at x (i % 64)) (word_at (i / 64) s k) ∙ f s k ∙ sym (ap (λ (x : ℕ). bit_at x (i % 64)) (word_at (i / 64) 0 (omega arith))))

  pub same-age : (q : ℕ) → clear_bit registers steps (3 * q) ≡ true → clear_bit registers steps (3 * q + 1) ≡ true → clear_bit registers steps (3 * q + 2) ≡ true → same_at registers steps q ≡ true
  same-age q a b c =
      same_in registers (from 0) q steps (λ s h.
      let k : s < 16 = omega arith in
      let x = bit-out (3 * q) a s k in
      let y = bit-out (3 * q + 1) b s k in
      let z = bit-out (3 * q + 2) c s k in
      cc)

  -- the three bits of an agreed age
  bits-of : (q : ℕ) → same_at registers steps q ≡ true → (s : ℕ) → s < 16 →
      (bit_in registers (from s) (3 * q) ≡ bit_in registers (from 0) (3 * q)) × (bit_in registers (from s) (3 * q + 1) ≡ bit_in registers (from 0) (3 * q + 1))
      × (bit_in registers (from s) (3 * q + 2) ≡ bit_in registers (from 0) (3 * q + 2))
  bits-of q e s h = three _ _ _ _ _ _ (omega arith) (omega arith) (omega arith) (omega arith) (omega arith) (omega arith) (same_out registers (from 0) q steps e s (omega arith))

  pub same_bit : (i : ℕ) → same_at registers steps (i / 3) ≡ true → clear_bit registers steps i ≡ true
  same_bit i e = bit_in_lem i (λ s h. pick s h (dec_lt (i % 3) 1) (dec_lt (i % 3) 2))
    where
      pick : (s : ℕ) → s < 16 → Dec (i % 3 < 1) → Dec (i % 3 < 2) → bit_in registers (from s) i ≡ bit_in registers (from 0) i
      pick s h (yes a) b = let z : 3 * (i / 3) ≡ i = omega arith in subst (λ (k : ℕ). bit_in registers (from s) k ≡ bit_in registers (from 0) k) z (bits-of (i / 3) e s h).0
      pick s h (no a) (yes b) = let z : 3 * (i / 3) + 1 ≡ i = omega arith in subst (λ (k : ℕ). bit_in registers (from s) k ≡ bit_in registers (from 0) k) z (bits-of (i / 3) e s h).1
      pick s h (no a) (no b) = let z : 3 * (i / 3) + 2 ≡ i = omega arith in subst (λ (k : ℕ). bit_in registers (from s) k ≡ bit_in registers (from 0) k) z (bits-of (i / 3) e s h).2

-- ── the oldest that obey ──
module _ (p : ℕ → Bool) where
  pub oldest-le : (n : ℕ) → oldest p n ≤ n
  unfolding oldest
  oldest-le zero = omega arith
  oldest-le (suc n) = go (p n) (oldest-le n)
    where
      go : (b : Bool) → oldest p n ≤ n → cond b (suc (oldest p n)) zero ≤ suc n
      go true h = omega arith
      go false h = omega arith

  pub oldest-holds : (n q : ℕ) → q < n → n ≤ oldest p n + q → p q ≡ true
  unfolding oldest
  oldest-holds zero q h k = absurd (omega arith)
  oldest-holds (suc n) q h k = go (p n) refl k (oldest-holds n q) (ℕ_discrete q n)
    where
      go : (b : Bool) → p n ≡ b → suc n ≤ cond b (suc (oldest p n)) zero + q → (q < n → n ≤ oldest p n + q → p q ≡ true) → Dec (q ≡ n) → p q ≡ true
      go true e k r (yes z) = ap p z ∙ e
      go true e k r (no z) = r (omega arith) (omega arith)
      go false e k r z = absurd (omega arith)

  pub oldest-most : (n m : ℕ) → m ≤ n → ((q : ℕ) → q < n → n ≤ m + q → p q ≡ true) → m ≤ oldest p n
  unfolding oldest
  oldest-most n zero h k = omega arith
  oldest-most zero (suc m) h k = absurd (omega arith)
  oldest-most (suc n) (suc m) h k = go (p n) (k n (omega arith) (omega arith)) (oldest-most n m (omega arith) (λ q l g. k q (omega arith) (omega arith)))
    where
      go : (b : Bool) → b ≡ true → m ≤ oldest p n → suc m ≤ cond b (suc (oldest p n)) zero
      go true e r = omega arith
      go false e r = absurd (let z : ◌≡◌ {A = ℕ} 0 1 = cc in omega arith)

  -- all ages from a on obey, and the one below a does not
  pub oldest-is : (n a : ℕ) → a ≤ n → ((q : ℕ) → a ≤ q → q < n → p q ≡ true) → ((q : ℕ) → suc q ≡ a → p q ≡ false) → n - a ≡ oldest p n
  oldest-is n a h f g = go a refl (oldest-most n (n - a) (omega arith) (λ q k l. f q (omega arith) k))
    where
      go : (b : ℕ) → a ≡ b → n - a ≤ oldest p n → n - a ≡ oldest p n
      go zero e k = omega (arith, oldest-le n)
      go (suc b) e k = under (dec_lt (n - a) (oldest p n))
        where
          under : Dec (n - a < oldest p n) → n - a ≡ oldest p n
          under (yes l) = absurd (let z : ◌≡◌ {A = Bool} true false = sym (oldest-holds n b (omega arith) (omega arith)) ∙ g b (sym e) in let y : ◌≡◌ {A = ℕ} 0 1 = cc in omega arith)
          under (no l) = omega arith
