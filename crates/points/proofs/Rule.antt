-- The table meets the rule (specs/Points, `Rule`), by three tests that the checker computes over the whole table: each coordinate
-- is 1 modulo 4 and small; the keys rise; and each A point of the grid that holds all those before the last entry is in the table
-- or does not stand before the last entry.
--   rule    the table is the first 256 A points
--   small   no table coordinate exceeds 39 in absolute value
use mathlib.Core.Path.{◌≡◌, refl, sym, subst, ap, ap₂, ◌∙◌}
use mathlib.Core.Bool.{Bool, true, false, ◌&&◌, cond}
use mathlib.Core.List.{List, [], ◌∷◌}
use mathlib.Core.Logic.{inl, inr}
use Prim.Native.Nat.{ℕ, zero, suc, ◌+◌, ◌*◌, ◌/◌, ◌%◌, ◌<◌, ◌≤◌, suc-le-suc, zero-le}
use native.Mathlib.Nat.{not-suc-le-zero, le_of_suc-le-suc, lt_trans, mul-le-mul}
use native.Mathlib.Numerals.{add-one}
use native.Mathlib.Decide.{dec_le, dec_lt}
use native.Mathlib.Omega.{arith}
use lib.Dec.{T, leb, ltb, eqb, eqb→eq, leb→le, ltb→lt}
use lib.IntN.{ℤ, pos, negsuc, nat_abs}
use lib.ListN.{length, get_or}
use Rattle.wei.proofs.Finite.{and_left, and_right, upto, at}
use Rattle.points.specs.declared.Point.{Point}
use Rattle.points.specs.Points.{mod4, IsA, norm, Before, Rule, coordinates, a_point}
use Rattle.points.specs.Turn.{Small}
use Rattle.points.proofs.Keys.{high, key, high-of-key, before-high, high-before, same_key}

-- ---- the tests

-- an A point's coordinate, and small
proper : ℤ → Bool
proper z = eqb (mod4 z) 1 && leb (nat_abs z) 39

all : List ℤ → Bool
unfolding proper
all [] = true
all (z ∷ l) = proper z && all l

keys : List ℤ → List ℕ
keys [] = []
keys (x ∷ []) = []
keys (x ∷ (y ∷ l)) = key (record { x = x; y = y }) ∷ keys l

-- each place is above a and above those before it
rising : ℕ → List ℕ → Bool
rising a [] = true
rising a (k ∷ l) = ltb a (k / 128) && rising (k / 128) l

among : ℕ → List ℕ → Bool
among k [] = false
among k (a ∷ l) = cond (eqb k a) true (among k l)

-- the coordinate that is 1 modulo 4 and 2i + 1 in absolute value
abbrev signed : ℕ → ℕ → ℤ
signed i zero = pos (i * 2 + 1)
signed i (suc n) = negsuc (i * 2)

pub coordinate : ℕ → ℤ
coordinate i = signed i (i % 2)

grid_point : ℕ → ℕ → Point
unfolding coordinate
grid_point i j = record { x = coordinate i; y = coordinate j }

-- the place of the last entry
last_place : ℕ
unfolding a_point
last_place = high (a_point 255)

covered : List ℕ → ℕ → ℕ → Bool
unfolding among grid_point last_place
covered l i j = cond (among (key (grid_point i j)) l) true (leb last_place (high (grid_point i j)))

test-each : T (all coordinates)
unfolding all coordinates
test-each = tt

test_rising : T (rising 0 (keys coordinates))
unfolding rising keys coordinates
test_rising = tt

test-covered : T (upto 19 (λ i. upto 19 (λ j. covered (keys coordinates) i j)))
unfolding covered keys coordinates
test-covered = tt

-- ---- what the tests say of each entry

length-is : length coordinates ≡ 512
unfolding coordinates
length-is = refl

all-at : (l : List ℤ) → T (all l) → (k : ℕ) → k < length l → T (proper (get_or l k (pos 0)))
unfolding all
all-at [] t k h = absurd (not-suc-le-zero h)
all-at (z ∷ l) t zero h = and_left (proper z) (all l) t
all-at (z ∷ l) t (suc k) h = all-at l (and_right (proper z) (all l) t) k (le_of_suc-le-suc h)

pub entry : (k : ℕ) → k < 512 → (mod4 (get_or coordinates k (pos 0)) ≡ 1) × (nat_abs (get_or coordinates k (pos 0)) ≤ 39)
unfolding proper
entry k h =
    let z = get_or coordinates k (pos 0) in
    let t = all-at coordinates test-each k (rw length-is h) in
    (eqb→eq (mod4 z) 1 (and_left (eqb (mod4 z) 1) (leb (nat_abs z) 39) t), leb→le (nat_abs z) 39 (and_right (eqb (mod4 z) 1) (leb (nat_abs z) 39) t))

pub small : (k : ℕ) → k < 256 → Small (a_point k)
unfolding a_point
small k h = record { x-small = (entry (k * 2) (omega arith)).1; y-small = (entry (k * 2 + 1) (omega arith)).1 }

each : (k : ℕ) → k < 256 → IsA (a_point k)
unfolding a_point
each k h = record { x-is = (entry (k * 2) (omega arith)).0; y-is = (entry (k * 2 + 1) (omega arith)).0 }

-- ---- the keys of the table

count-is : length (keys coordinates) ≡ 256
unfolding keys coordinates
count-is = refl

keys-at : (l : List ℤ) (k : ℕ) → k * 2 + 1 < length l → get_or (keys l) k 0 ≡ key (record { x = get_or l (k * 2) (pos 0); y = get_or l (k * 2 + 1) (pos 0) })
unfolding keys
keys-at [] k h = absurd (not-suc-le-zero h)
keys-at (x ∷ []) k h = absurd (not-suc-le-zero (le_of_suc-le-suc (subst (λ (m : ℕ). m < 1) (add-one (k * 2)) h)))
keys-at (x ∷ (y ∷ l)) zero h = refl
keys-at (x ∷ (y ∷ l)) (suc k) h =
    let e : suc k * 2 ≡ suc (suc (k * 2)) = omega arith in
    let f : suc k * 2 + 1 ≡ suc (suc (k * 2 + 1)) = omega arith in
    let g : k * 2 + 1 < length l = le_of_suc-le-suc (le_of_suc-le-suc (subst (λ (m : ℕ). m < suc (suc (length l))) f h)) in
    keys-at l k g ∙ ap₂ (λ (m n : ℕ). key (record { x = get_or (x ∷ (y ∷ l)) m (pos 0); y = get_or (x ∷ (y ∷ l)) n (pos 0) })) (sym e) (sym f)

key-at : (k : ℕ) → k < 256 → get_or (keys coordinates) k 0 ≡ key (a_point k)
unfolding a_point
key-at k h = keys-at coordinates k (rw length-is (omega arith))

place_at : (k : ℕ) → k < 256 → get_or (keys coordinates) k 0 / 128 ≡ high (a_point k)
place_at k h = ap (λ (n : ℕ). n / 128) (key-at k h) ∙ high-of-key (a_point k) (small k h)

rising-from : (a : ℕ) (l : List ℕ) → T (rising a l) → (k : ℕ) → k < length l → a < get_or l k 0 / 128
unfolding rising
rising-from a [] t k h = absurd (not-suc-le-zero h)
rising-from a (b ∷ l) t zero h = ltb→lt a (b / 128) (and_left (ltb a (b / 128)) (rising (b / 128) l) t)
rising-from a (b ∷ l) t (suc k) h =
    lt_trans (ltb→lt a (b / 128) (and_left (ltb a (b / 128)) (rising (b / 128) l) t))
    (rising-from (b / 128) l (and_right (ltb a (b / 128)) (rising (b / 128) l) t) k (le_of_suc-le-suc h))

rising-at : (a : ℕ) (l : List ℕ) → T (rising a l) → (i j : ℕ) → i < j → j < length l → get_or l i 0 / 128 < get_or l j 0 / 128
unfolding rising
rising-at a [] t i j g h = absurd (not-suc-le-zero h)
rising-at a (b ∷ l) t i zero g h = absurd (not-suc-le-zero g)
rising-at a (b ∷ l) t zero (suc j) g h = rising-from (b / 128) l (and_right (ltb a (b / 128)) (rising (b / 128) l) t) j (le_of_suc-le-suc h)
rising-at a (b ∷ l) t (suc i) (suc j) g h =
    rising-at (b / 128) l (and_right (ltb a (b / 128)) (rising (b / 128) l) t) i j (le_of_suc-le-suc g) (le_of_suc-le-suc h)

rises : (i j : ℕ) → i < j → j < 256 → high (a_point i) < high (a_point j)
rises i j g h =
    let a = place_at i (omega arith) in
    let b = place_at j h in
    omega (arith, rising-at 0 (keys coordinates) test_rising i j g (rw count-is h))

order : (i j : ℕ) → i < j → j < 256 → Before (a_point i) (a_point j)
order i j g h = high-before (a_point i) (a_point j) (small i (omega arith)) (small j h) (rises i j g h)

-- ---- no A point is skipped

pub coordinate-is : (z : ℤ) → mod4 z ≡ 1 → coordinate (nat_abs z / 2) ≡ z
unfolding coordinate
coordinate-is (pos n) e =
    let a : n ≡ n / 4 * 4 + 1 = omega arith in
    let p : n / 2 % 2 ≡ 0 = omega arith in
    ap (signed (n / 2)) p ∙ ap pos (omega arith)
coordinate-is (negsuc n) e =
    let a : n ≡ n / 4 * 4 + 2 = omega arith in
    let p : suc n / 2 % 2 ≡ 1 = omega arith in
    ap (signed (suc n / 2)) p ∙ ap negsuc (omega arith)

last-place : last_place ≡ 1306 * 128 + 55
unfolding last_place a_point coordinates
last-place = refl

up-to-last : (k : ℕ) → k < 256 → high (a_point k) ≤ last_place
unfolding last_place
up-to-last k h = go (dec_lt k 255)
  where
    go : Dec (k < 255) → high (a_point k) ≤ last_place
    go (yes l) = omega (arith, rises k 255 l (omega arith))
    go (no f) = omega (arith, ap (λ (n : ℕ). high (a_point n)) (let e : k ≡ 255 = omega arith in e))

root : (n : ℕ) → n * n ≤ 1306 → n ≤ 36
root n h = go (dec_le n 36)
  where
    go : Dec (n ≤ 36) → n ≤ 36
    go (yes t) = t
    go (no f) =
        let g : 37 ≤ n = omega arith in
        let l : 37 * 37 ≤ n * n = mul-le-mul g g in
        absurd (omega arith)

place_of : (k : ℕ) (l : List ℕ) → T (among k l) → (n : ℕ) × (n < length l) × (get_or l n 0 ≡ k)
unfolding among
place_of k [] t = absurd t
place_of k (a ∷ l) t = go (eqb k a) refl (place_of k l) t
  where
    go : (b : Bool) → eqb k a ≡ b → (T (among k l) → (n : ℕ) × (n < length l) × (get_or l n 0 ≡ k)) → T (cond b true (among k l)) → (n : ℕ) × (n < suc (length l)) × (get_or (a ∷ l) n 0 ≡ k)
    go true e r t = (zero, suc-le-suc zero-le, sym (eqb→eq k a (subst T (sym e) tt)))
    go false e r t = let w = r t in (suc w.0, suc-le-suc w.1, w.2)

-- an A point that stands before an entry of the table lies in the grid
grid : (p : Point) (k : ℕ) → k < 256 → Before p (a_point k) → (nat_abs p.x ≤ 36) × (nat_abs p.y ≤ 36)
grid p k h b =
    let n : norm p ≤ 1306 = norm-le b in
    (root (nat_abs p.x) (omega arith), root (nat_abs p.y) (omega arith))
  where
    far : norm (a_point k) ≤ 1306
    far = omega (arith, up-to-last k h, last-place)

    norm-le : Before p (a_point k) → norm p ≤ 1306
    norm-le (inl l) = omega (arith, far)
    norm-le (inr r) = omega (arith, far)

-- a point of the grid that stands before the last entry is in the table
found : (p : Point) → IsA p → nat_abs p.x ≤ 36 → nat_abs p.y ≤ 36 → high p < last_place → (n : ℕ) × (n < 256) × (get_or (keys coordinates) n 0 ≡ key p)
unfolding grid_point covered
found p a g h l =
    let e : grid_point (nat_abs p.x / 2) (nat_abs p.y / 2) ≡ p = λ i. record { x = coordinate-is p.x a.x-is i; y = coordinate-is p.y a.y-is i } in
    let t =
    at 19 (λ j. covered (keys coordinates) (nat_abs p.x / 2) j)
    (at 19 (λ i. upto 19 (λ j. covered (keys coordinates) i j)) test-covered (nat_abs p.x / 2) (omega arith)) (nat_abs p.y / 2) (omega arith) in
    go (among (key p) (keys coordinates)) refl (subst (λ (q : Point). T (cond (among (key q) (keys coordinates)) true (leb last_place (high q)))) e t)
  where
    go : (b : Bool) → among (key p) (keys coordinates) ≡ b → T (cond b true (leb last_place (high p))) → (n : ℕ) × (n < 256) × (get_or (keys coordinates) n 0 ≡ key p)
    go true e t = let w = place_of (key p) (keys coordinates) (subst T (sym e) tt) in (w.0, rw count-is at w.1, w.2)
    go false e t = absurd (omega (arith, leb→le last_place (high p) t))

full : (p : Point) → IsA p → (k : ℕ) → k < 256 → Before p (a_point k) → (i : ℕ) × (i < k) × (a_point i ≡ p)
full p a k h b =
    let g = grid p k h b in
    let s : Small p = record { x-small = omega (arith, g.0); y-small = omega (arith, g.1) } in
    let l = before-high p (a_point k) s (small k h) b in
    let w = found p a g.0 g.1 (omega (arith, up-to-last k h)) in
    let e : key (a_point w.0) ≡ key p = sym (key-at w.0 w.1) ∙ w.2 in
    let q : a_point w.0 ≡ p = same_key (a_point w.0) p (small w.0 w.1) s e in
    (w.0, earlier w.0 w.1 (ap high q) l (dec_lt w.0 k), q)
  where
    earlier : (n : ℕ) → n < 256 → high (a_point n) ≡ high p → high p < high (a_point k) → Dec (n < k) → n < k
    earlier n m e l (yes t) = t
    earlier n m e l (no f) = absurd (go (dec_lt k n))
      where
        go : Dec (k < n) → ⊥
        go (yes t) = omega (arith, rises k n t m)
        go (no t) = omega (arith, ap (λ (i : ℕ). high (a_point i)) (let z : n ≡ k = omega arith in z))

pub rule : Rule a_point 256
rule = record { each = each; order = order; full = full }
