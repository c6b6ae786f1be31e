-- A key for each point with small coordinates: keys are in the order of the A points, and a key fixes its point.
--   high p       the place of p in the order: x² + y², then falling y
--   key p        that place with x behind it, to tell the point by
--   before-high, high-before   `Before` is the order of `high`
--   same_key     points with the same key are equal
use mathlib.Core.Path.{◌≡◌, ap}
use mathlib.Core.Logic.{◌⊎◌, inl, inr, ⊎_elim}
use Prim.Native.Nat.{ℕ, ◌+◌, ◌-◌, ◌*◌, ◌/◌, ◌<◌, ◌≤◌}
use native.Mathlib.Omega.{arith}
use native.Mathlib.Decide.{dec_lt}
use lib.Dec.{lt→ltb, ltb→lt}
use lib.IntN.{ℤ, pos, negsuc, nat_abs}
use lib.Arith.{digits_div}
use lib.Signed.{◌<ℤ◌}
use Rattle.points.specs.declared.Point.{Point}
use Rattle.points.specs.Points.{norm, Before}
use Rattle.points.specs.Turn.{Small}

-- 64 + z and 64 - z
abbrev up : ℤ → ℕ
up (pos n) = 64 + n
up (negsuc n) = 63 - n

abbrev down : ℤ → ℕ
down (pos n) = 64 - n
down (negsuc n) = 65 + n

abbrev pub high : Point → ℕ
high p = norm p * 128 + down p.y

abbrev pub key : Point → ℕ
key p = high p * 128 + up p.x

up_lt : (z : ℤ) → nat_abs z ≤ 39 → up z < 128
up_lt (pos n) h = omega arith
up_lt (negsuc n) h = omega arith

down_lt : (z : ℤ) → nat_abs z ≤ 39 → down z < 128
down_lt (pos n) h = omega arith
down_lt (negsuc n) h = omega arith

up-inj : (a b : ℤ) → nat_abs a ≤ 39 → nat_abs b ≤ 39 → up a ≡ up b → a ≡ b
up-inj (pos m) (pos n) g h e = ap pos (omega arith)
up-inj (pos m) (negsuc n) g h e = absurd (omega arith)
up-inj (negsuc m) (pos n) g h e = absurd (omega arith)
up-inj (negsuc m) (negsuc n) g h e = ap negsuc (omega arith)

down_inj : (a b : ℤ) → nat_abs a ≤ 39 → nat_abs b ≤ 39 → down a ≡ down b → a ≡ b
down_inj (pos m) (pos n) g h e = ap pos (omega arith)
down_inj (pos m) (negsuc n) g h e = absurd (omega arith)
down_inj (negsuc m) (pos n) g h e = absurd (omega arith)
down_inj (negsuc m) (negsuc n) g h e = ap negsuc (omega arith)

down-order : (a b : ℤ) → nat_abs a ≤ 39 → nat_abs b ≤ 39 → down a < down b → b <ℤ a
down-order (pos m) (pos n) g h e = record { lt = lt→ltb n m (omega arith) }
down-order (pos m) (negsuc n) g h e = record { lt = tt }
down-order (negsuc m) (pos n) g h e = absurd (omega arith)
down-order (negsuc m) (negsuc n) g h e = record { lt = lt→ltb m n (omega arith) }

order-down : (a b : ℤ) → nat_abs a ≤ 39 → nat_abs b ≤ 39 → b <ℤ a → down a < down b
order-down (pos m) (pos n) g h e = let l = ltb→lt n m e.lt in omega arith
order-down (pos m) (negsuc n) g h e = omega arith
order-down (negsuc m) (pos n) g h e = absurd e.lt
order-down (negsuc m) (negsuc n) g h e = let l = ltb→lt m n e.lt in omega arith

-- a place is the key without its last digit
pub high-of-key : (p : Point) → Small p → key p / 128 ≡ high p
high-of-key p h = digits_div (high p) (up_lt p.x h.x-small)

pub before-high : (p q : Point) → Small p → Small q → Before p q → high p < high q
before-high p q g h (inl l) = let d = down_lt p.y g.y-small in omega arith
before-high p q g h (inr r) = let d = order-down p.y q.y g.y-small h.y-small r.1 in omega arith

digit : (n m d e : ℕ) → d < 128 → e < 128 → n * 128 + d < m * 128 + e → (n < m) ⊎ ((n ≡ m) × (d < e))
digit n m d e g h l = go (dec_lt n m)
  where
    go : Dec (n < m) → (n < m) ⊎ ((n ≡ m) × (d < e))
    go (yes t) = inl t
    go (no f) = inr (omega arith, omega arith)

pub high-before : (p q : Point) → Small p → Small q → high p < high q → Before p q
high-before p q g h l =
    ⊎_elim inl (λ r. inr (r.0, down-order p.y q.y g.y-small h.y-small r.1))
    (digit (norm p) (norm q) (down p.y) (down q.y) (down_lt p.y g.y-small) (down_lt q.y h.y-small) l)

pub same_key : (p q : Point) → Small p → Small q → key p ≡ key q → p ≡ q
same_key p q g h e =
    let a = up_lt p.x g.x-small in
    let b = up_lt q.x h.x-small in
    let d = down_lt p.y g.y-small in
    let f = down_lt q.y h.y-small in
    let t : high p ≡ high q = omega arith in
    let ex = up-inj p.x q.x g.x-small h.x-small (omega arith) in
    let ey = down_inj p.y q.y g.y-small h.y-small (omega arith) in
    λ i. record { x = ex i; y = ey i }
