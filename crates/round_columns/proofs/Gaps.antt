-- How far a number is from the places at 512·t, in natural numbers.
--   near_le, near-far   the nearest place is no farther than another one, and much nearer than one before it
--   outwards            a column further out and a row further down is nearer, where the first side is the longer one
--   gap_below           a bound on a gap's square
use mathlib.Core.Path.{◌≡◌, sym, subst}
use Prim.Native.Nat.{ℕ, ◌+◌, ◌-◌, ◌*◌, ◌≤◌, ◌<◌}
use native.Mathlib.Nat.{mul-le-mul, add-mul, mul-add, mul_assoc, mul_comm, mul_left_comm}
use native.Mathlib.Decide.{dec_lt}
use native.Mathlib.Omega.{arith}
use Rattle.round_columns.specs.Cells.{apart_of, gap_of, Placed}

-- (b + k)² is at least 1024 above b²
squares-apart : (b k : ℕ) → 2 ≤ k → 512 ≤ b + k + b → b * b + 1024 ≤ (b + k) * (b + k)
squares-apart b k g h =
    let p : 2 * 512 ≤ k * (b + k + b) = mul-le-mul g h in
    omega (arith, p, mul-add k (b + k) b, add-mul b k (b + k), mul-add b b k, mul_comm b k)

module _ (v n r : ℕ) (p : Placed v n r) (j : ℕ) where
  pub near_le : j ≤ n → gap_of v r ≤ gap_of v j
  near_le h = go (dec_lt r j) (dec_lt j r)
    where
      go : Dec (r < j) → Dec (j < r) → gap_of v r ≤ gap_of v j
      go (yes g) x = omega (arith, p.up (omega arith))
      go (no g) (yes x) = omega (arith, p.down)
      go (no g) (no x) = let e : r ≡ j = omega arith in subst (λ (m : ℕ). gap_of v r ≤ gap_of v m) e (omega arith)

  pub near-far : j < r → gap_of v r * gap_of v r + 1024 ≤ gap_of v j * gap_of v j
  near-far h =
      let a = gap_of v j in
      let b = gap_of v r in
      let k : 2 ≤ a - b = omega (arith, p.down) in
      let s : 512 ≤ b + (a - b) + b = omega (arith, p.down) in
      let e : b + (a - b) ≡ a = omega arith in
      subst (λ (m : ℕ). b * b + 1024 ≤ m * m) e (squares-apart b (a - b) k s)

-- the square of a difference, by both products
apart-square : (a b : ℕ) → apart_of a b * apart_of a b + 2 * (a * b) ≡ a * a + b * b
apart-square a b = go (dec_lt a b)
  where
    -- d more than n
    more : (n d : ℕ) → d * d + 2 * (n * (n + d)) ≡ n * n + (n + d) * (n + d)
    more n d = omega (arith, mul-add n n d, add-mul n d (n + d), mul-add d n d, mul_comm d n)

    go : Dec (a < b) → apart_of a b * apart_of a b + 2 * (a * b) ≡ a * a + b * b
    go (yes h) =
        let e : b ≡ a + (b - a) = omega arith in
        let f : apart_of a b ≡ b - a = omega arith in
        rw f (subst (λ (n : ℕ). (b - a) * (b - a) + 2 * (a * n) ≡ a * a + n * n) (sym e) (more a (b - a)))
    go (no h) =
        let e : a ≡ b + (a - b) = omega arith in
        let f : apart_of a b ≡ a - b = omega arith in
        let g = subst (λ (n : ℕ). (a - b) * (a - b) + 2 * (b * n) ≡ b * b + n * n) (sym e) (more b (a - b)) in
        rw f (omega (arith, g, mul_comm a b))

gap-square : (v t : ℕ) → gap_of v t * gap_of v t + 1024 * (v * t) ≡ v * v + 262144 * (t * t)
gap-square v t = omega (arith, apart-square v (512 * t), mul_left_comm v 512 t, mul_assoc 512 t (512 * t), mul_left_comm t 512 t)

pub outwards : (x y m j : ℕ) → y ≤ x → m < j →
    gap_of x (m + 1) * gap_of x (m + 1) + gap_of y j * gap_of y j + 1024 ≤ gap_of x m * gap_of x m + gap_of y (j + 1) * gap_of y (j + 1)
outwards x y m j g h =
    omega (
      arith,
      gap-square x m,
      gap-square x (m + 1),
      gap-square y j,
      gap-square y (j + 1),
      mul-add x m 1,
      mul-add y j 1,
      add-mul m 1 (m + 1),
      mul-add m m 1,
      add-mul j 1 (j + 1),
      mul-add j j 1,
    )

pub gap_below : (v t r : ℕ) → v ≤ 8320 → t < 10 → r ≡ gap_of v t → r * r ≤ 69222400
gap_below v t r g h e = let b : r ≤ 8320 = omega arith in mul-le-mul b b
