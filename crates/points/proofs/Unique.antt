-- The rule of the A points has one answer: two tables that meet it agree at each entry. And no two entries of a table are equal.
--   unique     the rule's one answer
--   distinct   entries at different places differ
use mathlib.Core.Path.{◌≡◌, sym, subst, ap, ◌∙◌}
use mathlib.Core.Logic.{◌⊎◌, inl, inr, ⊎_elim}
use Prim.Native.Nat.{ℕ, zero, suc, ◌*◌, ◌/◌, ◌<◌, ◌≤◌}
use native.Mathlib.Nat.{not-suc-le-zero, mul-le-mul_left, mul-lt-mul_of_pos_right}
use native.Mathlib.Decide.{dec_lt}
use native.Mathlib.Omega.{arith}
use lib.Dec.{lt→ltb}
use lib.IntN.{ℤ, pos, negsuc, nat_abs}
use lib.Signed.{◌<ℤ◌, <ℤ_irrefl}
use Rattle.points.specs.declared.Point.{Point}
use Rattle.points.specs.Points.{mod4, IsA, norm, Before, Rule}
use Rattle.points.proofs.Rule.{coordinate, coordinate-is}

-- ---- the order is total on A points

square-lt : (n m : ℕ) → n < m → n * n < m * m
square-lt n m h =
    let a : n * n ≤ n * m = mul-le-mul_left n (omega arith) in
    let b : n * m < m * m = mul-lt-mul_of_pos_right h (omega arith) in
    omega arith

square-inj : (n m : ℕ) → n * n ≡ m * m → n ≡ m
square-inj n m e = go (dec_lt n m) (dec_lt m n)
  where
    go : Dec (n < m) → Dec (m < n) → n ≡ m
    go (yes h) d = absurd (omega (arith, square-lt n m h))
    go (no f) (yes h) = absurd (omega (arith, square-lt m n h))
    go (no f) (no g) = omega arith

same-coordinate : (x y : ℤ) → mod4 x ≡ 1 → mod4 y ≡ 1 → nat_abs x ≡ nat_abs y → x ≡ y
same-coordinate x y a b e = sym (coordinate-is x a) ∙ ap (λ (n : ℕ). coordinate (n / 2)) e ∙ coordinate-is y b

same_place : (p q : Point) → IsA p → IsA q → norm p ≡ norm q → p.y ≡ q.y → p ≡ q
same_place p q a b e f =
    let g : nat_abs p.y * nat_abs p.y ≡ nat_abs q.y * nat_abs q.y = ap (λ (z : ℤ). nat_abs z * nat_abs z) f in
    let h : nat_abs p.x * nat_abs p.x ≡ nat_abs q.x * nat_abs q.x = omega arith in
    let x = same-coordinate p.x q.x a.x-is b.x-is (square-inj (nat_abs p.x) (nat_abs q.x) h) in
    λ i. record { x = x i; y = f i }

-- less, greater or equal
three : (m n : ℕ) → (m < n) ⊎ ((n < m) ⊎ (m ≡ n))
three m n = go (dec_lt m n) (dec_lt n m)
  where
    go : Dec (m < n) → Dec (n < m) → (m < n) ⊎ ((n < m) ⊎ (m ≡ n))
    go (yes h) d = inl h
    go (no f) (yes h) = inr (inl h)
    go (no f) (no g) = inr (inr (omega arith))

threeℤ : (a b : ℤ) → (a <ℤ b) ⊎ ((b <ℤ a) ⊎ (a ≡ b))
threeℤ (pos m) (pos n) = ⊎_elim (λ h. inl (record { lt = lt→ltb m n h })) (λ r. inr (⊎_elim (λ h. inl (record { lt = lt→ltb n m h })) (λ e. inr (ap pos e)) r)) (three m n)
threeℤ (pos m) (negsuc n) = inr (inl (record { lt = tt }))
threeℤ (negsuc m) (pos n) = inl (record { lt = tt })
threeℤ (negsuc m) (negsuc n) = ⊎_elim (λ h. inr (inl (record { lt = lt→ltb m n h }))) (λ r. ⊎_elim (λ h. inl (record { lt = lt→ltb n m h })) (λ e. inr (inr (ap negsuc e))) r) (three m n)

compare : (p q : Point) → IsA p → IsA q → Before p q ⊎ (Before q p ⊎ (p ≡ q))
compare p q a b =
    ⊎_elim (λ h. inl (inl h))
    (λ r. ⊎_elim (λ h. inr (inl (inl h)))
    (λ e. ⊎_elim (λ h. inr (inl (inr (sym e, h)))) (λ t. ⊎_elim (λ h. inl (inr (e, h))) (λ f. inr (inr (same_place p q a b e f))) t) (threeℤ p.y q.y))
    r)
    (three (norm p) (norm q))

irreflexive : (p : Point) → Before p p → ⊥
irreflexive p (inl h) = omega arith
irreflexive p (inr h) = <ℤ_irrefl h.1

-- ---- two tables

module _ (n : ℕ) where
  -- f k cannot stand before g k, where the two agree below k
  not-before : (f g : ℕ → Point) → Rule f n → Rule g n → (k : ℕ) → k < n → ((i : ℕ) → i < k → f i ≡ g i) → Before (f k) (g k) → ⊥
  not-before f g r s k h agree b =
      let w = s.full (f k) (r.each k h) k h b in
      let e : f w.0 ≡ f k = agree w.0 w.1 ∙ w.2 in
      irreflexive (f k) (subst (λ (p : Point). Before p (f k)) e (r.order w.0 k w.1 h))

  next-agrees : (f g : ℕ → Point) → Rule f n → Rule g n → (k : ℕ) → k < n → ((i : ℕ) → i < k → f i ≡ g i) → f k ≡ g k
  next-agrees f g r s k h agree =
      ⊎_elim (λ b. absurd (not-before f g r s k h agree b))
      (λ t. ⊎_elim (λ b. absurd (not-before g f s r k h (λ i l. sym (agree i l)) b)) (λ e. e) t)
      (compare (f k) (g k) (r.each k h) (s.each k h))

  agree-below : (f g : ℕ → Point) → Rule f n → Rule g n → (m : ℕ) → m ≤ n → (i : ℕ) → i < m → f i ≡ g i
  agree-below f g r s zero h i l = absurd (not-suc-le-zero l)
  agree-below f g r s (suc m) h i l = go (agree-below f g r s m (omega arith)) (dec_lt i m)
    where
      go : ((i : ℕ) → i < m → f i ≡ g i) → Dec (i < m) → f i ≡ g i
      go a (yes b) = a i b
      go a (no b) = let e : m ≡ i = omega arith in subst (λ (j : ℕ). f j ≡ g j) e (next-agrees f g r s m h a)

  pub unique : (f g : ℕ → Point) → Rule f n → Rule g n → (k : ℕ) → k < n → f k ≡ g k
  unique f g r s k h = agree-below f g r s n (omega arith) k h

  pub distinct : (f : ℕ → Point) → Rule f n → (i j : ℕ) → i < n → j < n → f i ≡ f j → i ≡ j
  distinct f r i j h k e = go (dec_lt i j) (dec_lt j i)
    where
      go : Dec (i < j) → Dec (j < i) → i ≡ j
      go (yes l) d = absurd (irreflexive (f j) (subst (λ (p : Point). Before p (f j)) e (r.order i j l k)))
      go (no a) (yes l) = absurd (irreflexive (f i) (subst (λ (p : Point). Before p (f i)) (sym e) (r.order j i l h)))
      go (no a) (no b) = omega arith
