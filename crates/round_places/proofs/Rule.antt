-- The table's rule, by tests that the checker computes over all of it, and what they say of each entry.
--   shows      each number below 254 is that of the point that stands there
--   risen      numbers do not fall outwards, along columns and along rows, up to 253
--   moved      each point of a width, moved to a view's border if it stands on the other side, is there with no larger number, and within
--              the rim: on a column of the rim up to its last row, or further in and no higher than slope 1 allows
--   rimmed     each place of a rim's column up to its last row has the number of a point of the width that stands there, and these do not fall
--   inner      a rim is no flatter than its first column; each place below the diagonal before that column has a small number
--   tabled     columns and rows are found within the table
--   placed     the coordinates of the first 16 points
use mathlib.Core.Path.{◌≡◌, refl, sym, subst, ap, ◌∙◌}
use mathlib.Core.Bool.{Bool, true, false, ◌&&◌, cond}
use Prim.Native.Nat.{ℕ, zero, suc, ◌+◌, ◌-◌, ◌*◌, ◌/◌, ◌^◌, ◌≤◌, ◌<◌}
use native.Mathlib.Numerals.{add-one}
use native.Mathlib.Decide.{ℕ_discrete, dec_lt}
use native.Mathlib.Omega.{arith}
use borrow.Author.Tests.{lt-ltb, le-ltb, ltb-true, ltb-false}
use lib.IntN.{ℤ, pos, negsuc, nat_abs, ◌-ℤ◌}
use lib.Dec.{T, leb, ltb, eqb, eqb→eq, leb→le, ltb→lt}
use lib.ListN.{get_or}
use Rattle.wei.proofs.Finite.{and_left, and_right, upto, at}
use Rattle.points.specs.Points.{a_point, coordinates}
use Rattle.points.proofs.Rule.{small}
use Rattle.round_places.specs.Places.{listed, Wide, along, left_in, down_in, x_in, y_in, ahead_of, back_of, rise_of, fall_of, number_at}
use Rattle.round_places.specs.Places.{stand_of, stand_x, stand_y, rim_of, column_of, top_of, first_of}

-- where place m stands, onwards (0) and back from the middle
abbrev pub stand_at : ℕ → ℕ → ℕ
stand_at zero m = 96 + 4 * m
stand_at (suc l) m = 96 - 4 * m

-- the place of a coordinate, the middle's for one on the other side
abbrev pub inward : ℕ → ℕ → ℕ
inward zero c = (c - 96) / 4
inward (suc l) c = (96 - c) / 4

-- the column and the row of a point in view o
abbrev pub column_in : ℕ → ℕ → ℕ
column_in o w = along o (inward (left_in o) (stand_x w)) (inward (down_in o) (stand_y w))

abbrev pub row_in : ℕ → ℕ → ℕ
row_in o w = along o (inward (down_in o) (stand_y w)) (inward (left_in o) (stand_x w))

-- ---- the tests

-- point w stands in column m and row e of view o
stood : ℕ → ℕ → ℕ → ℕ → Bool
stood o m e w = eqb (stand_x w) (stand_at (left_in o) (x_in o m e)) && eqb (stand_y w) (stand_at (down_in o) (y_in o m e))

shows : ℕ → ℕ → ℕ → Bool
shows o m e = cond (ltb (number_at o m e) 254) (stood o m e (number_at o m e)) true

-- a is no more than b, if b is the number of a point for sure
rises : ℕ → ℕ → Bool
rises a b = cond (ltb b 254) (leb a b) true

risen : ℕ → ℕ → ℕ → Bool
risen o m e = rises (number_at o m e) (number_at o m (e + 1)) && rises (number_at o e m) (number_at o (e + 1) m)

within : ℕ → ℕ → ℕ → ℕ → Bool
within u o m e =
    cond (ltb m (first_of u o)) (leb e (top_of u o 0 + (first_of u o - m)))
    (ltb (m - first_of u o) 4 && (eqb (column_of u o (m - first_of u o)) m && leb e (top_of u o (m - first_of u o))))

moved : ℕ → ℕ → ℕ → ℕ → ℕ → Bool
moved u o w m e = leb (number_at o m e) w && (ltb m 10 && (ltb e 10 && within u o m e))

-- of a column m with the last row n
rimmed : ℕ → ℕ → ℕ → ℕ → ℕ → Bool
rimmed u o m n e =
    ltb (number_at o m e) (2 ^ u) && (stood o m e (number_at o m e) && cond (ltb e n) (leb (number_at o m e) (number_at o m (e + 1))) true)

inner : ℕ → ℕ → ℕ → ℕ → Bool
inner u o m e = ltb (number_at o m e + 2) (2 ^ u)

tabled : ℕ → ℕ → ℕ → Bool
tabled o m e = leb (ahead_of o * m + rise_of o * e) 180 && (leb (back_of o * m + fall_of o * e) 180 && leb (number_at o m e) 255)

placed : ℕ → Bool
placed w =
    (eqb (get_or listed (489 + w * 2) 0) (stand_x w) && eqb (get_or listed (490 + w * 2) 0) (stand_y w))
    && (ltb (get_or listed (489 + w * 2) 0) 128 && ltb (get_or listed (490 + w * 2) 0) 128)

-- the tests of one point, of one column and of one rim
abbrev moved_point : ℕ → ℕ → ℕ → Bool
moved_point u o w = moved u o w (column_in o w) (row_in o w)

abbrev rim_column : ℕ → ℕ → ℕ → Bool
rim_column u o i =
    ltb (column_of u o i) 10 && (ltb (top_of u o i) 10 && upto (top_of u o i + 1) (rimmed u o (column_of u o i) (top_of u o i)))

abbrev inner_rim : ℕ → ℕ → Bool
inner_rim u o = leb (first_of u o) (top_of u o 0) && upto (first_of u o) (λ m. upto (m + 1) (inner u o m))

test-shows : T (upto 8 (λ o. upto 10 (λ m. upto 10 (shows o m))))
unfolding shows stood listed number_at stand_x stand_y a_point coordinates
test-shows = tt

test-risen : T (upto 8 (λ o. upto 10 (λ m. upto 9 (risen o m))))
unfolding risen rises listed number_at
test-risen = tt

test-moved : T (upto 4 (λ v. upto 8 (λ o. upto (2 ^ (5 + v)) (moved_point (5 + v) o))))
unfolding moved within listed number_at rim_of stand_x stand_y a_point coordinates
test-moved = tt

test-rimmed : T (upto 4 (λ v. upto 8 (λ o. upto 4 (rim_column (5 + v) o))))
unfolding rimmed stood listed number_at rim_of stand_x stand_y a_point coordinates
test-rimmed = tt

test-inner : T (upto 4 (λ v. upto 8 (inner_rim (5 + v))))
unfolding inner listed number_at rim_of
test-inner = tt

test-tabled : T (upto 8 (λ o. upto 10 (λ m. upto 10 (tabled o m))))
unfolding tabled listed number_at
test-tabled = tt

test-placed : T (upto 16 placed)
unfolding placed listed stand_x stand_y a_point coordinates
test-placed = tt

-- ---- what they say

both : (a b : Bool) → T (a && b) → T a × T b
both a b t = (and_left a b t, and_right a b t)

-- a test that is asked only where another one holds
asked : (a b c : Bool) → a ≡ true → T (cond a b c) → T b
asked a b c e t = subst (λ (a : Bool). T (cond a b c)) e t

-- a test over the widths and the views, at one of each
at-view : (f : ℕ → ℕ → Bool) → T (upto 4 (λ v. upto 8 (f (5 + v)))) → (u o : ℕ) → Wide u → o < 8 → T (f u o)
at-view f t u o g h =
    let e : 5 + (u - 5) ≡ u = omega (arith, g.low) in
    subst (λ (n : ℕ). T (f n o)) e (at 8 (f (5 + (u - 5))) (at 4 (λ v. upto 8 (f (5 + v))) t (u - 5) (omega (arith, g.high))) o h)

-- what holds from each place to the next holds from each to every later one
chain : (R : ℕ → ℕ → Type 0) → ((a : ℕ) → R a a) → ((a b c : ℕ) → R a b → R b c → R a c) → (n : ℕ) → ((a : ℕ) → a < n → R a (a + 1)) →
    (a b : ℕ) → a ≤ b → b ≤ n → R a b
chain R self join n step a zero g h = let e : a ≡ 0 = omega arith in subst (λ (m : ℕ). R m 0) (sym e) (self 0)
chain R self join n step a (suc b) g h = go (chain R self join n step a b) (ℕ_discrete a (suc b))
  where
    next : R b (suc b)
    next = subst (λ (m : ℕ). R b m) (add-one b) (step b (omega arith))

    go : (a ≤ b → b ≤ n → R a b) → Dec (a ≡ suc b) → R a (suc b)
    go r (yes e) = subst (λ (m : ℕ). R m (suc b)) (sym e) (self (suc b))
    go r (no f) = join a b (suc b) (r (omega arith) (omega arith)) next

-- point w stands in column m and row e of view o
pub record Stood (o m e w : ℕ) : Type 0 where
  pub x-is : stand_x w ≡ stand_at (left_in o) (x_in o m e)
  pub y-is : stand_y w ≡ stand_at (down_in o) (y_in o m e)

stood-is : (o m e w : ℕ) → T (stood o m e w) → Stood o m e w
unfolding stood
stood-is o m e w t =
    let x = stand_at (left_in o) (x_in o m e) in
    let y = stand_at (down_in o) (y_in o m e) in
    let r = both (eqb (stand_x w) x) (eqb (stand_y w) y) t in
    record { x-is = eqb→eq (stand_x w) x r.0; y-is = eqb→eq (stand_y w) y r.1 }

module _ (o m e : ℕ) (g : o < 8) (h : m < 10) (i : e < 10) where
  pub in_table : (ahead_of o * m + rise_of o * e ≤ 180) × ((back_of o * m + fall_of o * e ≤ 180) × (number_at o m e ≤ 255))
  unfolding tabled
  in_table =
      let a = ahead_of o * m + rise_of o * e in
      let b = back_of o * m + fall_of o * e in
      let n = number_at o m e in
      let t = at 10 (tabled o m) (at 10 (λ m. upto 10 (tabled o m)) (at 8 (λ o. upto 10 (λ m. upto 10 (tabled o m))) test-tabled o g) m h) e i in
      let r = both (leb a 180) (leb b 180 && leb n 255) t in
      let s = both (leb b 180) (leb n 255) r.1 in
      (leb→le a 180 r.0, (leb→le b 180 s.0, leb→le n 255 s.1))

  -- a number that is one of a point for sure shows that point
  pub shown-stands : number_at o m e < 254 → Stood o m e (number_at o m e)
  unfolding shows
  shown-stands l =
      let w = number_at o m e in
      let t = at 10 (shows o m) (at 10 (λ m. upto 10 (shows o m)) (at 8 (λ o. upto 10 (λ m. upto 10 (shows o m))) test-shows o g) m h) e i in
      stood-is o m e w (asked (ltb w 254) (stood o m e w) true (lt-ltb w 254 l) t)

-- the smaller number stands further in
abbrev Rises : ℕ → ℕ → Type 0
Rises a b = b < 254 → a ≤ b

-- from each place to every later one
risen-on : (f : ℕ → ℕ) → ((a : ℕ) → a < 9 → Rises (f a) (f (a + 1))) → (a b : ℕ) → a ≤ b → b ≤ 9 → Rises (f a) (f b)
risen-on f = chain (λ a b. Rises (f a) (f b)) (λ a l. omega arith) (λ a b c x y l. omega (arith, x (omega (arith, y l)), y l)) 9

rises-is : (a b : ℕ) → T (rises a b) → Rises a b
unfolding rises
rises-is a b t l = leb→le a b (asked (ltb b 254) (leb a b) true (lt-ltb b 254 l) t)

module _ (o m : ℕ) (g : o < 8) (h : m < 10) where
  rise : (e : ℕ) → e < 9 → Rises (number_at o m e) (number_at o m (e + 1)) × Rises (number_at o e m) (number_at o (e + 1) m)
  unfolding risen
  rise e l =
      let a = rises (number_at o m e) (number_at o m (e + 1)) in
      let b = rises (number_at o e m) (number_at o (e + 1) m) in
      let r = both a b (at 9 (risen o m) (at 10 (λ m. upto 9 (risen o m)) (at 8 (λ o. upto 10 (λ m. upto 9 (risen o m))) test-risen o g) m h) e l) in
      (rises-is (number_at o m e) (number_at o m (e + 1)) r.0, rises-is (number_at o e m) (number_at o (e + 1) m) r.1)

  pub rows-rise : (e j : ℕ) → e ≤ j → j < 10 → number_at o m j < 254 → number_at o m e ≤ number_at o m j
  rows-rise e j l i = risen-on (number_at o m) (λ a x. (rise a x).0) e j l (omega arith)

  pub columns-rise : (e j : ℕ) → e ≤ j → j < 10 → number_at o j m < 254 → number_at o e m ≤ number_at o j m
  columns-rise e j l i = risen-on (λ a. number_at o a m) (λ a x. (rise a x).1) e j l (omega arith)

-- within the rim of width u in view o: further in than its first column, or on the i-th column
pub data Within (u o m e : ℕ) : Type 0 where
  before : m < first_of u o → e ≤ top_of u o 0 + (first_of u o - m) → Within u o m e
  on : (i : ℕ) → i < 4 → column_of u o i ≡ m → e ≤ top_of u o i → Within u o m e

module _ (u o m e : ℕ) where
  -- the rim's column that m should be
  abbrev i : ℕ
  i = m - first_of u o

  abbrev inside : Bool
  inside = leb e (top_of u o 0 + (first_of u o - m))

  abbrev above : Bool
  above = eqb (column_of u o i) m && leb e (top_of u o i)

  within-is : T (within u o m e) → Within u o m e
  unfolding within
  within-is t = go (dec_lt m (first_of u o))
    where
      go : Dec (m < first_of u o) → Within u o m e
      go (yes l) =
          let r = asked (ltb m (first_of u o)) inside (ltb i 4 && above) (lt-ltb m (first_of u o) l) t in
          before l (leb→le e (top_of u o 0 + (first_of u o - m)) r)
      go (no l) =
          let f = le-ltb m (first_of u o) (omega arith) in
          let r = both (ltb i 4) above (subst (λ (b : Bool). T (cond b inside (ltb i 4 && above))) f t) in
          let s = both (eqb (column_of u o i) m) (leb e (top_of u o i)) r.1 in
          on i (ltb→lt i 4 r.0) (eqb→eq (column_of u o i) m s.0) (leb→le e (top_of u o i) s.1)

module _ (u o : ℕ) (g : Wide u) (h : o < 8) where
  -- where a point of the width is, moved inwards
  pub record Moved (w : ℕ) : Type 0 where
    pub less : number_at o (column_in o w) (row_in o w) ≤ w
    pub column-in : column_in o w < 10
    pub row-in : row_in o w < 10
    pub is_within : Within u o (column_in o w) (row_in o w)

  pub moved-within : (w : ℕ) → w < 2 ^ u → Moved w
  unfolding moved
  moved-within w l =
      let m = column_in o w in
      let e = row_in o w in
      let t = at (2 ^ u) (moved_point u o) (at-view (λ u o. upto (2 ^ u) (moved_point u o)) test-moved u o g h) w l in
      let r = both (leb (number_at o m e) w) (ltb m 10 && (ltb e 10 && within u o m e)) t in
      let s = both (ltb m 10) (ltb e 10 && within u o m e) r.1 in
      let q = both (ltb e 10) (within u o m e) s.1 in
      record {
        less = leb→le (number_at o m e) w r.0;
        column-in = ltb→lt m 10 s.0;
        row-in = ltb→lt e 10 q.0;
        is_within = within-is u o m e q.1;
      }

  -- the columns of the rim
  module _ (i : ℕ) (l : i < 4) where
    abbrev m : ℕ
    m = column_of u o i

    abbrev n : ℕ
    n = top_of u o i

    column : (T (ltb m 10)) × ((T (ltb n 10)) × T (upto (n + 1) (rimmed u o m n)))
    column =
        let t = at 4 (rim_column u o) (at-view (λ u o. upto 4 (rim_column u o)) test-rimmed u o g h) i l in
        let r = both (ltb m 10) (ltb n 10 && upto (n + 1) (rimmed u o m n)) t in
        (r.0, both (ltb n 10) (upto (n + 1) (rimmed u o m n)) r.1)

    pub rim-in : (m < 10) × (n < 10)
    rim-in = (ltb→lt m 10 column.0, ltb→lt n 10 column.1.0)

    -- the next row has no smaller number
    abbrev steady : ℕ → Bool
    steady e = cond (ltb e n) (leb (number_at o m e) (number_at o m (e + 1))) true

    row : (e : ℕ) → e ≤ n → T (ltb (number_at o m e) (2 ^ u)) × (T (stood o m e (number_at o m e)) × T (steady e))
    unfolding rimmed
    row e k =
        let w = number_at o m e in
        let c = steady e in
        let r = both (ltb w (2 ^ u)) (stood o m e w && c) (at (n + 1) (rimmed u o m n) column.1.1 e (omega arith)) in
        (r.0, both (stood o m e w) c r.1)

    pub rim-right : (e : ℕ) → e ≤ n → (number_at o m e < 2 ^ u) × Stood o m e (number_at o m e)
    rim-right e k = (ltb→lt (number_at o m e) (2 ^ u) (row e k).0, stood-is o m e (number_at o m e) (row e k).1.0)

    pub rim-rises : (e j : ℕ) → e ≤ j → j ≤ n → number_at o m e ≤ number_at o m j
    rim-rises = chain (λ a b. number_at o m a ≤ number_at o m b) (λ a. omega arith) (λ a b c x y. omega arith) n step
      where
        step : (a : ℕ) → a < n → number_at o m a ≤ number_at o m (a + 1)
        step a k =
            let w = number_at o m a in
            let v = number_at o m (a + 1) in
            leb→le w v (asked (ltb a n) (leb w v) true (lt-ltb a n k) (row a (omega arith)).1.1)

  -- what is further in
  rim : (T (leb (first_of u o) (top_of u o 0))) × T (upto (first_of u o) (λ m. upto (m + 1) (inner u o m)))
  rim = both (leb (first_of u o) (top_of u o 0)) (upto (first_of u o) (λ m. upto (m + 1) (inner u o m))) (at-view inner_rim test-inner u o g h)

  pub steep : first_of u o ≤ top_of u o 0
  steep = leb→le (first_of u o) (top_of u o 0) rim.0

  pub inner-small : (m e : ℕ) → m < first_of u o → e ≤ m → number_at o m e + 2 < 2 ^ u
  unfolding inner
  inner-small m e l k =
      ltb→lt (number_at o m e + 2) (2 ^ u) (at (m + 1) (inner u o m) (at (first_of u o) (λ m. upto (m + 1) (inner u o m)) rim.1 m l) e (omega arith))

-- ---- the first 16 points

pub less-95 : (n : ℕ) → n < 128 → nat_abs (pos n -ℤ pos 95) < 128
less-95 n h = go (ltb n 95) refl
  where
    go : (t : Bool) → ltb n 95 ≡ t → nat_abs (cond t (negsuc (95 - suc n)) (pos (n - 95))) < 128
    go true e = omega (arith, ltb-true n 95 e)
    go false e = omega arith

-- counted and uncounted again
back-again : (c : ℤ) → nat_abs c ≤ 39 → pos (stand_of c) -ℤ pos 95 ≡ c
back-again (pos n) h = go (ltb (95 + n) 95) refl
  where
    go : (t : Bool) → ltb (95 + n) 95 ≡ t → cond t (negsuc (95 - suc (95 + n))) (pos (95 + n - 95)) ≡ pos n
    go true e = absurd (omega (arith, ltb-true (95 + n) 95 e))
    go false e = ap pos (omega arith)
back-again (negsuc n) h = go (ltb (94 - n) 95) refl
  where
    go : (t : Bool) → ltb (94 - n) 95 ≡ t → cond t (negsuc (95 - suc (94 - n))) (pos (94 - n - 95)) ≡ negsuc n
    go true e = ap negsuc (omega arith)
    go false e = absurd (omega (arith, ltb-false (94 - n) 95 e))

module _ (w : ℕ) (h : w < 16) where
  abbrev a : ℕ
  a = get_or listed (489 + w * 2) 0

  abbrev b : ℕ
  b = get_or listed (490 + w * 2) 0

  place_is : (T (eqb a (stand_x w)) × T (eqb b (stand_y w))) × (T (ltb a 128) × T (ltb b 128))
  unfolding placed
  place_is =
      let r = both (eqb a (stand_x w) && eqb b (stand_y w)) (ltb a 128 && ltb b 128) (at 16 placed test-placed w h) in
      (both (eqb a (stand_x w)) (eqb b (stand_y w)) r.0, both (ltb a 128) (ltb b 128) r.1)

  -- what stands there, and that it is small
  pub near-x : (pos (get_or listed (489 + w * 2) 0) -ℤ pos 95 ≡ (a_point w).x) × (get_or listed (489 + w * 2) 0 < 128)
  unfolding stand_x
  near-x =
      let e = ap (λ (n : ℕ). pos n -ℤ pos 95) (eqb→eq a (stand_x w) place_is.0.0) in
      (e ∙ back-again (a_point w).x (small w (omega arith)).x-small, ltb→lt a 128 place_is.1.0)

  pub near-y : (pos (get_or listed (490 + w * 2) 0) -ℤ pos 95 ≡ (a_point w).y) × (get_or listed (490 + w * 2) 0 < 128)
  unfolding stand_y
  near-y =
      let e = ap (λ (n : ℕ). pos n -ℤ pos 95) (eqb→eq b (stand_y w) place_is.0.1) in
      (e ∙ back-again (a_point w).y (small w (omega arith)).y-small, ltb→lt b 128 place_is.1.1)
