-- The nearest place of a received point, where it is near: what stands there, and what follows if it shows a point of the width or none.
--   near-counted, near-mirror   a near count is a count, and so is that of the other side
--   place-range, place-near     its nearest place is in the table, and no more than 256 off
--   read_is, read-most          the number that is read there
--   shown-least   its key is the least of the width, if its number shows a point of the width
--   hidden-out    if it does not, the longer side reaches the rim
use mathlib.Core.Path.{◌≡◌, refl, sym, subst, ap, ap₂, ◌∙◌}
use mathlib.Core.Bool.{Bool, true, false, cond}
use Prim.Native.Nat.{ℕ, ◌+◌, ◌-◌, ◌*◌, ◌/◌, ◌^◌, ◌≤◌, ◌<◌}
use native.Mathlib.Nat.{mul-le-mul}
use native.Mathlib.Decide.{dec_lt}
use native.Mathlib.Omega.{arith}
use borrow.Author.Tests.{ltb-true, ltb-false}
use lib.Dec.{ltb}
use lib.ListN.{get_or}
use lib.Pow.{pow_mono}
use Rattle.round_places.specs.Places.{listed, Wide, index_of, number_at, first_of}
use Rattle.round_places.proofs.Rule.{column_in, row_in, in_table, shown-stands, rows-rise, columns-rise, moved-within, inner-small}
use Rattle.round_columns.specs.declared.View.{View}
use Rattle.round_columns.specs.Cells.{Counted, apart_of, gap_of, key_of, LeastKey, side_of, plain_view, plain, turned, off_of, Placed, Outside, Near}
use Rattle.round_columns.specs.Cells.{place_of, steps_of, near_number}
use Rattle.round_columns.proofs.Gaps.{near_le, near-far}
use Rattle.round_columns.proofs.Views.{side-in, beside, index-plain, index-turned, plain-right, plain_moved, listed_below}

-- the nearest place of a count, as seen from the middle: onwards, and back
module _ (v f : ℕ) where
  right-aim : v ≡ 12288 + f → (v + 255) / 512 ≡ 24 + (f + 255) / 512
  right-aim e = omega arith

  left-aim : v + f ≡ 12288 → f < 4865 → (v + 256) / 512 + (f + 255) / 512 ≡ 24
  left-aim e h = omega arith

  right-gap : (c : ℕ) → v ≡ 12288 + f → apart_of v (512 * (24 + c)) ≡ gap_of f c
  right-gap c e = omega arith

  left-gap : (p c : ℕ) → v + f ≡ 12288 → p + c ≡ 24 → apart_of v (512 * p) ≡ gap_of f c
  left-gap p c e h = omega arith

  near-gap : gap_of f ((f + 255) / 512) ≤ 256
  near-gap = omega arith

record Aimed (v place back far : ℕ) : Type 0 where
  in-ten : (far + 255) / 512 < 10
  place_is : place ≡ beside back ((far + 255) / 512)
  place_in : (15 ≤ place) × (place ≤ 33)
  gap_is : apart_of v (512 * place) ≡ gap_of far ((far + 255) / 512)

aimed : (v : ℕ) → Near v → Aimed v (place_of v) (side_of v).back (side_of v).far
aimed v n = go (ltb v 12288) refl
  where
    go : (t : Bool) → ltb v 12288 ≡ t → Aimed v (cond t ((v + 256) / 512) ((v + 255) / 512)) (cond t 1 0) (apart_of v 12288)
    go true e =
        let f = apart_of v 12288 in
        let c = (f + 255) / 512 in
        let x : v + f ≡ 12288 = omega (arith, ltb-true v 12288 e) in
        let h : f < 4865 = omega (arith, n.off, ltb-true v 12288 e) in
        let p = left-aim v f x h in
        let i : c < 10 = omega (arith, h) in
        record {
          in-ten = i;
          place_is = omega (arith, p);
          place_in = (omega (arith, p, i), omega (arith, p, i));
          gap_is = left-gap v f ((v + 256) / 512) c x p;
        }
    go false e =
        let f = apart_of v 12288 in
        let c = (f + 255) / 512 in
        let x : v ≡ 12288 + f = omega (arith, ltb-false v 12288 e) in
        let h : f < 4609 = omega (arith, n.off, ltb-false v 12288 e) in
        let p = right-aim v f x in
        let i : c < 10 = omega (arith, h) in
        record {
          in-ten = i;
          place_is = p;
          place_in = (omega (arith, p, i), omega (arith, p, i));
          gap_is = ap (λ (m : ℕ). apart_of v (512 * m)) p ∙ right-gap v f c x;
        }

module _ (v : ℕ) (n : Near v) where
  pub near-counted : Counted v
  near-counted = record { low = omega (arith, n.off); high = omega (arith, n.off) }

  pub near-mirror : Near (24320 - v)
  near-mirror = record { off = omega (arith, n.off) }

  pub place-range : (15 ≤ place_of v) × (place_of v ≤ 33)
  place-range = (aimed v n).place_in

  pub place-near : apart_of v (512 * place_of v) ≤ 256
  place-near = omega (arith, (aimed v n).gap_is, near-gap v (side_of v).far)

-- it is nearer than any other one
nearest : (f n : ℕ) → Placed f ((f + 255) / 512 + n) ((f + 255) / 512)
nearest f n = record { below = omega arith; down = omega arith; up = λ h. omega arith }

module _ (u x y : ℕ) (g : Wide u) (nx : Near x) (ny : Near y) where
  abbrev s : View
  s = plain_view u (side_of x) (side_of y)

  abbrev o : ℕ
  o = s.o

  abbrev c : ℕ
  c = steps_of x

  abbrev e : ℕ
  e = steps_of y

  hx : Counted x
  hx = near-counted x nx

  hy : Counted y
  hy = near-counted y ny

  o-in : o < 8
  o-in = omega (arith, (side-in x hx).back_in, (side-in y hy).back_in)

  c-in : c < 10
  c-in = (aimed x nx).in-ten

  e-in : e < 10
  e-in = (aimed y ny).in-ten

  abbrev w : ℕ
  w = near_number x y

  index_is : place_of x * 19 + place_of y - 300 ≡ index_of o c e
  index_is =
      ap₂ (λ (a b : ℕ). a * 19 + b - 300) (aimed x nx).place_is (aimed y ny).place_is
      ∙ sym (index-plain (side_of x).back (side_of y).back c e (side-in x hx).back_in (side-in y hy).back_in c-in e-in)

  -- what is read there
  pub read_is : (n : ℕ) → n ≡ get_or listed (place_of x * 19 + place_of y - 300) 0 → n ≡ near_number x y
  unfolding number_at
  read_is n z = z ∙ ap (λ (k : ℕ). get_or listed k 0) index_is

  pub read-most : near_number x y ≤ 255
  read-most = (in_table o c e o-in c-in e-in).1.1

  -- its number shows a point of the width
  module _ (shown : w + 2 < 2 ^ u) where
    low-number : w < 254
    low-number = let b : 2 ^ u ≤ 256 = pow_mono g.high in omega arith

    key-is : key_of x y w ≡ off_of s c e + w
    key-is = plain-right u x y hx hy c e w c-in e-in (shown-stands o c e o-in c-in e-in low-number)

    -- a number further out is no smaller
    further : (m j n : ℕ) → c ≤ m → e ≤ j → m < 10 → j < 10 → number_at o m j ≤ n → w ≤ n
    further m j n p q h i l = go (dec_lt n 254)
      where
        go : Dec (n < 254) → w ≤ n
        go (no k) = omega (arith, low-number)
        go (yes k) =
            let a = columns-rise o j o-in i c m p h (omega arith) in
            let b = rows-rise o c o-in c-in e j q i (omega (arith, a)) in
            omega (arith, a, b)

    beats : (m j n : ℕ) → m < 10 → j < 10 → number_at o m j ≤ n → off_of s c e + w ≤ off_of s m j + n
    unfolding off_of
    beats m j n h i l = go (dec_lt m c) (dec_lt j e)
      where
        px : Placed s.far (c + m) c
        px = nearest s.far m

        py : Placed s.short (e + j) e
        py = nearest s.short j

        fx : gap_of s.far c ≤ gap_of s.far m
        fx = near_le s.far (c + m) c px m (omega arith)

        fy : gap_of s.short e ≤ gap_of s.short j
        fy = near_le s.short (e + j) e py j (omega arith)

        go : Dec (m < c) → Dec (j < e) → off_of s c e + w ≤ off_of s m j + n
        go (yes p) q = omega (arith, near-far s.far (c + m) c px m p, mul-le-mul fy fy, low-number)
        go (no p) (yes q) = omega (arith, near-far s.short (e + j) e py j q, mul-le-mul fx fx, low-number)
        go (no p) (no q) = omega (arith, mul-le-mul fx fx, mul-le-mul fy fy, further m j n (omega arith) (omega arith) h i l)

    -- a and b are the gaps of the place
    pub shown-least : (a b r : ℕ) → a ≡ apart_of x (512 * place_of x) → b ≡ apart_of y (512 * place_of y) → r ≡ a * a + b * b + w → LeastKey u x y r
    unfolding off_of
    shown-least a b r p q z = record { w = w; low = omega arith; is = is ∙ sym key-is; least = λ n h. other n h }
      where
        is : r ≡ off_of s c e + w
        is = z ∙ ap₂ (λ (a b : ℕ). a * a + b * b + w) (p ∙ (aimed x nx).gap_is) (q ∙ (aimed y ny).gap_is)

        other : (n : ℕ) → n < 2 ^ u → r ≤ key_of x y n
        other n h =
            let t = moved-within u o g o-in n h in
            let k = beats (column_in o n) (row_in o n) n t.column-in t.row-in t.less in
            omega (arith, is, k, plain_moved u x y hx hy n (listed_below u n g h))

  -- it does not
  module _ (hidden : 2 ^ u ≤ w + 2) where
    -- the same number in the view along y
    same : number_at (o + 1) e c ≡ w
    unfolding number_at
    same =
        ap (λ (k : ℕ). get_or listed k 0)
        (index-turned (side_of x).back (side_of y).back c e (side-in x hx).back_in (side-in y hy).back_in c-in e-in
        ∙ sym (index-plain (side_of x).back (side_of y).back c e (side-in x hx).back_in (side-in y hy).back_in c-in e-in))

    pub hidden-out : Outside u x y
    hidden-out s (plain l z) = subst (λ (s : View). 512 * first_of s.u s.o ≤ s.far + 255) (sym z) (go (dec_lt c (first_of u o)))
      where
        go : Dec (c < first_of u o) → 512 * first_of u o ≤ (side_of x).far + 255
        go (yes h) = absurd (omega (arith, inner-small u o g o-in c e h (omega arith)))
        go (no h) = omega arith
    hidden-out s (turned l z) = subst (λ (s : View). 512 * first_of s.u s.o ≤ s.far + 255) (sym z) (go (dec_lt e (first_of u (o + 1))))
      where
        go : Dec (e < first_of u (o + 1)) → 512 * first_of u (o + 1) ≤ (side_of y).far + 255
        go (yes h) = absurd (omega (arith, same, inner-small u (o + 1) g (omega (arith, (side-in x hx).back_in, (side-in y hy).back_in)) e c h (omega arith)))
        go (no h) = omega arith
