-- What a view is of two counts: which steps it takes through the table, and how far its places are.
--   side-in          a side is in range
--   seen-viewed      so is a view
--   index-plain, index-turned   where a place of a view stands in the table, by the places along x and y
--   plain-right, plain_moved, turned_right, turned-moved   the key of a point that stands at a place, and of one that is moved there
--   right_is, moved-le   the same of either view
--   listed_below     a number of a width is in the table of points
use mathlib.Core.Path.{◌≡◌, refl, sym, subst, ap, ap₂, ◌∙◌}
use mathlib.Core.Bool.{Bool, true, false, cond}
use Prim.Native.Nat.{ℕ, zero, suc, ◌+◌, ◌-◌, ◌*◌, ◌/◌, ◌%◌, ◌^◌, ◌≤◌, ◌<◌}
use native.Mathlib.Nat.{mul-le-mul}
use native.Mathlib.Decide.{dec_lt}
use native.Mathlib.Omega.{arith}
use borrow.Author.Tests.{ltb-true, ltb-false}
use lib.Dec.{eqb, ltb}
use lib.Pow.{pow_mono}
use Rattle.points.specs.Points.{a_point}
use Rattle.points.proofs.Rule.{small, rule}
use Rattle.round_places.specs.Places.{Wide, left_in, down_in, along, ahead_of, back_of, rise_of, fall_of, index_of, stand_x, stand_y}
use Rattle.round_places.proofs.Rule.{stand_at, inward, column_in, row_in, Stood}
use Rattle.round_columns.specs.declared.Side.{Side}
use Rattle.round_columns.specs.declared.View.{View}
use Rattle.round_columns.specs.Cells.{Counted, apart_of, gap_of, key_of, side_of, Sided, plain_view, turned_view, Seen, plain, turned, Viewed, off_of}
use Rattle.round_columns.proofs.Counts.{stand-fours}

-- ---- one coordinate: a count v is x away from the middle, a point coordinate stands at c

right-is-gap : (v x c m : ℕ) → v ≡ 12288 + x → c ≡ 96 + 4 * m → apart_of v (128 * c) ≡ gap_of x m
right-is-gap v x c m e f = omega arith

left-is-gap : (v x c m : ℕ) → v + x ≡ 12288 → c + 4 * m ≡ 96 → apart_of v (128 * c) ≡ gap_of x m
left-is-gap v x c m e f = omega arith

-- a coordinate on the other side
right-over : (v x c : ℕ) → v ≡ 12288 + x → c ≤ 96 → gap_of x 0 ≤ apart_of v (128 * c)
right-over v x c e f = omega arith

left_over : (v x c : ℕ) → v + x ≡ 12288 → 96 ≤ c → gap_of x 0 ≤ apart_of v (128 * c)
left_over v x c e f = omega arith

-- how far the point is at least, by the place to which it is moved inwards
pub gap-moved : (v c : ℕ) → c % 4 ≡ 0 → gap_of (side_of v).far (inward (side_of v).back c) ≤ apart_of v (128 * c)
gap-moved v c h = go (ltb v 12288) refl (dec_lt c 96)
  where
    go : (t : Bool) → ltb v 12288 ≡ t → Dec (c < 96) → gap_of (side_of v).far (inward (cond t 1 0) c) ≤ apart_of v (128 * c)
    go true e (yes f) =
        let x : v + (side_of v).far ≡ 12288 = omega (arith, ltb-true v 12288 e) in
        let i = left-is-gap v (side_of v).far c ((96 - c) / 4) x (omega arith) in
        rw i (omega arith)
    go true e (no f) =
        let x : v + (side_of v).far ≡ 12288 = omega (arith, ltb-true v 12288 e) in
        let z : (96 - c) / 4 ≡ 0 = omega arith in
        rw z (left_over v (side_of v).far c x (omega arith))
    go false e (yes f) =
        let x : v ≡ 12288 + (side_of v).far = omega (arith, ltb-false v 12288 e) in
        let z : (c - 96) / 4 ≡ 0 = omega arith in
        rw z (right-over v (side_of v).far c x (omega arith))
    go false e (no f) =
        let x : v ≡ 12288 + (side_of v).far = omega (arith, ltb-false v 12288 e) in
        let i = right-is-gap v (side_of v).far c ((c - 96) / 4) x (omega arith) in
        rw i (omega arith)

-- how far it is exactly, by a place on the side of v
pub gap_same : (v c m : ℕ) → m < 10 → c ≡ stand_at (side_of v).back m → apart_of v (128 * c) ≡ gap_of (side_of v).far m
gap_same v c m h = go (ltb v 12288) refl
  where
    go : (t : Bool) → ltb v 12288 ≡ t → c ≡ stand_at (cond t 1 0) m → apart_of v (128 * c) ≡ gap_of (side_of v).far m
    go true e f = left-is-gap v (side_of v).far c m (omega (arith, ltb-true v 12288 e)) (omega arith)
    go false e f = right-is-gap v (side_of v).far c m (omega (arith, ltb-false v 12288 e)) (omega arith)

pub side-in : (v : ℕ) → Counted v → Sided (side_of v)
side-in v h = record { back_in = go (ltb v 12288); far-in = omega (arith, h.low, h.high) }
  where
    go : (t : Bool) → cond t 1 0 < 2
    go true = omega arith
    go false = omega arith

-- ---- the bits of a view

module _ (b d : ℕ) (h : d < 2) where
  abbrev o : ℕ
  o = 4 * b + 2 * d

  pub plain_along : (x y : ℕ) → along (4 * b + 2 * d) x y ≡ x
  plain_along x y = let e : (4 * b + 2 * d) % 2 ≡ 0 = omega arith in ap (λ (n : ℕ). cond (eqb n 1) y x) e

  pub turned-along : (x y : ℕ) → along (4 * b + 2 * d + 1) x y ≡ y
  turned-along x y = let e : (4 * b + 2 * d + 1) % 2 ≡ 1 = omega arith in ap (λ (n : ℕ). cond (eqb n 1) y x) e

  plain-left : left_in o ≡ b
  plain-left = omega arith

  plain_down : down_in o ≡ d
  plain_down = omega arith

  turned_left : left_in (o + 1) ≡ b
  turned_left = omega arith

  turned_down : down_in (o + 1) ≡ d
  turned_down = omega arith

  plain-ahead : ahead_of o ≡ 19 * (1 - b)
  plain-ahead = plain_along (19 * (1 - left_in o)) (1 - down_in o) ∙ ap (λ (n : ℕ). 19 * (1 - n)) plain-left

  plain_back : back_of o ≡ 19 * b
  plain_back = plain_along (19 * left_in o) (down_in o) ∙ ap (λ (n : ℕ). 19 * n) plain-left

  plain-rise : rise_of o ≡ 1 - d
  plain-rise = plain_along (1 - down_in o) (19 * (1 - left_in o)) ∙ ap (λ (n : ℕ). 1 - n) plain_down

  plain-fall : fall_of o ≡ d
  plain-fall = plain_along (down_in o) (19 * left_in o) ∙ plain_down

  turned-ahead : ahead_of (o + 1) ≡ 1 - d
  turned-ahead = turned-along (19 * (1 - left_in (o + 1))) (1 - down_in (o + 1)) ∙ ap (λ (n : ℕ). 1 - n) turned_down

  turned-back : back_of (o + 1) ≡ d
  turned-back = turned-along (19 * left_in (o + 1)) (down_in (o + 1)) ∙ turned_down

  turned-rise : rise_of (o + 1) ≡ 19 * (1 - b)
  turned-rise = turned-along (1 - down_in (o + 1)) (19 * (1 - left_in (o + 1))) ∙ ap (λ (n : ℕ). 19 * (1 - n)) turned_left

  turned-fall : fall_of (o + 1) ≡ 19 * b
  turned-fall = turned-along (down_in (o + 1)) (19 * left_in (o + 1)) ∙ ap (λ (n : ℕ). 19 * n) turned_left

pub seen-viewed : (u : ℕ) (x y : Side) (s : View) → Wide u → Sided x → Sided y → Seen u x y s → Viewed s
seen-viewed u x y s g h i (plain l e) =
    subst Viewed (sym e)
    (record {
      u-in = g;
      o-in = omega (arith, h.back_in, i.back_in);
      ahead-is = sym (plain-ahead x.back y.back i.back_in);
      back_is = sym (plain_back x.back y.back i.back_in);
      rise-is = sym (plain-rise x.back y.back i.back_in);
      fall-is = sym (plain-fall x.back y.back i.back_in);
      far-in = h.far-in;
      short-in = l;
    })
seen-viewed u x y s g h i (turned l e) =
    subst Viewed (sym e)
    (record {
      u-in = g;
      o-in = omega (arith, h.back_in, i.back_in);
      ahead-is = sym (turned-ahead x.back y.back i.back_in);
      back_is = sym (turned-back x.back y.back i.back_in);
      rise-is = sym (turned-rise x.back y.back i.back_in);
      fall-is = sym (turned-fall x.back y.back i.back_in);
      far-in = i.far-in;
      short-in = omega arith;
    })

pub seen-width : (u : ℕ) (x y : Side) (s : View) → Seen u x y s → s.u ≡ u
seen-width u x y s (plain l e) = ap (λ (s : View). s.u) e
seen-width u x y s (turned l e) = ap (λ (s : View). s.u) e

-- ---- where a place stands in the table

-- place m, counted from the lower left of what was counted: onwards (0) and back from the middle
abbrev pub beside : ℕ → ℕ → ℕ
beside zero m = 24 + m
beside (suc b) m = 24 - m

-- the steps of a view along x, and of one along y, are those of the places
stepped : (b d m e : ℕ) → b < 2 → d < 2 → m < 10 → e < 10 →
    180 + (19 * (1 - b) * m + (1 - d) * e) - (19 * b * m + d * e) ≡ beside b m * 19 + beside d e - 300
stepped zero zero m e g h i j = omega arith
stepped zero (suc zero) m e g h i j = omega arith
stepped (suc zero) zero m e g h i j = omega arith
stepped (suc zero) (suc zero) m e g h i j = omega arith
stepped zero (suc (suc d)) m e g h i j = absurd (omega arith)
stepped (suc zero) (suc (suc d)) m e g h i j = absurd (omega arith)
stepped (suc (suc b)) d m e g h i j = absurd (omega arith)

pub index-plain : (b d m e : ℕ) → b < 2 → d < 2 → m < 10 → e < 10 → index_of (4 * b + 2 * d) m e ≡ beside b m * 19 + beside d e - 300
index-plain b d m e g h i j = rw (plain-ahead b d h, plain_back b d h, plain-rise b d h, plain-fall b d h) (stepped b d m e g h i j)

pub index-turned : (b d m e : ℕ) → b < 2 → d < 2 → m < 10 → e < 10 → index_of (4 * b + 2 * d + 1) e m ≡ beside b m * 19 + beside d e - 300
index-turned b d m e g h i j =
    let s = stepped b d m e g h i j in
    let z : 180 + ((1 - d) * e + 19 * (1 - b) * m) - (d * e + 19 * b * m) ≡ beside b m * 19 + beside d e - 300 = omega (arith, s) in
    rw (turned-ahead b d h, turned-back b d h, turned-rise b d h, turned-fall b d h) z

-- ---- how far the places are

pub listed_below : (u w : ℕ) → Wide u → w < 2 ^ u → w < 256
listed_below u w g h = let b : 2 ^ u ≤ 256 = pow_mono g.high in omega arith

module _ (w : ℕ) (l : w < 256) where
  fours-x : stand_x w % 4 ≡ 0
  unfolding stand_x
  fours-x = stand-fours (a_point w).x (rule.each w l).x-is (small w l).x-small

  fours-y : stand_y w % 4 ≡ 0
  unfolding stand_y
  fours-y = stand-fours (a_point w).y (rule.each w l).y-is (small w l).y-small

module _ (u x y : ℕ) (hx : Counted x) (hy : Counted y) where
  abbrev b : ℕ
  b = (side_of x).back

  abbrev d : ℕ
  d = (side_of y).back

  d-in : d < 2
  d-in = (side-in y hy).back_in

  abbrev plainly : View
  plainly = plain_view u (side_of x) (side_of y)

  abbrev turnedly : View
  turnedly = turned_view u (side_of x) (side_of y)

  module _ (m e w : ℕ) (g : m < 10) (h : e < 10) where
    pub plain-right : Stood plainly.o m e w → key_of x y w ≡ off_of plainly m e + w
    unfolding key_of off_of
    plain-right t =
        let i : stand_x w ≡ stand_at b m = t.x-is ∙ ap₂ stand_at (plain-left b d d-in) (plain_along b d d-in m e) in
        let j : stand_y w ≡ stand_at d e = t.y-is ∙ ap₂ stand_at (plain_down b d d-in) (plain_along b d d-in e m) in
        omega (arith, ap (λ (n : ℕ). n * n) (gap_same x (stand_x w) m g i), ap (λ (n : ℕ). n * n) (gap_same y (stand_y w) e h j))

    pub turned_right : Stood turnedly.o m e w → key_of x y w ≡ off_of turnedly m e + w
    unfolding key_of off_of
    turned_right t =
        let i : stand_x w ≡ stand_at b e = t.x-is ∙ ap₂ stand_at (turned_left b d d-in) (turned-along b d d-in m e) in
        let j : stand_y w ≡ stand_at d m = t.y-is ∙ ap₂ stand_at (turned_down b d d-in) (turned-along b d d-in e m) in
        omega (arith, ap (λ (n : ℕ). n * n) (gap_same x (stand_x w) e h i), ap (λ (n : ℕ). n * n) (gap_same y (stand_y w) m g j))

  module _ (w : ℕ) (l : w < 256) where
    -- both gaps, moved
    along-x : gap_of (side_of x).far (inward b (stand_x w)) ≤ apart_of x (128 * stand_x w)
    along-x = gap-moved x (stand_x w) (fours-x w l)

    along-y : gap_of (side_of y).far (inward d (stand_y w)) ≤ apart_of y (128 * stand_y w)
    along-y = gap-moved y (stand_y w) (fours-y w l)

    -- where the point is moved to
    module _ (o : ℕ) (f : left_in o ≡ b) (g : down_in o ≡ d) where
      moved-x : inward (left_in o) (stand_x w) ≡ inward b (stand_x w)
      moved-x = ap (λ (n : ℕ). inward n (stand_x w)) f

      moved-y : inward (down_in o) (stand_y w) ≡ inward d (stand_y w)
      moved-y = ap (λ (n : ℕ). inward n (stand_y w)) g

    pub plain_moved : off_of plainly (column_in plainly.o w) (row_in plainly.o w) + w ≤ key_of x y w
    unfolding key_of off_of
    plain_moved =
        let o = plainly.o in
        let mx = moved-x o (plain-left b d d-in) (plain_down b d d-in) in
        let my = moved-y o (plain-left b d d-in) (plain_down b d d-in) in
        let m : column_in o w ≡ inward b (stand_x w) = plain_along b d d-in _ _ ∙ mx in
        let e : row_in o w ≡ inward d (stand_y w) = plain_along b d d-in _ _ ∙ my in
        rw (m, e) (omega (arith, mul-le-mul along-x along-x, mul-le-mul along-y along-y))

    pub turned-moved : off_of turnedly (column_in turnedly.o w) (row_in turnedly.o w) + w ≤ key_of x y w
    unfolding key_of off_of
    turned-moved =
        let o = turnedly.o in
        let mx = moved-x o (turned_left b d d-in) (turned_down b d d-in) in
        let my = moved-y o (turned_left b d d-in) (turned_down b d d-in) in
        let m : column_in o w ≡ inward d (stand_y w) = turned-along b d d-in _ _ ∙ my in
        let e : row_in o w ≡ inward b (stand_x w) = turned-along b d d-in _ _ ∙ mx in
        rw (m, e) (omega (arith, mul-le-mul along-x along-x, mul-le-mul along-y along-y))

  -- either view
  pub right_is : (s : View) → Seen u (side_of x) (side_of y) s → (m e w : ℕ) → m < 10 → e < 10 → Stood s.o m e w → key_of x y w ≡ off_of s m e + w
  right_is s (plain l i) m e w g h = subst (λ (s : View). Stood s.o m e w → key_of x y w ≡ off_of s m e + w) (sym i) (plain-right m e w g h)
  right_is s (turned l i) m e w g h = subst (λ (s : View). Stood s.o m e w → key_of x y w ≡ off_of s m e + w) (sym i) (turned_right m e w g h)

  pub moved-le : (s : View) → Seen u (side_of x) (side_of y) s → (w : ℕ) → w < 256 → off_of s (column_in s.o w) (row_in s.o w) + w ≤ key_of x y w
  moved-le s (plain l i) w h = subst (λ (s : View). off_of s (column_in s.o w) (row_in s.o w) + w ≤ key_of x y w) (sym i) (plain_moved w h)
  moved-le s (turned l i) w h = subst (λ (s : View). off_of s (column_in s.o w) (row_in s.o w) + w ≤ key_of x y w) (sym i) (turned-moved w h)
