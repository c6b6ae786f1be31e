-- The least key by places and columns is that of the nearest A point, the smaller number of equals.
--   outer-least   the rim's least key is the least of the width, where the longer side reaches the rim
--   near-both, near-not, near_again   what the test says of two counts, and of the other side
--   away-out      where a point is not near, the longer side reaches the rim
--   keys-are      the least keys of the four labels, from the received point turned back, are `near_keys`
--   near-as       the same key, by any function that gives the distances
use mathlib.Core.Path.{◌≡◌, refl, sym, subst, ap, ap₂, fun_ext, ◌∙◌}
use mathlib.Core.Bool.{Bool, true, false, ◌&&◌, cond}
use Prim.Native.Nat.{ℕ, ◌+◌, ◌-◌, ◌*◌, ◌%◌, ◌^◌, ◌≤◌, ◌<◌}
use native.Mathlib.Decide.{dec_lt}
use native.Mathlib.Omega.{arith}
use borrow.Author.Tests.{lt-ltb, ltb-true}
use lib.Dec.{ltb}
use lib.IntN.{ℤ, neg_ℤ, nat_abs}
use lib.Pow.{pow_mono, pow_pos}
use Rattle.points.specs.Points.{a_point}
use Rattle.points.proofs.Signed.{nat_abs-neg}
use Rattle.points.proofs.Rule.{small}
use Rattle.trellis.specs.Pick.{least}
use Rattle.trellis.proofs.Least.{IsLeast, least-is}
use Rattle.distance.specs.declared.Spot.{Spot}
use Rattle.distance.specs.Distance.{distance}
use Rattle.distance.proofs.Rests.{same_rest}
use Rattle.round_places.specs.Places.{Wide, number_at, stand_x, stand_y, column_of, first_of}
use Rattle.round_places.proofs.Rule.{column_in, row_in, moved-within, rim-in, rim-right}
use Rattle.round_columns.specs.declared.View.{View}
use Rattle.round_columns.specs.Near.{spot_at, from, near_key, near_keys}
use Rattle.round_columns.specs.Cells.{count_of, Counted, apart_of, key_of, LeastKey, side_of, Seen, plain, turned, Viewed, Rimmed, Outside, Near, are_near}
use Rattle.round_columns.proofs.Counts.{away, count-mirror}
use Rattle.round_columns.proofs.Searches.{rim-least}
use Rattle.round_columns.proofs.Views.{side-in, seen-viewed, seen-width, right_is, moved-le, listed_below}

-- ---- the rim

pub outer-least : (u x y : ℕ) → Wide u → Counted x → Counted y → Outside u x y → (s : View) → Seen u (side_of x) (side_of y) s →
    (r : ℕ) → Rimmed s 4 r → LeastKey u x y r
outer-least u x y g hx hy out s q r l =
    let v = seen-viewed u (side_of x) (side_of y) s g (side-in x hx) (side-in y hy) q in
    let m = column_of s.u s.o l.i in
    let w = number_at s.o m l.e in
    let i = rim-in s.u s.o v.u-in v.o-in l.i l.i-in in
    let k = rim-right s.u s.o v.u-in v.o-in l.i l.i-in l.e l.e-in in
    let e = right_is u x y hx hy s q m l.e w i.0 (omega (arith, i.1, l.e-in)) k.1 in
    subst (λ (u : ℕ). LeastKey u x y r) (seen-width u (side_of x) (side_of y) s q)
    (record { w = w; low = k.0; is = l.is ∙ sym e; least = λ n h. other v n h })
  where
    other : Viewed s → (n : ℕ) → n < 2 ^ s.u → r ≤ key_of x y n
    other v n h =
        let t = moved-within s.u s.o v.u-in v.o-in n h in
        let k = rim-least s v (out s q) r (column_in s.o n) (row_in s.o n) l t.is_within in
        omega (arith, k, t.less, moved-le u x y hx hy s q n (listed_below s.u n v.u-in h))

-- ---- a point that is not near

pub near-both : (x y : ℕ) → are_near x y ≡ true → Near x × Near y
near-both x y e = go (ltb (apart_of x 12160) 4737) (ltb (apart_of y 12160) 4737) refl refl e
  where
    go : (a b : Bool) → ltb (apart_of x 12160) 4737 ≡ a → ltb (apart_of y 12160) 4737 ≡ b → (a && b) ≡ true → Near x × Near y
    go true true f h z = (record { off = ltb-true (apart_of x 12160) 4737 f }, record { off = ltb-true (apart_of y 12160) 4737 h })
    go true false f h z = absurd (subst (λ (b : Bool). cond b ⊥ Unit) z tt)
    go false b f h z = absurd (subst (λ (b : Bool). cond b ⊥ Unit) z tt)

pub near-not : (x y : ℕ) → are_near x y ≡ false → Near x → Near y → ⊥
near-not x y e nx ny =
    let f = ap₂ ◌&&◌ (lt-ltb (apart_of x 12160) 4737 nx.off) (lt-ltb (apart_of y 12160) 4737 ny.off) in
    subst (λ (b : Bool). cond b Unit ⊥) (sym f ∙ e) tt

-- the other side of the other side
pub near_again : (v : ℕ) → Counted v → Near (24320 - v) → Near v
near_again v h n = record { off = omega (arith, n.off, h.high) }

pub away-out : (u x y : ℕ) → Wide u → Counted x → Counted y → (Near x → Near y → ⊥) → Outside u x y
away-out u x y g hx hy f s q =
    let v = seen-viewed u (side_of x) (side_of y) s g (side-in x hx) (side-in y hy) q in
    go (rim-in s.u s.o v.u-in v.o-in 0 (omega arith)).0 (dec_lt s.far 4608) q
  where
    go : first_of s.u s.o < 10 → Dec (s.far < 4608) → Seen u (side_of x) (side_of y) s → 512 * first_of s.u s.o ≤ s.far + 255
    go i (no h) z = omega arith
    go i (yes h) (plain l z) =
        let k = ap (λ (s : View). s.far) z in
        absurd (f (record { off = omega arith }) (record { off = omega arith }))
    go i (yes h) (turned l z) =
        let k = ap (λ (s : View). s.far) z in
        absurd (f (record { off = omega arith }) (record { off = omega arith }))

-- ---- the four labels

-- distances that leave the same remainder modulo 256: the least key's number is the first of the nearest
module _ (f : ℕ → ℕ) (n rest w : ℕ) (b : n < 256) (same : (v : ℕ) → v ≤ n → f v % 256 ≡ rest) (g : w ≤ n)
    (h : (v : ℕ) → v ≤ n → f w + w ≤ f v + v) where
  first-least : IsLeast f n w
  first-least =
      record {
        low = g;
        is-least = λ v i. near v i;
        is-first = λ v i e. omega (arith, h v i);
      }
    where
      near : (v : ℕ) → v ≤ n → f w ≤ f v
      near v i = go (dec_lt (f v) (f w))
        where
          go : Dec (f v < f w) → f w ≤ f v
          go (yes l) = absurd (omega (arith, h v i, same v i, same w g))
          go (no l) = omega arith

  key-least : f (least f n) + least f n ≡ f w + w
  key-least =
      let i = least-is f n in
      let k = first-least in
      let e : f (least f n) ≡ f w = omega (arith, i.is-least w g, k.is-least (least f n) i.low) in
      omega (arith, e, i.is-first w g e, k.is-first (least f n) i.low (sym e))

module _ (u : ℕ) (x y : ℤ) (g : Wide u) (hx : nat_abs x ≤ 8192) (hy : nat_abs y ≤ 8192) where
  module _ (w : ℕ) (l : w < 256) where
    -- the key of point w, by the counts
    key-by : from (spot_at x y) w + w ≡ key_of (count_of x) (count_of y) w
    unfolding distance key_of stand_x stand_y
    key-by = ap₂ (λ (a b : ℕ). a * a + b * b + w) (away x (a_point w).x hx (small w l).x-small) (away y (a_point w).y hy (small w l).y-small)

  nearest-is : (r : ℕ) → LeastKey u (count_of x) (count_of y) r → r ≡ near_key u (spot_at x y)
  unfolding near_key
  nearest-is r b =
      let top : 2 ^ u ≤ 256 = pow_mono g.high in
      let n : 2 ^ u - 1 < 256 = omega (arith, pow_pos u) in
      let s = spot_at x y in
      let i = b.is ∙ sym (key-by b.w (omega (arith, b.low))) in
      i ∙ sym (key-least (from s) (2 ^ u - 1) (from s 0 % 256) b.w n (λ v h. same_rest s (a_point v) (a_point 0)) (omega (arith, b.low))
      (λ v h. omega (arith, i, b.least v (omega (arith, pow_pos u)), key-by v (omega arith))))

-- the counts v and w, and those on the other side, are those of the coordinates turned back
pub keys-are : (u : ℕ) (x y : ℤ) (v w ka kc kb kd : ℕ) → Wide u → nat_abs x ≤ 8192 → nat_abs y ≤ 8192 → v ≡ count_of x → w ≡ count_of y →
    LeastKey u v w ka → LeastKey u (24320 - w) v kc → LeastKey u (24320 - v) (24320 - w) kb → LeastKey u w (24320 - v) kd →
    record { a = ka; c = kc; b = kb; d = kd } ≡ near_keys u x y
unfolding near_keys
keys-are u x y v w ka kc kb kd g hx hy e f a c b d =
    let i = ap (λ (n : ℕ). 24320 - n) e ∙ sym (count-mirror x hx) in
    let j = ap (λ (n : ℕ). 24320 - n) f ∙ sym (count-mirror y hy) in
    let mx : nat_abs (neg_ℤ x) ≤ 8192 = omega (arith, nat_abs-neg x) in
    let my : nat_abs (neg_ℤ y) ≤ 8192 = omega (arith, nat_abs-neg y) in
    cc (
      nearest-is u x y g hx hy ka (moved v (count_of x) w (count_of y) ka e f a),
      nearest-is u (neg_ℤ y) x g my hx kc (moved (24320 - w) (count_of (neg_ℤ y)) v (count_of x) kc j e c),
      nearest-is u (neg_ℤ x) (neg_ℤ y) g mx my kb (moved (24320 - v) (count_of (neg_ℤ x)) (24320 - w) (count_of (neg_ℤ y)) kb i j b),
      nearest-is u y (neg_ℤ x) g hy mx kd (moved w (count_of y) (24320 - v) (count_of (neg_ℤ x)) kd f i d),
    )
  where
    moved : (a b c d r : ℕ) → a ≡ b → c ≡ d → LeastKey u a c r → LeastKey u b d r
    moved a b c d r p q l = subst (λ (b : ℕ). LeastKey u b d r) p (subst (λ (d : ℕ). LeastKey u a d r) q l)

pub near-as : (f : ℕ → ℕ) (u : ℕ) (s : Spot) → ((w : ℕ) → from s w ≡ f w) → near_key u s ≡ f (least f (2 ^ u - 1)) + least f (2 ^ u - 1)
unfolding near_key
near-as f u s e = ap (λ (f : ℕ → ℕ). f (least f (2 ^ u - 1)) + least f (2 ^ u - 1)) (fun_ext e)
