-- The square map, at every width: beside every point in use there is one of each other label. It is the one towards the middle.
--   square-beside      the neighbour
use mathlib.Core.Path.{◌≡◌, refl, sym, ap, subst, ◌∙◌}
use mathlib.Core.Bool.{Bool, true, false, cond}
use Prim.Native.Nat.{ℕ, zero, suc, ◌-◌, ◌*◌, ◌/◌, ◌%◌, ◌^◌, ◌≤◌, ◌<◌}
use native.Mathlib.Omega.{arith}
use lib.Dec.{eqb}
use lib.IntN.{ℤ, pos, negsuc, nat_abs}
use Rattle.wei.proofs.Finite.{equal2}
use Rattle.points.specs.declared.Point.{Point}
use Rattle.points.specs.Points.{mod4}
use Rattle.points.specs.Turn.{remainder_x, remainder_y, Labelled}
use Rattle.maps.specs.SquareMap.{is_width, square_of, OnGrid}
use Rattle.maps.specs.SquareBits.{bits_of}
use Rattle.maps.proofs.SquareLaws as square
use Rattle.round_places.specs.Places.{stand_of}
use Rattle.round_columns.specs.Cells.{apart_of}
use Rattle.promises.proofs.Coordinates.{unlike}
use Rattle.margins.proofs.RoundNeighbours.{Beside, Neighbour}

-- ---- one coordinate

-- the odd number next to an odd one towards 0, and beyond it from 1 and -1
inward : ℤ → ℤ
inward (pos zero) = pos zero
inward (pos (suc zero)) = negsuc zero
inward (pos (suc (suc n))) = pos n
inward (negsuc zero) = pos 1
inward (negsuc (suc zero)) = pos zero
inward (negsuc (suc (suc n))) = negsuc n

record Inward (z y : ℤ) : Type 0 where
  odd : nat_abs y % 2 ≡ 1
  less : nat_abs y ≤ nat_abs z
  rest : mod4 y ≡ 4 - mod4 z
  near : apart_of (stand_of z) (stand_of y) ≤ 2

inward-is : (z : ℤ) → nat_abs z % 2 ≡ 1 → nat_abs z ≤ 31 → Inward z (inward z)
unfolding inward
inward-is (pos zero) o h = absurd (omega arith)
inward-is (pos (suc zero)) o h = record { odd = refl; less = omega arith; rest = refl; near = omega arith }
inward-is (pos (suc (suc n))) o h = record { odd = omega arith; less = omega arith; rest = omega arith; near = omega arith }
inward-is (negsuc zero) o h = record { odd = refl; less = omega arith; rest = refl; near = omega arith }
inward-is (negsuc (suc zero)) o h = absurd (omega arith)
inward-is (negsuc (suc (suc n))) o h = record { odd = omega arith; less = omega arith; rest = omega arith; near = omega arith }

-- from the remainder b to the remainder a
abbrev toward : ℕ → ℕ → ℤ → ℤ
toward a b z = cond (eqb a b) z (inward z)

record Toward (a b : ℕ) (z y : ℤ) : Type 0 where
  odd : nat_abs y % 2 ≡ 1
  less : nat_abs y ≤ nat_abs z
  rest : mod4 y ≡ cond (eqb a b) b (4 - b)
  near : apart_of (stand_of z) (stand_of y) ≤ 2 * unlike a b

toward-is : (a b : ℕ) (z : ℤ) → nat_abs z % 2 ≡ 1 → nat_abs z ≤ 31 → mod4 z ≡ b → Toward a b z (toward a b z)
toward-is a b z o h e = go (eqb a b) refl
  where
    go : (t : Bool) → eqb a b ≡ t → Toward a b z (cond t z (inward z))
    go true f = record { odd = o; less = omega arith; rest = rw f e; near = rw f (omega arith) }
    go false f =
        let i = inward-is z o h in
        record { odd = i.odd; less = i.less; rest = rw f (i.rest ∙ ap (λ (n : ℕ). 4 - n) e); near = rw f i.near }

-- ---- a point

to-x : (m l : ℕ) → m < 4 → l < 4 → cond (eqb (remainder_x m) (remainder_x l)) (remainder_x l) (4 - remainder_x l) ≡ remainder_x m
to-x = equal2 4 4 (λ m l. cond (eqb (remainder_x m) (remainder_x l)) (remainder_x l) (4 - remainder_x l)) (λ m l. remainder_x m) tt

to-y : (m l : ℕ) → m < 4 → l < 4 → cond (eqb (remainder_y m) (remainder_y l)) (remainder_y l) (4 - remainder_y l) ≡ remainder_y m
to-y = equal2 4 4 (λ m l. cond (eqb (remainder_y m) (remainder_y l)) (remainder_y l) (4 - remainder_y l)) (λ m l. remainder_y m) tt

module _ (u : ℕ) (g : is_width u ≡ true) (l w m : ℕ) (h : l < 4) (f : w < 2 ^ u) (k : m < 4) where
  abbrev p : Point
  p = square_of u l w

  abbrev q : Point
  q = record { x = toward (remainder_x m) (remainder_x l) p.x; y = toward (remainder_y m) (remainder_y l) p.y }

  at_x : Toward (remainder_x m) (remainder_x l) p.x q.x
  at_x = toward-is (remainder_x m) (remainder_x l) p.x (square.on-grid u g l w f).x-odd (square.small u g l w f).0 (square.labelled u g l w f h).x-is

  at_y : Toward (remainder_y m) (remainder_y l) p.y q.y
  at_y = toward-is (remainder_y m) (remainder_y l) p.y (square.on-grid u g l w f).y-odd (square.small u g l w f).1 (square.labelled u g l w f h).y-is

  on-grid : OnGrid u (record { x = toward (remainder_x m) (remainder_x l) p.x; y = toward (remainder_y m) (remainder_y l) p.y })
  on-grid =
      let o = square.on-grid u g l w f in
      record { x-odd = at_x.odd; x-in = omega (arith, at_x.less, o.x-in); y-odd = at_y.odd; y-in = omega (arith, at_y.less, o.y-in) }

  labelled : Labelled m (record { x = toward (remainder_x m) (remainder_x l) p.x; y = toward (remainder_y m) (remainder_y l) p.y })
  labelled = record { x-is = at_x.rest ∙ to-x m l k h; y-is = at_y.rest ∙ to-y m l k h }

  pub square-beside : Neighbour (square_of u) u l m (square_of u l w)
  square-beside =
      let r = square.place u g q on-grid in
      let e = subst (λ (o : ℕ). square_of u o (bits_of (u / 2) q / 4) ≡ q) (square.label_is u g q on-grid m k labelled) r.is-there in
      record {
        number = bits_of (u / 2) q / 4;
        number-below = r.w-below;
        beside = subst (Beside (unlike (remainder_x m) (remainder_x l)) (unlike (remainder_y m) (remainder_y l)) p) (sym e) (record { x-beside = at_x.near; y-beside = at_y.near });
      }
