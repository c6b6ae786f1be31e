-- The round map and the square map are point maps.
--   is-map   whichever map is named
use mathlib.Core.Path.{◌≡◌, refl, ap₂}
use mathlib.Core.Bool.{true}
use Prim.Native.Nat.{ℕ, zero, suc, ◌+◌, ◌%◌, ◌^◌, ◌≤◌, ◌<◌}
use native.Mathlib.Omega.{arith}
use lib.Dec.{leb}
use lib.IntN.{ℤ}
use lib.Pow.{pow_mono}
use borrow.Author.Tests.{leb-true}
use Rattle.points.specs.declared.Point.{Point}
use Rattle.points.specs.Points.{a_point}
use Rattle.points.specs.Turn.{turned, turns, point_of}
use Rattle.points.proofs.Signed.{neg-neg}
use Rattle.points.proofs.Agreed.{width-le}
use Rattle.points.proofs.Turns as turns
use Rattle.points.proofs.Apart.{points-apart}
use Rattle.maps.proofs.SquareLaws as square
use Rattle.points.specs.declared.Map.{Map}
use Rattle.points.specs.declared.Map.TheVariants.{Round, Square}
use Rattle.maps.specs.PointMap.{IsPointMap, map_of}

-- ---- the round map

pub listed : (u w : ℕ) → leb u 8 ≡ true → w < 2 ^ u → w < 256
listed u w g h = let e : 2 ^ u ≤ 256 = pow_mono (leb-true u 8 g) in omega arith

four-turns : (p : Point) → turns 4 p ≡ p
four-turns p = ap₂ {C = Point} (λ (x y : ℤ). record { x = x; y = y }) (neg-neg p.x) (neg-neg p.y)

round-turn : (l w : ℕ) → l < 4 → turned (point_of l w) ≡ point_of ((l + 1) % 4) w
unfolding point_of
round-turn zero w h = refl
round-turn (suc zero) w h = refl
round-turn (suc (suc zero)) w h = refl
round-turn (suc (suc (suc zero))) w h = four-turns (a_point w)
round-turn (suc (suc (suc (suc l)))) w h = absurd (omega arith)

is-round : IsPointMap (map_of Round)
is-round =
    record {
      width-le = width-le Round;
      count-is = λ u g. refl;
      labelled = λ u l w g a b. turns.labelled l w a (listed u w g b);
      small = λ u l w g b. turns.small-point l w (listed u w g b);
      apart = λ u l k w v g a b c d e. points-apart l k w v a b (listed u w g c) (listed u v g d) e;
      turn = λ u l w g a b. round-turn l w a;
      turn_below = λ u w g b. b;
      turn-four = λ u w g b. refl;
    }

-- ---- the square map

is-square : IsPointMap (map_of Square)
is-square =
    record {
      width-le = width-le Square;
      count-is = λ u g. refl;
      labelled = λ u l w g a b. square.labelled u g l w b a;
      small = λ u l w g b. (let s = square.small u g l w b in record { x-small = omega (arith, s.0); y-small = omega (arith, s.1) });
      apart = λ u l k w v g a b c d e. square.one_place u g l k w v a b c d e;
      turn = λ u l w g a b. square.turned-square u g l w b a;
      turn_below = λ u w g b. square.number-below u g w b;
      turn-four = λ u w g b. square.number-four u g w b;
    }

pub is-map : (n : Map) → IsPointMap (map_of n)
is-map Round = is-round
is-map Square = is-square
