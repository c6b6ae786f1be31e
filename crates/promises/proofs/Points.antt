-- Points and symbols: what is heard at most 127 line units from a point, in each coordinate, is nearer to it than to any other point in use;
-- and a symbol both of whose points are the only nearest ones is closest to what is heard.
--   InUse, in_use    a point with a label, as lines use them: its coordinates are odd and small
--   euclid-near      less than 128 line units away is at most 127 in each coordinate
--   near-far         at most 127 in each coordinate is far below the cap
--   near-only        at most 127 in each coordinate: no other point is as near
--   far-points       what a symbol counts for, by its two points
--   only-closest     no other points as near: no other symbol as near
use mathlib.Core.Path.{◌≡◌, refl, sym, ap, ◌∙◌}
use mathlib.Core.Bool.{true}
use Prim.Native.Nat.{ℕ, zero, suc, ◌+◌, ◌*◌, ◌%◌, ◌^◌, ◌≤◌, ◌<◌}
use native.Mathlib.Nat.{mul-le-mul}
use native.Mathlib.Decide.{dec_le}
use native.Mathlib.Omega.{arith}
use lib.IntN.{nat_abs, ℤ_discrete}
use Rattle.wei.specs.Symbol.{Symbol, first_label, last_label, Valid}
use Rattle.wei.proofs.Labels.{second_below}
use Rattle.points.specs.declared.Accord.{Accord}
use Rattle.points.specs.declared.Point.{Point}
use Rattle.points.specs.Agreed.{is_accord}
use Rattle.points.specs.Turn.{remainder_x, remainder_y, Labelled, Small}
use Rattle.maps.specs.PointMap.{point_at, first_at, second_at}
use Rattle.maps.proofs.Both.{is-map}
use Rattle.maps.proofs.Apart.{small_at, symbols-apart}
use Rattle.trellis.specs.Measure.{cap, counted, far_of, first_far, second_far}
use Rattle.distance.specs.declared.Spot.{Spot}
use Rattle.distance.specs.Distance.{difference, distance}
use Rattle.nearest.specs.declared.Received.TheVariants.{Heard}
use Rattle.nearest.specs.Found.{heard_as}
use Rattle.nearest.specs.Line.{line_distance, line_measure}
use Rattle.trellis.specs.Along.{Closest}
use Rattle.promises.specs.Noise.{Near, OnlyNearest}
use Rattle.promises.proofs.Coordinates.{Placed, coordinate-cases, coordinate-least}

-- ---- points in use

odd-x : (l : ℕ) → l < 4 → remainder_x l % 2 ≡ 1
odd-x zero h = refl
odd-x (suc zero) h = refl
odd-x (suc (suc l)) h = refl

odd-y : (l : ℕ) → l < 4 → remainder_y l % 2 ≡ 1
odd-y zero h = refl
odd-y (suc zero) h = refl
odd-y (suc (suc zero)) h = refl
odd-y (suc (suc (suc l))) h = refl

pub record InUse (l : ℕ) (p : Point) : Type 0 where
  pub x-placed : Placed p.x
  pub y-placed : Placed p.y
  pub labelled : Labelled l p

pub in_use : (k : Accord) → is_accord k ≡ true → (l w : ℕ) → l < 4 → w < 2 ^ k.u → InUse l (point_at k l w)
in_use k h l w b c =
    let a : Labelled l (point_at k l w) = (is-map k.map).labelled k.u l w h b c in
    let s : Small (point_at k l w) = small_at k h l w c in
    record {
      x-placed = record { odd = ap (λ (n : ℕ). n % 2) a.x-is ∙ odd-x l b; small = s.x-small };
      y-placed = record { odd = ap (λ (n : ℕ). n % 2) a.y-is ∙ odd-y l b; small = s.y-small };
      labelled = a;
    }

-- ---- one point

root : (a : ℕ) → a * a < 16384 → a ≤ 127
root a h = go (dec_le a 127)
  where
    go : Dec (a ≤ 127) → a ≤ 127
    go (yes l) = l
    go (no l) = let g : 128 ≤ a = omega arith in absurd (omega (arith, mul-le-mul g g))

pub euclid-near : (h : Spot) (p : Point) → distance h p < 16384 → Near 127 h p
unfolding distance
euclid-near h p e = record { x-near = root (nat_abs (difference h.x p.x)) (omega arith); y-near = root (nat_abs (difference h.y p.y)) (omega arith) }

pub wider : (m n : ℕ) (h : Spot) (p : Point) → m ≤ n → Near m h p → Near n h p
wider m n h p l w = record { x-near = omega (arith, w.x-near); y-near = omega (arith, w.y-near) }

-- what is heard at most n away counts for little
pub near-far : (n : ℕ) (h : Spot) (p : Point) → n ≤ 127 → Near n h p → distance h p ≤ 32258
unfolding distance
near-far n h p k w =
    let x : nat_abs (difference h.x p.x) ≤ 127 = omega (arith, w.x-near) in
    let y : nat_abs (difference h.y p.y) ≤ 127 = omega (arith, w.y-near) in
    omega (arith, mul-le-mul x x, mul-le-mul y y)

point-apart : (h : Spot) (p q : Point) (l m : ℕ) → Near 127 h p → InUse l p → InUse m q → (q ≡ p → ⊥) → distance h p < distance h q
unfolding distance
point-apart h p q l m w a b e =
    let z : 127 ≤ 127 = omega arith in
    coordinate-cases 127 z h.x p.x q.x w.x-near a.x-placed b.x-placed
    (λ g _. omega (arith, coordinate-least 127 z h.y p.y q.y w.y-near a.y-placed b.y-placed))
    (λ x. coordinate-cases 127 z h.y p.y q.y w.y-near a.y-placed b.y-placed
    (λ g _. omega (arith, coordinate-least 127 z h.x p.x q.x w.x-near a.x-placed b.x-placed))
    (λ y. absurd (e (λ i. record { x = sym x i; y = sym y i }))))

pub near-only : (k : Accord) → is_accord k ≡ true → (h : Spot) (l w : ℕ) → l < 4 → w < 2 ^ k.u → Near 127 h (point_at k l w) → OnlyNearest k h (point_at k l w)
near-only k g h l w a b i =
    record {
      counts = omega (arith, near-far 127 h (point_at k l w) (omega arith) i);
      nearer = λ m v c d e. omega (arith, point-apart h (point_at k l w) (point_at k m v) l m i (in_use k g l w a b) (in_use k g m v c d) e);
    }

-- ---- one symbol

pub first_below : (u : ℕ) (c : Symbol) → Valid u c → first_label c < 4
first_below u c v = omega (arith, v.i2-below, v.i3-below)

pub last-below : (c : Symbol) → last_label c < 4
unfolding last_label
last-below c = second_below (first_label c) c.y0 c.i1

pub far-points : (ac : Accord) (g h : Spot) (c : Symbol) → (line_measure ac).far (heard_as (Heard g) (Heard h)) c ≡ counted (distance g (first_at ac c)) + counted (distance h (second_at ac c))
unfolding far_of first_far second_far line_distance first_at second_at
far-points ac g h c = refl

counted-less : (a b : ℕ) → a < b → a < cap → counted a < counted b
unfolding counted
counted-less a b h k = omega arith

same_point : (p q : Point) → Dec (p ≡ q)
same_point p q = go (ℤ_discrete p.x q.x) (ℤ_discrete p.y q.y)
  where
    go : Dec (p.x ≡ q.x) → Dec (p.y ≡ q.y) → Dec (p ≡ q)
    go (yes x) (yes y) = yes (λ i. record { x = x i; y = y i })
    go (yes x) (no y) = no (λ e. y (ap (λ (z : Point). z.y) e))
    go (no x) d = no (λ e. x (ap (λ (z : Point). z.x) e))

module _ (ac : Accord) (a : is_accord ac ≡ true) (c : Symbol) (v : Valid ac.u c) (g h : Spot) where
  pub only-closest : OnlyNearest ac g (first_at ac c) → OnlyNearest ac h (second_at ac c) → Closest ac.u (line_measure ac) (heard_as (Heard g) (Heard h)) c
  unfolding first_at second_at
  only-closest m n d w e = rw (far-points ac g h c, far-points ac g h d) (go (same_point (first_at ac d) (first_at ac c)) (same_point (second_at ac d) (second_at ac c)))
    where
      one : (first_at ac d ≡ first_at ac c → ⊥) → counted (distance g (first_at ac c)) < counted (distance g (first_at ac d))
      one z = counted-less (distance g (first_at ac c)) (distance g (first_at ac d)) (m.nearer (first_label d) d.w1 (first_below ac.u d w) w.w1-below z) m.counts

      two : (second_at ac d ≡ second_at ac c → ⊥) → counted (distance h (second_at ac c)) < counted (distance h (second_at ac d))
      two z = counted-less (distance h (second_at ac c)) (distance h (second_at ac d)) (n.nearer (last_label d) d.w2 (last-below d) w.w2-below z) n.counts

      go : Dec (first_at ac d ≡ first_at ac c) → Dec (second_at ac d ≡ second_at ac c) →
          counted (distance g (first_at ac c)) + counted (distance h (second_at ac c)) < counted (distance g (first_at ac d)) + counted (distance h (second_at ac d))
      go (yes x) (yes y) = absurd (e (symbols-apart ac a d c w v x y))
      go (yes x) (no y) = let z : counted (distance g (first_at ac d)) ≡ counted (distance g (first_at ac c)) = ap (λ (p : Point). counted (distance g p)) x in omega (arith, two y)
      go (no x) (yes y) = let z : counted (distance h (second_at ac d)) ≡ counted (distance h (second_at ac c)) = ap (λ (p : Point). counted (distance h p)) y in omega (arith, one x)
      go (no x) (no y) = omega (arith, one x, two y)
