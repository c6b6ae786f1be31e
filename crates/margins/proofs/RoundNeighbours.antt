-- The round map at the widths 0, 2, 3, 6, 7 and 8: beside every point in use there is one of each other label, 2 away in each coordinate whose
-- remainder differs. (At the widths 1, 4 and 5 the last points of a label stand alone.) For label A it is computed: the neighbour towards the
-- middle, looked up by its place; the other labels follow by turns.
--   Beside a b p q     p and q are at most 2a apart along x and 2b along y
--   beside-turned      a quarter turn exchanges the two
--   round-beside       the neighbour
--   round-odd          at every width: beside every point there is one whose label is the next or the one before
use mathlib.Core.Path.{◌≡◌, refl, sym, ap, subst, ◌∙◌}
use mathlib.Core.Bool.{Bool, true, false, cond, ◌&&◌, ◌||◌}
use mathlib.Core.Logic.{◌⊎◌, inl, inr, ⊎_elim}
use Prim.Native.Nat.{ℕ, zero, suc, ◌+◌, ◌-◌, ◌*◌, ◌/◌, ◌%◌, ◌^◌, ◌≤◌, ◌<◌}
use native.Mathlib.Omega.{arith}
use borrow.Author.Tests.{leb-true, lt-ltb}
use lib.Dec.{T, leb, ltb, leb→le, ltb→lt}
use lib.IntN.{ℤ, pos, negsuc, neg_ℤ, nat_abs}
use lib.ListN.{get_or}
use Rattle.wei.proofs.Finite.{upto, at, and_left, and_right, equal2}
use Rattle.points.specs.declared.Point.{Point}
use Rattle.points.specs.declared.Map.TheVariants.{Round}
use Rattle.points.specs.Points.{coordinates, a_point}
use Rattle.points.specs.Turn.{turned, point_of, remainder_x, remainder_y, Small}
use Rattle.maps.proofs.Both.{is-map}
use Rattle.maps.proofs.Both as both
use Rattle.round_places.specs.Places.{listed, stand_of, stand_x, stand_y}
use Rattle.round_columns.specs.Cells.{apart_of}
use Rattle.margins.specs.Latest.{crowded_at}
use Rattle.promises.proofs.Coordinates.{unlike}

pub record Beside (a b : ℕ) (p q : Point) : Type 0 where
  pub x-beside : apart_of (stand_of p.x) (stand_of q.x) ≤ 2 * a
  pub y-beside : apart_of (stand_of p.y) (stand_of q.y) ≤ 2 * b

-- ---- label A, computed

-- the place of a coordinate in the table, and of its neighbour towards the middle, turned half round
abbrev place_of : ℕ → ℕ
place_of s = s / 4 - 15

abbrev inward : ℕ → ℕ
inward a = cond (leb 9 a) (18 - a) (17 - a)

unfoldable pub number_to : ℕ → ℕ → ℕ
unfolding listed
number_to zero w = w
number_to (suc zero) w = get_or listed (19 * inward (place_of (stand_y w)) + place_of (stand_x w)) 0
number_to (suc (suc zero)) w = get_or listed (19 * inward (place_of (stand_x w)) + inward (place_of (stand_y w))) 0
number_to (suc (suc (suc d))) w = get_or listed (19 * place_of (stand_y w) + inward (place_of (stand_x w))) 0

abbrev width_test : ℕ → ℕ → ℕ → Bool
width_test v w u = cond (crowded_at Round u) (cond (ltb w (2 ^ u)) (ltb v (2 ^ u)) true) true

abbrev test : ℕ → ℕ → ℕ → Bool
test d w v =
    leb (apart_of (stand_of (a_point w).x) (stand_of (point_of d v).x)) (2 * unlike (remainder_x d) (remainder_x 0))
    && (leb (apart_of (stand_of (a_point w).y) (stand_of (point_of d v).y)) (2 * unlike (remainder_y d) (remainder_y 0)) && upto 9 (width_test v w))

computed : T (upto 4 (λ d. upto 256 (λ w. test d w (number_to d w))))
unfolding number_to point_of a_point coordinates stand_x stand_y
computed = tt

pub record Neighbour (P : ℕ → ℕ → Point) (u l m : ℕ) (p : Point) : Type 0 where
  pub number : ℕ
  pub number-below : number < 2 ^ u
  pub beside : Beside (unlike (remainder_x m) (remainder_x l)) (unlike (remainder_y m) (remainder_y l)) p (P m number)

below : (a b : Bool) (n : ℕ) (v : ℕ) → a ≡ true → b ≡ true → T (cond a (cond b (ltb v n) true) true) → v < n
below true true n v e f t = ltb→lt v n t
below true false n v e f t = absurd (let y : ◌≡◌ {A = ℕ} 0 1 = cc in omega arith)
below false b n v e f t = absurd (let y : ◌≡◌ {A = ℕ} 0 1 = cc in omega arith)

-- the test, taken apart
record Tested (d w : ℕ) : Type 0 where
  x-near : apart_of (stand_of (a_point w).x) (stand_of (point_of d (number_to d w)).x) ≤ 2 * unlike (remainder_x d) (remainder_x 0)
  y-near : apart_of (stand_of (a_point w).y) (stand_of (point_of d (number_to d w)).y) ≤ 2 * unlike (remainder_y d) (remainder_y 0)
  widths : T (upto 9 (width_test (number_to d w) w))

tested : (d w : ℕ) → d < 4 → w < 256 → Tested d w
tested d w c e =
    let v = number_to d w in
    let t = at 256 (λ w. test d w (number_to d w)) (at 4 (λ d. upto 256 (λ w. test d w (number_to d w))) computed d c) w e in
    let x = leb (apart_of (stand_of (a_point w).x) (stand_of (point_of d v).x)) (2 * unlike (remainder_x d) (remainder_x 0)) in
    let y = leb (apart_of (stand_of (a_point w).y) (stand_of (point_of d v).y)) (2 * unlike (remainder_y d) (remainder_y 0)) in
    let z = upto 9 (width_test v w) in
    let r = and_right x (y && z) t in
    record {
      x-near = leb→le (apart_of (stand_of (a_point w).x) (stand_of (point_of d v).x)) (2 * unlike (remainder_x d) (remainder_x 0)) (and_left x (y && z) t);
      y-near = leb→le (apart_of (stand_of (a_point w).y) (stand_of (point_of d v).y)) (2 * unlike (remainder_y d) (remainder_y 0)) (and_left y z r);
      widths = and_right y z r;
    }

-- the neighbour with the label d, if its number is one of the width
beside-A : (u d w : ℕ) → d < 4 → w < 256 → number_to d w < 2 ^ u → Neighbour point_of u 0 d (a_point w)
beside-A u d w c e f = let t = tested d w c e in record { number = number_to d w; number-below = f; beside = record { x-beside = t.x-near; y-beside = t.y-near } }

crowded-A : (u d w : ℕ) → u < 9 → crowded_at Round u ≡ true → d < 4 → w < 256 → w < 2 ^ u → number_to d w < 2 ^ u
crowded-A u d w a b c e f =
    below (crowded_at Round u) (ltb w (2 ^ u)) (2 ^ u) (number_to d w) b (lt-ltb w (2 ^ u) f) (at 9 (width_test (number_to d w) w) (tested d w c e).widths u a)

-- at every width one of the two neighbours next in label
unfoldable odd_test : ℕ → ℕ → Bool
odd_test u w = cond (ltb w (2 ^ u)) (ltb (number_to 1 w) (2 ^ u) || ltb (number_to 3 w) (2 ^ u)) true

odd-computed : T (upto 9 (λ u. upto 256 (odd_test u)))
unfolding odd_test number_to stand_x stand_y a_point coordinates
odd-computed = tt

odd-A : (u w : ℕ) → u < 9 → w < 256 → w < 2 ^ u → (number_to 1 w < 2 ^ u) ⊎ (number_to 3 w < 2 ^ u)
unfolding odd_test
odd-A u w a e f = go (ltb w (2 ^ u)) (lt-ltb w (2 ^ u) f) (at 256 (odd_test u) (at 9 (λ u. upto 256 (odd_test u)) odd-computed u a) w e)
  where
    or : (p q : Bool) → T (p || q) → T p ⊎ T q
    or true q t = inl tt
    or false q t = inr t

    go : (b : Bool) → b ≡ true → T (cond b (ltb (number_to 1 w) (2 ^ u) || ltb (number_to 3 w) (2 ^ u)) true) → (number_to 1 w < 2 ^ u) ⊎ (number_to 3 w < 2 ^ u)
    go true z t = ⊎_elim (λ x. inl (ltb→lt (number_to 1 w) (2 ^ u) x)) (λ x. inr (ltb→lt (number_to 3 w) (2 ^ u) x)) (or (ltb (number_to 1 w) (2 ^ u)) (ltb (number_to 3 w) (2 ^ u)) t)
    go false z t = absurd (let y : ◌≡◌ {A = ℕ} 0 1 = cc in omega arith)

-- ---- the other labels, by turns

stand-neg : (z : ℤ) → nat_abs z ≤ 39 → stand_of (neg_ℤ z) ≡ 190 - stand_of z
stand-neg (pos zero) h = refl
stand-neg (pos (suc n)) h = omega arith
stand-neg (negsuc n) h = omega arith

stand-in : (z : ℤ) → nat_abs z ≤ 39 → stand_of z ≤ 190
stand-in (pos n) h = omega arith
stand-in (negsuc n) h = omega arith

mirrored : (a b c : ℕ) → a ≤ 190 → b ≤ 190 → apart_of a b ≤ c → apart_of (190 - a) (190 - b) ≤ c
mirrored a b c g h k = omega arith

beside-turned : (a b : ℕ) (p q : Point) → Small p → Small q → Beside a b p q → Beside b a (turned p) (turned q)
beside-turned a b p q g h k =
    record {
      x-beside = k.y-beside;
      y-beside = rw (stand-neg p.x g.x-small, stand-neg q.x h.x-small)
          (mirrored (stand_of p.x) (stand_of q.x) (2 * a) (stand-in p.x g.x-small) (stand-in q.x h.x-small) k.x-beside);
    }

turn-x : (m l : ℕ) → m < 4 → l < 3 → unlike (remainder_x ((m + 1) % 4)) (remainder_x (suc l)) ≡ unlike (remainder_y m) (remainder_y l)
turn-x = equal2 4 3 (λ m l. unlike (remainder_x ((m + 1) % 4)) (remainder_x (suc l))) (λ m l. unlike (remainder_y m) (remainder_y l)) tt

turn-y : (m l : ℕ) → m < 4 → l < 3 → unlike (remainder_y ((m + 1) % 4)) (remainder_y (suc l)) ≡ unlike (remainder_x m) (remainder_x l)
turn-y = equal2 4 3 (λ m l. unlike (remainder_y ((m + 1) % 4)) (remainder_y (suc l))) (λ m l. unlike (remainder_x m) (remainder_x l)) tt

module _ (u : ℕ) (g : leb u 8 ≡ true) (w : ℕ) (f : w < 2 ^ u) where
  one-turn : (l m n : ℕ) → l < 3 → m < 4 → (m + 1) % 4 ≡ n → Neighbour point_of u l m (point_of l w) → Neighbour point_of u (suc l) n (point_of (suc l) w)
  unfolding point_of
  one-turn l m n h k e N =
      let v = N.number in
      let i = is-map Round in
      let t : Beside (unlike (remainder_y m) (remainder_y l)) (unlike (remainder_x m) (remainder_x l)) (turned (point_of l w)) (turned (point_of m v)) =
      beside-turned (unlike (remainder_x m) (remainder_x l)) (unlike (remainder_y m) (remainder_y l)) (point_of l w) (point_of m v) (i.small u l w g f) (i.small u m v g N.number-below) N.beside in
      let x : unlike (remainder_x n) (remainder_x (suc l)) ≡ unlike (remainder_y m) (remainder_y l) = ap (λ (o : ℕ). unlike (remainder_x o) (remainder_x (suc l))) (sym e) ∙ turn-x m l k h in
      let y : unlike (remainder_y n) (remainder_y (suc l)) ≡ unlike (remainder_x m) (remainder_x l) = ap (λ (o : ℕ). unlike (remainder_y o) (remainder_y (suc l))) (sym e) ∙ turn-y m l k h in
      let q : turned (point_of m v) ≡ point_of n v = i.turn u m v g k N.number-below ∙ ap (λ (o : ℕ). point_of o v) e in
      record {
        number = v;
        number-below = N.number-below;
        beside = subst (λ (c : ℕ). Beside c (unlike (remainder_y n) (remainder_y (suc l))) (turned (point_of l w)) (point_of n v)) (sym x)
            (subst (λ (c : ℕ). Beside (unlike (remainder_y m) (remainder_y l)) c (turned (point_of l w)) (point_of n v)) (sym y)
            (subst (Beside (unlike (remainder_y m) (remainder_y l)) (unlike (remainder_x m) (remainder_x l)) (turned (point_of l w))) q t));
      }

  pub round-beside : crowded_at Round u ≡ true → (l m : ℕ) → l < 4 → m < 4 → Neighbour point_of u l m (point_of l w)
  unfolding point_of
  round-beside b zero m h k =
      let e = both.listed u w g f in
      beside-A u m w k e (crowded-A u m w (omega (arith, leb-true u 8 g)) b k e f)
  round-beside b (suc l) m h k = one-turn l ((m + 3) % 4) m (omega arith) (omega arith) (omega arith) (round-beside b l ((m + 3) % 4) (omega arith) (omega arith))

  pub round-odd : (l : ℕ) → l < 4 → Neighbour point_of u l ((l + 1) % 4) (point_of l w) ⊎ Neighbour point_of u l ((l + 3) % 4) (point_of l w)
  unfolding point_of
  round-odd zero h =
      let e = both.listed u w g f in
      ⊎_elim (λ x. inl (beside-A u 1 w (omega arith) e x)) (λ x. inr (beside-A u 3 w (omega arith) e x)) (odd-A u w (omega (arith, leb-true u 8 g)) e f)
  round-odd (suc l) h =
      ⊎_elim (λ N. inl (one-turn l ((l + 1) % 4) ((suc l + 1) % 4) (omega arith) (omega arith) (omega arith) N))
      (λ N. inr (one-turn l ((l + 3) % 4) ((suc l + 3) % 4) (omega arith) (omega arith) (omega arith) N)) (round-odd l (omega arith))
