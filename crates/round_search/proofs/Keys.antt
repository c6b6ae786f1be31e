-- Keys: the least of them is that of the nearest number, the smaller of equals, and gives back number and distance.
--   turned-keys             the keys of a point's turns, from the received point turned back
--   min-kept                the smaller of two numbers by the test
--   first-keys, next_keys   the search starts with number 0, and looks at one number more
--   near_key u h l           the key of the nearest number of label l
--   keys-near               the least keys below 2^u are those
--   rest_le, read           number and distance of such a key
use mathlib.Core.Path.{◌≡◌, refl, sym, ap, ap₂, ◌∙◌}
use mathlib.Core.Bool.{Bool, true, false}
use Prim.Native.Nat.{ℕ, zero, suc, ◌+◌, ◌-◌, ◌%◌, ◌^◌, ◌≤◌, ◌<◌}
use native.Mathlib.Decide.{dec_lt}
use native.Mathlib.Omega.{arith}
use borrow.Author.Tests.{lt-ltb, le-ltb}
use lib.Dec.{ltb}
use lib.Pow.{pow_pos, pow_mono}
use Rattle.std.specs.Prelude.{min}
use Rattle.points.specs.declared.Point.{Point}
use Rattle.points.specs.Points.{a_point}
use Rattle.points.specs.Turn.{turned, point_of}
use Rattle.trellis.proofs.Least.{least-is}
use Rattle.trellis.specs.Pick.{keep_n, least, near, gap_of}
use Rattle.distance.specs.declared.Spot.{Spot}
use Rattle.distance.specs.Distance.{distance}
use Rattle.round_search.specs.Key.{round_distance, turned_back, lesser_of, lesser_keys, key_of, keys_of, keys_from, least_keys, candidate_of}
use Rattle.distance.proofs.Rests.{same_rest}
use Rattle.round_search.proofs.Distances.{back}

pub min-kept : (x y : ℕ) → min x y ≡ lesser_of x y
min-kept x y = go (dec_lt y x)
  where
    go : Dec (y < x) → min x y ≡ lesser_of x y
    go (yes h) = let e : min x y ≡ y = omega arith in e ∙ sym (ap (λ (b : Bool). keep_n b x y) (lt-ltb y x h))
    go (no h) = let e : min x y ≡ x = omega arith in e ∙ sym (ap (λ (b : Bool). keep_n b x y) (le-ltb y x (omega arith)))

lesser-self : (x : ℕ) → lesser_of x x ≡ x
lesser-self x = ap (λ (b : Bool). keep_n b x x) (le-ltb x x (omega arith))

-- keys compare as the distances do, where the later number is the larger
same_test : (d e v w : ℕ) → d % 256 ≡ e % 256 → v < w → w < 256 → ltb (e + w) (d + v) ≡ ltb e d
same_test d e v w r g h = go (dec_lt e d)
  where
    go : Dec (e < d) → ltb (e + w) (d + v) ≡ ltb e d
    go (yes l) = lt-ltb (e + w) (d + v) (omega arith) ∙ sym (lt-ltb e d l)
    go (no l) = le-ltb (e + w) (d + v) (omega arith) ∙ sym (le-ltb e d (omega arith))

kept : (f : ℕ → ℕ) (v w : ℕ) (b : Bool) → keep_n b (key_of f v) (key_of f w) ≡ key_of f (keep_n b v w)
kept f v w true = refl
kept f v w false = refl

module _ (f : ℕ → ℕ) (same : (v w : ℕ) → f v % 256 ≡ f w % 256) where
  key_step : (k : ℕ) → k < 256 → lesser_of (key_of f (least f (k - 1))) (key_of f k) ≡ key_of f (least f k)
  unfolding least
  key_step zero h = lesser-self (key_of f 0)
  key_step (suc m) h =
      let v = least f m in
      let one_less : suc m - 1 ≡ m = omega arith in
      ap (λ (n : ℕ). lesser_of (key_of f (least f n)) (key_of f (suc m))) one_less
      ∙ ap (λ (b : Bool). keep_n b (key_of f v) (key_of f (suc m))) (same_test (f v) (f (suc m)) v (suc m) (same v (suc m)) (omega (arith, (least-is f m).low)) h)
      ∙ kept f v (suc m) (ltb (f (suc m)) (f v))

-- the distances of a received point from the points of a label
round-rest : (h : Spot) (l v w : ℕ) → round_distance h l v % 256 ≡ round_distance h l w % 256
unfolding round_distance
round-rest h l v w = same_rest h (point_of l v) (point_of l w)

-- the keys of a turned point, by the received point turned back
pub turned-keys : (h h1 h2 h3 : Spot) (p : Point) (w a c b d : ℕ)
    → h1 ≡ turned_back h → h2 ≡ turned_back h1 → h3 ≡ turned_back h2 → a ≡ distance h p → c ≡ distance h1 p → b ≡ distance h2 p → d ≡ distance h3 p
    → record { a = a + w; c = c + w; b = b + w; d = d + w } ≡ keys_from h p w
unfolding keys_from
turned-keys h h1 h2 h3 p w a c b d e1 e2 e3 f0 f1 f2 f3 =
    cc (back h p, back h (turned p), back h1 p, back h (turned (turned p)), back h1 (turned p), back h2 p)

pub first-keys : (h : Spot) → keys_from h (a_point 0) 0 ≡ least_keys h 0
unfolding keys_from least_keys round_distance point_of least
first-keys h = refl

pub next_keys : (h : Spot) (k : ℕ) → k < 256 → lesser_keys (least_keys h k) (keys_from h (a_point k) k) ≡ least_keys h (k + 1)
unfolding lesser_keys least_keys keys_from round_distance point_of
next_keys h k g =
    let here : k + 1 - 1 ≡ k = omega arith in
    cc (step 0, step 1, step 2, step 3)
  where
    step : (l : ℕ) → lesser_of (key_of (round_distance h l) (least (round_distance h l) (k - 1))) (key_of (round_distance h l) k)
        ≡ key_of (round_distance h l) (least (round_distance h l) k)
    step l = key_step (round_distance h l) (round-rest h l) k g

abbrev pub near_key : ℕ → Spot → ℕ → ℕ
near_key u h l = gap_of u round_distance h l + near u round_distance h l

pub keys-near : (u : ℕ) (h : Spot) → least_keys h (2 ^ u) ≡ keys_of (near_key u h)
unfolding least_keys near gap_of
keys-near u h = refl

-- number and distance, read off a key
module _ (u : ℕ) (h : Spot) (g : u ≤ 8) (l : ℕ) where
  gap-rest : gap_of u round_distance h l % 256 ≡ distance h (a_point 0) % 256
  unfolding gap_of round_distance
  gap-rest = same_rest h (point_of l (near u round_distance h l)) (a_point 0)

  near-listed : near u round_distance h l < 256
  unfolding near
  near-listed = let e : 2 ^ u ≤ 256 = pow_mono g in omega (arith, (least-is (round_distance h l) (2 ^ u - 1)).low, pow_pos u)

  -- a key of the nearest number, and a distance that leaves the remainder
  module _ (key first : ℕ) (e : key ≡ near_key u h l) (f : first ≡ distance h (a_point 0)) where
    same : gap_of u round_distance h l % 256 ≡ first % 256
    same = gap-rest ∙ ap (λ (n : ℕ). n % 256) (sym f)

    pub rest_le : first % 256 ≤ key
    rest_le = omega (arith, same)

    number_is : (key - first % 256) % 256 ≡ near u round_distance h l
    number_is = omega (arith, same, near-listed)

    pub read : candidate_of key (first % 256) ≡ record { w = near u round_distance h l; d = gap_of u round_distance h l }
    read = ap₂ (λ (w d : ℕ). record { w = w; d = d }) number_is (omega (arith, number_is))
