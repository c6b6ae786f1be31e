-- `search`: the least keys are those of the nearest numbers, and number and distance are read off each.
use Rattle.std.proofs.Common.{ℕ, ◌%◌, ◌^◌, ◌≤◌, ◌≡◌, [], ◌∷◌, refl, sym, ap, subst, ◌∙◌, arith}
use Rattle.points.specs.declared.Point.{Point}
use Rattle.points.specs.Points.{a_point}
use Rattle.points.specs.Turn.{Small}
use Rattle.points.proofs.Rule.{small}
use Rattle.trellis.specs.Pick.{near, gap_of}
use Rattle.distance.specs.declared.Spot.{Spot}
use Rattle.distance.specs.declared.Candidate.{Candidate}
use Rattle.distance.specs.declared.Found.{Found}
use Rattle.distance.specs.Distance.{distance}
use Rattle.distance.specs.Found.{found_by}
use Rattle.round_columns.specs.declared.Keys.{Keys}
use Rattle.round_search.specs.Key.{round_distance, keys_of, least_keys, candidate_of}
use Rattle.round_search.proofs.Keys.{near_key, rest_le, read, keys-near}
use Rattle.round_search.proofs.search.Goals as goal

-- what is found for a label
abbrev found : ℕ → Spot → ℕ → Candidate
found u h l = record { w = near u round_distance h l; d = gap_of u round_distance h l }

-- what reading off asks and gives, for each label
module _ (u : ℕ) (h : Spot) (p : Point) (rest : ℕ) (k : Keys) (small-u : u ≤ 8) (a : p ≡ a_point 0) (b : rest ≡ distance h p) (e : k ≡ least_keys h (2 ^ u)) where
  rest-is : rest ≡ distance h (a_point 0)
  rest-is = b ∙ ap (distance h) a

  module _ (l : ℕ) (f : Keys → ℕ) (at : f (keys_of (near_key u h)) ≡ near_key u h l) where
    key-is : f k ≡ near_key u h l
    key-is = ap f (e ∙ keys-near u h) ∙ at

    asked : rest % 256 ≤ f k
    asked = rest_le u h small-u l (f k) rest key-is rest-is

    given : (r : Candidate) → r ≡ candidate_of (f k) (rest % 256) → r ≡ found u h l
    given r is = is ∙ read u h small-u l (f k) rest key-is rest-is

pub distance_from-rest-requires : goal.distance_from-rest-requires
distance_from-rest-requires c = (c.requires.2, subst Small (sym c.near_point.ensures) (small 0 (omega arith)))

pub read_off-requires : goal.read_off-requires
read_off-requires c =
    asked c.args.u c.args.h c.near_point.result c.distance_from-rest.result c.keys_below-keys.result c.requires.1 c.near_point.ensures c.distance_from-rest.ensures c.keys_below-keys.ensures 0 (λ k. k.a) refl

pub read_off-requires-2 : goal.read_off-requires-2
read_off-requires-2 c =
    asked c.args.u c.args.h c.near_point.result c.distance_from-rest.result c.keys_below-keys.result c.requires.1 c.near_point.ensures c.distance_from-rest.ensures c.keys_below-keys.ensures 1 (λ k. k.c) refl

pub read_off-requires-3 : goal.read_off-requires-3
read_off-requires-3 c =
    asked c.args.u c.args.h c.near_point.result c.distance_from-rest.result c.keys_below-keys.result c.requires.1 c.near_point.ensures c.distance_from-rest.ensures c.keys_below-keys.ensures 2 (λ k. k.b) refl

pub read_off-requires-4 : goal.read_off-requires-4
read_off-requires-4 c =
    asked c.args.u c.args.h c.near_point.result c.distance_from-rest.result c.keys_below-keys.result c.requires.1 c.near_point.ensures c.distance_from-rest.ensures c.keys_below-keys.ensures 3 (λ k. k.d) refl

-- the four candidates, as rows
rows : (u : ℕ) (h : Spot) (a c b d : Candidate) → a ≡ found u h 0 → c ≡ found u h 1 → b ≡ found u h 2 → d ≡ found u h 3 →
    ◌≡◌ {A = Found} (record { w = a.w ∷ c.w ∷ b.w ∷ d.w ∷ []; d = a.d ∷ c.d ∷ b.d ∷ d.d ∷ [] }) (found_by u round_distance h)
unfolding found_by
rows u h a c b d p q r s = rw (p, q, r, s)

pub returns : goal.returns
returns c =
    let g = given c.args.u c.args.h c.near_point.result c.distance_from-rest.result c.keys_below-keys.result c.requires.1 c.near_point.ensures c.distance_from-rest.ensures c.keys_below-keys.ensures in
    c.of.ensures
    ∙ rows c.args.u c.args.h c.read_off.result c.read_off-2.result c.read_off-3.result c.read_off-4.result
    (g 0 (λ k. k.a) refl c.read_off.result c.read_off.ensures)
    (g 1 (λ k. k.c) refl c.read_off-2.result c.read_off-2.ensures)
    (g 2 (λ k. k.b) refl c.read_off-3.result c.read_off-3.ensures)
    (g 3 (λ k. k.d) refl c.read_off-4.result c.read_off-4.ensures)
