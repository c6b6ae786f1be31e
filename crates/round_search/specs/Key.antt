-- The keys by which the search goes, one for each label. That the least key is the nearest number and its distance is proved in
-- proofs/Keys.
--   round_distance h l w   the squared distance of the spot h from the point with label l and number w
--   turned_back h       h after a quarter turn back: what clockwise takes to h
--   keys_of f           f at the four labels
--   keys_from h p w     the keys of p turned no, one, two and three times: distance plus number
--   lesser_of x y       the smaller of two numbers; lesser_keys, label by label
--   key_of f w          the key of the number w: its distance f w plus w
--   least_keys h n      for each label the key of the nearest number below n
--   candidate_of key r  number and distance of a key, where r is the distances' remainder modulo 256
use Rattle.std.specs.Prelude.{ℕ, ◌+◌, ◌-◌, ◌%◌, ltb, neg_ℤ}
use Rattle.points.specs.declared.Point.{Point}
use Rattle.points.specs.Turn.{turns, point_of}
use Rattle.trellis.specs.Pick.{keep_n, least}
use Rattle.distance.specs.declared.Spot.{Spot}
use Rattle.round_columns.specs.declared.Keys.{Keys}
use Rattle.distance.specs.declared.Candidate.{Candidate}
use Rattle.distance.specs.Distance.{distance}

unfoldable pub round_distance : Spot → ℕ → ℕ → ℕ
round_distance h l w = distance h (point_of l w)

unfoldable pub turned_back : Spot → Spot
turned_back h = record { x = neg_ℤ h.y; y = h.x }

abbrev pub keys_of : (ℕ → ℕ) → Keys
keys_of f = record { a = f 0; c = f 1; b = f 2; d = f 3 }

unfoldable pub keys_from : Spot → Point → ℕ → Keys
keys_from h p w = keys_of (λ l. distance h (turns l p) + w)

abbrev pub lesser_of : ℕ → ℕ → ℕ
lesser_of x y = keep_n (ltb y x) x y

unfoldable pub lesser_keys : Keys → Keys → Keys
lesser_keys x y = record { a = lesser_of x.a y.a; c = lesser_of x.c y.c; b = lesser_of x.b y.b; d = lesser_of x.d y.d }

abbrev pub key_of : (ℕ → ℕ) → ℕ → ℕ
key_of f w = f w + w

unfoldable pub least_keys : Spot → ℕ → Keys
least_keys h n = keys_of (λ l. key_of (round_distance h l) (least (round_distance h l) (n - 1)))

abbrev pub candidate_of : ℕ → ℕ → Candidate
candidate_of key rest = record { w = (key - rest) % 256; d = key - (key - rest) % 256 }
