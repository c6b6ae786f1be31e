-- A line that loses points: what is heard of a point is near it, or the point is missing; and after a dropout come whole symbols. Lists are
-- in the order of time.
--   is_missing h       the received point h is missing
--   missing_of r       how many points of the received symbol r are missing; is_whole r, none; lost_both r, both
--   IfHeard P r p     the received point r is missing, or P holds of the spot heard and of the point p
--   Partly P rs ps    P holds of each point of rs that was heard and of the point sent in its place; ps are the coordinates that a sender
--                     wrote, two for each point, and may go on after rs
--   rested o rs       the rule, where o whole symbols must come first
--   all_whole rs       no point is missing
--   fixed b rs        with a free start the first four symbols are whole; with a named start nothing is asked
use Rattle.std.specs.Prelude.{Bool, true, false, cond, ◌&&◌, List, [], ◌∷◌, ℕ, zero, suc, ◌+◌, eqb, ℤ, take}
use Rattle.points.specs.declared.Point.{Point}
use Rattle.trellis.specs.Measure.{Start, free, named, Two}
use Rattle.distance.specs.declared.Spot.{Spot}
use Rattle.nearest.specs.declared.Received.{Received}
use Rattle.nearest.specs.declared.Received.TheVariants.{Heard, Missing}

-- "A sample is either heard .. or missing" (02, Wish 4)
abbrev pub is_missing : Received → Bool
is_missing (Heard h) = false
is_missing Missing = true

-- "A symbol may miss either point or both" (02, Wish 4)
abbrev pub missing_of : Two Received → ℕ
missing_of r = cond (is_missing r.first) 1 0 + cond (is_missing r.second) 1 0

abbrev pub is_whole : Two Received → Bool
is_whole r = eqb (missing_of r) 0

abbrev pub lost_both : Two Received → Bool
lost_both r = is_missing r.first && is_missing r.second

-- of a missing point nothing is asked
abbrev pub IfHeard : (Spot → Point → Type 0) → Received → Point → Type 0
IfHeard P (Heard h) p = P h p
IfHeard P Missing p = Unit {0}

abbrev pub Partly : (Spot → Point → Type 0) → List (Two Received) → List ℤ → Type 0
Partly P [] ps = Unit {0}
Partly P (r ∷ rs) [] = ⊥
Partly P (r ∷ rs) (a ∷ []) = ⊥
Partly P (r ∷ rs) (a ∷ b ∷ []) = ⊥
Partly P (r ∷ rs) (a ∷ b ∷ c ∷ []) = ⊥
Partly P (r ∷ rs) (a ∷ b ∷ c ∷ d ∷ ps) = IfHeard P r.first (record { x = a; y = b }) × IfHeard P r.second (record { x = c; y = d }) × Partly P rs ps

-- "after a symbol that misses one point comes a whole one, and after one that misses both come two whole ones"; at the end of the line too
abbrev pub rested : ℕ → List (Two Received) → Bool
rested zero [] = true
rested (suc o) [] = false
rested zero (r ∷ rs) = rested (missing_of r) rs
rested (suc o) (r ∷ rs) = is_whole r && rested o rs

abbrev pub all_whole : List (Two Received) → Bool
all_whole [] = true
all_whole (r ∷ rs) = is_whole r && all_whole rs

-- "With a free start the same if the first four symbols are whole": they fix the state in which the line is joined. Of a line with fewer symbols all are
abbrev pub fixed : Start → List (Two Received) → Bool
fixed free rs = all_whole (take 4 rs)
fixed (named n) rs = true
