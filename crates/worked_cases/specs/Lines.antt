-- Short lines as one table: 01's rows that concern the receiver's answer, and some where ties decide; what is heard, which words are final
-- then, and the words of the answer; then a line that a spark struck. That each row holds is computed in proofs/Lines.
--   heard_at a b    a received point by its two coordinates
--   heard a b c d  a received symbol by its four coordinates
--   Row            map and width, start, what is heard (the oldest first), the words spoken, the words of the answer
--   Holds n r      the row holds where distances count by n
--   table          the rows
--   whole          a distance counts for all of it, as before 02's Wish 8
--   sent, struck   six words; what is heard of them, of the third one's first point a spark
--   misled, healed the rows of `struck`: where distances count whole, and where they are counted
--   beyond, midway   rows of one symbol: beyond the cap, and midway between points
use Rattle.std.specs.Prelude.{◌≡◌, List, [], ◌∷◌, map, reverse, ℕ, zero, suc, ℤ, pos, negsuc, neg_ℤ, replicate}
use Rattle.wei.specs.Symbol.{symbols_from}
use Rattle.points.specs.declared.Map.TheVariants.{Square}
use Rattle.points.specs.declared.Accord.{Accord}
use Rattle.points.specs.declared.Point.{Point}
use Rattle.points.specs.Agreed.{of_width}
use Rattle.trellis.specs.Measure.{Start, free, named, Two, pairs}
use Rattle.trellis.specs.Pick.{best_of}
use Rattle.trellis.specs.IvEight.{points_of}
use Rattle.trellis.specs.Said.{spoken_words, answer_words}
use Rattle.distance.specs.Distance.{on_line}
use Rattle.nearest.specs.declared.Received.{Received}
use Rattle.nearest.specs.declared.Received.TheVariants.{Heard}
use Rattle.nearest.specs.Line.{line_distance}

abbrev pub heard_at : ℤ → ℤ → Received
heard_at a b = Heard (record { x = a; y = b })

abbrev pub heard : ℤ → ℤ → ℤ → ℤ → Two Received
heard a b c d = record { first = heard_at a b; second = heard_at c d }

pub record Row : Type 0 where
  pub line : Accord
  pub start : Start
  pub received : List (Two Received)
  pub spoken : List ℕ
  pub answer : List ℕ

abbrev pub Holds : (ℕ → ℕ) → Row → Type 0
Holds n r =
    let u = r.line.u in
    let d = line_distance r.line in
    (spoken_words u (pairs Received d n) (best_of u d n) r.start (reverse r.received) ≡ r.spoken)
    × (answer_words u (pairs Received d n) (best_of u d n) r.start (reverse r.received) ≡ r.answer)

-- all zeros; on the points (A, A) of number 0; at the corner of what can be heard
abbrev pub zeros : Two Received
zeros = heard (pos 0) (pos 0) (pos 0) (pos 0)

abbrev pub on_aa : Two Received
on_aa = heard (pos 128) (pos 128) (pos 128) (pos 128)

abbrev pub corner : Two Received
corner = heard (pos 8192) (pos 8192) (pos 8192) (pos 8192)

-- on the point B of number 0, then on the point C of number 0
abbrev pub halfway : Two Received
halfway = heard (neg_ℤ (pos 128)) (neg_ℤ (pos 128)) (pos 128) (neg_ℤ (pos 128))

-- on two points A of width 2: (1,-3) and (-3,1)
abbrev pub aside : Two Received
aside = heard (pos 128) (neg_ℤ (pos 384)) (neg_ℤ (pos 384)) (pos 128)

unfoldable pub table : List Row
table =
    -- "Received all zeros once, u 0, free start, finish: word 0"
    (record { line = of_width 0; start = free; received = zeros ∷ []; spoken = []; answer = 0 ∷ [] })
    -- "(128,128,128,128) twice: .. none released, finish writes 0, 0"
    ∷ (record { line = of_width 0; start = free; received = on_aa ∷ on_aa ∷ []; spoken = []; answer = 0 ∷ 0 ∷ [] })
    -- ties everywhere: the smaller states decide; the first is final after the third, free or named
    ∷ (record { line = of_width 0; start = free; received = zeros ∷ zeros ∷ []; spoken = []; answer = 0 ∷ 0 ∷ [] })
    ∷ (record { line = of_width 0; start = free; received = zeros ∷ zeros ∷ zeros ∷ []; spoken = 0 ∷ []; answer = 0 ∷ 0 ∷ 0 ∷ [] })
    ∷ (record { line = of_width 0; start = named 0; received = zeros ∷ zeros ∷ zeros ∷ []; spoken = 0 ∷ []; answer = 0 ∷ 0 ∷ 0 ∷ [] })
    -- symbols agree before states meet; what is far from all points says nothing
    ∷ (record { line = of_width 0; start = free; received = on_aa ∷ zeros ∷ []; spoken = 0 ∷ []; answer = 0 ∷ 0 ∷ [] })
    ∷ (record { line = of_width 0; start = free; received = corner ∷ zeros ∷ []; spoken = []; answer = 0 ∷ 0 ∷ [] })
    -- a named start that cannot send what is heard: the nearer type has I3' = 1
    ∷ (record { line = of_width 0; start = named 5; received = on_aa ∷ on_aa ∷ []; spoken = []; answer = 6 ∷ 2 ∷ [] })
    -- halfway between the two points B of width 1, which start 0 must take: the smaller number
    ∷ (record { line = of_width 1; start = named 0; received = halfway ∷ []; spoken = []; answer = 4 ∷ [] })
    -- the same points have other numbers on the other map: 2 and 1 on the round one, 1 and 2 on the square one
    ∷ (record { line = of_width 2; start = named 0; received = aside ∷ []; spoken = []; answer = 48 ∷ [] })
    ∷ (record { line = record { map = Square; u = 2 }; start = named 0; received = aside ∷ []; spoken = []; answer = 72 ∷ [] })
    -- clean (A, A), free start: what is final after seven, eight and nine
    ∷ (record { line = of_width 0; start = free; received = replicate 7 on_aa; spoken = replicate 1 0; answer = replicate 7 0 })
    ∷ (record { line = of_width 0; start = free; received = replicate 8 on_aa; spoken = replicate 3 0; answer = replicate 8 0 })
    ∷ (record { line = of_width 0; start = free; received = replicate 9 on_aa; spoken = replicate 5 0; answer = replicate 9 0 })
    ∷ []

-- ── a spark: one point of a clean line at (8192, 8192) ──
unfoldable pub whole : ℕ → ℕ
whole n = n

abbrev pub sent : List ℕ
sent = 7 ∷ 6 ∷ 3 ∷ 1 ∷ 7 ∷ 0 ∷ []

abbrev pub sent_to : Point → Received
sent_to p = heard_at (on_line p.x) (on_line p.y)

-- what is heard of a sender at width 0 that starts in state 0, if nothing disturbs it
abbrev pub clean : List ℕ → List (Two Received)
clean ns = map (λ c. let p = points_of c in record { first = sent_to p.first; second = sent_to p.second }) (symbols_from 0 0 0 ns)

abbrev pub spark : Two Received → Two Received
spark y = record { first = corner.first; second = y.second }

abbrev pub struck_at : ℕ → List (Two Received) → List (Two Received)
struck_at k [] = []
struck_at zero (y ∷ ys) = spark y ∷ ys
struck_at (suc k) (y ∷ ys) = y ∷ struck_at k ys

abbrev pub struck : List (Two Received)
struck = struck_at 2 (clean sent)

-- counted whole, the spark forces its point to A: three words are wrong. Ties go by 02's order, as everywhere here; at width 0 a label
-- has one point, so it is 01's order too
abbrev pub misled : Row
misled = record { line = of_width 0; start = named 0; received = struck; spoken = 7 ∷ []; answer = 7 ∷ 6 ∷ 5 ∷ 7 ∷ 6 ∷ 0 ∷ [] }

abbrev pub healed : Row
healed = record { line = of_width 0; start = named 0; received = struck; spoken = 7 ∷ 6 ∷ []; answer = sent }

-- the word 4 of width 0 has the point (-1, -1) twice. Heard at the corner (-8192, -8192) no other point is as near, but each distance counts for
-- the cap and no more, so all symbols tie: of those with I3' 0 and 1 the first wins, and the word is 0
abbrev pub beyond : Row
beyond = let z = negsuc 8191 in record { line = of_width 0; start = named 0; received = heard z z z z ∷ []; spoken = []; answer = 0 ∷ [] }

-- the same word heard at (0, 0), 128 line units off in each coordinate: all points of width 0 are as near
abbrev pub midway : Row
midway = record { line = of_width 0; start = named 0; received = zeros ∷ []; spoken = []; answer = 0 ∷ [] }
