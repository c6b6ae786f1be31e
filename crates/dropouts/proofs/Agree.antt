-- What was heard is nowhere further from the symbol sent than from another, and is as near only to symbols that have the sent points where points
-- were heard. So the answer, which costs no more than what was sent, has every heard point as it was sent.
--   Same h l w m v      where h was heard, the labels l and m are one, and the numbers w and v
--   Agrees r c d        the symbols c and d have the same points where points of r were heard
--   LeastAt k r d       no symbol is nearer to r than d, and as near are only those that agree with d
--   PartlyAt k P r c    P holds of the heard points of r and those of the symbol c
--   partly-along        what was heard stands beside the symbols sent
--   partly-least        and no symbol is nearer to it than the one sent
--   answer-agrees       the answer agrees with what was sent
use mathlib.Core.Path.{◌≡◌, sym, ap₂, subst}
use mathlib.Core.Bool.{true}
use mathlib.Core.List.{List, [], ◌∷◌, ◌++◌, reverse, reverse-cons, reverse-reverse}
use Prim.Native.Nat.{ℕ, ◌+◌, ◌^◌, ◌≤◌, ◌<◌}
use native.Mathlib.Decide.{ℕ_discrete}
use native.Mathlib.Omega.{arith}
use lib.Dec.{T}
use lib.ListN.{length, take}
use Rattle.wei.specs.State.{next_state}
use Rattle.wei.specs.Symbol.{Symbol, first_label, last_label, Valid, AllowedFrom, symbol_of, symbols_from}
use Rattle.points.specs.declared.Accord.{Accord}
use Rattle.points.specs.declared.Point.{Point}
use Rattle.points.specs.Agreed.{is_accord}
use Rattle.maps.specs.PointMap.{point_at, first_at, second_at}
use Rattle.maps.proofs.Both.{is-map}
use Rattle.trellis.specs.Lists.{Every}
use Rattle.trellis.specs.Code.{Code, Path, begin, step, symbols, Allowed, cost}
use Rattle.trellis.specs.Best.{Answer}
use Rattle.trellis.specs.Measure.{Start, may_start, Two, cap, counted, first_far, second_far, far_of}
use Rattle.distance.specs.declared.Spot.{Spot}
use Rattle.distance.specs.Distance.{distance}
use Rattle.nearest.specs.declared.Received.{Received}
use Rattle.nearest.specs.declared.Received.TheVariants.{Heard, Missing}
use Rattle.nearest.specs.Line.{line_distance, line_measure}
use Rattle.receiver_meaning.specs.Told.{code_of}
use Rattle.sender.specs.Send.{four}
use Rattle.sender.specs.Run as sender
use Rattle.trellis.specs.Along.{Along}
use Rattle.promises.specs.Noise.{OnlyNearest}
use Rattle.trellis.proofs.Sent.{AlongPath, along-valid, sent-path}
use Rattle.promises.proofs.Points.{first_below, last-below}
use Rattle.promises.proofs.Carried.{Serves}
use Rattle.dropouts.specs.Gaps.{IfHeard, Partly}
use Rattle.dropouts.proofs.Beside.{Beside, beside_snoc}

abbrev pub Same : Received → ℕ → ℕ → ℕ → ℕ → Type 0
Same (Heard h) l w m v = (l ≡ m) × (w ≡ v)
Same Missing l w m v = Unit {0}

pub record Agrees (r : Two Received) (c d : Symbol) : Type 0 where
  pub first-same : Same r.first (first_label c) c.w1 (first_label d) d.w1
  pub second-same : Same r.second (last_label c) c.w2 (last_label d) d.w2

pub record LeastAt (k : Accord) (r : Two Received) (d : Symbol) : Type 0 where
  pub least : (c : Symbol) → Valid k.u c → (line_measure k).far r d ≤ (line_measure k).far r c
  pub only : (c : Symbol) → Valid k.u c → (line_measure k).far r c ≤ (line_measure k).far r d → Agrees r c d

pub record PartlyAt (k : Accord) (P : Spot → Point → Type 0) (r : Two Received) (c : Symbol) : Type 0 where
  pub at_first : IfHeard P r.first (first_at k c)
  pub at_second : IfHeard P r.second (second_at k c)

-- from the coordinates that a sender wrote to its symbols, from any state and turn
pub partly-along : (k : Accord) (P : Spot → Point → Type 0) (s q : ℕ) (ns : List ℕ) (rs : List (Two Received)) → Partly P rs (sender.coordinates_of k (symbols_from k.u s q ns)) →
    Along (PartlyAt k P) rs (symbols_from k.u s q (take (length rs) ns))
unfolding symbols_from four
partly-along k P s q ns [] h = tt
partly-along k P s q [] (r ∷ rs) h = absurd h
partly-along k P s q (n ∷ ns) (r ∷ rs) h =
    let c = symbol_of k.u s q n in
    (record { at_first = h.0; at_second = h.1 }, partly-along k P (next_state s c.i1 c.i2) (first_label c) ns rs h.2)

-- ---- one point

counted-less : (a b : ℕ) → a < b → a < cap → counted a < counted b
unfolding counted
counted-less a b h k = omega arith

module _ (k : Accord) (g : is_accord k ≡ true) (P : Spot → Point → Type 0) (S : Serves k P) where
  -- the point with label m and number v was sent
  module _ (m v : ℕ) (hm : m < 4) (hv : v < 2 ^ k.u) where
    record NoNearer (h : Received) (l w : ℕ) : Type 0 where
      near : counted (line_distance k h m v) ≤ counted (line_distance k h l w)
      same : counted (line_distance k h l w) ≤ counted (line_distance k h m v) → Same h l w m v

    point-near : (h : Received) → IfHeard P h (point_at k m v) → (l w : ℕ) → l < 4 → w < 2 ^ k.u → NoNearer h l w
    unfolding line_distance
    point-near Missing z l w hl hw = record { near = omega arith; same = λ _. tt }
    point-near (Heard h) z l w hl hw = go (ℕ_discrete l m) (ℕ_discrete w v)
      where
        a : OnlyNearest k h (point_at k m v)
        a = S h m v hm hv z

        other : (point_at k l w ≡ point_at k m v → ⊥) → NoNearer (Heard h) l w
        other n =
            let t : counted (distance h (point_at k m v)) < counted (distance h (point_at k l w)) =
            counted-less (distance h (point_at k m v)) (distance h (point_at k l w)) (a.nearer l w hl hw n) a.counts in
            record { near = omega arith; same = λ e. absurd (omega arith) }

        go : Dec (l ≡ m) → Dec (w ≡ v) → NoNearer (Heard h) l w
        go (yes e) (yes f) =
            let t : counted (distance h (point_at k l w)) ≡ counted (distance h (point_at k m v)) = ap₂ (λ (x y : ℕ). counted (distance h (point_at k x y))) e f in
            record { near = omega arith; same = λ _. (e, f) }
        go (yes e) (no f) = other (λ p. f ((is-map k.map).apart k.u l m w v g hl hm hw hv p).1)
        go (no e) d = other (λ p. e ((is-map k.map).apart k.u l m w v g hl hm hw hv p).0)

  -- ---- one symbol
  symbol-least : (r : Two Received) (d : Symbol) → Valid k.u d → PartlyAt k P r d → LeastAt k r d
  unfolding first_at second_at far_of first_far second_far
  symbol-least r d vd z =
      record {
        least = λ c vc. omega (arith, (one c vc).near, (two c vc).near);
        only = λ c vc e. record { first-same = (one c vc).same (omega (arith, (two c vc).near)); second-same = (two c vc).same (omega (arith, (one c vc).near)) };
      }
    where
      one : (c : Symbol) → Valid k.u c → NoNearer (first_label d) d.w1 (first_below k.u d vd) vd.w1-below r.first (first_label c) c.w1
      one c vc = point-near (first_label d) d.w1 (first_below k.u d vd) vd.w1-below r.first z.at_first (first_label c) c.w1 (first_below k.u c vc) vc.w1-below

      two : (c : Symbol) → Valid k.u c → NoNearer (last_label d) d.w2 (last-below d) vd.w2-below r.second (last_label c) c.w2
      two c vc = point-near (last_label d) d.w2 (last-below d) vd.w2-below r.second z.at_second (last_label c) c.w2 (last-below c) vc.w2-below

  pub partly-least : (rs : List (Two Received)) (ds : List Symbol) → Every (Valid k.u) ds → Along (PartlyAt k P) rs ds → Along (LeastAt k) rs ds
  partly-least = along-valid (Valid k.u) (PartlyAt k P) (LeastAt k) symbol-least

-- ---- sequences

module _ (k : Accord) (b : Start) where
  abbrev K : Code
  K = code_of k b

  abbrev far : Two Received → Symbol → ℕ
  far = (line_measure k).far

  least-agrees : (ys : List (Two Received)) (p q : Path Symbol) → Allowed K ys p → Allowed K ys q → AlongPath (LeastAt k) ys q →
      (cost K ys q ≤ cost K ys p) × (cost K ys p ≤ cost K ys q → Beside Agrees (reverse ys) (symbols p) (symbols q))
  least-agrees [] (begin s) (begin t) a c h = (omega arith, λ _. tt)
  least-agrees [] (begin s) (step q d t) a c h = absurd c
  least-agrees [] (step p e s) q a c h = absurd a
  least-agrees (y ∷ ys) (begin s) q a c h = absurd a
  least-agrees (y ∷ ys) (step p e s) (begin t) a c h = absurd c
  least-agrees (y ∷ ys) (step p e s) (step q d t) a c h = go (least-agrees ys p q a.2 c.2 h.1)
    where
      l : far y d ≤ far y e
      l = h.0.least e a.1.valid

      go : (cost K ys q ≤ cost K ys p) × (cost K ys p ≤ cost K ys q → Beside Agrees (reverse ys) (symbols p) (symbols q)) →
          (cost K ys q + far y d ≤ cost K ys p + far y e) × (cost K ys p + far y e ≤ cost K ys q + far y d → Beside Agrees (reverse (y ∷ ys)) (symbols p ++ (e ∷ [])) (symbols q ++ (d ∷ [])))
      go (m, i) = (
        omega (arith, l),
        λ z. subst (λ (xs : List (Two Received)). Beside Agrees xs (symbols p ++ (e ∷ [])) (symbols q ++ (d ∷ []))) (sym (reverse-cons y ys))
            (beside_snoc Agrees (reverse ys) (symbols p) (symbols q) y e d (i (omega (arith, l))) (h.0.only e a.1.valid (omega (arith, m)))),
      )

  -- what was sent from the state s
  pub answer-agrees : (s : ℕ) → s < 16 → T (may_start b s) → (xs : List (Two Received)) (ds : List Symbol) → Along (LeastAt k) xs ds → AllowedFrom k.u s ds →
      (p : Path Symbol) → Answer (code_of k b) (reverse xs) p → Beside Agrees xs (symbols p) ds
  answer-agrees s h t xs ds l a p A =
      let q = sent-path k.u (line_measure k) b (LeastAt k) s h t xs ds l a in
      let z : Beside Agrees (reverse (reverse xs)) (symbols p) (symbols q.path) =
      (least-agrees (reverse xs) p q.path A.allowed q.allowed q.along).1 (A.least q.path q.allowed).by-sum in
      rw (reverse-reverse, q.symbols-are) at z
