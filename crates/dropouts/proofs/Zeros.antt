-- What ties decide. Each symbol of the answer is the first of its subset, so a missing point's number is 0, and I3' is 0 where both points
-- are missing.
--   Zero h w          where the received point h is missing, the number w is 0
--   Zeroed r c        the symbol c has these zeros beside the received symbol r
--   answer-zeroed     the answer has them
use mathlib.Core.Path.{◌≡◌, refl, sym, ap}
use mathlib.Core.Bool.{true}
use mathlib.Core.List.{List, [], ◌∷◌, ◌++◌, reverse, reverse-cons}
use Prim.Native.Nat.{ℕ, ◌^◌, ◌<◌}
use native.Mathlib.Omega.{arith}
use lib.Pow.{pow_pos}
use Rattle.wei.specs.State.{bit_w4, carry_i1, carry_i2}
use Rattle.wei.specs.Symbol.{Symbol, last_label, Valid}
use Rattle.wei.proofs.States.{carry_i1-below, carry_i2-below}
use Rattle.points.specs.declared.Accord.{Accord}
use Rattle.trellis.specs.Code.{Path, begin, step, last, symbols}
use Rattle.trellis.specs.Best.{Best, Answer}
use Rattle.trellis.specs.Measure.{Start, Two, First, first_far, second_far, far_of}
use Rattle.trellis.specs.Search.{Search, Laws}
use Rattle.trellis.specs.Same.{same_symbol}
use Rattle.trellis.specs.Pick.{wei_search}
use Rattle.trellis.proofs.Answer.{answer-best}
use Rattle.trellis.proofs.Final.{came}
use Rattle.trellis.proofs.WeiLaws.{wei-laws}
use Rattle.nearest.specs.declared.Received.{Received}
use Rattle.nearest.specs.declared.Received.TheVariants.{Heard, Missing}
use Rattle.nearest.specs.Found.{heard_as}
use Rattle.nearest.specs.Line.{line_distance, line_measure, line_choice}
use Rattle.nearest.proofs.Laws.{line-chooses}
use Rattle.receiver_meaning.specs.Told.{code_of}
use Rattle.trellis.specs.Along.{Along}
use Rattle.dropouts.specs.Gaps.{lost_both}
use Rattle.dropouts.proofs.Beside.{along-snoc}

abbrev pub Zero : Received → ℕ → Type 0
Zero (Heard h) w = Unit {0}
Zero Missing w = w ≡ 0

pub record Zeroed (r : Two Received) (c : Symbol) : Type 0 where
  pub first-zero : Zero r.first c.w1
  pub second-zero : Zero r.second c.w2
  pub type-zero : lost_both r ≡ true → c.i3 ≡ 0

module _ (k : Accord) where
  -- another type, other numbers, in the same subset
  abbrev other : Symbol → ℕ → ℕ → ℕ → Symbol
  other c i3 w1 w2 = record { y0 = c.y0; i1 = c.i1; i2 = c.i2; i3 = i3; w1 = w1; w2 = w2 }

  other-valid : (c : Symbol) (i3 w1 w2 : ℕ) → Valid k.u c → i3 < 2 → w1 < 2 ^ k.u → w2 < 2 ^ k.u → Valid k.u (other c i3 w1 w2)
  other-valid c i3 w1 w2 v a b d = record { y0-below = v.y0-below; i1-below = v.i1-below; i2-below = v.i2-below; i3-below = a; w1-below = b; w2-below = d }

  -- a symbol equally far, with the same or a smaller type and number, would come first
  zero-first : (s : Received) (c : Symbol) → First k.u (line_measure k) (heard_as Missing s) c → c.w1 ≡ 0
  unfolding far_of first_far second_far line_distance last_label
  zero-first s c f =
      let t = f.soonest (other c c.i3 0 c.w2) (other-valid c c.i3 0 c.w2 f.valid f.valid.i3-below (pow_pos k.u) f.valid.w2-below) refl refl refl refl in
      omega (arith, ((t.1 refl).1 refl).0)

  zero-second : (h : Received) (c : Symbol) → First k.u (line_measure k) (heard_as h Missing) c → c.w2 ≡ 0
  unfolding far_of first_far second_far line_distance last_label
  zero-second h c f =
      let t = f.soonest (other c c.i3 c.w1 0) (other-valid c c.i3 c.w1 0 f.valid f.valid.i3-below f.valid.w1-below (pow_pos k.u)) refl refl refl refl in
      omega (arith, ((((t.1 refl).1 refl).1 refl).1 refl).0)

  zero-type : (c : Symbol) → First k.u (line_measure k) (heard_as Missing Missing) c → c.i3 ≡ 0
  unfolding far_of first_far second_far line_distance
  zero-type c f =
      let t = f.soonest (other c 0 c.w1 c.w2) (other-valid c 0 c.w1 c.w2 f.valid (omega arith) f.valid.w1-below f.valid.w2-below) refl refl refl refl in
      omega (arith, t.0)

  first-zeroed : (r : Two Received) (c : Symbol) → First k.u (line_measure k) r c → Zeroed r c
  first-zeroed r c f = go r.first r.second f
    where
      go : (a b : Received) → First k.u (line_measure k) (heard_as a b) c → Zeroed (heard_as a b) c
      go (Heard g) (Heard h) f = record { first-zero = tt; second-zero = tt; type-zero = λ e. absurd (let z : ◌≡◌ {A = ℕ} 0 1 = cc in omega arith) }
      go (Heard g) Missing f = record { first-zero = tt; second-zero = zero-second (Heard g) c f; type-zero = λ e. absurd (let z : ◌≡◌ {A = ℕ} 0 1 = cc in omega arith) }
      go Missing (Heard h) f = record { first-zero = zero-first (Heard h) c f; second-zero = tt; type-zero = λ e. absurd (let z : ◌≡◌ {A = ℕ} 0 1 = cc in omega arith) }
      go Missing Missing f = record { first-zero = zero-first Missing c f; second-zero = zero-second Missing c f; type-zero = λ _. zero-type c f }

  module _ (b : Start) where
    abbrev S : Search (code_of k b)
    S = wei_search k.u (line_measure k) (line_choice k) same_symbol b

    laws : Laws (wei_search k.u (line_measure k) (line_choice k) same_symbol b)
    laws = wei-laws k.u (line_measure k) (line_choice k) (line-chooses k) same_symbol b

    -- what is chosen between two states
    chosen-zeroed : (y : Two Received) (s t : ℕ) → Zeroed y (line_choice k y (bit_w4 s) (carry_i1 s t) (carry_i2 s t))
    chosen-zeroed y s t =
        let c : Symbol = line_choice k y (bit_w4 s) (carry_i1 s t) (carry_i2 s t) in
        first-zeroed y c ((line-chooses k).is-first y (bit_w4 s) (carry_i1 s t) (carry_i2 s t) (omega arith) (carry_i1-below s t) (carry_i2-below s t))

    best-zeroed : (ys : List (Two Received)) (s : ℕ) (p : Path Symbol) → Best (code_of k b) ys s p → Along Zeroed (reverse ys) (symbols p)
    best-zeroed [] s (begin t) g = tt
    best-zeroed [] s (step p c t) g = absurd g.allowed
    best-zeroed (y ∷ ys) s p g =
        let m = came S laws y ys s p g in
        let c : Symbol = line_choice k y (bit_w4 m.from) (carry_i1 m.from s) (carry_i2 m.from s) in
        let e : symbols m.path ++ (c ∷ []) ≡ symbols p = ap symbols m.is in
        let z : Along Zeroed (reverse ys ++ (y ∷ [])) (symbols m.path ++ (c ∷ [])) =
        along-snoc Zeroed (reverse ys) (symbols m.path) y c (best-zeroed ys m.from m.path m.best) (chosen-zeroed y m.from s) in
        rw (reverse-cons y ys, sym e) z

    pub answer-zeroed : (ys : List (Two Received)) (p : Path Symbol) → Answer (code_of k b) ys p → Along Zeroed (reverse ys) (symbols p)
    answer-zeroed ys p a = best-zeroed ys (last p) p (answer-best S laws ys p a)
