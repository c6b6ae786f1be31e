-- The measure of two points: the best symbol of a subset, put together from the nearest number of each label and the nearer of the two
-- types, is the first of its subset. For any distance of a received point from the point with a label and a number, at every width,
-- however distances count, as long as no smaller one counts for more. Two points of a label may then count for as much and be
-- differently far: the nearer one is before, and it is the one that `near` finds.
--   Rises n         by n no smaller distance counts for more
--   near-is         what `near` is: the nearest number below 2^u, the smaller of equals
--   best-first      `best_of` is the first of its subset
--   pairs-chooses   so it chooses for the measure of two points
use mathlib.Core.Path.{◌≡◌, refl, sym, subst, ◌∙◌}
use mathlib.Core.List.{List, [], ◌∷◌}
use Prim.Native.Nat.{ℕ, ◌-◌, ◌^◌, ◌≤◌, ◌<◌}
use native.Mathlib.Omega.{arith}
use lib.Pow.{pow_pos}
use Rattle.trellis.specs.Lists.{LexLe}
use Rattle.trellis.specs.Measure.{First, Two, first_far, second_far, tie_row, far_of, pairs}
use Rattle.trellis.specs.Same.{numbers-fix}
use Rattle.trellis.specs.Pick.{Chooses, near, gap_of, type_sum, best_i3, best_of}
use Rattle.trellis.proofs.Lists.{lex-antisym}
use Rattle.trellis.proofs.Least.{IsLeast, least-is}
use Rattle.wei.specs.Label.{turn_of, second_label}
use Rattle.wei.specs.Symbol.{Symbol, first_label, last_label, Valid}

abbrev pub Rises : (ℕ → ℕ) → Type 0
Rises count = (a b : ℕ) → a ≤ b → count a ≤ count b

module _ {P : Type 0} (u : ℕ) (d : P → ℕ → ℕ → ℕ) where
  pub record IsNear (p : P) (l n : ℕ) : Type 0 where
    pub below : n < 2 ^ u
    pub nearest : (w : ℕ) → w < 2 ^ u → d p l n ≤ d p l w
    pub smallest : (w : ℕ) → w < 2 ^ u → d p l n ≡ d p l w → n ≤ w

  pub near-is : (p : P) (l : ℕ) → IsNear p l (near u d p l)
  unfolding near
  near-is p l =
      let k = least-is (d p l) (2 ^ u - 1) in
      record { below = omega (arith, k.low, pow_pos u); nearest = λ w h. k.is-least w (omega arith); smallest = λ w h. k.is-first w (omega arith) }

  -- the nearest number of a label goes before every other of it, by the true distance and then by the number
  point-first : (p : P) (l w : ℕ) (ns ms : List ℕ) → w < 2 ^ u → LexLe ns ms → LexLe (d p l (near u d p l) ∷ near u d p l ∷ ns) (d p l w ∷ w ∷ ms)
  point-first p l w ns ms h k = ((near-is p l).nearest w h, λ e. ((near-is p l).smallest w h e, λ _. k))

  module _ (count : ℕ → ℕ) (rises : Rises count) where
    -- ── the two types of a subset ──
    module _ (y : Two P) (c : Symbol) (v : Valid u c) where
      abbrev sum : ℕ → ℕ
      sum = type_sum u d count y c.y0 c.i1 c.i2

      abbrev best : Symbol
      best = best_of u d count y c.y0 c.i1 c.i2

      nearer : IsLeast sum 1 (best_i3 u d count y c.y0 c.i1 c.i2)
      unfolding best_i3
      nearer = least-is sum 1

      best-is : far_of P d count y best ≡ sum (best_i3 u d count y c.y0 c.i1 c.i2)
      unfolding far_of first_far second_far best_of type_sum gap_of last_label
      best-is = refl

      -- the nearest numbers of c's own type
      type-is : sum c.i3 ≤ far_of P d count y c
      unfolding far_of first_far second_far type_sum gap_of last_label
      type-is =
          omega (
            arith,
            rises _ _ ((near-is y.first (first_label c)).nearest c.w1 v.w1-below),
            rises _ _ ((near-is y.second (last_label c)).nearest c.w2 v.w2-below),
          )

      i3-most : c.i3 ≤ 1
      i3-most = omega (arith, v.i3-below)

      nearest : far_of P d count y best ≤ far_of P d count y c
      nearest = omega (arith, best-is, type-is, nearer.is-least c.i3 i3-most)

      -- the nearest points of the type i, and the points of c
      abbrev own : ℕ → List ℕ
      own i =
          let q = turn_of c.i2 i in
          let l = second_label q c.y0 c.i1 in
          gap_of u d y.first q ∷ near u d y.first q ∷ gap_of u d y.second l ∷ near u d y.second l ∷ []

      own_first : LexLe (own c.i3) (first_far P d y c ∷ c.w1 ∷ second_far P d y c ∷ c.w2 ∷ [])
      unfolding gap_of first_far second_far last_label
      own_first =
          point-first y.first (first_label c) c.w1 (gap_of u d y.second (last_label c) ∷ near u d y.second (last_label c) ∷ []) (second_far P d y c ∷ c.w2 ∷ []) v.w1-below
          (point-first y.second (last_label c) c.w2 [] [] v.w2-below tt)

      -- of symbols that count for as much the smaller I3'; then c is of the type, and each point goes by its own label
      soonest : far_of P d count y best ≡ far_of P d count y c → LexLe (tie_row P d y best) (tie_row P d y c)
      unfolding best_of gap_of first_far second_far last_label
      soonest e = (
        nearer.is-first c.i3 i3-most (omega (arith, e, best-is, type-is, nearer.is-least c.i3 i3-most)),
        λ z. subst (λ (i : ℕ). LexLe (own i) (first_far P d y c ∷ c.w1 ∷ second_far P d y c ∷ c.w2 ∷ [])) (sym z) own_first,
      )

    has-y0 : (y : Two P) (y0 i1 i2 : ℕ) → (best_of u d count y y0 i1 i2).y0 ≡ y0
    unfolding best_of
    has-y0 y y0 i1 i2 = refl

    has-i1 : (y : Two P) (y0 i1 i2 : ℕ) → (best_of u d count y y0 i1 i2).i1 ≡ i1
    unfolding best_of
    has-i1 y y0 i1 i2 = refl

    has-i2 : (y : Two P) (y0 i1 i2 : ℕ) → (best_of u d count y y0 i1 i2).i2 ≡ i2
    unfolding best_of
    has-i2 y y0 i1 i2 = refl

    valid : (y : Two P) (y0 i1 i2 : ℕ) → y0 < 2 → i1 < 2 → i2 < 2 → Valid u (best_of u d count y y0 i1 i2)
    unfolding best_of best_i3
    valid y y0 i1 i2 h₀ h₁ h₂ =
        let i3 = best_i3 u d count y y0 i1 i2 in
        record {
          y0-below = h₀;
          i1-below = h₁;
          i2-below = h₂;
          i3-below = omega (arith, (least-is (type_sum u d count y y0 i1 i2) 1).low);
          w1-below = (near-is y.first (turn_of i2 i3)).below;
          w2-below = (near-is y.second (second_label (turn_of i2 i3) y0 i1)).below;
        }

    tie-antisym : (y : Two P) (b c : Symbol) → b.y0 ≡ c.y0 → b.i1 ≡ c.i1 → b.i2 ≡ c.i2 → LexLe (tie_row P d y b) (tie_row P d y c) → LexLe (tie_row P d y c) (tie_row P d y b) → b ≡ c
    tie-antisym y b c e₀ e₁ e₂ h k =
        let z = lex-antisym (tie_row P d y b) (tie_row P d y c) h k in
        numbers-fix b c (cc)

    pub best-first : (y : Two P) (y0 i1 i2 : ℕ) → y0 < 2 → i1 < 2 → i2 < 2 → First u (pairs P d count) y (best_of u d count y y0 i1 i2)
    best-first y y0 i1 i2 h₀ h₁ h₂ =
        record {
          valid = valid y y0 i1 i2 h₀ h₁ h₂;
          nearest = λ c v e₀ e₁ e₂. subst (λ (b : Symbol). far_of P d count y b ≤ far_of P d count y c) (same c e₀ e₁ e₂) (nearest y c v);
          soonest = λ c v e₀ e₁ e₂. subst (λ (b : Symbol). far_of P d count y b ≡ far_of P d count y c → LexLe (tie_row P d y b) (tie_row P d y c)) (same c e₀ e₁ e₂) (soonest y c v);
        }
      where
        b : Symbol
        b = best_of u d count y y0 i1 i2

        same : (c : Symbol) → c.y0 ≡ b.y0 → c.i1 ≡ b.i1 → c.i2 ≡ b.i2 → best_of u d count y c.y0 c.i1 c.i2 ≡ b
        same c e₀ e₁ e₂ =
            let z₀ = e₀ ∙ has-y0 y y0 i1 i2 in
            let z₁ = e₁ ∙ has-i1 y y0 i1 i2 in
            let z₂ = e₂ ∙ has-i2 y y0 i1 i2 in
            cc

    pub pairs-chooses : Chooses u (pairs P d count) (best_of u d count)
    pairs-chooses = record { has-y0 = has-y0; has-i1 = has-i1; has-i2 = has-i2; is-first = best-first; antisym = tie-antisym }
