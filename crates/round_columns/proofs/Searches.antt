-- The least key of a view's rim is the least of all that is within the rim, where the longer side reaches its first column.
--   row-least        the nearest row has the least key of its column
--   first-rimmed, next-rimmed   the loop over the rim's columns: its start, and one column more
--   rim-least        the rim's least key is no more than the key of any place within it
use mathlib.Core.Path.{◌≡◌, subst}
use Prim.Native.Nat.{ℕ, zero, suc, ◌+◌, ◌-◌, ◌*◌, ◌≤◌, ◌<◌}
use Rattle.std.specs.Prelude.{min}
use native.Mathlib.Numerals.{add-one}
use native.Mathlib.Nat.{mul-le-mul}
use native.Mathlib.Decide.{dec_lt, ℕ_discrete}
use native.Mathlib.Omega.{arith}
use Rattle.round_places.specs.Places.{number_at, column_of, top_of, first_of}
use Rattle.round_places.proofs.Rule.{Within, before, on, in_table, rim-in, rim-rises, steep}
use Rattle.round_columns.specs.declared.View.{View}
use Rattle.round_columns.specs.Cells.{Viewed, off_of, cell_key, Placed, InColumn, Rimmed}
use Rattle.round_columns.proofs.Gaps.{near_le, near-far, outwards}

module _ (s : View) (v : Viewed s) where
  abbrev column_at : ℕ → ℕ
  column_at = column_of s.u s.o

  abbrev top_at : ℕ → ℕ
  top_at = top_of s.u s.o

  -- a place of the rim
  module _ (i e : ℕ) (h : i < 4) (k : e ≤ top_at i) where
    pub column-in : column_at i < 10
    column-in = (rim-in s.u s.o v.u-in v.o-in i h).0

    pub row-in : e < 10
    row-in = omega (arith, (rim-in s.u s.o v.u-in v.o-in i h).1)

    pub number_in : number_at s.o (column_at i) e ≤ 255
    number_in = (in_table s.o (column_at i) e v.o-in column-in row-in).1.1

  -- ---- one column

  pub row-least : (i e j : ℕ) → i < 4 → Placed s.short (top_at i) e → j ≤ top_at i → cell_key s (column_at i) e ≤ cell_key s (column_at i) j
  unfolding off_of
  row-least i e j h p k = go (dec_lt j e)
    where
      go : Dec (j < e) → cell_key s (column_at i) e ≤ cell_key s (column_at i) j
      go (yes g) = omega (arith, near-far s.short (top_at i) e p j g, number_in i e h p.below)
      go (no g) =
          let l = near_le s.short (top_at i) e p j k in
          omega (arith, mul-le-mul l l, rim-rises s.u s.o v.u-in v.o-in i h e j (omega arith) k)

  -- ---- the loop over the columns

  pub first-rimmed : (r : ℕ) → InColumn s 0 r → Rimmed s 1 r
  first-rimmed r c =
      record { i = 0; e = c.e; i-in = omega arith; e-in = c.row.below; is = c.is; least = λ j k g h. go j k h (omega arith) }
    where
      go : (j k : ℕ) → k ≤ top_at j → 0 ≡ j → r ≤ cell_key s (column_at j) k
      go j k h g =
          subst (λ (j : ℕ). k ≤ top_at j → r ≤ cell_key s (column_at j) k) g
          (λ h. omega (arith, c.is, row-least 0 c.e k (omega arith) c.row h)) h

  module _ (n a b r : ℕ) (g : n < 4) (m : Rimmed s n a) (c : InColumn s n b) where
    both-le : r ≤ a → r ≤ b → (j k : ℕ) → j < n + 1 → k ≤ top_at j → r ≤ cell_key s (column_at j) k
    both-le p q j k h l = go (ℕ_discrete n j)
      where
        go : Dec (n ≡ j) → r ≤ cell_key s (column_at j) k
        go (no e) = omega (arith, m.least j k (omega arith) l)
        go (yes e) =
            subst (λ (j : ℕ). k ≤ top_at j → r ≤ cell_key s (column_at j) k) e
            (λ l. omega (arith, c.is, row-least n c.e k g c.row l)) l

    pub next-rimmed : r ≡ min a b → Rimmed s (n + 1) r
    next-rimmed e = go (dec_lt b a)
      where
        go : Dec (b < a) → Rimmed s (n + 1) r
        go (no l) =
            record { i = m.i; e = m.e; i-in = omega (arith, m.i-in); e-in = m.e-in; is = omega (arith, m.is); least = both-le (omega arith) (omega arith) }
        go (yes l) =
            record { i = n; e = c.e; i-in = omega arith; e-in = c.row.below; is = omega (arith, c.is); least = both-le (omega arith) (omega arith) }

  -- ---- further in than the first column

  abbrev f : ℕ
  f = first_of s.u s.o

  module _ (out : 512 * f ≤ s.far + 255) where
    -- a place of the first column that is nearer than column m and row e
    record Nearer (m e : ℕ) : Type 0 where
      j : ℕ
      j-in : j ≤ top_at 0
      less : off_of s f j + 1024 ≤ off_of s m e

    -- one column further out, in the same row
    ahead : (m e : ℕ) → m < f → off_of s (m + 1) e + 1024 ≤ off_of s m e
    unfolding off_of
    ahead m e h =
        let p : Placed s.far (m + 1) (m + 1) = record { below = omega arith; down = omega arith; up = λ l. absurd (omega arith) } in
        omega (arith, near-far s.far (m + 1) (m + 1) p m (omega arith))

    -- or in the row below
    aside : (m e : ℕ) → m < e → off_of s (m + 1) e + 1024 ≤ off_of s m (e + 1)
    unfolding off_of
    aside m e h = outwards s.far s.short m e v.short-in h

    -- k columns further out
    reached : (k m e : ℕ) → m + suc k ≡ f → e ≤ top_at 0 + suc k → Nearer m e
    reached zero m e g h = go (dec_lt (top_at 0) e)
      where
        here : m + 1 ≡ f
        here = omega (arith, add-one 0)

        go : Dec (top_at 0 < e) → Nearer m e
        go (no l) = record { j = e; j-in = omega arith; less = subst (λ (n : ℕ). off_of s n e + 1024 ≤ off_of s m e) here (ahead m e (omega arith)) }
        go (yes l) =
            let i : e - 1 + 1 ≡ e = omega arith in
            let d = steep s.u s.o v.u-in v.o-in in
            let z = subst (λ (n : ℕ). off_of s (m + 1) (e - 1) + 1024 ≤ off_of s m n) i (aside m (e - 1) (omega (arith, d))) in
            record { j = e - 1; j-in = omega (arith, add-one 0); less = subst (λ (n : ℕ). off_of s n (e - 1) + 1024 ≤ off_of s m e) here z }
    reached (suc k) m e g h = go (reached k (m + 1)) (dec_lt (top_at 0 + suc k) e)
      where
        go : ((e : ℕ) → m + 1 + suc k ≡ f → e ≤ top_at 0 + suc k → Nearer (m + 1) e) → Dec (top_at 0 + suc k < e) → Nearer m e
        go r (no l) =
            let n = r e (omega arith) (omega arith) in
            record { j = n.j; j-in = n.j-in; less = omega (arith, n.less, ahead m e (omega arith)) }
        go r (yes l) =
            let n = r (e - 1) (omega arith) (omega arith) in
            let i : e - 1 + 1 ≡ e = omega arith in
            let d = steep s.u s.o v.u-in v.o-in in
            let z = subst (λ (n : ℕ). off_of s (m + 1) (e - 1) + 1024 ≤ off_of s m n) i (aside m (e - 1) (omega (arith, d))) in
            record { j = n.j; j-in = n.j-in; less = omega (arith, n.less, z) }

    pub rim-least : (r m e : ℕ) → Rimmed s 4 r → Within s.u s.o m e → r ≤ cell_key s m e
    rim-least r m e l (on i h c k) = subst (λ (m : ℕ). r ≤ cell_key s m e) c (l.least i e h k)
    rim-least r m e l (before h k) =
        let n = reached (f - m - 1) m e (omega arith) (omega arith) in
        omega (arith, n.less, l.least 0 n.j (omega arith) n.j-in, number_in 0 n.j (omega arith) n.j-in)
