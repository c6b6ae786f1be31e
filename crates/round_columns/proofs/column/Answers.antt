-- `column`: the row is the nearest of the column, and the sum is its cell's key.
use Rattle.std.proofs.Common.{ℕ, ◌+◌, ◌*◌, ◌/◌, ◌%◌, ◌≤◌, ◌<◌, ◌≡◌, min, ap, ap₂, ◌∙◌, subst, arith}
use Rattle.round_places.specs.Places.{number_at, rim_of, column_of, top_of}
use Rattle.round_places.proofs.Rule.{rim-in, in_table}
use Rattle.round_columns.specs.declared.View.{View}
use Rattle.round_columns.specs.Cells.{gap_of, apart_of, off_of, Placed, Viewed}
use Rattle.round_columns.proofs.Gaps.{gap_below}
use Rattle.round_columns.proofs.column.Goals as goal

-- the nearest place of all, p, or the last one before it
row-placed : (v n p r : ℕ) → r ≡ min p n → 512 * p ≤ v + 255 → v ≤ 512 * p + 256 → Placed v n r
row-placed v n p r h i j = record { below = omega arith; down = omega arith; up = λ l. omega arith }

module _ (s : View) (v : Viewed s) (i k e : ℕ) (h : i < 4) (k-is : k ≡ rim_of s.u s.o i) (e-is : e ≡ min ((s.short + 255) / 512) (k % 16)) where
  column-is : k / 16 ≡ column_of s.u s.o i
  column-is = ap (λ (n : ℕ). n / 16) k-is

  ends : (column_of s.u s.o i < 10) × (top_of s.u s.o i < 10)
  ends = rim-in s.u s.o v.u-in v.o-in i h

  row : Placed s.short (top_of s.u s.o i) e
  row =
      subst (λ (n : ℕ). Placed s.short n e) (ap (λ (n : ℕ). n % 16) k-is)
      (row-placed s.short (k % 16) ((s.short + 255) / 512) e e-is (omega arith) (omega arith))

  column-in : k / 16 < 10
  column-in = omega (arith, column-is, ends.0)

  row-in : e < 10
  row-in = omega (arith, row.below, ends.1)

  -- the squares fit
  squares : (a b : ℕ) → a ≡ apart_of s.far (512 * (k / 16)) → b ≡ apart_of s.short (512 * e) → a * a + b * b ≤ 138444800
  squares a b f g =
      omega (
        arith,
        gap_below s.far (k / 16) a v.far-in column-in f,
        gap_below s.short e b (omega (arith, v.far-in, v.short-in)) row-in g,
      )

pub overflow_mul-m : goal.overflow_mul-m
overflow_mul-m c = omega (arith, column-in c.args.s c.requires.1 c.args.i c.rim-k.result c.min-e.result c.requires.2 c.rim-k.ensures c.min-e.ensures)

pub overflow_mul-result : goal.overflow_mul-result
overflow_mul-result c =
    omega (arith, squares c.args.s c.requires.1 c.args.i c.rim-k.result c.min-e.result c.requires.2 c.rim-k.ensures c.min-e.ensures _ _ c.abs_diff-a.ensures c.abs_diff-b.ensures)

pub overflow_add-result : goal.overflow_add-result
overflow_add-result c =
    omega (arith, squares c.args.s c.requires.1 c.args.i c.rim-k.result c.min-e.result c.requires.2 c.rim-k.ensures c.min-e.ensures _ _ c.abs_diff-a.ensures c.abs_diff-b.ensures)

pub number_in-requires : goal.number_in-requires
number_in-requires c =
    let s = c.args.s in
    let v = c.requires.1 in (
      c.requires.0,
      v,
      column-in s v c.args.i c.rim-k.result c.min-e.result c.requires.2 c.rim-k.ensures c.min-e.ensures,
      row-in s v c.args.i c.rim-k.result c.min-e.result c.requires.2 c.rim-k.ensures c.min-e.ensures,
    )

pub overflow_add-result-2 : goal.overflow_add-result-2
overflow_add-result-2 c =
    let s = c.args.s in
    let v = c.requires.1 in
    let m = column-in s v c.args.i c.rim-k.result c.min-e.result c.requires.2 c.rim-k.ensures c.min-e.ensures in
    let e = row-in s v c.args.i c.rim-k.result c.min-e.result c.requires.2 c.rim-k.ensures c.min-e.ensures in
    omega (
      arith,
      squares s v c.args.i c.rim-k.result c.min-e.result c.requires.2 c.rim-k.ensures c.min-e.ensures _ _ c.abs_diff-a.ensures c.abs_diff-b.ensures,
      c.number_in.ensures,
      (in_table s.o (c.rim-k.result / 16) c.min-e.result v.o-in m e).1.1,
    )

pub returns : goal.returns
unfolding off_of
returns c =
    let s = c.args.s in
    let e = c.min-e.result in
    let m = ap (λ (n : ℕ). n / 16) c.rim-k.ensures in
    record {
      e = e;
      row = row s c.requires.1 c.args.i c.rim-k.result e c.requires.2 c.rim-k.ensures c.min-e.ensures;
      is =
          ap₂ (λ (a b : ℕ). a + b)
          (ap₂ (λ (a b : ℕ). a * a + b * b) (c.abs_diff-a.ensures ∙ ap (gap_of s.far) m) c.abs_diff-b.ensures)
          (c.number_in.ensures ∙ ap (λ (m : ℕ). number_at s.o m e) m);
    }
