-- Laws of rows of marks: byte by byte, and what stands in a list that is filled with them.
use Prim.Native.Nat.{ℕ, zero, suc, ◌+◌, ◌-◌, ◌≤◌, ◌<◌}
use mathlib.Core.Path.{◌≡◌, refl, ap, ◌∙◌}
use mathlib.Core.Bool.{Bool, true, false, cond, ◌&&◌, false≢true}
use Rattle.std.specs.List.{list_all}
use mathlib.Core.List.{List, [], ◌∷◌, ◌++◌}
use Rattle.std.specs.Prelude.{Some, None}
use native.Mathlib.Numerals.{add-one}
use native.Mathlib.Omega.{arith}
use borrow.Author.Tests.{leb-true, le-leb, lt-leb}
use lib.Dec.{leb}
use lib.ListN.{length, get_or, set, take, drop, length-append, length-drop}
use lib.Seq.{take-suc, take_all, length-take-le}
use Rattle.lists.proofs.Filled.{set_next}
use Rattle.line_fields.specs.Row.{is_mark, all_marks, marks_of, is_row, row_of, count_of, Row}
use Rattle.text.specs.Bytes.{bytes}
use Rattle.text.specs.Token.{same_bytes}

-- the test of each byte, as the code writes it
pub tests-marks : (t : List ℕ) → list_all (λ b. leb 48 b && leb b 51) t ≡ all_marks t
unfolding is_mark
tests-marks [] = refl
tests-marks (b ∷ t) = rw (tests-marks t) (by (leb 48 b) (leb b 51) (all_marks t)) where
  by : (x y z : Bool) → ((x && y) && z) ≡ cond (cond x y false) z false
  by true true z = refl
  by true false z = refl
  by false y z = refl

pub marks-length : (t : List ℕ) → length (marks_of t) ≡ length t
marks-length [] = refl
marks-length (b ∷ t) = ap suc (marks-length t)

mark-at : (t : List ℕ) (i : ℕ) → i < length t → get_or (marks_of t) i 0 ≡ get_or t i 0 - 48
mark-at [] i h = absurd (omega arith)
mark-at (b ∷ t) zero h = refl
mark-at (b ∷ t) (suc i) h = mark-at t i (omega arith)

-- a byte of a row is a digit
pub row-byte : (t : List ℕ) (i : ℕ) → all_marks t ≡ true → i < length t → 48 ≤ get_or t i 0
unfolding is_mark
row-byte [] i e h = absurd (omega arith)
row-byte (b ∷ t) i e h = go (is_mark b) refl e (λ j f k. row-byte t j f k) i h
  where
    low : is_mark b ≡ true → 48 ≤ b
    low f = by (leb 48 b) refl f where
      by : (x : Bool) → leb 48 b ≡ x → cond x (leb b 51) false ≡ true → 48 ≤ b
      by true g f = leb-true 48 b g
      by false g f = absurd (false≢true f)

    go : (x : Bool) → is_mark b ≡ x → cond x (all_marks t) false ≡ true → ((j : ℕ) → all_marks t ≡ true → j < length t → 48 ≤ get_or t j 0) → (j : ℕ) → j < length (b ∷ t) → 48 ≤ get_or (b ∷ t) j 0
    go false g f r j k = absurd (false≢true f)
    go true g f r zero k = low g
    go true g f r (suc j) k = r j f (omega arith)

-- i marks of the row t stand in front of a list that was l₀
module _ (t l₀ : List ℕ) {l : List ℕ} (i : ℕ) (is : l ≡ take i (marks_of t) ++ drop i l₀) (room : length t ≤ length l₀) where
  front : i ≤ length t → length (take i (marks_of t)) ≡ i
  front h = length-take-le i (marks_of t) (omega (arith, marks-length t))

  pub filled-length : i ≤ length t → length l ≡ length l₀
  filled-length h = ap length is ∙ length-append (take i (marks_of t)) (drop i l₀) ∙ rw (front h, length-drop) (omega arith)

  pub filled_more : i < length t → set l i (get_or t i 0 - 48) ≡ take (i + 1) (marks_of t) ++ drop (i + 1) l₀
  filled_more h =
      rw (is, set_next (take i (marks_of t)) l₀ i 0 (get_or t i 0 - 48) (front (omega arith)) (omega arith), ← mark-at t i h, add-one i, take-suc (marks_of t) i 0 (omega (arith, marks-length t)))

  pub all-filled : i ≡ length t → l ≡ marks_of t ++ drop (length t) l₀
  all-filled e = is ∙ rw (e, take_all (length t) (marks_of t) (omega (arith, marks-length t)))

-- what is read of a token
module _ (t l : List ℕ) where
  pub no-marks : same_bytes t (bytes "-") ≡ true → Row t l (Some 0) l
  unfolding row_of
  no-marks e = record { count = rw e; filled = rw e }

  module _ (other : same_bytes t (bytes "-") ≡ false) where
    pub no_row : is_row (length l) t ≡ false → Row t l None l
    unfolding row_of
    no_row e = record { count = rw (other, e); filled = rw (other, e) }

    pub a-row : {l' : List ℕ} → is_row (length l) t ≡ true → l' ≡ marks_of t ++ drop (length t) l → Row t l (Some (length t)) l'
    unfolding row_of
    a-row e f = record { count = rw (other, e, marks-length t); filled = f ∙ rw (other, e, marks-length t) }

-- whether a token is a row
module _ (t : List ℕ) (room : ℕ) where
  pub empty-row : length t < 1 → is_row room t ≡ false
  unfolding is_row
  empty-row h = simp (lt-leb 1 (length t) h)

  module _ (any : 1 ≤ length t) where
    pub long-row : 1024 < length t → is_row room t ≡ false
    unfolding is_row
    long-row h = simp (le-leb 1 (length t) any, lt-leb (length t) 1024 h)

    module _ (few : length t ≤ 1024) where
      pub crowded-row : room < length t → is_row room t ≡ false
      unfolding is_row
      crowded-row h = simp (le-leb 1 (length t) any, le-leb (length t) 1024 few, lt-leb (length t) room h)

      pub by_bytes : length t ≤ room → is_row room t ≡ all_marks t
      unfolding is_row
      by_bytes h = simp (le-leb 1 (length t) any, le-leb (length t) 1024 few, le-leb (length t) room h)

-- a row is marks, and there is room for them
module _ (t : List ℕ) (room : ℕ) (row : is_row room t ≡ true) where
  is-row : (leb 1 (length t) ≡ true) × (leb (length t) 1024 ≡ true) × (leb (length t) room ≡ true) × (all_marks t ≡ true)
  unfolding is_row
  is-row = by (leb 1 (length t)) (leb (length t) 1024) (leb (length t) room) row where
    by : (a b c : Bool) → cond a (cond b (cond c (all_marks t) false) false) false ≡ true → (a ≡ true) × (b ≡ true) × (c ≡ true) × (all_marks t ≡ true)
    by true true true e = (refl, refl, refl, e)
    by true true false e = absurd (false≢true e)
    by true false c e = absurd (false≢true e)
    by false b c e = absurd (false≢true e)

  pub row-marks : all_marks t ≡ true
  row-marks = is-row.3

  pub row_room : length t ≤ room
  row_room = leb-true (length t) room is-row.2

  few : length t ≤ 1024
  few = leb-true (length t) 1024 is-row.1

-- no more marks than a line can have
pub row-most : (room : ℕ) (t : List ℕ) {n : ℕ} → Some n ≡ count_of (row_of room t) → n ≤ 1024
unfolding row_of
row-most room t {n} e = by (same_bytes t (bytes "-")) (is_row room t) refl e where
  by : (a b : Bool) → is_row room t ≡ b → Some n ≡ count_of (cond a (Some []) (cond b (Some (marks_of t)) None)) → n ≤ 1024
  by true b f g = let is : n ≡ 0 = cc in omega arith
  by false true f g = let is : n ≡ length (marks_of t) = cc in omega (arith, marks-length t, few t room f)
  by false false f g = let z : ◌≡◌ {A = ℕ} 0 1 = cc in absurd (omega arith)
