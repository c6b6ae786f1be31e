-- Laws of the comparison itself.
--   self-compared     a well-formed capture against itself: `differences 0`, and no other line
--   exchange          exchanging the two captures exchanges `first` and `second`, if not both are malformed
--   last-counts       K is the number of lines before the last
use mathlib.Core.Path.{◌≡◌, refl, sym, ap, ◌∙◌}
use mathlib.Core.Bool.{Bool, true, false, cond}
use mathlib.Core.List.{List, [], ◌∷◌, ◌++◌, map, map-append}
use Prim.Native.Nat.{ℕ, suc, ◌+◌}
use borrow.Author.Tests.{eq-eqb, ne_eqb, eqb-true, eqb-false}
use lib.Dec.{eqb}
use lib.ListN.{length}
use Rattle.text.specs.Token.{same_bytes}
use Rattle.records.specs.Values.{Entry}
use Rattle.records.specs.Reading.{Ending, clean, malformed, reading_of}
use Rattle.compare_events.specs.declared.Line.{Line}
use Rattle.compare_events.specs.declared.Line.TheVariants.{Differs, OnlyFirst, OnlySecond, Differences}
use Rattle.compare.specs.Differences.{same, differences_from, counted, judged, comparison_of, compared_of, exchanged}

-- ---- a capture against itself

bytes-self : (l : List ℕ) → same_bytes l l ≡ true
bytes-self [] = refl
bytes-self (b ∷ l) = rw (eq-eqb b b refl) (bytes-self l)

same_self : (r : Entry) → same r r ≡ true
same_self r = rw (eq-eqb r.kind r.kind refl) (bytes-self r.body)

self-none : (n : ℕ) (rs : List Entry) → differences_from n rs rs ≡ []
unfolding differences_from
self-none n [] = refl
self-none n (r ∷ rs) = rw (same_self r) (self-none (n + 1) rs)

pub self-compared : (xs : List ℕ) → (reading_of xs).ending ≡ clean → compared_of xs xs ≡ Differences 0 ∷ []
unfolding comparison_of
self-compared xs e = rw (e, self-none 0 (reading_of xs).records)

-- ---- the two exchanged

eqb_swap : (a b : ℕ) → eqb a b ≡ eqb b a
eqb_swap a b = go (eqb a b) refl
  where
    go : (t : Bool) → eqb a b ≡ t → t ≡ eqb b a
    go true e = sym (eq-eqb b a (sym (eqb-true a b e)))
    go false e = sym (ne_eqb b a (λ z. eqb-false a b e (sym z)))

bytes-swap : (l m : List ℕ) → same_bytes l m ≡ same_bytes m l
bytes-swap [] [] = refl
bytes-swap [] (c ∷ m) = refl
bytes-swap (b ∷ l) [] = refl
bytes-swap (b ∷ l) (c ∷ m) = rw (eqb_swap b c, bytes-swap l m)

same-swap : (r q : Entry) → same r q ≡ same q r
same-swap r q = rw (eqb_swap r.kind q.kind, bytes-swap r.body q.body)

differences-swap : (n : ℕ) (rs qs : List Entry) → map exchanged (differences_from n rs qs) ≡ differences_from n qs rs
unfolding differences_from
differences-swap n [] [] = refl
differences-swap n (r ∷ rs) [] = ap (λ (l : List Line). OnlySecond n ∷ l) (differences-swap (n + 1) rs [])
differences-swap n [] (q ∷ qs) = ap (λ (l : List Line). OnlyFirst n ∷ l) (differences-swap (n + 1) [] qs)
differences-swap n (r ∷ rs) (q ∷ qs) = rw (← same-swap r q) (go (same r q) (differences-swap (n + 1) rs qs))
  where
    go : (t : Bool) → map exchanged (differences_from (n + 1) rs qs) ≡ differences_from (n + 1) qs rs
        → map exchanged (cond t (differences_from (n + 1) rs qs) (Differs n ∷ differences_from (n + 1) rs qs)) ≡ cond t (differences_from (n + 1) qs rs) (Differs n ∷ differences_from (n + 1) qs rs)
    go true e = e
    go false e = ap (λ (l : List Line). Differs n ∷ l) e

map-length : (ls : List Line) → length (map exchanged ls) ≡ length ls
map-length [] = refl
map-length (l ∷ ls) = ap suc (map-length ls)

-- one of them at least is well formed
abbrev pub OneClean : Ending → Ending → Type 0
OneClean clean e = Unit {0}
OneClean (malformed p) clean = Unit {0}
OneClean (malformed p) (malformed q) = ⊥

judged-swap : (e d : Ending) (ls ms : List Line) → OneClean e d → map exchanged ls ≡ ms → map exchanged (judged e d ls) ≡ judged d e ms
judged-swap clean clean ls ms h w =
    map-append exchanged ls (Differences (length ls) ∷ []) ∙ ap (λ (l : List Line). l ++ Differences (length ls) ∷ []) w ∙ ap
    (λ (k : ℕ). ms ++ Differences k ∷ []) (sym (map-length ls) ∙ ap (λ (l : List Line). length l) w)
judged-swap clean (malformed q) ls ms h w = refl
judged-swap (malformed p) clean ls ms h w = refl
judged-swap (malformed p) (malformed q) ls ms h w = absurd h

pub exchange : (xs ys : List ℕ) → OneClean (reading_of xs).ending (reading_of ys).ending → map exchanged (compared_of xs ys) ≡ compared_of ys xs
unfolding comparison_of
exchange xs ys h = judged-swap (reading_of xs).ending (reading_of ys).ending _ _ h (differences-swap 0 (reading_of xs).records (reading_of ys).records)

-- ---- the last line

pub last-counts : (xs ys : List ℕ) → (reading_of xs).ending ≡ clean → (reading_of ys).ending ≡ clean → compared_of xs ys ≡ counted (differences_from 0 (reading_of xs).records (reading_of ys).records)
unfolding comparison_of
last-counts xs ys e d = rw (e, d)
