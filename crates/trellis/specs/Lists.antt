-- Three notions on lists. That one list is a beginning of another is the library's `IsPrefix`: some rest makes the one the other.
--   In x l      x stands in l
--   Every P l   all of l obey P
--   LexLe l m   l is before m or is m: at the first place where they differ the smaller number is before
use Rattle.std.specs.Prelude.{◌≡◌, List, [], ◌∷◌, ◌⊎◌, ℕ, ◌≤◌}

abbrev pub In : {A : Type 0} → A → List A → Type 0
In x [] = ⊥
In x (y ∷ ys) = (x ≡ y) ⊎ In x ys

abbrev pub Every : {A : Type 0} → (A → Type 0) → List A → Type 0
Every P [] = Unit {0}
Every P (x ∷ xs) = P x × Every P xs

-- a list is before every list that goes on from it
abbrev pub LexLe : List ℕ → List ℕ → Type 0
LexLe [] ts = Unit {0}
LexLe (s ∷ ss) [] = ⊥
LexLe (s ∷ ss) (t ∷ ts) = (s ≤ t) × (s ≡ t → LexLe ss ts)
