-- The form of records in a row: each may stand where it stands.
--   Formed p rs, phase_after p rs   records that may stand from the phase p on, and the phase after them
--   well           formed records after which the capture has begun are well formed
--   words-formed   words may stand where one may, and change nothing
use mathlib.Core.Path.{◌≡◌, refl}
use mathlib.Core.Bool.{true}
use mathlib.Core.List.{List, [], ◌∷◌, ◌++◌}
use Prim.Native.Nat.{ℕ}
use lib.ListN.{length}
use Rattle.records.specs.declared.Phase.{Phase}
use Rattle.records.specs.declared.Role.TheVariants.{Word}
use Rattle.records.specs.Kinds.{kind_of, may_stand, after_role, begins}
use Rattle.records.specs.Values.{Entry, byte_fits, fits_from, body_fits}
use Rattle.records.specs.Reading.{WellFormed}
use Rattle.record_write.specs.Front.{word_entries}

abbrev pub Formed : Phase → List Entry → Type 0
Formed p [] = Unit {0}
Formed p (r ∷ rs) = (may_stand p (kind_of r.kind).role ≡ true) × (length r.body ≡ (kind_of r.kind).size) × (body_fits r.kind r.body ≡ true)
    × Formed (after_role p (kind_of r.kind).role) rs

abbrev pub phase_after : Phase → List Entry → Phase
phase_after p [] = p
phase_after p (r ∷ rs) = phase_after (after_role p (kind_of r.kind).role) rs

pub well : (p : Phase) (rs : List Entry) → Formed p rs → begins (phase_after p rs) ≡ true → WellFormed p rs
well p [] f b = b
well p (r ∷ rs) f b = (f.0, f.1, f.2, well (after_role p (kind_of r.kind).role) rs f.3 b)

pub formed-append : (p : Phase) (rs qs : List Entry) → Formed p rs → Formed (phase_after p rs) qs → Formed p (rs ++ qs)
formed-append p [] qs f g = g
formed-append p (r ∷ rs) qs f g = (f.0, f.1, f.2, formed-append (after_role p (kind_of r.kind).role) rs qs f.3 g)

pub phase-append : (p : Phase) (rs qs : List Entry) → phase_after p (rs ++ qs) ≡ phase_after (phase_after p rs) qs
phase-append p [] qs = refl
phase-append p (r ∷ rs) qs = phase-append (after_role p (kind_of r.kind).role) rs qs

pub words-formed : (p : Phase) → may_stand p Word ≡ true → (ws : List ℕ) → Formed p (word_entries ws) × (phase_after p (word_entries ws) ≡ p)
unfolding kind_of fits_from byte_fits
words-formed p m [] = (tt, refl)
words-formed p m (w ∷ ws) = let k = words-formed p m ws in ((m, refl, refl, k.0), k.1)
