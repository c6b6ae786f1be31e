-- A capture read record by record: 02, Wishes 2 and 4. This is what a reader believes; the byte step is proved to give it.
--   Ending                  the bytes ended after a record, or the record whose kind byte has this offset is malformed
--   Reading                 the records before the end or the first malformed place, and which of the two it was
--   reading_from n p at bs   the reading of bs in phase p from offset `at` on; n is a number that is at least as large as there are bytes
--   reading_of bs            the reading of a capture
--   stands k bs             a body of kind k stands at the front of bs
--   WellFormed p rs         each record may stand where it stands and has its kind's length and bytes that may be there, and the first of all is an open
use Rattle.std.specs.Prelude.{ℕ, zero, suc, ◌+◌, ◌≡◌, Bool, true, cond, ◌&&◌, List, [], ◌∷◌, leb, length, take, drop}
use Rattle.records.specs.declared.Phase.{Phase}
use Rattle.records.specs.declared.Phase.TheVariants.{Start}
use Rattle.records.specs.Kinds.{kind_of, may_stand, after_role, begins}
use Rattle.records.specs.Values.{Entry, entry, body_fits}

pub data Ending : Type 0 where
  clean : Ending
  malformed : ℕ → Ending

pub record Reading : Type 0 where
  pub records : List Entry
  pub ending : Ending

abbrev pub stops_at : Ending → Reading
stops_at e = record { records = []; ending = e }

abbrev pub followed_by : Entry → Reading → Reading
followed_by r q = record { records = r ∷ q.records; ending = q.ending }

-- "no open first (so an empty capture, at 0)"
abbrev pub nothing_more : Phase → ℕ → Reading
nothing_more p at = stops_at (cond (begins p) clean (malformed at))

-- "a cut record" is malformed, and of kind 5 "other first bytes or non-zero fillers"
abbrev pub stands : ℕ → List ℕ → Bool
stands k bs = let size = (kind_of k).size in leb size (length bs) && body_fits k (take size bs)

-- "one byte of kind, then a body whose length the kind fixes"; "offset P malformed .. P the bad record's kind byte"
unfoldable pub reading_from : ℕ → Phase → ℕ → List ℕ → Reading
reading_from zero p at bs = nothing_more p at
reading_from (suc n) p at [] = nothing_more p at
reading_from (suc n) p at (k ∷ bs) =
    let size = (kind_of k).size in
    let role = (kind_of k).role in
    cond (may_stand p role)
    (cond (stands k bs)
    (followed_by (entry k (take size bs)) (reading_from n (after_role p role) (at + 1 + size) (drop size bs)))
    (stops_at (malformed at)))
    (stops_at (malformed at))

unfoldable pub reading_of : List ℕ → Reading
reading_of bs = reading_from (length bs) Start 0 bs

abbrev pub WellFormed : Phase → List Entry → Type 0
WellFormed p [] = begins p ≡ true
WellFormed p (r ∷ rs) =
    (may_stand p (kind_of r.kind).role ≡ true) × (length r.body ≡ (kind_of r.kind).size) × (body_fits r.kind r.body ≡ true)
    × WellFormed (after_role p (kind_of r.kind).role) rs
