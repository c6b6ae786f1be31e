-- The kinds of records in one table, and where each may stand: 02, Wishes 2, 4 and 11. A kind that is added later is a row of `kind_of`.
--   kind_of k        "one byte of kind, then a body whose length the kind fixes"
--   may_stand p r    whether a record of this role may stand in this phase
--   after_role p r   the phase after it
use Rattle.std.specs.Prelude.{ℕ, Bool, true, false, cond, eqb}
use Rattle.records.specs.declared.Kind.{Kind}
use Rattle.records.specs.declared.Role.{Role}
use Rattle.records.specs.declared.Role.TheVariants.{Open, Symbol, Word, Finish, Unknown}
use Rattle.records.specs.declared.Phase.{Phase}
use Rattle.records.specs.declared.Phase.TheVariants.{Start, Opened, Running, Over}

abbrev pub row : Role → ℕ → Kind
row r n = record { role = r; size = n }

-- "Kind 1, open: .. 3 bytes. Kind 2, symbol taken: .. 8 bytes. Kind 3, word released: 4 bytes .. Kind 4, finish: none"; "kind 5: one byte ..,
-- then the eight coordinate bytes"; "A capture with this map opens with kind 6, same body as kind 1"
unfoldable pub kind_of : ℕ → Kind
kind_of k =
    cond (eqb k 1) (row Open 3)
    (cond (eqb k 2) (row Symbol 8)
    (cond (eqb k 3) (row Word 4)
    (cond (eqb k 4) (row Finish 0)
    (cond (eqb k 5) (row Symbol 9)
    (cond (eqb k 6) (row Open 3)
    (row Unknown 0))))))

-- "Malformed is: an unknown kind, .. no open first .., a second open, a word right after the open, or anything but words after a finish"
abbrev pub may_stand : Phase → Role → Bool
may_stand p Unknown = false
may_stand Start Open = true
may_stand Start Symbol = false
may_stand Start Word = false
may_stand Start Finish = false
may_stand Opened Open = false
may_stand Opened Symbol = true
may_stand Opened Word = false
may_stand Opened Finish = true
may_stand Running Open = false
may_stand Running Symbol = true
may_stand Running Word = true
may_stand Running Finish = true
may_stand Over Open = false
may_stand Over Symbol = false
may_stand Over Word = true
may_stand Over Finish = false

abbrev pub after_role : Phase → Role → Phase
after_role p Open = Opened
after_role p Symbol = Running
after_role p Word = p
after_role p Finish = Over
after_role p Unknown = p

-- the capture has begun: its open stands there
abbrev pub begins : Phase → Bool
begins Start = false
begins Opened = true
begins Running = true
begins Over = true
