-- What stands at the front of some bytes of a capture, as functions: what the code of `record_front` does. What it means is records/specs/Reading; the laws
-- of proofs/Fronts tie the two.
--   empty_of p ends     no byte is there
--   cut_of ends         a record that may stand there is not whole
--   front_of p bs ends  the front of bs, in phase p; `ends`: the capture has no more than these
use Rattle.std.specs.Prelude.{ℕ, ◌+◌, Bool, cond, List, [], ◌∷◌, leb, length, take}
use Rattle.records.specs.declared.Phase.{Phase}
use Rattle.record_front.specs.declared.Sign.{Sign}
use Rattle.record_front.specs.declared.Sign.TheVariants as sign
use Rattle.record_front.specs.declared.Front.{Front}
use Rattle.records.specs.Kinds.{kind_of, may_stand, after_role, begins}
use Rattle.records.specs.Values.{body_fits}

abbrev pub empty_of : Phase → Bool → Sign
empty_of p ends = cond ends (cond (begins p) sign.Gone sign.Bad) sign.More

abbrev pub cut_of : Bool → Sign
cut_of ends = cond ends sign.Bad sign.More

-- nothing is passed
abbrev pub stopped : Phase → Sign → Front
stopped p s = record { sign = s; length = 0; phase = p }

unfoldable pub front_of : Phase → List ℕ → Bool → Front
front_of p [] ends = stopped p (empty_of p ends)
front_of p (k ∷ bs) ends =
    let size = (kind_of k).size in
    let role = (kind_of k).role in
    cond (may_stand p role)
    (cond (leb size (length bs))
    (cond (body_fits k (take size bs)) (record { sign = sign.Record; length = size + 1; phase = after_role p role }) (stopped p sign.Bad))
    (stopped p (cut_of ends)))
    (stopped p sign.Bad)
