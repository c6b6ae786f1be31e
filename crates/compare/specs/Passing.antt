-- What the code does with bytes that lie in buffers, as functions. What it means is specs/Differences.
--   form_step f bs ends, form_from n f bs ends   one look further, and n more as long as records come; form_of: of a lump of bytes
--   pair_step p xs ys e d  one pair of records further; pass_from n: n more as long as they are the same; pass_of: of two lumps
--   fresh_pass             before any record
use Rattle.std.specs.Prelude.{ℕ, zero, suc, ◌+◌, Bool, true, false, cond, List, length, take, drop}
use Rattle.text.specs.Token.{same_bytes}
use Rattle.records.specs.declared.Phase.{Phase}
use Rattle.records.specs.declared.Phase.TheVariants.{Start}
use Rattle.record_front.specs.declared.Sign.{Sign}
use Rattle.record_front.specs.declared.Sign.TheVariants as sign
use Rattle.record_front.specs.declared.Front.{Front}
use Rattle.records.specs.Frames.{capped}
use Rattle.record_front.specs.Fronts.{front_of}
use Rattle.compare_events.specs.declared.Event.{Event}
use Rattle.compare_events.specs.declared.Event.TheVariants.{Same, Said, Last, Wait, Broken}
use Rattle.compare_events.specs.Events.{judge}
use Rattle.compare.specs.declared.Formed.{Formed}
use Rattle.compare.specs.declared.Pass.{Pass}

abbrev pub is_record : Sign → Bool
is_record sign.Record = true
is_record sign.Gone = false
is_record sign.More = false
is_record sign.Bad = false

-- ---- the form of one capture

unfoldable pub form_step : Formed → List ℕ → Bool → Formed
form_step f bs ends =
    let w = front_of f.phase (drop f.used bs) ends in
    record { sign = w.sign; phase = w.phase; at = capped (f.at + w.length); used = f.used + w.length }

abbrev pub form_from : ℕ → Formed → List ℕ → Bool → Formed
form_from zero f bs ends = form_step f bs ends
form_from (suc n) f bs ends = cond (is_record (form_step f bs ends).sign) (form_from n (form_step f bs ends) bs ends) (form_step f bs ends)

abbrev pub form_of : Phase → ℕ → List ℕ → Bool → Formed
form_of p at bs ends = form_from (length bs) (record { sign = sign.Record; phase = p; at = at; used = 0 }) bs ends

-- ---- two captures side by side

-- both records are passed
abbrev pub takes : Event → Bool
takes Same = true
takes (Said l) = true
takes (Last l) = false
takes Wait = false
takes Broken = false

abbrev pub is_same : Event → Bool
is_same Same = true
is_same (Said l) = false
is_same (Last l) = false
is_same Wait = false
is_same Broken = false

-- a line more
abbrev pub line_more : Event → ℕ → ℕ
line_more Same k = k
line_more (Said l) k = capped (k + 1)
line_more (Last l) k = k
line_more Wait k = k
line_more Broken k = k

abbrev pub moved : Pass → Event → Front → Front → Pass
moved p e a b =
    record {
      event = e;
      first = a.phase;
      second = b.phase;
      number = capped (p.number + 1);
      lines = line_more e p.lines;
      here = p.here + a.length;
      there = p.there + b.length;
    }

abbrev pub halted : Pass → Event → Pass
halted p e =
    record { event = e; first = p.first; second = p.second; number = p.number; lines = p.lines; here = p.here; there = p.there }

abbrev pub first_front : Pass → List ℕ → Bool → Front
first_front p xs e = front_of p.first (drop p.here xs) e

abbrev pub second_front : Pass → List ℕ → Bool → Front
second_front p ys d = front_of p.second (drop p.there ys) d

abbrev pub event_of : Pass → List ℕ → List ℕ → Front → Front → Event
event_of p xs ys a b =
    judge a.sign b.sign (same_bytes (take a.length (drop p.here xs)) (take b.length (drop p.there ys))) p.number p.lines

abbrev pub moved_by : Pass → Event → Front → Front → Pass
moved_by p e a b = cond (takes e) (moved p e a b) (halted p e)

unfoldable pub pair_step : Pass → List ℕ → List ℕ → Bool → Bool → Pass
pair_step p xs ys e d = moved_by p (event_of p xs ys (first_front p xs e) (second_front p ys d)) (first_front p xs e) (second_front p ys d)

abbrev pub pass_from : ℕ → Pass → List ℕ → List ℕ → Bool → Bool → Pass
pass_from zero p xs ys e d = pair_step p xs ys e d
pass_from (suc n) p xs ys e d = cond (is_same (pair_step p xs ys e d).event) (pass_from n (pair_step p xs ys e d) xs ys e d) (pair_step p xs ys e d)

-- of the lumps nothing is used yet
abbrev pub anew : Pass → Pass
anew p = record { event = Same; first = p.first; second = p.second; number = p.number; lines = p.lines; here = 0; there = 0 }

abbrev pub pass_of : Pass → List ℕ → List ℕ → Bool → Bool → Pass
pass_of p xs ys e d = pass_from (length xs) (anew p) xs ys e d

abbrev pub fresh_pass : Pass
fresh_pass = record { event = Same; first = Start; second = Start; number = 0; lines = 0; here = 0; there = 0 }
