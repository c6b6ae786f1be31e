-- 02's whole case, and one capture for each kind of fault, computed: the machine is run on the bytes, and by `verdict-meant` what it finds is
-- the verdict that is meant.
--   whole w     02's whole case, whose last byte is w
--   rows        agree; another word; one missing; one too many; refused, an open and a symbol; no finish; a symbol whose first point is missing;
--               the square map, and an odd width of it
--   form-rows   malformed: an empty capture, a cut record, kind 5 with a wrong mark or filler, kind 7, a second open, a word after the open,
--               a symbol after the finish
use mathlib.Core.Path.{◌≡◌, refl, sym, ◌∙◌}
use mathlib.Core.List.{List, [], ◌∷◌, ◌++◌}
use Prim.Native.Nat.{ℕ}
use Rattle.wei.specs.Word.{packed}
use Rattle.wei.specs.State.{before, carry_i1, carry_i2, between}
use Rattle.wei.specs.Label.{second_label}
use Rattle.points.specs.Points.{a_point, coordinates}
use Rattle.points.specs.Turn.{point_of}
use Rattle.trellis.specs.Measure.{counted}
use Rattle.trellis.specs.Pick.{least, near, gap_of, type_sum, best_i3}
use Rattle.trellis.specs.Search.{range}
use Rattle.trellis.specs.Speak.{speak, after}
use Rattle.trellis.specs.Words.{word, word_parts}
use Rattle.maps.specs.SquareMap.{square_of, grid_point}
use Rattle.distance.specs.Distance.{distance}
use Rattle.nearest.specs.Line.{line_distance}
use Rattle.nearest.specs.Found.{cost_of, weighed_of}
use Rattle.lists.specs.Tabled.{tabled}
use Rattle.registers.specs.Registers.{carried, moved_words, moved_of, same_from, oldest}
use Rattle.select.specs.Select.{arrive, winner, sum_at, first_step, lowered, reached_of, live_of, followed, step_at}
use Rattle.lists.specs.UpTo.{all_up_to}
use Rattle.sums.specs.Sums.{end_of, lowest}
use Rattle.picks.specs.Picks.{numbers_of, symbol_by, kept_in}
use Rattle.receiver_meaning.specs.Told.{fault_at, fault_of}
use Rattle.machine.specs.Machine.{fresh_sums, opened, shut, way_from, agreed_of, released_of, grown, taking, last_symbols, sound_core, sound}
use Rattle.openings.specs.Opening.{opening}
use Rattle.pieces.specs.Running.{symbol_at, running}
use Rattle.receiver.specs.Doors.{hearing, finishing}
use Rattle.records.specs.Kinds.{kind_of}
use Rattle.records.specs.Values.{coordinate_of, number_of, byte_fits}
use Rattle.records.specs.Frames as frames
use Rattle.replay_judge.specs.declared.Verdict.{Verdict}
use Rattle.replay_judge.specs.declared.Verdict.TheVariants.{Agree, Differs, Extra, Missing, Refused, Malformed}
use Rattle.replay_judge.specs.Judging as code
use Rattle.replay.specs.Meaning.{verdict_of}
use Rattle.replay.specs.Course.{settled, stepped, feedings, replay_of, fresh_replay, capped_verdict}
use Rattle.replay.proofs.Meant.{ended_at, verdict-meant}

-- "01 00 40 10 02 80 00 80 00 80 00 80 00 04 03 00 00 00 00"
abbrev open-record : List ℕ
open-record = 1 ∷ 0 ∷ 64 ∷ 16 ∷ []

-- the same on the square map
abbrev square-record : List ℕ
square-record = 6 ∷ 0 ∷ 64 ∷ 16 ∷ []

abbrev symbol : List ℕ
symbol = 2 ∷ 128 ∷ 0 ∷ 128 ∷ 0 ∷ 128 ∷ 0 ∷ 128 ∷ 0 ∷ []

abbrev the_word : ℕ → List ℕ
the_word w = 3 ∷ 0 ∷ 0 ∷ 0 ∷ w ∷ []

abbrev pub whole : ℕ → List ℕ
whole w = open-record ++ symbol ++ (4 ∷ []) ++ the_word w

-- what the machine finds
abbrev replayed : List ℕ → Verdict
replayed bs = let c = feedings (replay_of fresh_replay) bs in ended_at c.frame c.state

meant : (bs : List ℕ) (v : Verdict) → replayed bs ≡ v → capped_verdict (verdict_of bs) ≡ v
meant bs v e = sym (verdict-meant bs) ∙ e

computed-form : (replayed [] ≡ Malformed 0)
    × (replayed (open-record ++ (5 ∷ [])) ≡ Malformed 4)
    × (replayed (open-record ++ (5 ∷ 4 ∷ [])) ≡ Malformed 4)
    × (replayed (open-record ++ (5 ∷ 2 ∷ 1 ∷ 0 ∷ 0 ∷ 0 ∷ 1 ∷ [])) ≡ Malformed 4)
    × (replayed (7 ∷ 0 ∷ 64 ∷ 16 ∷ []) ≡ Malformed 0)
    × (replayed (open-record ++ open-record) ≡ Malformed 4)
    × (replayed (open-record ++ the_word 0) ≡ Malformed 4)
unfolding feedings stepped settled code.took code.opened code.left frames.pushed frames.begun frames.grown frames.may_grow frames.capped kind_of byte_fits
    opening opened fresh_sums shut
computed-form = (refl, refl, refl, refl, refl, refl, refl)

computed : (replayed (whole 0) ≡ Agree 1)
    × (replayed (whole 1) ≡ Differs 3 16777216 0)
    × (replayed (open-record ++ symbol ++ (4 ∷ [])) ≡ Missing 3 0)
    × (replayed (whole 0 ++ the_word 0) ≡ Extra 4 0)
    × (replayed (1 ∷ 9 ∷ 64 ∷ 16 ∷ []) ≡ Refused 0 1)
    × (replayed (open-record ++ (2 ∷ 255 ∷ 127 ∷ 0 ∷ 0 ∷ 0 ∷ 0 ∷ 0 ∷ 0 ∷ [])) ≡ Refused 1 5)
    × (replayed (open-record ++ symbol) ≡ Agree 0)
    × (replayed (open-record ++ symbol ++ (4 ∷ 3 ∷ 0 ∷ [])) ≡ Malformed 14)
    × (replayed (whole 0 ++ symbol) ≡ Malformed 19)
    × (replayed (open-record ++ (5 ∷ 1 ∷ 0 ∷ 0 ∷ 0 ∷ 0 ∷ 0 ∷ 0 ∷ 0 ∷ 0 ∷ []) ++ (4 ∷ []) ++ the_word 0) ≡ Agree 1)
    × (replayed (square-record ++ symbol ++ (4 ∷ []) ++ the_word 0) ≡ Agree 1)
    × (replayed (6 ∷ 1 ∷ 64 ∷ 16 ∷ []) ≡ Refused 0 1)
unfolding feedings stepped settled code.took code.opened code.heard code.finished code.answered code.unless_due code.left frames.pushed frames.begun
    frames.grown frames.may_grow frames.capped kind_of byte_fits coordinate_of number_of opening hearing finishing sound sound_core all_up_to opened shut fresh_sums running symbol_at
    fault_at fault_of taking agreed_of grown released_of oldest same_from carried moved_words moved_of tabled followed live_of reached_of sum_at lowered lowest step_at first_step winner
    arrive weighed_of cost_of best_i3 type_sum counted gap_of near least line_distance distance point_of a_point coordinates square_of grid_point second_label before between
    carry_i1 carry_i2 way_from range speak after end_of last_symbols symbol_by numbers_of kept_in word word_parts packed
computed = (refl, refl, refl, refl, refl, refl, refl, refl, refl, refl, refl, refl)

abbrev says : List ℕ → Verdict → Type 0
says bs v = capped_verdict (verdict_of bs) ≡ v

pub rows : says (whole 0) (Agree 1)
    × says (whole 1) (Differs 3 16777216 0)
    × says (open-record ++ symbol ++ (4 ∷ [])) (Missing 3 0)
    × says (whole 0 ++ the_word 0) (Extra 4 0)
    × says (1 ∷ 9 ∷ 64 ∷ 16 ∷ []) (Refused 0 1)
    × says (open-record ++ (2 ∷ 255 ∷ 127 ∷ 0 ∷ 0 ∷ 0 ∷ 0 ∷ 0 ∷ 0 ∷ [])) (Refused 1 5)
    × says (open-record ++ symbol) (Agree 0)
    × says (open-record ++ (5 ∷ 1 ∷ 0 ∷ 0 ∷ 0 ∷ 0 ∷ 0 ∷ 0 ∷ 0 ∷ 0 ∷ []) ++ (4 ∷ []) ++ the_word 0) (Agree 1)
    × says (square-record ++ symbol ++ (4 ∷ []) ++ the_word 0) (Agree 1)
    × says (6 ∷ 1 ∷ 64 ∷ 16 ∷ []) (Refused 0 1)
rows = (
  meant _ _ computed.0,
  meant _ _ computed.1,
  meant _ _ computed.2,
  meant _ _ computed.3,
  meant _ _ computed.4,
  meant _ _ computed.5,
  meant _ _ computed.6,
  meant _ _ computed.9,
  meant _ _ computed.10,
  meant _ _ computed.11,
)

pub form-rows : says [] (Malformed 0)
    × says (open-record ++ (5 ∷ [])) (Malformed 4)
    × says (open-record ++ (5 ∷ 4 ∷ [])) (Malformed 4)
    × says (open-record ++ (5 ∷ 2 ∷ 1 ∷ 0 ∷ 0 ∷ 0 ∷ 1 ∷ [])) (Malformed 4)
    × says (7 ∷ 0 ∷ 64 ∷ 16 ∷ []) (Malformed 0)
    × says (open-record ++ open-record) (Malformed 4)
    × says (open-record ++ the_word 0) (Malformed 4)
    × says (open-record ++ symbol ++ (4 ∷ 3 ∷ 0 ∷ [])) (Malformed 14)
    × says (whole 0 ++ symbol) (Malformed 19)
form-rows = (
  meant _ _ computed-form.0,
  meant _ _ computed-form.1,
  meant _ _ computed-form.2,
  meant _ _ computed-form.3,
  meant _ _ computed-form.4,
  meant _ _ computed-form.5,
  meant _ _ computed-form.6,
  meant _ _ computed.7,
  meant _ _ computed.8,
)
