-- The machine at work, computed: small pieces to fresh receivers, and what they give. Rows have the number, the place, the symbols taken
-- and the words written.
--   closed-row, uneven-row, sample-row   9 of a piece and of a finish; 10; 5 with its place
--   window-row, room_row, finish-row     6, 8 at a symbol, 8 at a finish
--   five-one, five-taken                 of five symbols (A,A) one word is released
--   unfit-row                            marks that do not fit are a 10
--   at-start, in-middle                  the words of a line that misses a first point, a second, or both: never a 5, whatever stands there
use mathlib.Core.Path.{◌≡◌, refl}
use mathlib.Core.List.{List, [], ◌∷◌, ◌++◌}
use Prim.Native.Nat.{ℕ}
use lib.IntN.{ℤ, pos, neg_ℤ}
use lib.ListN.{length, replicate}
use Rattle.wei.specs.Word.{packed}
use Rattle.wei.specs.State.{before, carry_i1, carry_i2, between}
use Rattle.wei.specs.Label.{second_label}
use Rattle.points.specs.Agreed.{of_width}
use Rattle.points.specs.Points.{a_point, coordinates}
use Rattle.points.specs.Turn.{point_of}
use Rattle.trellis.specs.Measure.{counted}
use Rattle.trellis.specs.Pick.{least, near, gap_of, type_sum, best_i3}
use Rattle.trellis.specs.Search.{range}
use Rattle.trellis.specs.Speak.{speak, after}
use Rattle.trellis.specs.Words.{word, word_parts}
use Rattle.distance.specs.Distance.{distance}
use Rattle.nearest.specs.Line.{line_distance}
use Rattle.nearest.specs.Found.{cost_of, weighed_of}
use Rattle.lists.specs.Tabled.{tabled}
use Rattle.registers.specs.Registers.{carried, moved_words, moved_of, same_from, oldest}
use Rattle.select.specs.Select.{arrive, winner, sum_at, first_step, lowered, reached_of, live_of, followed, step_at}
use Rattle.lists.specs.UpTo.{all_up_to}
use Rattle.sums.specs.Sums.{end_of, lowest}
use Rattle.picks.specs.Picks.{numbers_of, symbol_by, kept_in}
use Rattle.reasons.specs.Reason.{given_of}
use Rattle.receiver_meaning.specs.Told.{fault_at, fault_of}
use Rattle.receiver_meaning.specs.Piece.{marked_piece, piece_of}
use Rattle.machine.specs.declared.Receiver.{Receiver}
use Rattle.machine.specs.Machine.{fresh_sums, opened, shut, way_from, agreed_of, released_of, grown, taking, last_symbols, sound_core, sound}
use Rattle.openings.specs.declared.Start.{Start}
use Rattle.openings.specs.declared.Start.TheVariants.{Free, At}
use Rattle.openings.specs.Opening.{opening}
use Rattle.pieces.specs.Running.{Ran, symbol_at, running}
use Rattle.receiver.specs.Doors.{hearing, finishing}

-- width 0 and window w
abbrev pub freshly : ℕ → Start → Receiver
freshly w b = (opening (of_width 0) w b).receiver

abbrev pub row : Ran → List ℕ
row r = (given_of r.why).number ∷ (given_of r.why).place ∷ r.taken ∷ length r.words ∷ []

abbrev pub zeros : List ℤ
zeros = replicate 4 (pos 0)

-- the points of (A,A), once and five times
abbrev pub a-a : List ℤ
a-a = replicate 4 (pos 128)

abbrev pub a-a-five : List ℤ
a-a-five = replicate 20 (pos 128)

pub closed-row : (row (hearing shut (piece_of []) 0) ≡ 9 ∷ 0 ∷ 0 ∷ 0 ∷ []) × (row (finishing shut 0) ≡ 9 ∷ 0 ∷ 0 ∷ 0 ∷ [])
unfolding hearing finishing sound shut
closed-row = (refl, refl)

pub uneven-row : row (hearing (freshly 64 Free) (piece_of (pos 0 ∷ [])) 0) ≡ 10 ∷ 0 ∷ 0 ∷ 0 ∷ []
unfolding opening hearing sound sound_core all_up_to opened fresh_sums
uneven-row = refl

pub sample-row : row (hearing (freshly 64 Free) (piece_of (pos 8192 ∷ neg_ℤ (pos 8192) ∷ pos 0 ∷ pos 8193 ∷ [])) 0) ≡ 5 ∷ 3 ∷ 0 ∷ 0 ∷ []
unfolding opening hearing sound sound_core all_up_to opened fresh_sums running symbol_at fault_of fault_at
sample-row = refl

-- "Window 1, u 0, free start, (128,128,128,128) twice: the first is taken, nothing released; the second gets 6"; with no room, the second
-- symbol's word; with no room, the one pending word; (A,A) five times
at-work : (row (hearing (freshly 1 Free) (piece_of (a-a ++ a-a)) 0) ≡ 6 ∷ 0 ∷ 1 ∷ 0 ∷ [])
    × (row (hearing (freshly 64 Free) (piece_of (a-a ++ zeros)) 0) ≡ 8 ∷ 0 ∷ 1 ∷ 0 ∷ [])
    × (row (finishing (hearing (freshly 64 Free) (piece_of zeros) 0).receiver 0) ≡ 8 ∷ 0 ∷ 0 ∷ 0 ∷ [])
    × ((hearing (freshly 64 (At 0)) (piece_of a-a-five) 5).words ≡ 0 ∷ [])
    × ((hearing (freshly 64 (At 0)) (piece_of a-a-five) 5).taken ≡ 5)
unfolding opening hearing finishing sound sound_core all_up_to opened fresh_sums running symbol_at fault_of fault_at taking agreed_of grown released_of oldest same_from
    carried moved_words moved_of tabled followed live_of reached_of sum_at lowered lowest step_at first_step winner arrive weighed_of cost_of best_i3 type_sum counted gap_of
    near least line_distance distance point_of a_point coordinates second_label before between carry_i1 carry_i2 way_from range speak after end_of last_symbols
    symbol_by numbers_of kept_in word word_parts packed
at-work = (refl, refl, refl, refl, refl)

pub window-row : row (hearing (freshly 1 Free) (piece_of (a-a ++ a-a)) 0) ≡ 6 ∷ 0 ∷ 1 ∷ 0 ∷ []
window-row = at-work.0

pub room_row : row (hearing (freshly 64 Free) (piece_of (a-a ++ zeros)) 0) ≡ 8 ∷ 0 ∷ 1 ∷ 0 ∷ []
room_row = at-work.1

pub finish-row : row (finishing (hearing (freshly 64 Free) (piece_of zeros) 0).receiver 0) ≡ 8 ∷ 0 ∷ 0 ∷ 0 ∷ []
finish-row = at-work.2

pub five-one : (hearing (freshly 64 (At 0)) (piece_of a-a-five) 5).words ≡ 0 ∷ []
five-one = at-work.3

pub five-taken : (hearing (freshly 64 (At 0)) (piece_of a-a-five) 5).taken ≡ 5
five-taken = at-work.4

-- ---- missing points

-- not one mark for each symbol, and a mark above 3
pub unfit-row : (row (hearing (freshly 64 Free) (marked_piece [] zeros) 0) ≡ 10 ∷ 0 ∷ 0 ∷ 0 ∷ []) × (row (hearing (freshly 64 Free) (marked_piece (4 ∷ []) zeros) 0) ≡ 10 ∷ 0 ∷ 0 ∷ 0 ∷ [])
unfolding opening hearing sound sound_core all_up_to opened fresh_sums
unfit-row = (refl, refl)

-- two numbers that are no coordinates, in the places of a point that is missing; C and D heard
abbrev far : List ℤ
far = replicate 2 (pos 9000)

abbrev at_c : List ℤ
at_c = pos 128 ∷ neg_ℤ (pos 128) ∷ []

abbrev at-d : List ℤ
at-d = neg_ℤ (pos 128) ∷ pos 128 ∷ []

-- 01's line of the words 2, 0, 0: (C,C), then (C,C), of which something may be missing, then (C,B)
abbrev line : List ℤ → List ℤ
line middle = (at_c ++ at_c) ++ (middle ++ (at_c ++ replicate 2 (neg_ℤ (pos 128))))

-- all words of a line with these marks, from the start 0
abbrev said : List ℕ → List ℤ → List ℕ
said ms xs = let r = hearing (freshly 64 (At 0)) (marked_piece ms xs) 8 in r.words ++ (finishing r.receiver 8).words

-- At the start D and the smaller state decide, or the smaller state alone. In the middle what is left of the symbol, or the symbols before
-- and after it, leave one way of sum 0; where both points are missing they leave two, and the smaller last state is not the one sent.
missing : (said (1 ∷ []) (far ++ at-d) ≡ 6 ∷ []) × (said (2 ∷ []) (at-d ++ far) ≡ 6 ∷ []) × (said (3 ∷ []) (far ++ far) ≡ 0 ∷ [])
    × (said (0 ∷ 1 ∷ 0 ∷ []) (line (far ++ at_c)) ≡ 2 ∷ 0 ∷ 0 ∷ []) × (said (0 ∷ 2 ∷ 0 ∷ []) (line (at_c ++ far)) ≡ 2 ∷ 0 ∷ 0 ∷ []) × (said (0 ∷ 3 ∷ 0 ∷ []) (line (far ++ far)) ≡ 2 ∷ 6 ∷ 2 ∷ [])
unfolding opening hearing finishing sound sound_core all_up_to opened fresh_sums running symbol_at fault_of fault_at taking agreed_of grown released_of oldest
    same_from carried moved_words moved_of tabled followed live_of reached_of sum_at lowered lowest step_at first_step winner arrive weighed_of cost_of best_i3 type_sum counted
    gap_of near least line_distance distance point_of a_point coordinates second_label before between carry_i1 carry_i2 way_from range speak after end_of
    last_symbols symbol_by numbers_of kept_in word word_parts packed
missing = (refl, refl, refl, refl, refl, refl)

pub at-start : (said (1 ∷ []) (far ++ at-d) ≡ 6 ∷ []) × (said (2 ∷ []) (at-d ++ far) ≡ 6 ∷ []) × (said (3 ∷ []) (far ++ far) ≡ 0 ∷ [])
at-start = (missing.0, missing.1, missing.2)

pub in-middle : (said (0 ∷ 1 ∷ 0 ∷ []) (line (far ++ at_c)) ≡ 2 ∷ 0 ∷ 0 ∷ []) × (said (0 ∷ 2 ∷ 0 ∷ []) (line (at_c ++ far)) ≡ 2 ∷ 0 ∷ 0 ∷ [])
    × (said (0 ∷ 3 ∷ 0 ∷ []) (line (far ++ far)) ≡ 2 ∷ 6 ∷ 2 ∷ [])
in-middle = (missing.3, missing.4, missing.5)
