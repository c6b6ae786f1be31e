-- Each number of 01's table, reached: small inputs to the doors' functions, with which the promises equate every result, and what they
-- give. The receiver's pieces and finishes are computed in `worked_cases`: rows of the number, the place, the symbols taken, the words written.
--   sender-reached    1, 9, 4, 8 of the sender
--   opening-reached   1, 2, 3 of the receiver's opening
--   closed-row, uneven-row, sample-row, window-row, room_row, finish-row   9, 10, 5, 6, 8, 8
use mathlib.Core.Path.{◌≡◌, refl}
use mathlib.Core.List.{[]}
use Prim.Native.Nat.{ℕ}
use Rattle.std.specs.Prelude.{Result, ⊤}
use Rattle.points.specs.Agreed.{of_width}
use Rattle.reasons.specs.declared.Why.{Why}
use Rattle.reasons.specs.Reason.{given_of}
use Rattle.sender.specs.Send as sender
use Rattle.openings.specs.declared.Start.TheVariants.{Free, At}
use Rattle.openings.specs.Opening.{opening}
pub use Rattle.worked_cases.proofs.Computed.{closed-row, uneven-row, sample-row, window-row, room_row, finish-row}

pub sender-reached : ((sender.opening (of_width 9)).number ≡ 1) × ((sender.sending sender.shut 0 []).number ≡ 9)
    × ((sender.sending (sender.fresh (of_width 0)) 8 []).number ≡ 4) × ((sender.sending (sender.fresh (of_width 0)) 7 []).number ≡ 8)
unfolding sender.opening sender.sending
sender-reached = (refl, refl, refl, refl)

abbrev opening_row : Result ⊤ Why → ℕ
opening_row w = (given_of w).number

pub opening-reached : (opening_row (opening (of_width 9) 0 (At 16)).why ≡ 1) × (opening_row (opening (of_width 8) 0 (At 16)).why ≡ 2)
    × (opening_row (opening (of_width 8) 65 Free).why ≡ 2) × (opening_row (opening (of_width 8) 64 (At 16)).why ≡ 3)
unfolding opening
opening-reached = (refl, refl, refl, refl)
