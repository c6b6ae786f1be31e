-- What the doors rely on. For a receiver that was told a fine history: its record, what one more symbol does to it, what finish
-- writes and what an opening makes, each in the words of the meaning.
--   sound-told                           the machine takes the record for sound
--   accord-told .. pending-fits          the record's agreement, and how many are pending
--   kept-told, agreed-told               one more symbol: how many stay pending, how many words are released
--   Judged, taking-told                  what is said to a symbol and what becomes of it are what the meaning judges
--   machine-same                         the receiver told other symbols: the same machine after ys
--   grown-told                           told one symbol more
--   last-told, rest-many                 what finish writes, and how many words
--   fresh_kept                           what was pending and the new symbol are released or stay pending
--   fresh-few, fresh-most, rest-most     a symbol releases no more than were pending; neither it nor a finish writes more than 64
--   opened-told                          an opening
use mathlib.Core.Path.{◌≡◌, refl, sym, ap, ◌∙◌}
use mathlib.Core.Bool.{true}
use mathlib.Core.List.{◌∷◌}
use Prim.Native.Nat.{ℕ, ◌+◌, ◌≤◌}
use native.Mathlib.Omega.{arith}
use lib.ListN.{length}
use Rattle.calls.specs.Calls.{fresh, rest}
use Rattle.points.specs.declared.Accord.{Accord}
use Rattle.trellis.specs.Measure.{Start, Two}
use Rattle.trellis.proofs.Spoken.{spoken-reach}
use Rattle.nearest.specs.declared.Received.{Received}
use Rattle.nearest.proofs.Laws.{line-chooses}
use Rattle.nearest.specs.Line.{BothInRange, line_measure, line_choice}
use Rattle.machine.specs.Machine.{sound, agreed_of, kept_of, grown, taking, last_words, opened, machine_after, machine_of}
use Rattle.receiver_meaning.specs.Told.{Told, with_heard, speaker_of, pending_after, judge_symbol, Fine}
use Rattle.machine.proofs.Owes.{owes, owes-step, owes-sound}
use Rattle.machine.proofs.Finish.{last-words, last-many}
use Rattle.machine.proofs.Telling.{telling-machine}
use Rattle.receiver_meaning.proofs.Telling.{unheard}
use Rattle.machine.proofs.Judged.{judged}
pub use Rattle.machine.proofs.Telling.{machine-same}
pub use Rattle.machine.proofs.Judged.{Judged}

module _ (t : Told) (f : Fine t) where
  -- ── the record ──
  pub sound-told : sound (machine_of t) ≡ true
  sound-told = owes-sound t f

  pub accord-told : (machine_of t).core.accord ≡ t.accord
  accord-told = (owes t f).keeps.accord

  pub pending-told : (machine_of t).core.pending ≡ pending_after t t.heard
  pending-told =
      omega (arith, (owes t f).keeps.holds.count, spoken-reach t.accord.u (line_measure t.accord) (line_choice t.accord) (line-chooses t.accord) t.start f.good_start t.heard)

  pub pending-fits : (machine_of t).core.pending ≤ t.window
  pending-fits = (owes t f).fits

  -- ── one more symbol ──
  module _ (y : Two Received) where
    pub kept-told : kept_of (machine_of t) y ≡ pending_after t (y ∷ t.heard)
    kept-told = (owes-step t f y).kept

    pub agreed-told : agreed_of (machine_of t) y ≡ length (fresh (speaker_of t) t.heard y)
    agreed-told = (owes-step t f y).agreed

    -- as many as were pending and the new one are released or stay pending
    pub fresh_kept : length (fresh (speaker_of t) t.heard y) + pending_after t (y ∷ t.heard) ≡ pending_after t t.heard + 1
    fresh_kept = omega (arith, agreed-told, kept-told, pending-told, (owes-step t f y).few)

    pub fresh-few : length (fresh (speaker_of t) t.heard y) ≤ (machine_of t).core.pending
    fresh-few = omega (arith, agreed-told, (owes-step t f y).few)

    pub fresh-most : length (fresh (speaker_of t) t.heard y) ≤ 64
    fresh-most = omega (arith, fresh-few, pending-fits, f.small-window)

  pub grown-told : (y : Two Received) → machine_of (with_heard t (y ∷ t.heard)) ≡ grown (machine_of t) y
  grown-told y = telling-machine t y

  pub taking-told : (y : Two Received) → BothInRange y → (room : ℕ) → Judged t y (judge_symbol t t.heard y room) (taking (machine_of t) y room)
  taking-told y r room = judged t f y r room

  -- ── finish ──
  pub last-told : last_words (machine_of t) ≡ rest (speaker_of t) t.heard
  last-told = last-words t.accord t.start f.good_start t.heard (machine_of t) (owes t f).keeps

  pub rest-many : length (rest (speaker_of t) t.heard) ≡ (machine_of t).core.pending
  rest-many = ap length (sym last-told) ∙ last-many (machine_of t)

  pub rest-most : length (rest (speaker_of t) t.heard) ≤ 64
  rest-most = omega (arith, rest-many, pending-fits, f.small-window)

-- ── an opening ──
pub opened-told : (ac : Accord) (window : ℕ) (b : Start) → machine_of (unheard ac window b) ≡ opened ac window b
unfolding machine_after
opened-told ac window b = refl
