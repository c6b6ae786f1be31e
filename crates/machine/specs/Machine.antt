-- The receiver as pure functions on its own record: what a fresh one is, what one symbol does to it, and what finish writes. The code
-- equals these functions whatever the record holds; what they mean is proved in proofs/Owes.
--   fresh_sums b                the sums before any symbol
--   opened k window b          a fresh receiver
--   shut                       a closed one
--   costs_of, new_sums, next_sums, next_steps   what the symbol y makes of the sums, and what the states keep of them
--   numbers_in rx y             the numbers of the points nearest to y
--   slot_of, age_of              where a pending symbol stands
--   pending_at, way_from         the pending symbols on the way into a state
--   agreed_of rx y              how many pending symbols are agreed once y is heard: so many words are released
--   kept_of rx y                how many are pending then
--   released_of rx y            the released symbols, the oldest first
--   grown rx y                 the receiver with y taken
--   Outcome, taking            what happens to y where the output has `room` places: refused 6, 8 in this order, or taken
--   last_symbols rx             the pending symbols of the answer, the oldest first
--   machine_of t                the receiver after what it has been told; machine_after t ys, after the symbols ys alone
--   sound rx                   the record is one that the functions can work on: anything else is answered like a closed receiver
use Rattle.std.specs.Prelude.{ℕ, ◌+◌, ◌-◌, ◌%◌, Bool, true, false, cond, ◌&&◌, List, [], ◌∷◌, map, eqb, leb, ltb, take, replicate, Result, Ok, Err, ⊤}
use Rattle.trellis.specs.Search.{range}
use Rattle.trellis.specs.Speak.{after}
use Rattle.trellis.specs.Measure.{Start, free, named, Two}
use Rattle.trellis.specs.Words.{words_from, turn_after, first_turn}
use Rattle.wei.specs.Symbol.{Symbol}
use Rattle.points.specs.declared.Accord.{Accord}
use Rattle.points.specs.Agreed.{is_accord, of_width}
use Rattle.nearest.specs.declared.Received.{Received}
use Rattle.nearest.specs.Found.{weighed_of}
use Rattle.registers.specs.Registers.{subset_in, moved_of, same_at, oldest}
use Rattle.machine.specs.declared.Core.{Core}
use Rattle.machine.specs.declared.Receiver.{Receiver}
use Rattle.reasons.specs.declared.Why.{Why}
use Rattle.reasons.specs.declared.Why.TheVariants.{Full, NoRoom}
use Rattle.select.specs.Select.{limit, sixteen, sum_at, lowered, step_at, prev_in}
use Rattle.lists.specs.UpTo.{all_up_to}
use Rattle.sums.specs.Sums.{end_of}
use Rattle.picks.specs.Picks.{numbers_of, symbol_in, kept_in}
use Rattle.receiver_meaning.specs.Told.{Told}

-- ---- a fresh receiver and a closed one

unfoldable pub fresh_sums : Start → List ℕ
fresh_sums free = sixteen (λ s. 0)
fresh_sums (named n) = sixteen (λ s. cond (eqb s n) 0 limit)

abbrev pub core : Accord → ℕ → ℕ → Core
core k window turn = record { accord = k; window = window; turn = turn; slot = 0; pending = 0 }

unfoldable pub opened : Accord → ℕ → Start → Receiver
opened k window b = record { live = true; core = core k window (first_turn b); sums = fresh_sums b; registers = replicate 48 0; picks = replicate 72 0 }

unfoldable pub shut : Receiver
shut = record { live = false; core = core (of_width 0) 0 0; sums = replicate 16 0; registers = replicate 48 0; picks = replicate 72 0 }

-- ---- one symbol

abbrev pub costs_of : Receiver → Two Received → List ℕ
costs_of rx y = (weighed_of rx.core.accord y).costs

abbrev pub new_sums : Receiver → Two Received → List ℕ
new_sums rx y = sixteen (sum_at rx.sums (costs_of rx y))

abbrev pub next_sums : Receiver → Two Received → List ℕ
next_sums rx y = sixteen (lowered (new_sums rx y))

abbrev pub next_steps : Receiver → Two Received → List ℕ
next_steps rx y = sixteen (step_at rx.sums (costs_of rx y))

-- the numbers of the points nearest to y, as one word
abbrev pub numbers_in : Receiver → Two Received → ℕ
numbers_in rx y = let w = weighed_of rx.core.accord y in numbers_of w.w1 w.w2

-- the slot of the j-th oldest pending symbol, and how many symbols came after it
abbrev pub slot_of : Core → ℕ → ℕ
slot_of c j = (c.slot + 64 - c.pending + j) % 64

abbrev pub age_of : Core → ℕ → ℕ
age_of c j = c.pending - 1 - j

-- the j-th oldest pending symbol on the way into the state s: its subset from the state's registers, the rest from the picks
abbrev pub pending_at : Core → List ℕ → List ℕ → ℕ → ℕ → Symbol
pending_at c registers picks s j = symbol_in c.accord.u picks (slot_of c j) (age_of c j) (subset_in registers s (age_of c j))

-- the pending symbols on the way into s, the oldest first
unfoldable pub way_from : Core → List ℕ → List ℕ → ℕ → List Symbol
way_from c registers picks s = map (pending_at c registers picks s) (range 0 c.pending)

-- the newest symbol is never agreed, so the states before it are asked
unfoldable pub agreed_of : Receiver → Two Received → ℕ
agreed_of rx y = oldest (same_at rx.registers (next_steps rx y)) rx.core.pending

abbrev pub kept_of : Receiver → Two Received → ℕ
kept_of rx y = rx.core.pending + 1 - agreed_of rx y

-- all live states agree on them, so any one will do
unfoldable pub released_of : Receiver → Two Received → List Symbol
released_of rx y = take (agreed_of rx y) (way_from rx.core rx.registers rx.picks (prev_in (next_steps rx y) 0))

unfoldable pub grown : Receiver → Two Received → Receiver
grown rx y =
    record {
      live = rx.live;
      core =
          record {
            accord = rx.core.accord;
            window = rx.core.window;
            turn = after turn_after rx.core.turn (released_of rx y);
            slot = (rx.core.slot + 1) % 64;
            pending = kept_of rx y;
          };
      sums = next_sums rx y;
      registers = moved_of (rx.core.pending + 1) rx.registers (next_steps rx y);
      picks = kept_in rx.picks rx.core.slot (weighed_of rx.core.accord y).i3 (numbers_in rx y);
    }

pub record Outcome : Type 0 where
  pub receiver : Receiver
  pub words : List ℕ
  pub why : Result ⊤ Why

abbrev pub refused : Receiver → Result ⊤ Why → Outcome
refused rx w = record { receiver = rx; words = []; why = w }

unfoldable pub taking : Receiver → Two Received → ℕ → Outcome
taking rx y room =
    cond (ltb rx.core.window (kept_of rx y)) (refused rx (Err Full))
    (cond (ltb room (agreed_of rx y)) (refused rx (Err NoRoom))
    (record { receiver = grown rx y; words = words_from rx.core.accord.u rx.core.turn (released_of rx y); why = Ok tt }))

-- ---- finish

unfoldable pub last_symbols : Receiver → List Symbol
last_symbols rx = way_from rx.core rx.registers rx.picks (end_of rx.sums)

abbrev pub last_words : Receiver → List ℕ
last_words rx = words_from rx.core.accord.u rx.core.turn (last_symbols rx)

-- ---- what the functions can work on

unfoldable pub sound_core : Core → Bool
sound_core c = is_accord c.accord && (leb 1 c.window && (leb c.window 64 && (leb c.turn 4 && (ltb c.slot 64 && leb c.pending c.window))))

unfoldable pub sound : Receiver → Bool
sound rx = rx.live && (sound_core rx.core && all_up_to limit rx.sums)

-- ---- after a history

unfoldable pub machine_after : Told → List (Two Received) → Receiver
machine_after t [] = opened t.accord t.window t.start
machine_after t (y ∷ ys) = grown (machine_after t ys) y

abbrev pub machine_of : Told → Receiver
machine_of t = machine_after t t.heard
