-- Room: a symbol writes no more words than there is room for, and so does a run of them.
--   symbol-few, running-few
use mathlib.Core.Bool.{Bool, true, false, cond}
use mathlib.Core.List.{List, [], ◌∷◌, ◌++◌}
use Prim.Native.Nat.{ℕ, ◌+◌, ◌-◌, ◌≤◌}
use native.Mathlib.Omega.{arith}
use borrow.Author.Tests.{ltb-false}
use lib.Dec.{ltb}
use lib.ListN.{length, take, length-append, length-take}
use Rattle.trellis.specs.Measure.{Two}
use Rattle.trellis.specs.Words.{word, words_from, turn_after}
use Rattle.trellis.proofs.Speak.{speak-length}
use Rattle.nearest.specs.declared.Received.{Received}
use Rattle.machine.specs.declared.Receiver.{Receiver}
use Rattle.select.specs.Select.{prev_in}
use Rattle.machine.specs.Machine.{Outcome, next_steps, way_from, taking, agreed_of, kept_of, released_of}
use Rattle.reasons.specs.Reason.{is_done}
use Rattle.receiver_meaning.specs.Told.{fault_of}
use Rattle.pieces.specs.Running.{symbol_at, Ran, running}
use Rattle.pieces.proofs.Kept.{either}

module _ (rx : Receiver) (y : Two Received) (room : ℕ) where
  abbrev Few : Outcome → Type 0
  Few o = length o.words ≤ room

  released-few : length (words_from rx.core.accord.u rx.core.turn (released_of rx y)) ≤ agreed_of rx y
  unfolding released_of
  released-few =
      let way = way_from rx.core rx.registers rx.picks (prev_in (next_steps rx y) 0) in
      omega (arith, speak-length turn_after (word rx.core.accord.u) rx.core.turn (take (agreed_of rx y) way), length-take (agreed_of rx y) way)

  pub symbol-few : Few (symbol_at rx y room)
  unfolding symbol_at taking
  symbol-few =
      either Few (ltb (fault_of y) 4) _ _ (λ _. omega arith)
      (λ _. either Few (ltb rx.core.window (kept_of rx y)) _ _ (λ _. omega arith)
      (λ _. either Few (ltb room (agreed_of rx y)) _ _ (λ _. omega arith) (λ e. omega (arith, released-few, ltb-false room (agreed_of rx y) e))))

pub running-few : (zs : List (Two Received)) (rx : Receiver) (n : ℕ) (ws : List ℕ) (room : ℕ) → length ws ≤ room → length (running zs rx n ws room).words ≤ room
unfolding running
running-few [] rx n ws room h = h
running-few (y ∷ zs) rx n ws room h =
    let o = symbol_at rx y (room - length ws) in
    go (is_done o.why) (running-few zs o.receiver (n + 1) (ws ++ o.words) room (omega (arith, length-append ws o.words, symbol-few rx y (room - length ws))))
  where
    o : Outcome
    o = symbol_at rx y (room - length ws)

    on : Ran
    on = running zs o.receiver (n + 1) (ws ++ o.words) room

    go : (b : Bool) → length on.words ≤ room → length (cond b on (record { receiver = rx; taken = n; words = ws; why = o.why })).words ≤ room
    go true k = k
    go false k = h
