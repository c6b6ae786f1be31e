-- What the recorder does to a receiver: where nothing was taken it stays, and what a call changes is live or the closed one, so that it
-- reads as itself.
use mathlib.Core.Path.{◌≡◌, refl, ◌∙◌}
use mathlib.Core.Bool.{Bool, true, false, cond, ◌&&◌}
use mathlib.Core.List.{List, [], ◌∷◌, ◌++◌}
use Prim.Native.Nat.{ℕ, ◌+◌, ◌-◌, ◌≤◌}
use native.Mathlib.Omega.{arith}
use lib.Dec.{ltb}
use lib.ListN.{length}
use Rattle.std.specs.Prelude.{Ok, Err}
use Rattle.trellis.specs.Measure.{Two}
use Rattle.nearest.specs.declared.Received.{Received}
use Rattle.machine.specs.declared.Receiver.{Receiver}
use Rattle.machine.specs.Machine.{Outcome, refused, taking, grown, shut, sound, agreed_of, kept_of, last_words}
use Rattle.machine.proofs.Sound.{sound-live}
use Rattle.reasons.specs.declared.Why.TheVariants.{NoRoom, Closed}
use Rattle.reasons.specs.Reason.{given_of, is_done}
use Rattle.receiver_meaning.specs.Told.{fault_of}
use Rattle.receiver_meaning.specs.Piece.{Piece}
use Rattle.pieces.specs.Running.{symbol_at}
use Rattle.receiver.specs.Doors as doors
use Rattle.records.specs.Values.{Entry}
use Rattle.record_write.specs.Front.{symbol_records, finish_records, space_of}
use Rattle.recorder.specs.Taping.{taped_at, Ran, taping}
use Rattle.recorder.specs.Doors.{stopped, taped_hearing, taped_finishing}
use Rattle.c_states.specs.State.{read_receiver}

live-reads : (rx : Receiver) → rx.live ≡ true → read_receiver rx ≡ rx
live-reads rx e = rw e

-- either of two outcomes
live_of : (b : Bool) (p q : Outcome) (v : Bool) → p.receiver.live ≡ v → q.receiver.live ≡ v → (cond b p q).receiver.live ≡ v
live_of true p q v e f = e
live_of false p q v e f = f

module _ (rx : Receiver) (y : Two Received) (room : ℕ) where
  symbol-live : (symbol_at rx y room).receiver.live ≡ rx.live
  unfolding symbol_at taking grown
  symbol-live =
      live_of (ltb (fault_of y) 4) _ _ rx.live refl
      (live_of (ltb rx.core.window (kept_of rx y)) _ _ rx.live refl (live_of (ltb room (agreed_of rx y)) _ _ rx.live refl refl))

  taped-live : (bytes : ℕ) → (taped_at rx y room bytes).receiver.live ≡ rx.live
  unfolding taped_at
  taped-live bytes =
      let o = symbol_at rx y room in
      live_of (is_done o.why && ltb bytes (space_of (symbol_records y o.words))) (refused rx (Err NoRoom)) o rx.live refl symbol-live

module _ (p q : Ran) where
  pick-live : (b : Bool) (v : Bool) → p.receiver.live ≡ v → q.receiver.live ≡ v → (cond b p q).receiver.live ≡ v
  pick-live true v e f = e
  pick-live false v e f = f

  pick-least : (b : Bool) (n : ℕ) → n ≤ p.taken → n ≤ q.taken → n ≤ (cond b p q).taken
  pick-least true n e f = e
  pick-least false n e f = f

  pick-keeps : (b : Bool) (n : ℕ) (rx : Receiver) → (p.taken ≡ n → ⊥) → q.receiver ≡ rx → (cond b p q).taken ≡ n → (cond b p q).receiver ≡ rx
  pick-keeps true n rx e f h = absurd (e h)
  pick-keeps false n rx e f h = f

module _ (room bytes : ℕ) where
  -- where a run goes after one symbol, and where it stops
  abbrev on : Two Received → List (Two Received) → Receiver → ℕ → List ℕ → List Entry → Ran
  on y ys rx n ws rs = let o = taped_at rx y (room - length ws) (bytes - space_of rs) in taping ys o.receiver (n + 1) (ws ++ o.words) (rs ++ symbol_records y o.words) room bytes

  abbrev off : Two Received → Receiver → ℕ → List ℕ → List Entry → Ran
  off y rx n ws rs = record { receiver = rx; taken = n; words = ws; records = rs; why = (taped_at rx y (room - length ws) (bytes - space_of rs)).why }

  taping-live : (ys : List (Two Received)) (rx : Receiver) (n : ℕ) (ws : List ℕ) (rs : List Entry) → (taping ys rx n ws rs room bytes).receiver.live ≡ rx.live
  unfolding taping
  taping-live [] rx n ws rs = refl
  taping-live (y ∷ ys) rx n ws rs =
      let o = taped_at rx y (room - length ws) (bytes - space_of rs) in
      pick-live (on y ys rx n ws rs) (off y rx n ws rs) (is_done o.why) rx.live
      (taping-live ys o.receiver (n + 1) (ws ++ o.words) (rs ++ symbol_records y o.words) ∙ taped-live rx y (room - length ws) (bytes - space_of rs)) refl

  taping-least : (ys : List (Two Received)) (rx : Receiver) (n : ℕ) (ws : List ℕ) (rs : List Entry) → n ≤ (taping ys rx n ws rs room bytes).taken
  unfolding taping
  taping-least [] rx n ws rs = omega arith
  taping-least (y ∷ ys) rx n ws rs =
      let o = taped_at rx y (room - length ws) (bytes - space_of rs) in
      let h = taping-least ys o.receiver (n + 1) (ws ++ o.words) (rs ++ symbol_records y o.words) in
      pick-least (on y ys rx n ws rs) (off y rx n ws rs) (is_done o.why) n (omega arith) (omega arith)

  taping-keeps : (ys : List (Two Received)) (rx : Receiver) (n : ℕ) (ws : List ℕ) (rs : List Entry) → (taping ys rx n ws rs room bytes).taken ≡ n →
      (taping ys rx n ws rs room bytes).receiver ≡ rx
  unfolding taping
  taping-keeps [] rx n ws rs h = refl
  taping-keeps (y ∷ ys) rx n ws rs h =
      let o = taped_at rx y (room - length ws) (bytes - space_of rs) in
      let k = taping-least ys o.receiver (n + 1) (ws ++ o.words) (rs ++ symbol_records y o.words) in
      pick-keeps (on y ys rx n ws rs) (off y rx n ws rs) (is_done o.why) n rx (λ z. omega arith) refl h

module _ (rx : Receiver) (p : Piece) (room bytes : ℕ) where
  pub hearing-keeps : (taped_hearing rx p room bytes).taken ≡ 0 → (taped_hearing rx p room bytes).receiver ≡ rx
  unfolding taped_hearing
  hearing-keeps h = go (sound rx) p.fits refl refl where
    go : (a b : Bool) → sound rx ≡ a → p.fits ≡ b → (taped_hearing rx p room bytes).receiver ≡ rx
    go true true x y = rw (x, y) (taping-keeps room bytes p.symbols rx 0 [] [] (rw (x, y) at h))
    go true false x y = rw (x, y)
    go false b x y = rw x

  pub hearing-reads : ((taped_hearing rx p room bytes).taken ≡ 0 → ⊥) → read_receiver (taped_hearing rx p room bytes).receiver ≡ (taped_hearing rx p room bytes).receiver
  unfolding taped_hearing
  hearing-reads h = go (sound rx) p.fits refl refl where
    go : (a b : Bool) → sound rx ≡ a → p.fits ≡ b → read_receiver (taped_hearing rx p room bytes).receiver ≡ (taped_hearing rx p room bytes).receiver
    go true true x y = rw (x, y) (live-reads (taping p.symbols rx 0 [] [] room bytes).receiver (taping-live room bytes p.symbols rx 0 [] [] ∙ sound-live rx x))
    go true false x y = absurd (h (rw (x, y)))
    go false b x y = absurd (h (rw x))

module _ (rx : Receiver) (room bytes : ℕ) where
  -- done; and closed, short of places, short of bytes, or done
  abbrev closes : Ran
  closes = record { receiver = shut; taken = 0; words = last_words rx; records = finish_records (last_words rx); why = Ok tt }

  abbrev outcome : Bool → Bool → Bool → Ran
  outcome a b c = cond a (cond b (stopped rx (Err NoRoom)) (cond c (stopped rx (Err NoRoom)) closes)) (stopped rx (Err Closed))

  -- the receiver's own answer, and what the recorder makes of it
  abbrev own : Bool → Bool → doors.Ran
  own a b = cond a (cond b (doors.stopped rx (Err NoRoom)) (record { receiver = shut; taken = 0; words = last_words rx; why = Ok tt })) (doors.stopped rx (Err Closed))

  abbrev made : doors.Ran → Ran
  made h =
      cond (is_done h.why)
      (cond (ltb bytes (space_of (finish_records h.words))) (stopped rx (Err NoRoom)) (record { receiver = h.receiver; taken = 0; words = h.words; records = finish_records h.words; why = Ok tt }))
      (stopped rx h.why)

  finish-is : taped_finishing rx room bytes ≡ outcome (sound rx) (ltb room rx.core.pending) (ltb bytes (space_of (finish_records (last_words rx))))
  unfolding taped_finishing doors.finishing
  finish-is = go (sound rx) (ltb room rx.core.pending) where
    go : (a b : Bool) → made (own a b) ≡ outcome a b (ltb bytes (space_of (finish_records (last_words rx))))
    go true true = refl
    go true false = refl
    go false b = refl

  keeps-of : (a b c : Bool) → ((given_of (outcome a b c).why).number ≡ 0 → ⊥) → (outcome a b c).receiver ≡ rx
  keeps-of true true c h = refl
  keeps-of true false true h = refl
  keeps-of true false false h = absurd (h refl)
  keeps-of false b c h = refl

  reads_of : (a b c : Bool) → (given_of (outcome a b c).why).number ≡ 0 → read_receiver (outcome a b c).receiver ≡ (outcome a b c).receiver
  unfolding shut
  reads_of true true c h = absurd (let k : ◌≡◌ {A = ℕ} 8 0 = h in omega arith)
  reads_of true false true h = absurd (let k : ◌≡◌ {A = ℕ} 8 0 = h in omega arith)
  reads_of true false false h = refl
  reads_of false b c h = absurd (let k : ◌≡◌ {A = ℕ} 9 0 = h in omega arith)

  open_of : (a b c : Bool) → (given_of (outcome a b c).why).number ≡ 0 → a ≡ true
  open_of true b c h = refl
  open_of false b c h = absurd (let k : ◌≡◌ {A = ℕ} 9 0 = h in omega arith)

  pub finishing-keeps : ((given_of (taped_finishing rx room bytes).why).number ≡ 0 → ⊥) → (taped_finishing rx room bytes).receiver ≡ rx
  finishing-keeps = rw finish-is (keeps-of (sound rx) (ltb room rx.core.pending) (ltb bytes (space_of (finish_records (last_words rx)))))

  pub finishing-reads : (given_of (taped_finishing rx room bytes).why).number ≡ 0 → read_receiver (taped_finishing rx room bytes).receiver ≡ (taped_finishing rx room bytes).receiver
  finishing-reads = rw finish-is (reads_of (sound rx) (ltb room rx.core.pending) (ltb bytes (space_of (finish_records (last_words rx)))))

  pub finished_open : (given_of (taped_finishing rx room bytes).why).number ≡ 0 → sound rx ≡ true
  finished_open = rw finish-is (open_of (sound rx) (ltb room rx.core.pending) (ltb bytes (space_of (finish_records (last_words rx)))))
