-- What the doors do to an end: a refused call leaves it, and what a call changes is live or the closed one, so that it reads as itself.
use mathlib.Core.Path.{◌≡◌, refl, ◌∙◌}
use mathlib.Core.Bool.{Bool, true, false, cond, ◌&&◌}
use mathlib.Core.List.{List, [], ◌∷◌, ◌++◌}
use Prim.Native.Nat.{ℕ, ◌+◌, ◌-◌, ◌≤◌}
use native.Mathlib.Omega.{arith}
use lib.Dec.{leb, ltb}
use lib.IntN.{ℤ}
use lib.ListN.{length}
use Rattle.points.specs.declared.Accord.{Accord}
use Rattle.points.specs.Agreed.{is_accord}
use Rattle.wei.specs.Word.{is_word}
use Rattle.trellis.specs.Measure.{Two}
use Rattle.nearest.specs.declared.Received.{Received}
use Rattle.sender.specs.declared.Sender.{Sender}
use Rattle.sender.specs.Send as sender
use Rattle.machine.specs.declared.Receiver.{Receiver}
use Rattle.machine.specs.Machine.{opened, shut, taking, grown, kept_of, agreed_of, sound}
use Rattle.receiver_meaning.specs.Told.{fault_of}
use Rattle.reasons.specs.Reason.{given_of, is_done}
use Rattle.machine.proofs.Sound.{sound-live}
use Rattle.openings.specs.declared.Start.{Start}
use Rattle.openings.specs.Given.{start_fits}
use Rattle.pieces.specs.Running.{Ran, symbol_at, running}
use Rattle.receiver.specs.Doors.{hearing, finishing}
use Rattle.openings.specs.Opening.{opening}
use Rattle.receiver_meaning.specs.Piece.{Piece}
use Rattle.c_states.specs.State.{read_sender, read_receiver}

-- ---- the sender

pub sender-opening-reads : (k : Accord) → read_sender (sender.opening k).sender ≡ (sender.opening k).sender
unfolding sender.opening
sender-opening-reads k = go (is_accord k) refl where
  go : (b : Bool) → is_accord k ≡ b → read_sender (sender.opening k).sender ≡ (sender.opening k).sender
  go true e = rw e
  go false e = rw e

module _ (s : Sender) (n : ℕ) (out : List ℤ) where
  pub sending-keeps : ((sender.sending s n out).number ≡ 0 → ⊥) → (sender.sending s n out).sender ≡ s
  unfolding sender.sending
  sending-keeps h = go (sender.sound s) (is_word s.accord.u n) (leb 4 (length out)) refl refl refl where
    go : (a b c : Bool) → sender.sound s ≡ a → is_word s.accord.u n ≡ b → leb 4 (length out) ≡ c → (sender.sending s n out).sender ≡ s
    go true true true x y z = absurd (h (rw (x, y, z)))
    go true true false x y z = rw (x, y, z)
    go true false c x y z = rw (x, y)
    go false b c x y z = rw x

  pub sending-reads : (sender.sending s n out).number ≡ 0 → read_sender (sender.sending s n out).sender ≡ (sender.sending s n out).sender
  unfolding sender.sending sender.after
  sending-reads h = go (sender.sound s) (is_word s.accord.u n) (leb 4 (length out)) refl refl refl where
    go : (a b c : Bool) → sender.sound s ≡ a → is_word s.accord.u n ≡ b → leb 4 (length out) ≡ c → read_sender (sender.sending s n out).sender ≡ (sender.sending s n out).sender
    go true true true x y z = rw (x, y, z)
    go true true false x y z = absurd (let k : ◌≡◌ {A = ℕ} 8 0 = rw (x, y, z) at h in omega arith)
    go true false c x y z = absurd (let k : ◌≡◌ {A = ℕ} 4 0 = rw (x, y) at h in omega arith)
    go false b c x y z = absurd (let k : ◌≡◌ {A = ℕ} 9 0 = rw x at h in omega arith)

pub sound-reads : (s : Sender) → sender.sound s ≡ true → read_sender s ≡ s
sound-reads s = go s.live
  where
    go : (b : Bool) → (b && (is_accord s.accord && (ltb s.turn 4 && ltb s.state 16))) ≡ true → cond b s sender.shut ≡ s
    go true e = refl
    go false e = absurd (let k : ◌≡◌ {A = ℕ} 0 1 = cc in omega arith)

-- ---- the receiver

live-reads : (rx : Receiver) → rx.live ≡ true → read_receiver rx ≡ rx
live-reads rx e = rw e

pub receiver-opening-reads : (ac : Accord) (w : ℕ) (b : Start) → read_receiver (opening ac w b).receiver ≡ (opening ac w b).receiver
unfolding opening opened shut
receiver-opening-reads ac w b = go (is_accord ac) (leb 1 w && leb w 64) (start_fits b) refl refl refl where
  go : (i j k : Bool) → is_accord ac ≡ i → (leb 1 w && leb w 64) ≡ j → start_fits b ≡ k → read_receiver (opening ac w b).receiver ≡ (opening ac w b).receiver
  go true true true x y z = rw (x, y, z)
  go true true false x y z = rw (x, y, z)
  go true false k x y z = rw (x, y)
  go false j k x y z = rw x

symbol-live : (rx : Receiver) (y : Two Received) (room : ℕ) → (symbol_at rx y room).receiver.live ≡ rx.live
unfolding symbol_at taking grown
symbol-live rx y room = go (ltb (fault_of y) 4) (ltb rx.core.window (kept_of rx y)) (ltb room (agreed_of rx y)) refl refl refl where
  go : (a c d : Bool) → ltb (fault_of y) 4 ≡ a → ltb rx.core.window (kept_of rx y) ≡ c → ltb room (agreed_of rx y) ≡ d → (symbol_at rx y room).receiver.live ≡ rx.live
  go true c d e g h = rw e
  go false true d e g h = rw (e, g)
  go false false true e g h = rw (e, g, h)
  go false false false e g h = rw (e, g, h)

-- one symbol of a run: done or not, the run goes on or ends
module _ (p q : Ran) where
  pick-live : (b v : Bool) → p.receiver.live ≡ v → q.receiver.live ≡ v → (cond b p q).receiver.live ≡ v
  pick-live true v e f = e
  pick-live false v e f = f

  pick-least : (b : Bool) (n : ℕ) → n ≤ p.taken → n ≤ q.taken → n ≤ (cond b p q).taken
  pick-least true n e f = e
  pick-least false n e f = f

  pick-keeps : (b : Bool) (n : ℕ) (rx : Receiver) → (p.taken ≡ n → ⊥) → q.receiver ≡ rx → (cond b p q).taken ≡ n → (cond b p q).receiver ≡ rx
  pick-keeps true n rx e f h = absurd (e h)
  pick-keeps false n rx e f h = f

running-live : (ys : List (Two Received)) (rx : Receiver) (n : ℕ) (ws : List ℕ) (room : ℕ) → (running ys rx n ws room).receiver.live ≡ rx.live
unfolding running
running-live [] rx n ws room = refl
running-live (y ∷ ys) rx n ws room =
    let o = symbol_at rx y (room - length ws) in
    pick-live (running ys o.receiver (n + 1) (ws ++ o.words) room) (record { receiver = rx; taken = n; words = ws; why = o.why }) (is_done o.why) rx.live
    (running-live ys o.receiver (n + 1) (ws ++ o.words) room ∙ symbol-live rx y (room - length ws)) refl

running-least : (ys : List (Two Received)) (rx : Receiver) (n : ℕ) (ws : List ℕ) (room : ℕ) → n ≤ (running ys rx n ws room).taken
unfolding running
running-least [] rx n ws room = omega arith
running-least (y ∷ ys) rx n ws room =
    let o = symbol_at rx y (room - length ws) in
    let h = running-least ys o.receiver (n + 1) (ws ++ o.words) room in
    pick-least (running ys o.receiver (n + 1) (ws ++ o.words) room) (record { receiver = rx; taken = n; words = ws; why = o.why }) (is_done o.why) n (omega arith) (omega arith)

running-keeps : (ys : List (Two Received)) (rx : Receiver) (n : ℕ) (ws : List ℕ) (room : ℕ) → (running ys rx n ws room).taken ≡ n → (running ys rx n ws room).receiver ≡ rx
unfolding running
running-keeps [] rx n ws room h = refl
running-keeps (y ∷ ys) rx n ws room h =
    let o = symbol_at rx y (room - length ws) in
    let k = running-least ys o.receiver (n + 1) (ws ++ o.words) room in
    pick-keeps (running ys o.receiver (n + 1) (ws ++ o.words) room) (record { receiver = rx; taken = n; words = ws; why = o.why }) (is_done o.why) n rx (λ z. omega arith) refl h

module _ (rx : Receiver) (p : Piece) (room : ℕ) where
  pub hearing-keeps : (hearing rx p room).taken ≡ 0 → (hearing rx p room).receiver ≡ rx
  unfolding hearing
  hearing-keeps h = go (sound rx) p.fits refl refl where
    go : (a b : Bool) → sound rx ≡ a → p.fits ≡ b → (hearing rx p room).receiver ≡ rx
    go true true x y = rw (x, y) (running-keeps p.symbols rx 0 [] room (rw (x, y) at h))
    go true false x y = rw (x, y)
    go false b x y = rw x

  pub hearing-reads : ((hearing rx p room).taken ≡ 0 → ⊥) → read_receiver (hearing rx p room).receiver ≡ (hearing rx p room).receiver
  unfolding hearing
  hearing-reads h = go (sound rx) p.fits refl refl where
    go : (a b : Bool) → sound rx ≡ a → p.fits ≡ b → read_receiver (hearing rx p room).receiver ≡ (hearing rx p room).receiver
    go true true x y = rw (x, y) (live-reads (running p.symbols rx 0 [] room).receiver (running-live p.symbols rx 0 [] room ∙ sound-live rx x))
    go true false x y = absurd (h (rw (x, y)))
    go false b x y = absurd (h (rw x))

module _ (rx : Receiver) (room : ℕ) where
  pub finishing-keeps : ((given_of (finishing rx room).why).number ≡ 0 → ⊥) → (finishing rx room).receiver ≡ rx
  unfolding finishing
  finishing-keeps h = go (sound rx) (ltb room rx.core.pending) refl refl where
    go : (a b : Bool) → sound rx ≡ a → ltb room rx.core.pending ≡ b → (finishing rx room).receiver ≡ rx
    go true true x y = rw (x, y)
    go true false x y = absurd (h (rw (x, y)))
    go false b x y = rw x

  pub finishing-reads : (given_of (finishing rx room).why).number ≡ 0 → read_receiver (finishing rx room).receiver ≡ (finishing rx room).receiver
  unfolding finishing shut
  finishing-reads h = go (sound rx) (ltb room rx.core.pending) refl refl where
    go : (a b : Bool) → sound rx ≡ a → ltb room rx.core.pending ≡ b → read_receiver (finishing rx room).receiver ≡ (finishing rx room).receiver
    go true true x y = absurd (let k : ◌≡◌ {A = ℕ} 8 0 = rw (x, y) at h in omega arith)
    go true false x y = rw (x, y)
    go false b x y = absurd (let k : ◌≡◌ {A = ℕ} 9 0 = rw x at h in omega arith)
