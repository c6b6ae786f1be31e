-- Words that hold an end give it back: reading undoes writing, whatever stands behind it.
--   SenderFits, ReceiverFits    the record's numbers fit their types, and its lists have their lengths
--   sender-back, receiver-back  the law; a record that is not live reads as closed
--   sender-stored, receiver-stored, front-stored    so a record that was put into words is read from them
use mathlib.Core.Path.{◌≡◌, refl, sym, ap, ◌∙◌}
use mathlib.Core.Bool.{Bool, true, false}
use mathlib.Core.List.{List, ◌++◌, append_assoc}
use Prim.Native.Nat.{ℕ, ◌^◌, ◌≤◌, ◌<◌}
use native.Mathlib.Omega.{arith}
use borrow.Author.Tests.{lt-ltb, le-leb}
use lib.Dec.{leb}
use lib.ListN.{length, take, drop, length-append}
use lib.Seq.{take_at, drop_at, drop-drop}
use Rattle.points.specs.declared.Accord.{Accord}
use Rattle.c_layout.proofs.AccordsBack.{accord-back}
use Rattle.sender.specs.declared.Sender.{Sender}
use Rattle.sender.specs.Send as sender
use Rattle.machine.specs.declared.Receiver.{Receiver}
use Rattle.machine.specs.Machine as machine
use Rattle.c_layout.specs.Layout.{receiver_tag, sender_length, receiver_length, sums_at, registers_at, picks_at}
use Rattle.c_layout.specs.Halves.{unpacked, packed, AllHalves}
use Rattle.c_layout.proofs.Halves.{packed-length, back}
use Rattle.c_layout.specs.Tagged.{holds}
use Rattle.c_states.specs.State.{sender_in, words_of_sender, receiver_in, words_of_receiver, read_sender, read_receiver, SenderStored, ReceiverStored}
use Rattle.c_states.specs.Front.{core_in, words_of_core, FrontStored}

-- ---- a sender

pub record SenderFits (s : Sender) : Type 0 where
  pub u : s.accord.u < 2 ^ 32
  pub turn : s.turn < 2 ^ 32
  pub state : s.state < 2 ^ 32

sender-live : (s : Sender) (rest : List ℕ) → SenderFits s → s.live ≡ true → sender_in (words_of_sender s ++ rest) ≡ s
unfolding sender_in holds words_of_sender
sender-live s rest f e =
    let a = accord-back s.accord f.u in
    let b = lt-ltb s.turn (2 ^ 32) f.turn in
    let d = lt-ltb s.state (2 ^ 32) f.state in
    let n : leb 4 (length (words_of_sender s ++ rest)) ≡ true = le-leb 4 (length (words_of_sender s ++ rest)) (omega arith) in
    rw (n, e, a, b, d)

sender-shut : (s : Sender) (rest : List ℕ) → s.live ≡ false → sender_in (words_of_sender s ++ rest) ≡ sender.shut
unfolding sender_in holds words_of_sender
sender-shut s rest e =
    let n : leb 4 (length (words_of_sender s ++ rest)) ≡ true = le-leb 4 (length (words_of_sender s ++ rest)) (omega arith) in
    rw (n, e)

pub sender-back : (s : Sender) (rest : List ℕ) → SenderFits s → sender_in (words_of_sender s ++ rest) ≡ read_sender s
sender-back s rest f = go s.live refl where
  go : (b : Bool) → s.live ≡ b → sender_in (words_of_sender s ++ rest) ≡ read_sender s
  go true e = sender-live s rest f e ∙ rw e
  go false e = sender-shut s rest e ∙ rw e

pub sender-stored : (s : Sender) (l : List ℕ) {o : List ℕ} → SenderFits s → o ≡ words_of_sender s ++ drop sender_length l → SenderStored s l o
sender-stored s l f e = record { words = e; reads = ap sender_in e ∙ sender-back s (drop sender_length l) f }

-- ---- a receiver

pub record ReceiverFits (rx : Receiver) : Type 0 where
  pub u : rx.core.accord.u < 2 ^ 32
  pub turn : rx.core.turn < 2 ^ 32
  pub sums : length rx.sums ≡ 16
  pub small : AllHalves rx.sums
  pub registers : length rx.registers ≡ 48
  pub picks : length rx.picks ≡ 72

module _ (rx : Receiver) (rest : List ℕ) where
  abbrev state : List ℕ
  state = words_of_receiver rx ++ rest

  abbrev head : List ℕ
  head = words_of_core rx.live rx.core

  -- the four parts and what stands behind them
  parts : state ≡ head ++ (packed rx.sums ++ (rx.registers ++ (rx.picks ++ rest)))
  unfolding words_of_receiver
  parts = simp append_assoc

  module _ (f : ReceiverFits rx) where
    long : receiver_length ≤ length state
    long =
        rw (parts, length-append head, length-append (packed rx.sums), length-append rx.registers, length-append rx.picks, packed-length rx.sums, f.registers, f.picks)
        (omega arith)

    sums_at_lem : drop sums_at state ≡ packed rx.sums ++ (rx.registers ++ (rx.picks ++ rest))
    sums_at_lem = rw parts

    registers-at : drop registers_at state ≡ rx.registers ++ (rx.picks ++ rest)
    registers-at = sym (drop-drop 8 sums_at state) ∙ rw sums_at_lem (drop_at (packed rx.sums) (rx.registers ++ (rx.picks ++ rest)) 8 (packed-length rx.sums))

    picks-at : drop picks_at state ≡ rx.picks ++ rest
    picks-at = sym (drop-drop 48 registers_at state) ∙ rw registers-at (drop_at rx.registers (rx.picks ++ rest) 48 f.registers)

    held-yes : rx.live ≡ true → holds receiver_length receiver_tag state ≡ true
    unfolding holds words_of_receiver
    held-yes e =
        let n = le-leb receiver_length (length state) long in
        let d = lt-ltb rx.core.turn (2 ^ 32) f.turn in
        rw (n, e, d)

    core_at : core_in state ≡ rx.core
    unfolding words_of_receiver
    core_at =
        let c = rx.core in
        ap (λ (k : Accord). record { accord = k; window = c.window; turn = c.turn; slot = c.slot; pending = c.pending }) (accord-back c.accord f.u)

    receiver-live : rx.live ≡ true → receiver_in (words_of_receiver rx ++ rest) ≡ rx
    unfolding receiver_in
    receiver-live e =
        let h : take 8 (drop sums_at state) ≡ packed rx.sums = rw sums_at_lem (take_at (packed rx.sums) (rx.registers ++ (rx.picks ++ rest)) 8 (packed-length rx.sums)) in
        let s : unpacked (take 8 (drop sums_at state)) ≡ rx.sums = ap unpacked h ∙ back rx.sums f.small f.sums in
        let t : take 48 (drop registers_at state) ≡ rx.registers = rw registers-at (take_at rx.registers (rx.picks ++ rest) 48 f.registers) in
        let p : take 72 (drop picks_at state) ≡ rx.picks = rw picks-at (take_at rx.picks rest 72 f.picks) in
        rw (held-yes e) (λ i. record { live = sym e i; core = core_at i; sums = s i; registers = t i; picks = p i })

    receiver-shut : rx.live ≡ false → receiver_in (words_of_receiver rx ++ rest) ≡ machine.shut
    unfolding receiver_in holds words_of_receiver
    receiver-shut e = let n = le-leb receiver_length (length state) long in rw (n, e)

    pub receiver-back : receiver_in (words_of_receiver rx ++ rest) ≡ read_receiver rx
    receiver-back = go rx.live refl where
      go : (b : Bool) → rx.live ≡ b → receiver_in (words_of_receiver rx ++ rest) ≡ read_receiver rx
      go true e = receiver-live e ∙ rw e
      go false e = receiver-shut e ∙ rw e

pub receiver-stored : (rx : Receiver) (l : List ℕ) {o : List ℕ} → ReceiverFits rx → o ≡ words_of_receiver rx ++ drop receiver_length l → ReceiverStored rx l o
receiver-stored rx l f e = record { words = e; reads = ap receiver_in e ∙ receiver-back rx (drop receiver_length l) f }

joined : (a b c d e : List ℕ) → (a ++ (b ++ c)) ++ (d ++ e) ≡ (a ++ (b ++ (c ++ d))) ++ e
joined a b c d e = simp append_assoc

-- so a receiver's words are made of its front and of picks that stand already where they belong
pub front-stored : (rx : Receiver) (l l₁ : List ℕ) {o : List ℕ} → FrontStored rx.live rx.core rx.sums rx.registers l₁ o
    → length rx.picks ≡ 72 → drop picks_at l₁ ≡ rx.picks ++ drop receiver_length l → ReceiverStored rx l o
unfolding words_of_receiver
front-stored rx l l₁ f sized behind =
    receiver-stored rx l (record { u = f.u-fits; turn = f.turn-fits; sums = f.sums-fit; small = f.sums-small; registers = f.registers-fit; picks = sized })
    (f.words ∙ rw behind (joined (words_of_core rx.live rx.core) (packed rx.sums) rx.registers rx.picks (drop receiver_length l)))
