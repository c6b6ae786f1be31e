-- The ends' states in words of 64 bits: which record some words hold, and which words hold a record. That words which hold a record
-- give it back is proved in proofs/Back.
--   sender_in, receiver_in  the sender, the receiver that some words hold; a closed one where they hold none
--   words_of_sender, words_of_receiver    the words that hold a sender, a receiver
--   read_sender, read_receiver          what the words of a record read as
--   SenderStored, ReceiverStored      a record was put into words, and they read as it
use Rattle.std.specs.Prelude.{ℕ, ◌≡◌, true, cond, ◌&&◌, List, [], ◌∷◌, ◌++◌, get_or, take, drop}
use Rattle.c_layout.specs.Accords.{accord_in, accord_word}
use Rattle.machine.specs.declared.Receiver.{Receiver}
use Rattle.machine.specs.Machine as machine
use Rattle.sender.specs.declared.Sender.{Sender}
use Rattle.sender.specs.Send as sending
use Rattle.c_layout.specs.Layout.{sender_tag, receiver_tag, sender_length, receiver_length, sums_at, registers_at, picks_at}
use Rattle.c_layout.specs.Tagged.{tag_of, is_half, holds}
use Rattle.c_layout.specs.Halves.{unpacked, packed}
use Rattle.c_states.specs.Front.{core_in, words_of_core}

-- ---- a sender: the tag, map and width, the turn, the state

unfoldable pub sender_in : List ℕ → Sender
sender_in ws =
    cond (holds sender_length sender_tag ws && is_half (get_or ws 3 0)) (record { live = true; accord = accord_in (get_or ws 1 0); turn = get_or ws 2 0; state = get_or ws 3 0 }) sending.shut

unfoldable pub words_of_sender : Sender → List ℕ
words_of_sender s = tag_of s.live sender_tag ∷ accord_word s.accord ∷ s.turn ∷ s.state ∷ []

-- ---- a receiver: the tag, five numbers, sixteen sums, two to a word, 48 registers and 72 words of picks

unfoldable pub receiver_in : List ℕ → Receiver
receiver_in ws =
    cond (holds receiver_length receiver_tag ws)
    (record {
      live = true;
      core = core_in ws;
      sums = unpacked (take 8 (drop sums_at ws));
      registers = take 48 (drop registers_at ws);
      picks = take 72 (drop picks_at ws);
    })
    machine.shut

unfoldable pub words_of_receiver : Receiver → List ℕ
words_of_receiver rx = words_of_core rx.live rx.core ++ (packed rx.sums ++ (rx.registers ++ rx.picks))

-- ---- a record put into words

-- a record that is not live reads as closed; the doors give no such record but the closed one
abbrev pub read_sender : Sender → Sender
read_sender s = cond s.live s sending.shut

abbrev pub read_receiver : Receiver → Receiver
read_receiver rx = cond rx.live rx machine.shut

-- the words l with the record in front, which then read as it
pub record SenderStored (s : Sender) (l o : List ℕ) : Type 0 where
  pub words : o ≡ words_of_sender s ++ drop sender_length l
  pub reads : sender_in o ≡ read_sender s

pub record ReceiverStored (rx : Receiver) (l o : List ℕ) : Type 0 where
  pub words : o ≡ words_of_receiver rx ++ drop receiver_length l
  pub reads : receiver_in o ≡ read_receiver rx
