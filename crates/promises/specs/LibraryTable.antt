-- 01's table of numbers for the library's calls: the tables of specs/Table, behind what a C caller lends. And which words are a state: "An end is a
-- state that an opening, or a call after it, gave", of any of the library's calls.
--   Lent need l Gives n    a lent list that is shorter than it needs to be is an 8, before all else; if not, n is what the table `Gives` gives
--   SenderState s          the words s hold what a sender's opening, or a call after it, gave
--   ReceiverState s        the same of a receiver, recorded calls too
use Rattle.std.specs.Prelude.{ℕ, ◌≤◌, ◌<◌, ◌≡◌, List, ℤ, length}
use Rattle.points.specs.declared.Accord.{Accord}
use Rattle.receiver_meaning.specs.Piece.{Piece}
use Rattle.openings.specs.declared.Start.{Start}
use Rattle.c_layout.specs.Layout.{sender_length, receiver_length}
use Rattle.c_states.specs.State.{sender_in, receiver_in}
use Rattle.c_recorder.specs.Calls as taped
use Rattle.c_recorder.specs.Promise.{Records}
use Rattle.demfizagu.specs.Calls.{sender_opening, send_call, send_list_call, receiver_opening, hear_call, finish_call}
use Rattle.demfizagu.specs.Promise as library

pub data Lent (need : ℕ) (l : List ℕ) (Gives : ℕ → Type 0) : ℕ → Type 0 where
  short : length l < need → Lent need l Gives 8
  enough : need ≤ length l → (n : ℕ) → Gives n → Lent need l Gives n

pub data SenderState : List ℕ → Type 0 where
  opened : (k : Accord) (before state : List ℕ) (n : ℕ) → sender_length ≤ length before → library.Opens sender_in (sender_opening before k) n state → SenderState state
  sent : {state : List ℕ} → SenderState state → (word n : ℕ) (out o : List ℤ) (state' : List ℕ) → library.Sends (send_call state word out) n state' o → SenderState state'
  listed : {state : List ℕ} → SenderState state → (words : List ℕ) (out : List ℤ) (told : List ℕ) (n : ℕ) (state' : List ℕ) (o : List ℤ) (told' : List ℕ) →
      library.SendsList (send_list_call state words out told) n state' o told' → SenderState state'
  copied : {state : List ℕ} → SenderState state → (other : List ℕ) → sender_in other ≡ sender_in state → SenderState other

pub data ReceiverState : List ℕ → Type 0 where
  opened : (k : Accord) (w : ℕ) (b : Start) (before state : List ℕ) (n : ℕ) → receiver_length ≤ length before → library.Opens receiver_in (receiver_opening before k w b) n state →
      ReceiverState state
  heard : {state : List ℕ} → ReceiverState state → (piece : Piece) (out told : List ℕ) (n : ℕ) (state' o told' : List ℕ) →
      library.Answers (hear_call state piece out told) n state' o told' → ReceiverState state'
  finished : {state : List ℕ} → ReceiverState state → (out told : List ℕ) (n : ℕ) (state' o told' : List ℕ) →
      library.Answers (finish_call state out told) n state' o told' → ReceiverState state'
  taped-heard : {state : List ℕ} → ReceiverState state → (piece : Piece) (out bytes told : List ℕ) (n : ℕ) (state' o b told' : List ℕ) →
      Records (taped.hear_call state piece out bytes told) n state' o b told' → ReceiverState state'
  taped-finished : {state : List ℕ} → ReceiverState state → (out bytes told : List ℕ) (n : ℕ) (state' o b told' : List ℕ) →
      Records (taped.finish_call state out bytes told) n state' o b told' → ReceiverState state'
  copied : {state : List ℕ} → ReceiverState state → (other : List ℕ) → receiver_in other ≡ receiver_in state → ReceiverState other
