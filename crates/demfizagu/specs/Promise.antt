-- The promises of the exported functions: the number given and all lent memory after the call are those of specs/Calls, for every
-- input, and the state then reads as the end that the door gave. As each is an equation, any two results are equal.
--   Opens, Sends, SendsList, Answers   one for each family of functions: openings; a word; a list of words; hearing and finishing. Those
--                            of samples are in c_samples/specs/Promise
--   OpensAs                  what an opening gave, put into a state
--   ChecksCard               1 where the check of a card accepts, else 0; what it accepts is said in card/specs/Promise
use Rattle.std.specs.Prelude.{ℕ, ◌≤◌, ◌≡◌, List, eqb, ℤ}
use Rattle.points.specs.declared.Accord.{Accord}
use Rattle.openings.specs.declared.Start.{Start}
use Rattle.openings.specs.declared.Opened.{Opened}
use Rattle.openings.specs.Opening as opening
use Rattle.c_states.specs.State.{sender_in, receiver_in}
use Rattle.card.specs.Card.{Card}
use Rattle.card.specs.Promise.{Checks}
use Rattle.demfizagu.specs.Calls.{Opening, receiver_opening, Sending, ListCall, Call}

pub record Opens {End : Type 0} (read : List ℕ → End) (c : Opening End) (n : ℕ) (state : List ℕ) : Type 0 where
  pub number : n ≡ c.number
  pub state-is : state ≡ c.state
  pub reads : read state ≡ c.end

-- whatever opening gave o, the state holds what that opening gives
abbrev pub OpensAs : Opened → List ℕ → ℕ → List ℕ → Type 0
OpensAs o state n after = (k : Accord) (w : ℕ) (b : Start) → opening.Opens k w b o → Opens receiver_in (receiver_opening state k w b) n after

pub record Sends (c : Sending) (n : ℕ) (state : List ℕ) (out : List ℤ) : Type 0 where
  pub number : n ≡ c.number
  pub state-is : state ≡ c.state
  pub reads : sender_in state ≡ c.sender
  pub out-is : out ≡ c.out

pub record SendsList (c : ListCall) (n : ℕ) (state : List ℕ) (out : List ℤ) (told : List ℕ) : Type 0 where
  pub number : n ≡ c.number
  pub state-is : state ≡ c.state
  pub reads : sender_in state ≡ c.sender
  pub out-is : out ≡ c.out
  pub told_is : told ≡ c.told

pub record Answers (c : Call) (n : ℕ) (state out told : List ℕ) : Type 0 where
  pub number : n ≡ c.number
  pub state-is : state ≡ c.state
  pub reads : receiver_in state ≡ c.receiver
  pub out-is : out ≡ c.out
  pub told_is : told ≡ c.told

pub record ChecksCard (k : Accord) (c : Card) (n : ℕ) : Type 0 where
  pub one-or-none : n ≤ 1
  pub checks : Checks k c (eqb n 1)
