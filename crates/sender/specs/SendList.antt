-- What sending a list of words does, from 02, Wish 1: the one-word definition `sending` (specs/Send), word after word. That a list cut in
-- two and sent in two calls is the same, and that a list of one word is that word sent, is proved in proofs/Lists.
--   GivenList           what a list gives: the number, the sender after it, how many words were sent, the output after it
--   onward g rest       a word gave g, and the words after it, into the rest of the output, give `rest`
--   sending_all          the words one after another, up to the first that is refused
--   sending_list         the same, where the sender is open
use Rattle.std.specs.Prelude.{ℕ, ◌+◌, cond, List, [], ◌∷◌, ◌++◌, eqb, ℤ, take, drop}
use Rattle.sender.specs.declared.Sender.{Sender}
use Rattle.sender.specs.Send.{sound, Given, sending}

pub record GivenList : Type 0 where
  pub number : ℕ
  pub sender : Sender
  pub sent : ℕ
  pub output : List ℤ

abbrev pub given_list : ℕ → Sender → ℕ → List ℤ → GivenList
given_list n s k out = record { number = n; sender = s; sent = k; output = out }

-- "writes four coordinates for each after those already written"; "It stops at the first word that would be refused and says how many
-- were sent and why; words before it stay sent"
abbrev pub onward : Given → GivenList → GivenList
onward g rest =
    cond (eqb g.number 0) (given_list rest.number rest.sender (rest.sent + 1) (take 4 g.output ++ rest.output))
    (given_list g.number g.sender 0 g.output)

-- "It must equal sending them singly, in points, end state and refusals"
unfoldable pub sending_all : Sender → List ℕ → List ℤ → GivenList
sending_all s [] out = given_list 0 s 0 out
sending_all s (n ∷ ns) out = onward (sending s n out) (sending_all (sending s n out).sender ns (drop 4 (sending s n out).output))

-- "An empty list to an open sender sends nothing and answers 0, to a closed one 9"
unfoldable pub sending_list : Sender → List ℕ → List ℤ → GivenList
sending_list s ns out = cond (sound s) (sending_all s ns out) (given_list 9 s 0 out)
