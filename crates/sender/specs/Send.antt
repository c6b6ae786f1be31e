-- What the sender does, from 01, "Sender rules" and "Numbers given back".
--   number_of why        01's number of what a call says: 0, or that of the reason
--   sound s             s is open, with a width, a turn and a state in range; anything else is answered like a closed sender
--   symbol_for s n       the symbol that the word n makes
--   after s n           the sender after it
--   four k c            the coordinates of a symbol's two points on a line of the accord k
--   Given               what a call gives: the number, the sender after it, the output after it
--   opening k           what the opening gives (it is lent no output)
--   sending s n out     what sending n into the output `out` gives
--   End s               s is a state that the opening, or a call after it, gave
use Rattle.std.specs.Prelude.{ℕ, Bool, true, false, cond, ◌&&◌, List, [], ◌∷◌, ◌++◌, leb, ltb, ℤ, length, drop, Result, Ok, Err, ⊤}
use Rattle.points.specs.declared.Accord.{Accord}
use Rattle.points.specs.Agreed.{is_accord, of_width}
use Rattle.maps.specs.PointMap.{first_at, second_at}
use Rattle.wei.specs.Word.{is_word}
use Rattle.wei.specs.State.{next_state}
use Rattle.wei.specs.Symbol.{Symbol, first_label, symbol_of}
use Rattle.sender.specs.declared.Sender.{Sender}
use Rattle.sender.specs.declared.Why.{Why}
use Rattle.sender.specs.declared.Why.TheVariants.{BadWidth, BadWord, NoRoom, Closed}

abbrev pub number_of : Result ⊤ Why → ℕ
number_of (Ok x) = 0
number_of (Err BadWidth) = 1
number_of (Err BadWord) = 4
number_of (Err NoRoom) = 8
number_of (Err Closed) = 9

abbrev pub sound : Sender → Bool
sound s = s.live && (is_accord s.accord && (ltb s.turn 4 && ltb s.state 16))

abbrev pub symbol_for : Sender → ℕ → Symbol
symbol_for s n = symbol_of s.accord.u s.state s.turn n

unfoldable pub after : Sender → ℕ → Sender
after s n =
    let c = symbol_for s n in
    record { live = true; accord = s.accord; turn = first_label c; state = next_state s.state c.i1 c.i2 }

unfoldable pub four : Accord → Symbol → List ℤ
four k c = (first_at k c).x ∷ (first_at k c).y ∷ (second_at k c).x ∷ (second_at k c).y ∷ []

pub record Given : Type 0 where
  pub number : ℕ
  pub sender : Sender
  pub output : List ℤ

abbrev given : ℕ → Sender → List ℤ → Given
given n s out = record { number = n; sender = s; output = out }

abbrev pub fresh : Accord → Sender
fresh k = record { live = true; accord = k; turn = 0; state = 0 }

abbrev pub shut : Sender
shut = record { live = false; accord = of_width 0; turn = 0; state = 0 }

-- "u above 8 at an opening": 1, a closed end; 02, Wish 11: "an odd u with this map is refused with 1". "q starts at 0"; "The sender starts in state 0"
unfoldable pub opening : Accord → Given
opening k = cond (is_accord k) (given 0 (fresh k) []) (given 1 shut [])

-- "Sending one word: 9, 4, 8; success writes the first four places of the output"
unfoldable pub sending : Sender → ℕ → List ℤ → Given
sending s n out =
    cond (sound s)
    (cond (is_word s.accord.u n) (cond (leb 4 (length out)) (given 0 (after s n) (four s.accord (symbol_for s n) ++ drop 4 out)) (given 8 s out)) (given 4 s out))
    (given 9 s out)

-- "An end is a state that an opening, or a call after it, gave"
pub data End : Sender → Type 0 where
  opened : (k : Accord) → End (opening k).sender
  called : {s : Sender} → End s → (n : ℕ) (out : List ℤ) → End (sending s n out).sender
