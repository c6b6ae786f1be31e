-- What each line asks for: the grammar of the protocol. Definitions only; proofs/Requests.antt has what follows of them.
-- What the tokens after a verb ask for is requests/specs/Verb, and of `card` requests/specs/Asked. An unknown verb is unread.
--   card_verb, sender_verb ..   the verb v with the tokens ts after it, if it is this one or one that is tried after it
--   verb_of room many most v ts   by the verb v with the tokens ts after it, all of them tried; there is room for so many coordinates, so
--                           many words and so many marks
--   pending_alone v          by a verb that stands alone
--   line_of room many most ts   by all tokens of a line: `pending` stands alone, every other verb has tokens after it
--   request_of room many most s   "Lines that are empty or start with `#` answer nothing"; else by the tokens
--   coordinates_of s list    the list lent for coordinates after s has been read: those of a piece at its start, up to the first that is
--                           none
--   words_of s words         the list lent for words, in the same way: those of a list
--   marks_in s marks         the list lent for marks, in the same way: those of a marked piece
--   Reads ..                all of it: the request, and the lists
use Rattle.std.specs.Prelude.{ℕ, ◌≡◌, cond, List, [], ◌∷◌, eqb, ℤ, length}
use Rattle.text.specs.Bytes.{bytes}
use Rattle.text.specs.Token.{tokens, same_bytes}
use Rattle.requests.specs.declared.Request.{Request}
use Rattle.requests.specs.declared.Request.TheVariants as request
use Rattle.requests.specs.Verb.{sender_of, finish_of, send_of, sample_of, receiver_of, piece_of, piece_fills, marked_of, marked_fills, marks_of, list_of, list_fills, Fit}
use Rattle.requests.specs.Named.{Named}
use Rattle.requests.specs.Asked.{asked_of}

abbrev pub card_verb : List ℕ → List (List ℕ) → Request
card_verb v ts = cond (same_bytes v (bytes "card")) (asked_of ts) request.Unread

abbrev pub sender_verb : List ℕ → List (List ℕ) → Request
sender_verb v ts = cond (same_bytes v (bytes "sender")) (sender_of ts) (card_verb v ts)

abbrev pub receiver_verb : List ℕ → List (List ℕ) → Request
receiver_verb v ts = cond (same_bytes v (bytes "receiver")) (receiver_of ts) (sender_verb v ts)

abbrev pub finish_verb : List ℕ → List (List ℕ) → Request
finish_verb v ts = cond (same_bytes v (bytes "finish")) (finish_of ts) (receiver_verb v ts)

abbrev pub sample_verb : List ℕ → List (List ℕ) → Request
sample_verb v ts = cond (same_bytes v (bytes "sample")) (sample_of ts) (finish_verb v ts)

abbrev pub send_verb : List ℕ → List (List ℕ) → Request
send_verb v ts = cond (same_bytes v (bytes "send")) (send_of ts) (sample_verb v ts)

abbrev pub piece_verb : ℕ → List ℕ → List (List ℕ) → Request
piece_verb room v ts = cond (same_bytes v (bytes "piece")) (piece_of room ts) (send_verb v ts)

abbrev pub list_verb : ℕ → ℕ → List ℕ → List (List ℕ) → Request
list_verb room many v ts = cond (same_bytes v (bytes "list")) (list_of many ts) (piece_verb room v ts)

unfoldable pub verb_of : ℕ → ℕ → ℕ → List ℕ → List (List ℕ) → Request
verb_of room many most v ts = cond (same_bytes v (bytes "marked")) (marked_of room most ts) (list_verb room many v ts)

abbrev pub pending_alone : List ℕ → Request
pending_alone v = cond (same_bytes v (bytes "pending")) request.Pending request.Unread

abbrev pub line_of : ℕ → ℕ → ℕ → List (List ℕ) → Request
line_of room many most [] = request.Unread
line_of room many most (v ∷ []) = pending_alone v
line_of room many most (v ∷ t ∷ ts) = verb_of room many most v (t ∷ ts)

-- '#' is 35
unfoldable pub request_of : ℕ → ℕ → ℕ → List ℕ → Request
unfolding verb_of
request_of room many most [] = request.Nothing
request_of room many most (b ∷ s) = cond (eqb b 35) request.Nothing (line_of room many most (tokens (b ∷ s)))

-- the verb is `piece`, or the list stays
abbrev pub piece_only : List ℕ → List (List ℕ) → List ℤ → List ℤ
piece_only v ts list = cond (same_bytes v (bytes "piece")) (piece_fills ts list) list

-- the verb is `list`, or one that is tried after it
abbrev pub list_coordinates : List ℕ → List (List ℕ) → List ℤ → List ℤ
list_coordinates v ts list = cond (same_bytes v (bytes "list")) list (piece_only v ts list)

abbrev pub list_words : List ℕ → List (List ℕ) → List ℕ → List ℕ
list_words v ts words = cond (same_bytes v (bytes "list")) (list_fills ts words) words

abbrev pub line_fills : List (List ℕ) → List ℤ → List ℤ
line_fills [] list = list
line_fills (v ∷ ts) list = cond (same_bytes v (bytes "marked")) (marked_fills ts list) (list_coordinates v ts list)

abbrev pub word_fills : List (List ℕ) → List ℕ → List ℕ
word_fills [] words = words
word_fills (v ∷ ts) words = cond (same_bytes v (bytes "marked")) words (list_words v ts words)

abbrev pub mark_fills : List (List ℕ) → List ℕ → List ℕ
mark_fills [] marks = marks
mark_fills (v ∷ ts) marks = cond (same_bytes v (bytes "marked")) (marks_of ts marks) marks

unfoldable pub coordinates_of : List ℕ → List ℤ → List ℤ
coordinates_of [] list = list
coordinates_of (b ∷ s) list = cond (eqb b 35) list (line_fills (tokens (b ∷ s)) list)

unfoldable pub words_of : List ℕ → List ℕ → List ℕ
words_of [] words = words
words_of (b ∷ s) words = cond (eqb b 35) words (word_fills (tokens (b ∷ s)) words)

unfoldable pub marks_in : List ℕ → List ℕ → List ℕ
marks_in [] marks = marks
marks_in (b ∷ s) marks = cond (eqb b 35) marks (mark_fills (tokens (b ∷ s)) marks)

-- the last part follows from the first; it is stated so that callers find it
pub record Reads (s : List ℕ) (l : Named) (r : Request) (l' : Named) : Type 0 where
  pub is : r ≡ request_of (length l.coordinates) (length l.words) (length l.marks) s
  pub fills : l'.coordinates ≡ coordinates_of s l.coordinates
  pub puts : l'.words ≡ words_of s l.words
  pub marks : l'.marks ≡ marks_in s l.marks
  pub fit : Fit (length l.coordinates) r
