-- What the tokens after each verb ask for. Definitions only; proofs/Readers.antt has what follows of them.
-- "Tokens are separated by one space" is `tokens` of the crate `text`, and the numbers that tokens write are its `number_of` and `hex_of`
-- and `many_of` of the crate `number_lists`. "A missing or extra token, a double, leading or trailing space, a tab, a carriage return, more
-- than 4096 coordinates" are unread: no token of a line with one of these is a number or a word of the grammar.
--   unless_unread r           the request r, or none where it is unread
--   any_number, cap_number    "U, W, WINDOW, S and CAP are 0 to 4294967295, a CAP above 4096 is `?`"
--   just f, both f          the request f with one number or two, unread if one is bad
--   one g, two g            g of just one token or two, unread for any other count of them
--   line m u                what both ends agree on, by its map and its width
--   on_map f, on_number f     the request f of a map, or of a map and a number; unread if none is named
--   sender_of, send_of, finish_of, sample_of   what the tokens after these verbs ask for
--   receiver_of              plain with a width alone, else a window and the start: `free`, or `at` and a state; the map at the end
--   coordinate_fills ts list the list lent for coordinates after the tokens ts: those at its start, up to the first that is none
--   piece_of room            a cap and the coordinates, no more than there is room for; none is the empty piece
--   piece_fills ts list      the list lent for coordinates after that
--   marked_of room most      a cap, the marks, for so many at most, and the coordinates: "MARKS absent, longer than 1,024 or with any other
--                           character is `?`"; a count of marks that is not that of the symbols is the receiver's to refuse
--   marked_fills, marks_of    the lists lent for coordinates and for marks after that
--   list_of room             a cap and the words, "at most 1,024"; none is the empty list
--   list_fills ts list       the list lent for words after that, in the same way
--   Sizes room r, Fit room r   the sizes that a request names: outputs of 4096 at most, coordinates that are in the list, words and marks of
--                           1,024 at most
use Rattle.std.specs.Prelude.{ℕ, ◌≤◌, cond, Option, Some, None, List, [], ◌∷◌, ◌++◌, leb, ℤ, length, drop}
use Rattle.text.specs.Bytes.{bytes}
use Rattle.text.specs.Token.{same_bytes}
use Rattle.text.specs.Number.{number_of, hex_of}
use Rattle.line_fields.specs.Row.{count_of, row_of, mark_fills}
use Rattle.number_lists.specs.Many.{whole_in, number_in, first_of, many_of}
use Rattle.points.specs.declared.Map.{Map}
use Rattle.points.specs.declared.Accord.{Accord}
use Rattle.line_fields.specs.declared.map_names.Numbered.{Numbered}
use Rattle.line_fields.specs.Names.{map_named, numbered_of}
use Rattle.requests.specs.declared.Request.{Request}
use Rattle.requests.specs.declared.Request.TheVariants as request

-- what is asked for, and nothing where the tokens are unread
abbrev pub unless_unread : Request → Option Request
unless_unread request.Unread = None
unless_unread request.Nothing = Some request.Nothing
unless_unread (request.Sender a) = Some (request.Sender a)
unless_unread (request.Send w c) = Some (request.Send w c)
unless_unread (request.Plain a) = Some (request.Plain a)
unless_unread (request.Free a w) = Some (request.Free a w)
unless_unread (request.At a w s) = Some (request.At a w s)
unless_unread (request.Piece c n) = Some (request.Piece c n)
unless_unread (request.Finish c) = Some (request.Finish c)
unless_unread (request.Sample x y) = Some (request.Sample x y)
unless_unread request.Pending = Some request.Pending
unless_unread (request.List c n) = Some (request.List c n)
unless_unread request.Missing = Some request.Missing
unless_unread (request.Marked c m n) = Some (request.Marked c m n)
unless_unread (request.Card b) = Some (request.Card b)

abbrev pub any_number : List ℕ → Option ℕ
any_number t = number_of 10 4294967295 t

abbrev pub cap_number : List ℕ → Option ℕ
cap_number t = number_of 10 4096 t

abbrev pub line : Map → ℕ → Accord
line m u = record { map = m; u = u }

abbrev pub just : (ℕ → Request) → Option ℕ → Request
just f (Some n) = f n
just f None = request.Unread

abbrev pub both : (ℕ → ℕ → Request) → Option ℕ → Option ℕ → Request
both f (Some m) o = just (f m) o
both f None o = request.Unread

abbrev pub one : (List ℕ → Request) → List (List ℕ) → Request
one g [] = request.Unread
one g (t ∷ []) = g t
one g (t ∷ t' ∷ ts) = request.Unread

abbrev pub two : (List ℕ → List ℕ → Request) → List (List ℕ) → Request
two g [] = request.Unread
two g (t ∷ ts) = one (g t) ts

abbrev pub on_map : (Map → Request) → Option Map → Request
on_map f (Some m) = f m
on_map f None = request.Unread

abbrev pub on_number : (Map → ℕ → Request) → Option Numbered → Request
on_number f (Some r) = f r.map r.number
on_number f None = request.Unread

-- "`sender U`" and "`sender U square`"
abbrev pub sender_of : List (List ℕ) → Request
sender_of ts = on_number (λ m u. request.Sender (line m u)) (numbered_of ts)

abbrev pub finish_of : List (List ℕ) → Request
finish_of ts = one (λ c. just request.Finish (cap_number c)) ts

abbrev pub send_of : List (List ℕ) → Request
send_of ts = two (λ w c. both request.Send (any_number w) (cap_number c)) ts

abbrev pub sample_of : List (List ℕ) → Request
sample_of [] = request.Unread
sample_of (m ∷ []) = cond (same_bytes m (bytes "missing")) request.Missing request.Unread
sample_of (x ∷ y ∷ ts) = two (λ x y. both request.Sample (hex_of x) (hex_of y)) (x ∷ y ∷ ts)

abbrev pub state_of : ℕ → ℕ → List (List ℕ) → Request
state_of u w ts = on_number (λ m s. request.At (line m u) w s) (numbered_of ts)

abbrev pub start_of : ℕ → ℕ → List (List ℕ) → Request
start_of u w [] = request.Unread
start_of u w (f ∷ ts) =
    cond (same_bytes f (bytes "free")) (on_map (λ m. request.Free (line m u) w) (map_named ts))
    (cond (same_bytes f (bytes "at")) (state_of u w ts) request.Unread)

abbrev pub window_by : ℕ → Option ℕ → List (List ℕ) → Request
window_by u (Some w) ts = start_of u w ts
window_by u None ts = request.Unread

abbrev pub window_of : ℕ → List (List ℕ) → Request
window_of u [] = request.Unread
window_of u (w ∷ ts) = window_by u (any_number w) ts

-- the tokens after a width: those that name a map alone ask for the plain opening
abbrev pub open_by : ℕ → Option Map → List (List ℕ) → Request
open_by u (Some m) ts = request.Plain (line m u)
open_by u None ts = window_of u ts

abbrev pub open_of : Option ℕ → List (List ℕ) → Request
open_of None ts = request.Unread
open_of (Some u) ts = open_by u (map_named ts) ts

abbrev pub receiver_of : List (List ℕ) → Request
receiver_of [] = request.Unread
receiver_of (u ∷ ts) = open_of (any_number u) ts

abbrev pub heard_of : Option ℕ → Option ℕ → Request
heard_of None m = request.Unread
heard_of (Some c) (Some n) = request.Piece c n
heard_of (Some c) None = request.Unread

abbrev pub piece_of : ℕ → List (List ℕ) → Request
piece_of room [] = request.Unread
piece_of room (c ∷ ts) = heard_of (cap_number c) (many_of whole_in room ts)

abbrev pub marked_by : Option ℕ → Option ℕ → Option ℕ → Request
marked_by (Some c) (Some k) (Some n) = request.Marked c k n
marked_by (Some c) (Some k) None = request.Unread
marked_by (Some c) None m = request.Unread
marked_by None row m = request.Unread

abbrev pub marked_after : ℕ → ℕ → Option ℕ → List (List ℕ) → Request
marked_after room most cap [] = request.Unread
marked_after room most cap (r ∷ ts) = marked_by cap (count_of (row_of most r)) (many_of whole_in room ts)

abbrev pub marked_of : ℕ → ℕ → List (List ℕ) → Request
marked_of room most [] = request.Unread
marked_of room most (c ∷ ts) = marked_after room most (cap_number c) ts

abbrev pub sent_of : Option ℕ → Option ℕ → Request
sent_of None m = request.Unread
sent_of (Some c) (Some n) = cond (leb n 1024) (request.List c n) request.Unread
sent_of (Some c) None = request.Unread

abbrev pub list_of : ℕ → List (List ℕ) → Request
list_of room [] = request.Unread
list_of room (c ∷ ts) = sent_of (cap_number c) (many_of number_in room ts)

-- zs at the start of a list
abbrev pub at_start : {A : Type 0} → List A → List A → List A
at_start zs list = zs ++ drop (length zs) list

abbrev pub coordinate_fills : List (List ℕ) → List ℤ → List ℤ
coordinate_fills ts list = at_start (first_of whole_in (length list) ts) list

abbrev pub piece_fills : List (List ℕ) → List ℤ → List ℤ
piece_fills ts list = coordinate_fills (drop 1 ts) list

abbrev pub marked_fills : List (List ℕ) → List ℤ → List ℤ
marked_fills ts list = coordinate_fills (drop 2 ts) list

abbrev pub marks_after : List (List ℕ) → List ℕ → List ℕ
marks_after [] list = list
marks_after (r ∷ ts) list = mark_fills (row_of (length list) r) list

abbrev pub marks_of : List (List ℕ) → List ℕ → List ℕ
marks_of ts list = marks_after (drop 1 ts) list

-- by what the tokens after the cap write, if it is one
abbrev pub filled_by : Option ℕ → List (List ℕ) → List ℕ → List ℕ
filled_by (Some c) ts list = at_start (first_of number_in (length list) ts) list
filled_by None ts list = list

abbrev pub list_fills : List (List ℕ) → List ℕ → List ℕ
list_fills [] list = list
list_fills (c ∷ ts) list = filled_by (cap_number c) ts list

abbrev pub Sizes : ℕ → Request → Type 0
Sizes room (request.Send w c) = c ≤ 4096
Sizes room (request.Piece c n) = (c ≤ 4096) × (n ≤ room)
Sizes room (request.Finish c) = c ≤ 4096
Sizes room (request.List c n) = (c ≤ 4096) × (n ≤ 1024)
Sizes room request.Nothing = Unit {0}
Sizes room request.Unread = Unit {0}
Sizes room (request.Sender k) = Unit {0}
Sizes room (request.Plain k) = Unit {0}
Sizes room (request.Free k w) = Unit {0}
Sizes room (request.At k w s) = Unit {0}
Sizes room (request.Sample x y) = Unit {0}
Sizes room request.Pending = Unit {0}
Sizes room request.Missing = Unit {0}
Sizes room (request.Marked c k n) = (c ≤ 4096) × (k ≤ 1024) × (n ≤ room)
Sizes room (request.Card b) = Unit {0}

pub record Fit (room : ℕ) (r : Request) : Type 0 where
  pub sizes : Sizes room r
