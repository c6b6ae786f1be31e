-- What the tokens after the verb `card` ask for: "`card MAP U N`, then the 4N coordinates, N + 1 states, 6N symbol numbers, 16(N + 1)
-- numbers, all decimal". Definitions only; the fields are those of `line_fields`, the check is that of `card`.
--   map_of t              "MAP `round` or `square`"
--   Sizes, sizes_of n     how long the four lists of a card are, and those of n symbols
--   card_in z ts          the card that the tokens ts write, all of them: "the wrong count of tokens is `?`"
--   checked_of k n ts     the verdict on a card of n symbols
--   asked_of ts           a map, a width and a count, "N above 64 is `?`", and the lists
use Rattle.std.specs.Prelude.{ℕ, ◌+◌, ◌*◌, cond, Option, Some, None, List, [], ◌∷◌, leb, get_or}
use Rattle.text.specs.Bytes.{bytes}
use Rattle.text.specs.Token.{same_bytes}
use Rattle.number_lists.specs.Many.{whole_in, number_in, wide_in}
use Rattle.line_fields.specs.Fields.{Field, field_of}
use Rattle.points.specs.declared.Map.{Map}
use Rattle.points.specs.declared.Map.TheVariants.{Round, Square}
use Rattle.points.specs.declared.Accord.{Accord}
use Rattle.requests.specs.declared.Request.{Request}
use Rattle.requests.specs.declared.Request.TheVariants as request
use Rattle.requests.specs.Verb.{line, on_map}
use Rattle.card.specs.Card.{Card}
use Rattle.card.specs.Check.{accepts}
use Rattle.card.specs.Promise.{card_of}

abbrev pub map_of : List ℕ → Option Map
map_of t = cond (same_bytes t (bytes "round")) (Some Round) (cond (same_bytes t (bytes "square")) (Some Square) None)

pub record Sizes : Type 0 where
  pub coordinates : ℕ
  pub states : ℕ
  pub symbols : ℕ
  pub numbers : ℕ

abbrev pub sizes : ℕ → ℕ → ℕ → ℕ → Sizes
sizes a b c d = record { coordinates = a; states = b; symbols = c; numbers = d }

abbrev pub sizes_of : ℕ → Sizes
sizes_of n = sizes (4 * n) (n + 1) (6 * n) (16 * (n + 1))

-- a field, and what is made of it and of the tokens after it
abbrev pub and_then : {A B : Type 0} → Option (Field A) → (List A → List (List ℕ) → Option B) → Option B
and_then (Some f) g = g f.values f.rest
and_then None g = None

-- no token is left
abbrev pub ended : Card → List (List ℕ) → Option Card
ended c [] = Some c
ended c (t ∷ ts) = None

abbrev pub card_in : Sizes → List (List ℕ) → Option Card
card_in z ts =
    and_then (field_of whole_in z.coordinates ts) (λ xs ts.
    and_then (field_of number_in z.states ts) (λ ss ts.
    and_then (field_of number_in z.symbols ts) (λ cs ts.
    and_then (field_of wide_in z.numbers ts) (λ ns ts.
    ended (card_of xs ss cs ns) ts))))

abbrev pub verdict_on : Accord → Option Card → Request
verdict_on k (Some c) = request.Card (accepts k c)
verdict_on k None = request.Unread

abbrev pub checked_of : Accord → ℕ → List (List ℕ) → Request
checked_of k n ts = verdict_on k (card_in (sizes_of n) ts)

abbrev pub numbers_of : Map → Option (Field ℕ) → Request
numbers_of m (Some f) =
    let n = get_or f.values 1 0 in
    cond (leb n 64) (checked_of (line m (get_or f.values 0 0)) n f.rest) request.Unread
numbers_of m None = request.Unread

abbrev pub asked_of : List (List ℕ) → Request
asked_of [] = request.Unread
asked_of (m ∷ ts) = on_map (λ m. numbers_of m (field_of number_in 2 ts)) (map_of m)
