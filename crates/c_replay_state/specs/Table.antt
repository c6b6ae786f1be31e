-- Where the parts of a replay stand in its words: the table of src/lib.rt.
--   replay_tag                  word 0: what the state is
--   replay_length               how many words a replay has
--   sums_at, registers_at, picks_at, due_at   where its lists begin, after the tag and the 28 numbers
--   accord_limit, limits, due_limits   the most that a number and a word that is due may be
--   within ls ws               each word is at most its limit
--   Small ws                   each word fits 32 bits
use Rattle.std.specs.Prelude.{ℕ, ◌≤◌, Bool, true, false, ◌&&◌, List, [], ◌∷◌, leb, get_or, replicate}

-- the letters "demf", "rp", and the number of the layout
abbrev pub replay_tag : ℕ
replay_tag = 0x64656d6672700004

abbrev pub sums_at : ℕ
sums_at = 29

abbrev pub registers_at : ℕ
registers_at = 37

abbrev pub picks_at : ℕ
picks_at = 85

abbrev pub due_at : ℕ
due_at = 157

abbrev pub replay_length : ℕ
replay_length = 222

abbrev pub half : ℕ
half = 4294967295

-- a map, 0 or 1, in the upper half, and a width in the lower
abbrev pub accord_limit : ℕ
accord_limit = 8589934591

-- stage, phase, kind, nine bytes of a body, live, map and width, turn, which verdict, and two words of it
abbrev pub limits : List ℕ
limits = 3 ∷ 3 ∷ 255 ∷ 255 ∷ 255 ∷ 255 ∷ 255 ∷ 255 ∷ 255 ∷ 255 ∷ 255 ∷ 255 ∷ 1 ∷ accord_limit ∷ half ∷ 5 ∷ half ∷ half ∷ []

abbrev pub due_limits : List ℕ
due_limits = replicate 65 half

unfoldable pub within : List ℕ → List ℕ → Bool
within [] ws = true
within (l ∷ ls) [] = false
within (l ∷ ls) (w ∷ ws) = leb w l && within ls ws

abbrev pub Small : List ℕ → Type 0
Small ws = (i : ℕ) → get_or ws i 0 ≤ half
