-- Where the parts of an end stand in its words: the table of src/layout.rt.
--   sender_tag, receiver_tag, closed_tag    word 0: what the state is
--   sender_length, receiver_length         how many words an end has
--   sums_at, registers_at, picks_at            where a receiver's lists begin, after the tag and its five numbers
use Rattle.std.specs.Prelude.{ℕ}

-- the letters "demf", "tx" or "rx", and the number of the layout
abbrev pub sender_tag : ℕ
sender_tag = 0x64656d6674780002

abbrev pub receiver_tag : ℕ
receiver_tag = 0x64656d6672780005

abbrev pub closed_tag : ℕ
closed_tag = 0

abbrev pub sender_length : ℕ
sender_length = 4

abbrev pub sums_at : ℕ
sums_at = 6

abbrev pub registers_at : ℕ
registers_at = 14

abbrev pub picks_at : ℕ
picks_at = 62

abbrev pub receiver_length : ℕ
receiver_length = 134
