-- Whether words can hold an end.
--   tag_of live tag        the first word of an end
--   is_half n              a number that fits 32 bits
--   holds size tag ws     whether the words ws can hold a record: enough of them, the tag, and a turn that fits its field
use Rattle.std.specs.Prelude.{ℕ, ◌^◌, Bool, cond, ◌&&◌, List, eqb, leb, ltb, get_or, length}
use Rattle.c_layout.specs.Layout.{closed_tag}

abbrev pub tag_of : Bool → ℕ → ℕ
tag_of live tag = cond live tag closed_tag

abbrev pub is_half : ℕ → Bool
is_half n = ltb n (2 ^ 32)

-- so many words, this tag, and a turn that fits its field; any word is a map and a width, or names no line
unfoldable pub holds : ℕ → ℕ → List ℕ → Bool
holds size tag ws =
    leb size (length ws) && (eqb (get_or ws 0 0) tag && is_half (get_or ws 2 0))
