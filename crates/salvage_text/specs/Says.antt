-- The line of a salvage: 02, Wish 13, "It reports what it changed: words replaced, words added, words removed, bytes cut from the end". Numbers are
-- decimal, and the line ends with a newline.
--   changes_line r a m c   r words replaced, a added, m removed, c bytes cut
use Rattle.std.specs.Prelude.{ℕ, List, ◌++◌}
use Rattle.text.specs.Bytes.{bytes}
use Rattle.phrases.specs.Phrase.{decimal}

unfoldable pub changes_line : ℕ → ℕ → ℕ → ℕ → List ℕ
changes_line r a m c =
    (bytes "replaced " ++ decimal r) ++ (bytes " added " ++ decimal a) ++ (bytes " removed " ++ decimal m) ++ (bytes " cut " ++ decimal c) ++ bytes "\n"
