-- Laws of a record's line: its parts as the code puts them, and any two lines that the promise allows are one.
--   symbol-is                   the coordinates of a symbol
--   record-settled              the promise of `put_record` allows one result alone
use Prim.Native.Nat.{ℕ, ◌+◌}
use mathlib.Core.Path.{◌≡◌}
use mathlib.Core.List.{List, [], ◌++◌, append_assoc, append-nil}
use lib.IntN.{ℤ}
use lib.ListN.{get_or}
use Rattle.text.specs.Bytes.{bytes}
use Rattle.page.specs.Page.{Puts}
use Rattle.page.proofs.Pages.{one-result}
use Rattle.phrases.specs.Phrase.{whole}
use Rattle.records.specs.declared.Frame.{Frame}
use Rattle.records.specs.Values.{lead_of, coordinate_of}
use Rattle.show_text.specs.Shown.{symbol_head, symbol_text, record_line}

-- a text after another, each a space and something
regroup : (t s a b c d : List ℕ) → t ++ (s ++ a) ++ (s ++ b) ++ (s ++ c) ++ (s ++ d) ≡ t ++ (s ++ a ++ (s ++ b ++ (s ++ c ++ (s ++ d ++ []))))
regroup t s a b c d = simp (append_assoc, append-nil)

abbrev pub after : ℤ → List ℕ
after z = bytes " " ++ whole z

module _ (k : ℕ) (body : List ℕ) where
  abbrev place : ℕ → ℕ → List ℕ
  place i j = after (coordinate_of (get_or body i 0) (get_or body j 0))

  pub symbol-is : (i : ℕ) → i ≡ lead_of k → symbol_head k body ++ place i (i + 1) ++ place (i + 2) (i + 3) ++ place (i + 4) (i + 5) ++ place (i + 6) (i + 7) ≡ symbol_text k body
  unfolding symbol_text
  symbol-is i e =
      rw e
      (regroup (symbol_head k body) (bytes " ") (whole (coordinate_of (get_or body (lead_of k) 0) (get_or body (lead_of k + 1) 0)))
      (whole (coordinate_of (get_or body (lead_of k + 2) 0) (get_or body (lead_of k + 3) 0))) (whole (coordinate_of (get_or body (lead_of k + 4) 0) (get_or body (lead_of k + 5) 0)))
      (whole (coordinate_of (get_or body (lead_of k + 6) 0) (get_or body (lead_of k + 7) 0))))

pub record-settled : (n : ℕ) (f : Frame) (page : List ℕ) (at q r : ℕ) (o p : List ℕ) → Puts page at (record_line n f) q o → Puts page at (record_line n f) r p → (q ≡ r) × (o ≡ p)
record-settled n f page at q r o p a b = one-result a b
