-- Laws of the answers: how long each line is at most, and how the parts of a line make it.
use Prim.Native.Nat.{ℕ, ◌+◌, ◌*◌, ◌≤◌, ◌<◌}
use mathlib.Core.Path.{◌≡◌, refl, sym, ap}
use mathlib.Core.Bool.{Bool, true, false, cond}
use mathlib.Core.List.{List, [], ◌∷◌, ◌++◌, map, append_assoc, append-nil}
use mathlib.Core.Option.{Option, none, some}
use native.Mathlib.Omega.{arith}
use borrow.Author.Tests.{eq-eqb, ne_eqb, le-leb, lt-leb}
use mir.Syntax.{w32}
use mir.Val.{SFits, to_z, of_z}
use mir.ValLaws.{to_z-of_z}
use lib.Dec.{eqb, leb}
use lib.IntN.{ℤ, pos}
use lib.ListN.{length, take, get_or, length-append, length-take}
use Rattle.text.specs.Bytes.{bytes}
use Rattle.page.specs.Page.{Puts}
use Rattle.samples.specs.Given.{GivenSample}
use Rattle.reasons.specs.Reason.{Reason}
use Rattle.phrases.specs.Phrase.{decimal, whole, after_spaces}
use Rattle.phrases.proofs.Phrases.{decimal-short, whole-short, reason-short, said-short, wholes-short, coordinates-short}
use Rattle.answers.specs.Answer.{number_line, card_line, sent_line, list_line, heard_line, pair_line, line_by, sample_line}

pub pair-back : (x y : ℤ) → SFits w32 x → SFits w32 y → pair_line (to_z w32 (of_z w32 x)) (to_z w32 (of_z w32 y)) ≡ pair_line x y
pair-back x y f g = rw (to_z-of_z w32 x f, to_z-of_z w32 y g)

sent-short : (n : ℕ) (out : List ℤ) → length (sent_line n out) ≤ 109
unfolding sent_line
sent-short n out = simp length-append (by (eqb n 0) (leb 4 (length out))) where
  by : (a b : Bool) → length (decimal n) + length (cond a (after_spaces (map whole (cond b (take 4 out) []))) []) + 1 ≤ 109
  by true true = omega (arith, decimal-short n, wholes-short (take 4 out), length-take 4 out)
  by true false = omega (arith, decimal-short n)
  by false b = omega (arith, decimal-short n)

list-short : (k n : ℕ) (zs : List ℤ) → length (list_line k n zs) ≤ 44 + length zs * 22
unfolding list_line
list-short k n zs = simp length-append (omega (arith, decimal-short k, decimal-short n, coordinates-short zs))

heard-short : (n : ℕ) (g : Reason) (ws : List ℕ) → length (heard_line n g ws) ≤ 92 + length ws * 21
unfolding heard_line
heard-short n g ws = simp length-append (omega (arith, decimal-short n, decimal-short (length ws), reason-short g, said-short ws))

sample-short : (g : GivenSample) → length (sample_line g) ≤ 44
unfolding sample_line
sample-short g = by g.place where
  by : (o : Option ℕ) → length (line_by o g.x g.y) ≤ 44
  by none = simp length-append (omega (arith, whole-short g.x, whole-short g.y))
  by (some p) = simp length-append (omega (arith, decimal-short p))

card-short : (b : Bool) → length (card_line b) ≤ 9
card-short true = omega arith
card-short false = omega arith

-- the place after each line
module _ {page : List ℕ} {at : ℕ} {r : ℕ} {page' : List ℕ} where
  pub number-near : (n : ℕ) → Puts page at (number_line n) r page' → r ≤ at + 21
  number-near n p = omega (arith, p.next, length-append (decimal n) (bytes "\n"), decimal-short n)

  pub card-near : (b : Bool) → Puts page at (card_line b) r page' → r ≤ at + 9
  card-near b p = omega (arith, p.next, card-short b)

  pub sent-near : (n : ℕ) (out : List ℤ) → Puts page at (sent_line n out) r page' → r ≤ at + 109
  sent-near n out p = omega (arith, p.next, sent-short n out)

  pub list-near : (k n : ℕ) (zs : List ℤ) → Puts page at (list_line k n zs) r page' → r ≤ at + (44 + length zs * 22)
  list-near k n zs p = omega (arith, p.next, list-short k n zs)

  pub heard-near : (n : ℕ) (g : Reason) (ws : List ℕ) → Puts page at (heard_line n g ws) r page' → r ≤ at + (92 + length ws * 21)
  heard-near n g ws p = omega (arith, p.next, heard-short n g ws)

  pub sample-near : (g : GivenSample) → Puts page at (sample_line g) r page' → r ≤ at + 44
  sample-near g p = omega (arith, p.next, sample-short g)

module _ (n : ℕ) (out : List ℤ) where
  pub not-sent : (n ≡ 0 → ⊥) → number_line n ≡ sent_line n out
  unfolding sent_line
  not-sent h = sym (rw (ne_eqb n 0 h) (ap (λ (t : List ℕ). t ++ bytes "\n") (append-nil (decimal n))))

  pub few-sent : n ≡ 0 → length out < 4 → number_line n ≡ sent_line n out
  unfolding sent_line
  few-sent e h = sym (rw (eq-eqb n 0 e, lt-leb 4 (length out) h) (ap (λ (t : List ℕ). t ++ bytes "\n") (append-nil (decimal n))))

four-of : (out : List ℤ) → 4 ≤ length out → take 4 out ≡ get_or out 0 (pos 0) ∷ get_or out 1 (pos 0) ∷ get_or out 2 (pos 0) ∷ get_or out 3 (pos 0) ∷ []
four-of [] h = absurd (omega arith)
four-of (a ∷ []) h = absurd (omega arith)
four-of (a ∷ b ∷ []) h = absurd (omega arith)
four-of (a ∷ b ∷ c ∷ []) h = absurd (omega arith)
four-of (a ∷ b ∷ c ∷ d ∷ out) h = refl

regroup : (s n a b c d e : List ℕ) → n ++ (s ++ a ++ (s ++ b ++ (s ++ c ++ (s ++ d ++ [])))) ++ e ≡ n ++ (s ++ a ++ (s ++ b)) ++ (s ++ c ++ (s ++ d)) ++ e
regroup s n a b c d e = simp (append_assoc, append-nil)

pub all-sent : (n : ℕ) (out : List ℤ) → n ≡ 0 → 4 ≤ length out
    → decimal n ++ (bytes " " ++ whole (get_or out 0 (pos 0)) ++ (bytes " " ++ whole (get_or out 1 (pos 0)))) ++
    (bytes " " ++ whole (get_or out 2 (pos 0)) ++ (bytes " " ++ whole (get_or out 3 (pos 0)))) ++ bytes "\n" ≡ sent_line n out
unfolding sent_line
all-sent n out e h =
    let w : ℕ → List ℕ = λ i. whole (get_or out i (pos 0)) in
    sym (rw (eq-eqb n 0 e, le-leb 4 (length out) h, four-of out h) (regroup (bytes " ") (decimal n) (w 0) (w 1) (w 2) (w 3) (bytes "\n")))
