-- Laws of a verdict's line: a word is eight digits, how long each part is at most, and that the line fits.
--   hex-few, hex-put    `io`'s digits of a word are the eight of `hex`
--   head_near, word-near, expected-near   the place after a part
--   line-short          no line is longer than 64 bytes
--   line-settled        any two lines that the promise allows say the same
use Prim.Native.Nat.{ℕ, ◌+◌, ◌-◌, ◌^◌, ◌≤◌, ◌<◌}
use mathlib.Core.Path.{◌≡◌, refl, sym, ap, subst, ◌∙◌}
use mathlib.Core.Bool.{Bool, true, false}
use mathlib.Core.List.{List, ◌++◌}
use native.Mathlib.Omega.{arith}
use native.Mathlib.Nat.{pow-le-pow_right}
use borrow.Author.Tests.{leb-true, leb-false}
use lib.Dec.{leb}
use lib.ListN.{length, take, length-append}
use Rattle.io.specs.Digits.{last_digits, IsDigitCount}
use Rattle.page.specs.Page.{Puts}
use Rattle.phrases.specs.Phrase.{decimal}
use Rattle.phrases.proofs.Phrases.{decimal-short}
use Rattle.replay_judge.specs.declared.Verdict.{Verdict}
use Rattle.replay_judge.specs.declared.Verdict.TheVariants.{Agree, Differs, Extra, Missing, Refused, Malformed}
use Rattle.replay_text.specs.declared.Line.{Line}
use Rattle.replay_text.specs.Says.{hex, recorded, line_of}

pub hex-few : {n k : ℕ} → n < 2 ^ 32 → IsDigitCount 16 8 n k → k ≡ 8
hex-few {n} {k} h f = by (leb k 8) refl
  where
    by : (t : Bool) → leb k 8 ≡ t → k ≡ 8
    by true e = let l : k ≤ 8 = leb-true k 8 e in omega (arith, f.0)
    by false e =
        let more : 8 < k = leb-false k 8 e in
        let most : 16 ^ (k - 1) ≤ n = f.2 more in
        absurd (omega (arith, pow-le-pow_right {n = 16} (omega arith) {i = 8} {j = k - 1} (omega arith)))

pub hex-put : {page : List ℕ} {at n k r : ℕ} (d : List ℕ) {page' : List ℕ} → n < 2 ^ 32 → IsDigitCount 16 8 n k → take k d ≡ last_digits 16 k n
    → Puts page at (take k d) r page' → Puts page at (hex n) r page'
unfolding hex
hex-put {page} {at} {n} {k} {r} d {page'} h f e p = subst (λ (t : List ℕ). Puts page at t r page') (e ∙ ap (λ (m : ℕ). last_digits 16 m n) (hex-few h f)) p

pub hex-length : (w : ℕ) → length (hex w) ≡ 8
unfolding hex
hex-length w = refl

module _ {page : List ℕ} {r : ℕ} {page' : List ℕ} where
  pub head_near : (s : List ℕ) (n : ℕ) (t : List ℕ) → Puts page 0 (s ++ decimal n ++ t) r page' → r ≤ length s + 20 + length t
  head_near s n t p = omega (arith, simp length-append at p.next, decimal-short n)

  pub word-near : (n g : ℕ) → Puts page 0 (recorded n g) r page' → r ≤ 41
  word-near n g p = omega (arith, simp length-append at p.next, decimal-short n, hex-length g)

  pub expected-near : (n g : ℕ) (t : List ℕ) → Puts page 0 (recorded n g ++ t) r page' → r ≤ 41 + length t
  expected-near n g t p = omega (arith, simp length-append at p.next, decimal-short n, hex-length g)

-- no line is longer than 64 bytes
pub line-short : (v : Verdict) → length (line_of v) ≤ 64
unfolding line_of
line-short (Agree n) = simp length-append (omega (arith, decimal-short n))
line-short (Differs n g h) = simp length-append (omega (arith, decimal-short n, hex-length g, hex-length h))
line-short (Extra n g) = simp length-append (omega (arith, decimal-short n, hex-length g))
line-short (Missing n h) = simp length-append (omega (arith, decimal-short n, hex-length h))
line-short (Refused n r) = simp length-append (omega (arith, decimal-short n, decimal-short r))
line-short (Malformed p) = simp length-append (omega (arith, decimal-short p))

pub line-settled : (v : Verdict) (a b : Line) → take a.size a.text ≡ line_of v → take b.size b.text ≡ line_of v → take a.size a.text ≡ take b.size b.text
line-settled v a b e f = e ∙ sym f
