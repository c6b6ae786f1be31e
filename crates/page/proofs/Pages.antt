-- Laws of putting text into a page: byte by byte, one text after another, numerals; and that each promise allows one result alone.
use Prim.Native.Nat.{ℕ, ◌-◌, ◌^◌, ◌≤◌, ◌<◌}
use mathlib.Core.Path.{◌≡◌, refl, sym, ap, subst, ◌∙◌}
use mathlib.Core.Bool.{Bool, true, false}
use mathlib.Core.List.{List, [], ◌∷◌, ◌++◌, append_assoc}
use native.Mathlib.Omega.{arith}
use native.Mathlib.Nat.{pow-le-pow_right}
use borrow.Author.Tests.{leb-true, leb-false, ltb-true}
use lib.Dec.{leb}
use lib.IntN.{ℤ, pos, negsuc, nat_abs}
use lib.Signed.{lt_z}
use mir.Syntax.{w32}
use mir.Val.{SFits, to_z, of_z}
use mir.ValLaws.{to_z-of_z}
use lib.ListN.{length, take, drop, length-append, length-take}
use lib.Seq.{take_at, drop_at, drop-drop}
use Rattle.io.specs.Digits.{last_digits, IsDigitCount}
use Rattle.page.specs.Page.{Puts, Numeral, PutsNumber, PutsWhole, sign_text}

-- one text after another is the two as one
pub joined : {page : List ℕ} {at : ℕ} {s : List ℕ} {r : ℕ} {p t : List ℕ} {r' : ℕ} {p' : List ℕ}
    → r ≤ length page → Puts page at s r p → Puts p r t r' p' → Puts page at (s ++ t) r' p'
joined {page} {at} {s} {r} {p} {t} {r'} {p'} room a b =
    let whole : length (take at page ++ s) ≡ r = simp (length-append, length-take) (omega (arith, a.next)) in
    let head : take r p ≡ take at page ++ s = rw a.said (take_at (take at page ++ s) (drop r page) r whole) in
    let tail : drop r p ≡ drop r page = rw a.said (drop_at (take at page ++ s) (drop r page) r whole) in
    let rest : drop r' p ≡ drop r' page = rw (b.next, ← drop-drop (length t) r p, tail, drop-drop (length t) r page) in
    record { next = rw length-append (omega (arith, a.next, b.next)); said = b.said ∙ rw (head, rest, append_assoc (take at page) s t) }

-- what is put at the front of a page stands there
pub front-is : {page text : List ℕ} {r : ℕ} {page' : List ℕ} → Puts page 0 text r page' → take r page' ≡ text
front-is {page} {text} {r} p = ap (take r) p.said ∙ take_at text (drop r page) r (omega (arith, p.next))

-- no more digits than any number of them that holds n
no_more : {n : ℕ} (j k : ℕ) → 1 ≤ j → n < 10 ^ j → IsDigitCount 10 1 n k → k ≤ j
no_more {n} j k h l f = by (leb k j) refl where
  by : (t : Bool) → leb k j ≡ t → k ≤ j
  by true e = leb-true k j e
  by false e =
      let more : j < k = leb-false k j e in
      let most : 10 ^ (k - 1) ≤ n = f.2 (omega arith) in
      omega (arith, pow-le-pow_right {n = 10} (omega arith) {i = j} {j = k - 1} (omega arith))

-- twenty digits hold every number of 64 bits
pub few : {n k : ℕ} → n < 2 ^ 64 → IsDigitCount 10 1 n k → k ≤ 20
few {n} {k} h f = no_more 20 k (omega arith) (omega arith) f

sign_below : (x : ℤ) → lt_z x (pos 0) ≡ true → sign_text x ≡ 45 ∷ []
sign_below (pos n) e = absurd (omega (arith, ltb-true n 0 e))
sign_below (negsuc n) e = refl

-- a minus, and the numeral of the absolute value after it
pub minus-put : {page : List ℕ} {at : ℕ} (x : ℤ) {n r : ℕ} {page' : List ℕ} {q : ℕ} {page₁ : List ℕ} → SFits w32 x → n ≡ nat_abs x
    → lt_z (to_z w32 (of_z w32 x)) (pos 0) ≡ true → q ≤ length page → Puts page at (45 ∷ []) q page₁ → PutsNumber page₁ q n r page' → PutsWhole page at x r page'
minus-put {page} {at} x {r = r} {page'} fits is below room a p =
    record {
      text = p.text;
      numeral = subst (λ (m : ℕ). Numeral m p.text) is p.numeral;
      puts =
          subst (λ (s : List ℕ). Puts page at (s ++ p.text) r page') (sym (sign_below x (rw (to_z-of_z w32 x fits) at below)))
          (joined room a p.puts);
      near = omega (arith, p.near, a.next);
    }

-- any two results of one call are equal
pub one-result : {page : List ℕ} {at : ℕ} {text : List ℕ} {r r' : ℕ} {p p' : List ℕ} → Puts page at text r p → Puts page at text r' p' → (r ≡ r') × (p ≡ p')
one-result {page} {at} {text} {r} {r'} a b =
    let same : r ≡ r' = omega (arith, a.next, b.next) in
    (same, cc (a.said, b.said))

one-numeral : {n : ℕ} {t t' : List ℕ} → Numeral n t → Numeral n t' → t ≡ t'
one-numeral {n} {t} {t'} a b =
    let under = no_more (length t') (length t) b.fewest.0 b.fewest.1 a.fewest in
    let over = no_more (length t) (length t') a.fewest.0 a.fewest.1 b.fewest in
    let same : length t ≡ length t' = omega arith in
    a.spelt ∙ ap (λ (k : ℕ). last_digits 10 k n) same ∙ sym b.spelt

pub one_number : {page : List ℕ} {at n r r' : ℕ} {p p' : List ℕ} → PutsNumber page at n r p → PutsNumber page at n r' p' → (r ≡ r') × (p ≡ p')
one_number {page} {at} {n} {r} {r'} {p} {p'} a b =
    one-result a.puts (subst (λ (t : List ℕ). Puts page at t r' p') (one-numeral b.numeral a.numeral) b.puts)

pub one-whole : {page : List ℕ} {at : ℕ} {x : ℤ} {r r' : ℕ} {p p' : List ℕ} → PutsWhole page at x r p → PutsWhole page at x r' p' → (r ≡ r') × (p ≡ p')
one-whole {page} {at} {x} {r} {r'} {p} {p'} a b =
    one-result a.puts (subst (λ (t : List ℕ). Puts page at (sign_text x ++ t) r' p') (one-numeral b.numeral a.numeral) b.puts)
