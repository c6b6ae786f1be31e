-- Laws of the parts of an answer: the numbers that `text` puts are the decimal ones, how long each part is at most, and how the words grow.
use Prim.Native.Nat.{ℕ, zero, suc, ◌+◌, ◌-◌, ◌*◌, ◌/◌, ◌%◌, ◌^◌, ◌≤◌, ◌<◌}
use mathlib.Core.Path.{◌≡◌, refl, sym, subst, ◌∙◌}
use mathlib.Core.Bool.{Bool, true, false, cond}
use mathlib.Core.List.{List, [], ◌∷◌, ◌++◌, map, map-append, append_assoc, append-nil}
use native.Mathlib.Omega.{arith}
use native.Mathlib.Nat.{pow-succ', one-le-pow}
use native.Mathlib.Numerals.{add-one}
use borrow.Author.Tests.{lt-ltb, le-ltb, eq-eqb, ne_eqb}
use mir.Syntax.{w32}
use mir.Val.{SFits, to_z, of_z}
use mir.ValLaws.{to_z-of_z}
use lib.Dec.{eqb, ltb}
use lib.IntN.{ℤ, nat_abs, pos, negsuc}
use lib.ListN.{length, take, get_or, length-append, take-append-drop}
use lib.Seq.{take-suc, take_all}
use Rattle.io.specs.Digits.{hex_digit_ascii, last_digits, IsDigitCount}
use Rattle.text.specs.Bytes.{bytes}
use Rattle.page.specs.Page.{Puts, Numeral, PutsNumber, PutsWhole, sign_text}
use Rattle.page.proofs.Pages.{few}
use Rattle.reasons.specs.Reason.{Reason}
use Rattle.phrases.specs.Phrase.{decimal_in, decimal, whole, after_spaces, place_text, reason_text, said_of, said_text, said_wholes}

-- ---- numbers

digit : (n : ℕ) → hex_digit_ascii (n % 10) ≡ 48 + n % 10
digit n = rw (lt-ltb (n % 10) 10 (omega arith))

less_one : (j : ℕ) → suc j - 1 ≡ j
less_one j = omega arith

-- digits that are as few as hold n are the decimal ones
fewest-digits : (k j n : ℕ) → j ≤ k → IsDigitCount 10 1 n j → last_digits 10 j n ≡ decimal_in k n
fewest-digits k zero n h f = absurd (omega (arith, f.0))
fewest-digits zero (suc j) n h f = absurd (omega arith)
fewest-digits (suc k) (suc zero) n h f = rw (digit n, lt-ltb n 10 (omega (arith, f.1)))
fewest-digits (suc k) (suc (suc j)) n h f =
    let low : 10 ^ suc j ≤ n = rw (less_one (suc j)) at (f.2 (omega arith)) in
    let large : 10 ≤ n = omega (arith, pow-succ' 10 j, one-le-pow j 10 (omega arith)) in
    let below : n / 10 < 10 ^ suc j = omega (arith, f.1, pow-succ' 10 (suc j)) in
    let above : 10 ^ j ≤ n / 10 = omega (arith, pow-succ' 10 j) in
    rw (digit n, le-ltb n 10 large, fewest-digits k (suc j) (n / 10) (omega arith) (omega arith, below, λ _. rw (less_one j) above))

numeral-decimal : {n : ℕ} {t : List ℕ} → Numeral n t → length t ≤ 20 → t ≡ decimal n
unfolding decimal
numeral-decimal {n} {t} a h = a.spelt ∙ fewest-digits 20 (length t) n h a.fewest

small : (x : ℤ) → SFits w32 x → nat_abs x < 2 ^ 64
small (pos n) f = omega (arith, f.sfits)
small (negsuc n) f = omega (arith, f.sfits)

module _ {page : List ℕ} {at : ℕ} {r : ℕ} {page' : List ℕ} where
  pub says-number : {n : ℕ} → PutsNumber page at n r page' → Puts page at (decimal n) r page'
  says-number p =
      subst (λ (t : List ℕ). Puts page at t r page') (numeral-decimal p.numeral (omega (arith, p.near, p.puts.next))) p.puts

  -- x as the machine hands it on
  pub says-whole : (x : ℤ) → SFits w32 x → PutsWhole page at (to_z w32 (of_z w32 x)) r page' → Puts page at (whole x) r page'
  unfolding whole
  says-whole x f q =
      let p : PutsWhole page at x r page' = rw (to_z-of_z w32 x f) at q in
      subst (λ (t : List ℕ). Puts page at (sign_text x ++ t) r page') (numeral-decimal p.numeral (few (small x f) p.numeral.fewest)) p.puts

  pub says-next : (x : ℤ) → SFits w32 x → Puts page at (bytes " " ++ whole (to_z w32 (of_z w32 x))) r page' → Puts page at (bytes " " ++ whole x) r page'
  says-next x f p = rw (to_z-of_z w32 x f) at p

  pub says-pair : (x y : ℤ) → SFits w32 x → SFits w32 y → Puts page at (bytes " " ++ whole (to_z w32 (of_z w32 x)) ++ (bytes " " ++ whole (to_z w32 (of_z w32 y)))) r page'
      → Puts page at (bytes " " ++ whole x ++ (bytes " " ++ whole y)) r page'
  says-pair x y f g p = rw (to_z-of_z w32 x f, to_z-of_z w32 y g) at p

-- ---- lengths

short : (k n : ℕ) → length (decimal_in k n) ≤ k
short zero n = omega arith
short (suc k) n = rw length-append (by (ltb n 10) (short k (n / 10))) where
  by : (b : Bool) → length (decimal_in k (n / 10)) ≤ k → length (cond b [] (decimal_in k (n / 10))) + 1 ≤ suc k
  by true h = omega arith
  by false h = omega arith

pub decimal-short : (n : ℕ) → length (decimal n) ≤ 20
unfolding decimal
decimal-short n = short 20 n

pub whole-short : (x : ℤ) → length (whole x) ≤ 21
unfolding whole
whole-short (pos n) = omega (arith, decimal-short n)
whole-short (negsuc n) = omega (arith, decimal-short (suc n))

pub reason-short : (r : Reason) → length (reason_text r) ≤ 47
unfolding reason_text
reason-short r = rw length-append (by (eqb r.number 5)) where
  by : (b : Bool) → length (decimal r.number) + length (cond b (place_text r.place) []) ≤ 47
  by true = omega (arith, decimal-short r.number, decimal-short r.place)
  by false = omega (arith, decimal-short r.number)

words-short : (ws : List ℕ) → length (after_spaces (map decimal ws)) ≤ length ws * 21
words-short [] = omega arith
words-short (w ∷ ws) = rw length-append (omega (arith, words-short ws, decimal-short w))

pub said-short : (ws : List ℕ) → length (said_text ws) ≤ 2 + length ws * 21
unfolding said_text
said-short [] = omega arith
said-short (w ∷ ws) = omega (arith, words-short (w ∷ ws))

pub wholes-short : (zs : List ℤ) → length (after_spaces (map whole zs)) ≤ length zs * 22
wholes-short [] = omega arith
wholes-short (z ∷ zs) = rw length-append (omega (arith, wholes-short zs, whole-short z))

pub coordinates-short : (zs : List ℤ) → length (said_wholes zs) ≤ 2 + length zs * 22
unfolding said_wholes
coordinates-short [] = omega arith
coordinates-short (z ∷ zs) = omega (arith, wholes-short (z ∷ zs))

-- the place after each part
module _ {page : List ℕ} {at : ℕ} {r : ℕ} {page' : List ℕ} where
  pub next-near : (x : ℤ) → Puts page at (bytes " " ++ whole x) r page' → r ≤ at + 22
  next-near x p = omega (arith, p.next, whole-short x)

  pub pair-near : (x y : ℤ) → Puts page at (bytes " " ++ whole x ++ (bytes " " ++ whole y)) r page' → r ≤ at + 44
  pair-near x y p = omega (arith, simp length-append at p.next, whole-short x, whole-short y)

  pub counts-near : (m n : ℕ) → Puts page at (decimal m ++ bytes " " ++ decimal n ++ bytes " ") r page' → r ≤ at + 42
  counts-near m n p = omega (arith, simp length-append at p.next, decimal-short m, decimal-short n)

  pub reason-near : (g : Reason) → Puts page at (reason_text g) r page' → r ≤ at + 47
  reason-near g p = omega (arith, p.next, reason-short g)

  pub said-near : (ws : List ℕ) → Puts page at (said_text ws) r page' → r ≤ at + 2 + length ws * 21
  said-near ws p = omega (arith, p.next, said-short ws)

  pub coordinates-near : (zs : List ℤ) → Puts page at (said_wholes zs) r page' → r ≤ at + 2 + length zs * 22
  coordinates-near zs p = omega (arith, p.next, coordinates-short zs)

-- ---- parts of a line

pub nothing_put : (page : List ℕ) (at : ℕ) → Puts page at [] at page
nothing_put page at = record { next = omega arith; said = sym (rw (append-nil (take at page)) (take-append-drop at page)) }

spaces-snoc : (ts : List (List ℕ)) (t : List ℕ) → after_spaces (ts ++ t ∷ []) ≡ after_spaces ts ++ (32 ∷ []) ++ t
spaces-snoc [] t = append-nil (32 ∷ t)
spaces-snoc (s ∷ ts) t = rw (spaces-snoc ts t) (simp append_assoc)

pub puts-as : {page : List ℕ} {at : ℕ} {s t : List ℕ} {r : ℕ} {page' : List ℕ} → s ≡ t → Puts page at s r page' → Puts page at t r page'
puts-as {page} {at} {s} {t} {r} {page'} e p = subst (λ (x : List ℕ). Puts page at x r page') e p

-- a number more, whatever one of them says
module _ {A : Type 0} (f : A → List ℕ) (xs : List A) where
  pub one_number : (i : ℕ) (d : A) → i < length xs → after_spaces (map f (take i xs)) ++ (bytes " " ++ f (get_or xs i d)) ≡ after_spaces (map f (take (i + 1) xs))
  one_number i d h =
      sym (rw (add-one, take-suc xs i d h, map-append f (take i xs), spaces-snoc)
      (append_assoc (after_spaces (map f (take i xs))) (32 ∷ []) (f (get_or xs i d))))

  pub all-numbers : (i : ℕ) → length xs ≤ i → after_spaces (map f (take i xs)) ≡ after_spaces (map f xs)
  all-numbers i h = rw (take_all i xs h)

pub some-said : {A : Type 0} (f : A → List ℕ) (xs : List A) → (length xs ≡ 0 → ⊥) → bytes " :" ++ after_spaces (map f xs) ≡ said_of f xs
some-said f [] h = absurd (h refl)
some-said f (x ∷ xs) h = refl

pub none_said : {A : Type 0} (f : A → List ℕ) (xs : List A) → length xs ≡ 0 → [] ≡ said_of f xs
none_said f [] h = refl
none_said f (x ∷ xs) h = absurd (omega arith)

-- n is the number of a reason
module _ (g : Reason) (n : ℕ) (is : n ≡ g.number) where
  pub no_place : (n ≡ 5 → ⊥) → decimal n ≡ reason_text g
  unfolding reason_text
  no_place h = sym (rw (← is, ne_eqb n 5 h) (append-nil (decimal n)))

  pub with-place : (p : ℕ) → n ≡ 5 → p ≡ g.place → decimal n ++ place_text p ≡ reason_text g
  unfolding reason_text
  with-place p h e = sym (rw (← is, ← e, eq-eqb n 5 h))
