-- A text cut at its first space, in tokens.
--   after n s            the text after the token that ends at n
--   alone, cut_off       its tokens: the text itself where no space stands in it, else the first and those of the text after it
--   no_more, some_more   the tokens after the first
--   first-and-rest       the first, and those
use Prim.Native.Nat.{ℕ, ◌+◌, ◌-◌, ◌<◌}
use mathlib.Core.Path.{◌≡◌, sym, ap, ◌∙◌}
use mathlib.Core.List.{List, [], ◌∷◌}
use native.Mathlib.Omega.{arith}
use native.Mathlib.Numerals.{add-one}
use lib.ListN.{length, take, drop}
use Rattle.text.specs.Token.{tokens, length_before, Cuts}
use Rattle.text.proofs.Digits.{to_end}
use Rattle.text.proofs.Tokens.{last-token, more-tokens, first-token}

abbrev pub after : ℕ → List ℕ → List ℕ
after n s = take (length s - (n + 1)) (drop (n + 1) s)

module _ {s : List ℕ} {n : ℕ} (cut : Cuts 32 s n) where
  pub alone : n ≡ length s → tokens s ≡ s ∷ []
  alone h = last-token s (omega (arith, cut.is))

  pub cut_off : (n ≡ length s → ⊥) → tokens s ≡ take n s ∷ tokens (after n s)
  cut_off h =
      let less : length_before 32 s < length s = omega (arith, cut.is, cut.within) in
      rw (more-tokens s less, ← cut.is, to_end (n + 1) s, ← add-one n)

  pub no_more : n ≡ length s → drop 1 (tokens s) ≡ []
  no_more h = rw (alone h)

  pub some_more : (n ≡ length s → ⊥) → drop 1 (tokens s) ≡ tokens (after n s)
  some_more h = rw (cut_off h)

  pub first-and-rest : tokens s ≡ take n s ∷ drop 1 (tokens s)
  first-and-rest =
      let f = first-token s n cut.is in
      f.1 ∙ ap (λ (ts : List (List ℕ)). take n s ∷ ts) (sym (ap (λ (ts : List (List ℕ)). drop 1 ts) f.1))
