-- What `square` is cut off from, and what a number and a map are read from.
--   same-equal       the same bytes are one text
--   named_by         the map that one text names, whatever its tokens
--   after-named      the map that the text after the first token names
--   numbered-read    a number and a map, each as it was read
use Prim.Native.Nat.{ℕ, suc, ◌<◌}
use mathlib.Core.Path.{◌≡◌, refl, sym, ap, ap₂, ◌∙◌}
use mathlib.Core.Bool.{Bool, true, false, cond}
use mathlib.Core.List.{List, [], ◌∷◌}
use native.Mathlib.Omega.{arith}
use borrow.Author.Tests.{eqb-true, ltb-true, ltb-false}
use lib.Dec.{eqb, ltb}
use lib.ListN.{length, take, drop}
use Rattle.points.specs.declared.Map.TheVariants.{Square}
use Rattle.text.specs.Bytes.{bytes}
use Rattle.text.specs.Token.{tokens, length_before, Cuts, same_bytes}
use Rattle.text.specs.Number.{number_of}
use Rattle.std.specs.Prelude.{Option, Some, None}
use Rattle.text.proofs.Tokens.{last-token, more-tokens, not-empty, at-most-all}
use Rattle.text.proofs.Cut.{after, some_more, first-and-rest}
use Rattle.points.specs.declared.Map.{Map}
use Rattle.line_fields.specs.declared.map_names.Numbered.{Numbered}
use Rattle.line_fields.specs.Names.{map_named, numbered_by, numbered_of}

false-true : false ≡ true → ⊥
false-true e = let z : ◌≡◌ {A = ℕ} 0 1 = cc in omega arith

same-equal : (a b : List ℕ) → same_bytes a b ≡ true → a ≡ b
same-equal [] [] e = refl
same-equal [] (c ∷ t) e = absurd (false-true e)
same-equal (b ∷ s) [] e = absurd (false-true e)
same-equal (b ∷ s) (c ∷ t) e = by (eqb b c) refl (same-equal s t) e
  where
    by : (x : Bool) → eqb b c ≡ x → (same_bytes s t ≡ true → s ≡ t) → cond x (same_bytes s t) false ≡ true → b ∷ s ≡ c ∷ t
    by true f g h = ap₂ (λ (x : ℕ) (l : List ℕ). x ∷ l) (eqb-true b c f) (g h)
    by false f g h = absurd (false-true h)

-- a text with a space in it is another one
spaced-other : (s : List ℕ) → length_before 32 s < length s → same_bytes s (bytes "square") ≡ false
spaced-other s h = by (same_bytes s (bytes "square")) refl
  where
    by : (b : Bool) → same_bytes s (bytes "square") ≡ b → b ≡ false
    by true e = absurd (let k : length_before 32 (bytes "square") < length (bytes "square") = rw (same-equal s (bytes "square") e) at h in omega arith)
    by false e = refl

named_by : (s : List ℕ) (b : Bool) → b ≡ same_bytes s (bytes "square") → cond b (Some Square) None ≡ map_named (tokens s)
named_by s b e = rw e (by (ltb (length_before 32 s) (length s)) refl)
  where
    many : (t : List ℕ) (ts : List (List ℕ)) → (length ts ≡ 0 → ⊥) → None ≡ map_named (t ∷ ts)
    many t [] f = absurd (f refl)
    many t (t' ∷ ts) f = refl

    by : (c : Bool) → ltb (length_before 32 s) (length s) ≡ c → cond (same_bytes s (bytes "square")) (Some Square) None ≡ map_named (tokens s)
    by true e =
        let less : length_before 32 s < length s = ltb-true _ _ e in
        rw (spaced-other s less, more-tokens s less) (many (take (length_before 32 s) s) (tokens (drop (suc (length_before 32 s)) s)) (not-empty (drop (suc (length_before 32 s)) s)))
    by false e = rw (last-token s (omega (arith, ltb-false (length_before 32 s) (length s) e, at-most-all 32 s)))

module _ {s : List ℕ} {n : ℕ} (cut : Cuts 32 s n) where
  pub after-named : {b : Bool} → (n ≡ length s → ⊥) → b ≡ same_bytes (after n s) (bytes "square") → cond b (Some Square) None ≡ map_named (drop 1 (tokens s))
  after-named {b} h e = named_by (after n s) b e ∙ ap map_named (sym (some_more cut h))

  pub numbered-read : {o : Option ℕ} {w : Option Map} {r : Option Numbered} → o ≡ number_of 10 4294967295 (take n s) → w ≡ map_named (drop 1 (tokens s)) → r ≡ numbered_by o w → r ≡ numbered_of (tokens s)
  numbered-read e f g = g ∙ ap₂ numbered_by e f ∙ sym (ap numbered_of (first-and-rest cut))
