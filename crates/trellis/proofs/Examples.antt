-- 01's row of allowed and refused symbols.
--   five-AA      five symbols (A, A) are allowed with a free start
--   four-AA-AC   four (A, A), then (A, C), are allowed with no start
use mathlib.Core.Path.{◌≡◌, refl, sym, ap₂, subst, ◌∙◌}
use native.Mathlib.Omega.{arith}
use mathlib.Core.List.{[], ◌∷◌}
use Prim.Native.Nat.{ℕ}
use Rattle.trellis.specs.Lists.{Every}
use Rattle.trellis.specs.Measure.{Start, free}
use Rattle.trellis.specs.Allowed.{Allows}
use Rattle.trellis.specs.IvEight.{Bits, Meets, bits_of, label_bits}
use Rattle.trellis.specs.Examples.{HasLabels}
use Rattle.trellis.proofs.IvEight.{allowed-fives, fives-allowed}
use Rattle.trellis.proofs.IvPoints.{label-bits}
use Rattle.wei.specs.Symbol.{Symbol, Valid}

-- the same bits meet it
meets_same : {a b c d e p q r s t : Bits} → p ≡ a → q ≡ b → r ≡ c → s ≡ d → t ≡ e → Meets a b c d e → Meets p q r s t
meets_same {a} {b} {c} {d} {e} {p} {q} {r} {s} {t} i j k l n m =
    subst (λ (x : Bits). Meets x q r s t) (sym i)
    (subst (λ (x : Bits). Meets a x r s t) (sym j)
    (subst (λ (x : Bits). Meets a b x s t) (sym k)
    (subst (λ (x : Bits). Meets a b c x t) (sym l) (subst (λ (x : Bits). Meets a b c d x) (sym n) m))))

-- "Five symbols (A,A) are allowed; four (A,A) then (A,C) are not"
module _ (u : ℕ) (a b c d e : Symbol) (v : Every (Valid u) (a ∷ b ∷ c ∷ d ∷ e ∷ [])) (h : Every (HasLabels 0 0) (a ∷ b ∷ c ∷ d ∷ [])) where
  bits : (l m : ℕ) (x : Symbol) → Valid u x → HasLabels l m x → bits_of x ≡ label_bits l m
  bits l m x w (p, q) = sym (label-bits u x w) ∙ ap₂ label_bits p q

  ba : bits_of a ≡ label_bits 0 0
  ba = bits 0 0 a v.0 h.0

  bb : bits_of b ≡ label_bits 0 0
  bb = bits 0 0 b v.1.0 h.1.0

  bc : bits_of c ≡ label_bits 0 0
  bc = bits 0 0 c v.1.1.0 h.1.1.0

  bd : bits_of d ≡ label_bits 0 0
  bd = bits 0 0 d v.1.1.1.0 h.1.1.1.0

  pub five-AA : HasLabels 0 0 e → Allows u free (a ∷ b ∷ c ∷ d ∷ e ∷ [])
  five-AA k =
      let be = bits 0 0 e v.1.1.1.1.0 k in
      let m : Meets (bits_of a) (bits_of b) (bits_of c) (bits_of d) (bits_of e) = meets_same ba bb bc bd be refl in
      fives-allowed u (a ∷ b ∷ c ∷ d ∷ e ∷ []) v (m, (tt, (tt, (tt, (tt, tt)))))

  pub four-AA-AC : HasLabels 0 1 e → (s : Start) → Allows u s (a ∷ b ∷ c ∷ d ∷ e ∷ []) → ⊥
  four-AA-AC k s p =
      let be = bits 0 1 e v.1.1.1.1.0 k in
      let m : Meets (bits_of a) (bits_of b) (bits_of c) (bits_of d) (bits_of e) = (allowed-fives u p.from (a ∷ b ∷ c ∷ d ∷ e ∷ []) p.allowed).0 in
      let z : ◌≡◌ {A = ℕ} 1 0 = meets_same (sym ba) (sym bb) (sym bc) (sym bd) (sym be) m in
      omega arith
