-- The sequences of the theory and the symbols that `wei` allows are the same.
--   allowed-runs    every allowed sequence runs through symbols that are allowed from its first state
--   from-drawn      symbols that are allowed from a first state are those of an allowed sequence, for as many received symbols
use mathlib.Core.Path.{◌≡◌, refl, sym, ap, subst, ◌∙◌}
use mathlib.Core.List.{List, [], ◌∷◌, ◌++◌, append-nil, append_assoc}
use Prim.Native.Nat.{ℕ, ◌+◌, ◌<◌}
use native.Mathlib.Omega.{arith}
use lib.Dec.{T}
use lib.ListN.{length}
use Rattle.trellis.specs.Code.{Path, begin, step, last, symbols, Allowed}
use Rattle.trellis.specs.Measure.{Start, may_start, Measure, wei_code}
use Rattle.trellis.specs.Allowed.{Runs, Drawn}
use Rattle.wei.specs.State.{next_state}
use Rattle.wei.specs.Symbol.{Symbol, Carries, AllowedFrom, ending}
use Rattle.wei.proofs.States.{next-below}

-- ── one more symbol at the end ──
module _ (u : ℕ) where
  ending-snoc : (s : ℕ) (cs : List Symbol) (c : Symbol) → ending s (cs ++ (c ∷ [])) ≡ next_state (ending s cs) c.i1 c.i2
  ending-snoc s [] c = refl
  ending-snoc s (a ∷ cs) c = ending-snoc (next_state s a.i1 a.i2) cs c

  allowed-snoc : (s t : ℕ) (cs : List Symbol) (c : Symbol) → AllowedFrom u s cs → Carries u (ending s cs) t c → AllowedFrom u s (cs ++ (c ∷ []))
  allowed-snoc s t [] c r k = (record { valid = k.valid; parity = k.parity; leads = refl }, tt)
  allowed-snoc s t (a ∷ cs) c r k = (r.0, allowed-snoc (next_state s a.i1 a.i2) t cs c r.1 k)

module _ (u : ℕ) (M : Measure) (b : Start) where
  open M use {Heard}

  pub allowed-runs : (ys : List Heard) (p : Path Symbol) → Allowed (wei_code u M b) ys p → Runs u b p
  allowed-runs [] (begin s) a = record { from = s; from-below = a.0; from_start = a.1; allowed = tt; ends = refl }
  allowed-runs [] (step p c s) a = absurd a
  allowed-runs (y ∷ ys) (begin s) a = absurd a
  allowed-runs (y ∷ ys) (step p c s) a =
      let r = allowed-runs ys p a.2 in
      record {
        from = r.from;
        from-below = r.from-below;
        from_start = r.from_start;
        allowed = allowed-snoc u r.from s (symbols p) c r.allowed (subst (λ (t : ℕ). Carries u t s c) (sym r.ends) a.1);
        ends = ending-snoc u r.from (symbols p) c ∙ ap (λ (t : ℕ). next_state t c.i1 c.i2) r.ends ∙ a.1.leads;
      }

  -- ── and back ──
  -- only how many were received matters
  same_length : (ys zs : List Heard) (p : Path Symbol) → length ys ≡ length zs → Allowed (wei_code u M b) ys p → Allowed (wei_code u M b) zs p
  same_length [] [] p e a = a
  same_length [] (z ∷ zs) p e a = absurd (omega arith)
  same_length (y ∷ ys) [] p e a = absurd (omega arith)
  same_length (y ∷ ys) (z ∷ zs) (begin s) e a = absurd a
  same_length (y ∷ ys) (z ∷ zs) (step p c s) e a = (a.0, a.1, same_length ys zs p (omega arith) a.2)

  -- a sequence, and the symbols after it
  goes_on : (ys zs : List Heard) (p : Path Symbol) (cs : List Symbol) → Allowed (wei_code u M b) ys p → AllowedFrom u (last p) cs → length zs ≡ length ys + length cs →
      Drawn u M b zs (symbols p ++ cs) (ending (last p) cs)
  goes_on ys zs p [] a r l = record { path = p; allowed = same_length ys zs p (omega arith) a; symbols-are = sym (append-nil (symbols p)); ends = refl }
  goes_on ys [] p (c ∷ cs) a r l = absurd (omega arith)
  goes_on ys (z ∷ zs) p (c ∷ cs) a r l =
      let t = next_state (last p) c.i1 c.i2 in
      let d = goes_on (z ∷ ys) (z ∷ zs) (step p c t) cs (next-below (last p) c.i1 c.i2, r.0, a) r.1 (omega arith) in
      record { path = d.path; allowed = d.allowed; symbols-are = d.symbols-are ∙ append_assoc (symbols p) (c ∷ []) cs; ends = d.ends }

  pub from-drawn : (s : ℕ) (cs : List Symbol) → s < 16 → T (may_start b s) → AllowedFrom u s cs → (ys : List Heard) → length ys ≡ length cs → Drawn u M b ys cs (ending s cs)
  from-drawn s cs h k r ys l = goes_on [] ys (begin s) cs (h, k) r (omega arith)
