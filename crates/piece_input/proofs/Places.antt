-- The place of a fault, and that there is none.
--   some-at, none-past       what each of the two says
--   first-fault, second-fault, no-fault   the fault of a symbol from those of its points
use Rattle.std.proofs.Common.{◌≡◌, ℕ, ◌+◌, ◌≤◌, ◌<◌, Bool, true, false, cond, ltb, Some, None, refl, ap, ◌∙◌, arith}
use borrow.Author.Tests.{lt-ltb, le-ltb, ltb-true, ltb-false}
use Rattle.nearest.specs.declared.Received.{Received}
use Rattle.nearest.specs.Found.{heard_as}
use Rattle.receiver_meaning.specs.Told.{fault_at, fault_of}
use Rattle.piece_input.specs.Looks.{place_below}

pub some-at : (n p q : ℕ) → Some q ≡ place_below n p → (q ≡ p) × (p < n)
some-at n p q e = go (ltb p n) refl e
  where
    go : (b : Bool) → ltb p n ≡ b → Some q ≡ cond b (Some p) None → (q ≡ p) × (p < n)
    go true r f = (cc, ltb-true p n r)
    go false r f = cc

pub none-past : (n p : ℕ) → None ≡ place_below n p → n ≤ p
none-past n p e = go (ltb p n) refl e
  where
    go : (b : Bool) → ltb p n ≡ b → None ≡ cond b (Some p) None → n ≤ p
    go true r f = cc
    go false r f = ltb-false p n r

module _ (g h : Received) where
  pub first-fault : (q : ℕ) → Some q ≡ place_below 2 (fault_at g) → Some q ≡ place_below 4 (fault_of (heard_as g h))
  unfolding fault_of
  first-fault q e =
      let a = some-at 2 (fault_at g) q e in
      ap Some a.0 ∙ rw (lt-ltb (fault_at g) 2 a.1, lt-ltb (fault_at g) 4 (omega arith))

  pub second-fault : (q : ℕ) → None ≡ place_below 2 (fault_at g) → Some q ≡ place_below 2 (fault_at h) → Some (2 + q) ≡ place_below 4 (fault_of (heard_as g h))
  unfolding fault_of
  second-fault q e f =
      let b = some-at 2 (fault_at h) q f in
      ap (λ (n : ℕ). Some (2 + n)) b.0 ∙ rw (le-ltb (fault_at g) 2 (none-past 2 (fault_at g) e), lt-ltb (2 + fault_at h) 4 (omega arith))

  pub no-fault : None ≡ place_below 2 (fault_at g) → None ≡ place_below 2 (fault_at h) → None ≡ place_below 4 (fault_of (heard_as g h))
  unfolding fault_of
  no-fault e f =
      let b = none-past 2 (fault_at h) f in
      rw (le-ltb (fault_at g) 2 (none-past 2 (fault_at g) e), le-ltb (2 + fault_at h) 4 (omega arith))
