-- What `from_fn` of arrays makes of a closure that each call leaves as it was.
--   made     the table of what each call gives
--   serves   that it may be called at each place
use Rattle.std.proofs.Common.{◌≡◌, refl, ℕ, zero, suc, ◌+◌, ◌≤◌, ◌<◌, List, get_or, sym, subst, ◌∙◌, arith}
use native.Mathlib.Decide.{ℕ_discrete}
use denote.Param.Members.{Mut, Called}
use Rattle.std.specs.Array.{IsFromFnResult, IsFromFnResultFrom, index_steps}
use Rattle.std.specs.Iterator.{CallableAtEachTurn}
use Rattle.std.proofs.lemmas.Fn.{serves_by}
use Rattle.lists.specs.Tabled.{tabled}
use Rattle.lists.proofs.Filled.{all_listed, tabled-same}

module _ {F : Type 0} (g : Mut F (ℕ × Unit {0}) ℕ) (f : F) (h : ℕ → ℕ) (n : ℕ) (one : (i y : ℕ) (q : F) → i < n → Called g f (i, tt) y q → (y ≡ h i) × (q ≡ f)) where
  from : (p : F) (ys : List ℕ) (i k : ℕ) → p ≡ f → i + k ≡ n → IsFromFnResultFrom g p ys i k → (j : ℕ) → i ≤ j → j < n → get_or ys j 0 ≡ h j
  from p ys i zero e l m j a b = absurd (omega arith)
  from p ys i (suc k) e l m j a b =
      let here = one i m.1 m.0 (omega arith) (subst (λ (x : F). Called g x (i, tt) m.1 m.0) e m.3) in
      go here.0 (ℕ_discrete i j) (λ c. from m.0 ys (i + 1) k here.1 (omega arith) m.4 j c b)
    where
      go : m.1 ≡ h i → Dec (i ≡ j) → (i + 1 ≤ j → get_or ys j 0 ≡ h j) → get_or ys j 0 ≡ h j
      go y (yes z) rest = subst (λ (x : ℕ). get_or ys x 0 ≡ h x) z (m.2.1 0 ∙ y)
      go y (no z) rest = rest (omega arith)

  pub made : (ys : List ℕ) → IsFromFnResult g f ys n → ys ≡ tabled h n
  made ys m = sym (all_listed ys n m.long) ∙ tabled-same (λ i. get_or ys i 0) h n (λ i k. from f ys 0 n refl (omega arith) m.each i (omega arith) k)

pub serves : {F : Type 0} {R : F → ℕ → F → Type 0} {Q : F → ℕ → Type 0} {f : F} {n : ℕ} → ((i : ℕ) (q : F) → R f i q → q ≡ f) → ((i : ℕ) → i < n → Q f i) → CallableAtEachTurn (index_steps n) R Q 0 f
serves {F} {R} {Q} {f} {n} same can =
    serves_by R (λ xs q. q ≡ f) (λ xs q i v e k. same i v (subst (λ (x : F). R x i v) e k)) (index_steps n) Q 0 f refl
    (λ xs t q i u y e s. subst (λ (x : F). Q x i) (sym s) (can i (omega (arith, e.0, e.1))))
