-- Lists: beginnings of one list, one more at the end, the order at the first difference, and the numbers of a range. Leans on
-- the library of lists.
use mathlib.Core.Path.{◌≡◌, refl, sym, ap, subst, ◌∙◌}
use mathlib.Core.List.{List, [], ◌∷◌, ◌++◌, append-nil, append_assoc, append_cancel_left, reverse, reverse-cons, IsPrefix}
use mathlib.Core.Logic.{◌⊎◌, inl, inr, ⊎_elim}
use Prim.Native.Nat.{ℕ, zero, suc, ◌+◌, ◌≤◌, ◌<◌}
use native.Mathlib.Omega.{arith}
use native.Mathlib.Decide.{ℕ_discrete}
use lib.ListN.{length, take, drop, length-append, take-append-drop}
use lib.Seq.{take_at, drop_at, take-take, take_all}
use Rattle.trellis.specs.Lists.{In, Every, LexLe}
use Rattle.trellis.specs.Search.{Sorted, range}

-- ── beginnings ──
module _ {A : Type 0} where
  pub prefix-self : (l : List A) → IsPrefix l l
  prefix-self l = ([], append-nil l)

  pub prefix-cons : (a b : A) (l m : List A) → a ≡ b → IsPrefix l m → IsPrefix (a ∷ l) (b ∷ m)
  prefix-cons a b l m e (k, z) = (k, cc)

  pub prefix-more : (l m r : List A) → IsPrefix l m → IsPrefix l (m ++ r)
  prefix-more l m r (k, e) = (k ++ r, sym (append_assoc l k r) ∙ ap (λ (x : List A). x ++ r) e)

  pub prefix_trans : (l m r : List A) → IsPrefix l m → IsPrefix m r → IsPrefix l r
  prefix_trans l m r h (k, e) = subst (IsPrefix l) e (prefix-more l m k h)

  pub prefix-onto : (k l m : List A) → IsPrefix l m → IsPrefix (k ++ l) (k ++ m)
  prefix-onto k l m (r, e) = (r, append_assoc k l r ∙ ap (λ (x : List A). k ++ x) e)

  pub prefix-off : (k l m : List A) → IsPrefix (k ++ l) (k ++ m) → IsPrefix l m
  prefix-off k l m (r, e) = (r, append_cancel_left k (l ++ r) m (sym (append_assoc k l r) ∙ e))

  pub prefix-length : (l m : List A) → IsPrefix l m → length l ≤ length m
  prefix-length l m (k, e) = omega (arith, length-append l k, ap length e)

  pub prefix-take : (l m : List A) → IsPrefix l m → take (length l) m ≡ l
  prefix-take l m (k, e) = ap (take (length l)) (sym e) ∙ take_at l k (length l) refl

  pub take-prefix : (n : ℕ) (l : List A) → IsPrefix (take n l) l
  take-prefix n l = (drop n l, take-append-drop n l)

  -- of two beginnings of one list the shorter begins the longer
  pub prefix-shorter : (l m r : List A) → IsPrefix l r → IsPrefix m r → length l ≤ length m → IsPrefix l m
  prefix-shorter l m r h k n =
      let e : take (length l) m ≡ l = ap (take (length l)) (sym (prefix-take m r k)) ∙ take-take (length l) (length m) r n ∙ prefix-take l r h in
      subst (λ (x : List A). IsPrefix x m) e (take-prefix (length l) m)

  pub prefix-equal : (l m r : List A) → IsPrefix l r → IsPrefix m r → length l ≡ length m → l ≡ m
  prefix-equal l m r h k e = sym (prefix-take l r h) ∙ ap (λ (n : ℕ). take n r) e ∙ prefix-take m r k

-- ── one more at the end of each of two equally long lists ──
module _ {A : Type 0} (x y : List A) (a b : A) (e : length x ≡ length y) (n : ℕ) where
  pub beyond-snoc : length x < n → take n (x ++ (a ∷ [])) ≡ take n (y ++ (b ∷ [])) → (x ≡ y) × (a ≡ b)
  beyond-snoc h k =
      let z : x ++ (a ∷ []) ≡ y ++ (b ∷ []) =
      sym (take_all n (x ++ (a ∷ [])) (omega (arith, length-append x (a ∷ [])))) ∙ k ∙ take_all n (y ++ (b ∷ [])) (omega (arith, length-append y (b ∷ []))) in
      let z₁ : x ≡ y = sym (take_at x (a ∷ []) (length y) e) ∙ ap (take (length y)) z ∙ take_at y (b ∷ []) (length y) refl in
      let z₂ : a ∷ [] ≡ b ∷ [] = sym (drop_at x (a ∷ []) (length y) e) ∙ ap (drop (length y)) z ∙ drop_at y (b ∷ []) (length y) refl in
      (z₁, cc)

-- ── the order at the first difference ──
pub lex-antisym : (ss ts : List ℕ) → LexLe ss ts → LexLe ts ss → ss ≡ ts
lex-antisym [] [] h k = refl
lex-antisym [] (t ∷ ts) h k = absurd k
lex-antisym (s ∷ ss) [] h k = absurd h
lex-antisym (s ∷ ss) (t ∷ ts) h k =
    let e : s ≡ t = omega arith in
    let r : ss ≡ ts = lex-antisym ss ts (h.1 e) (k.1 (sym e)) in
    cc

-- ── the range ──
pub range-low : (a n t : ℕ) → In t (range a n) → a ≤ t
unfolding range
range-low a zero t m = absurd m
range-low a (suc n) t m = ⊎_elim (λ (e : t ≡ a). omega arith) (λ k. omega (arith, range-low (suc a) n t k)) m

range-high : (a n t : ℕ) → In t (range a n) → t < a + n
unfolding range
range-high a zero t m = absurd m
range-high a (suc n) t m = ⊎_elim (λ (e : t ≡ a). omega arith) (λ k. omega (arith, range-high (suc a) n t k)) m

pub range-sorted : (a n : ℕ) → Sorted (range a n)
unfolding range
range-sorted a zero = tt
range-sorted a (suc n) = (λ t m. range-low (suc a) n t m, range-sorted (suc a) n)

range-in : (a n t : ℕ) → a ≤ t → t < a + n → In t (range a n)
unfolding range
range-in a zero t h k = omega arith
range-in a (suc n) t h k = go (λ h k. range-in (suc a) n t h k) (ℕ_discrete t a)
  where
    go : (suc a ≤ t → t < suc a + n → In t (range (suc a) n)) → Dec (t ≡ a) → (t ≡ a) ⊎ In t (range (suc a) n)
    go r (yes e) = inl e
    go r (no e) = inr (r (omega arith) (omega arith))

-- the states are the numbers below N
pub state-in : (N s : ℕ) → s < N → In s (range zero N)
state-in N s h = range-in zero N s (omega arith) (omega arith)

pub state-below : (N s : ℕ) → In s (range zero N) → s < N
state-below N s m = omega (arith, range-high zero N s m)

-- what holds of all holds of all but the first
pub every-reverse : {A : Type 0} (P : A → Type 0) (l : List A) → Every P l → Every P (reverse l)
every-reverse P [] h = tt
every-reverse P (a ∷ l) h = rw (reverse-cons a l) (last (reverse l) (every-reverse P l h.1))
  where
    last : (m : List _) → Every P m → Every P (m ++ (a ∷ []))
    last [] k = (h.0, tt)
    last (x ∷ m) k = (k.0, last m k.1)

pub every_drop : {A : Type 0} (P : A → Type 0) (n : ℕ) (l : List A) → Every P l → Every P (drop n l)
every_drop P zero l h = h
every_drop P (suc n) [] h = tt
every_drop P (suc n) (a ∷ l) h = every_drop P n l h.1
