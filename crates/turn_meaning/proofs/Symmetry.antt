-- A symmetry of a code: what is received, the candidates and the states are turned, and first states, branches and distances stay. Four
-- turns are none. So a turn takes the allowed sequences for a list to those for the turned list, each with its sum, and what is
-- nearest alone stays so.
--   Symmetry K        such a turn
--   turned_path S p    the sequence p turned
--   answer-nearest    the answer is nearest
--   turned-nearest    a nearest sequence, turned, is nearest for what was turned
--   turned-alone      and if no second symbol sequence is as near, none is after the turn
use mathlib.Core.Path.{◌≡◌, refl, sym, ap, ap₂, subst, ◌∙◌}
use mathlib.Core.List.{List, [], ◌∷◌, ◌++◌, map, map-append}
use Prim.Native.Nat.{ℕ, zero, suc, ◌<◌}
use native.Mathlib.Omega.{arith}
use lib.Dec.{T}
use Rattle.trellis.specs.Code.{Code, Path, begin, step, last, symbols, Allowed, cost}
use Rattle.trellis.specs.Best.{Answer}
use Rattle.trellis.proofs.Optimal.{allowed-below}
use Rattle.turn_meaning.specs.Alone.{IsNearest, Alone}
use Rattle.turn_meaning.specs.Turned.{times}

map-four : {A : Type 0} (f : A → A) → ((x : A) → times f 4 x ≡ x) → (xs : List A) → times (map f) 4 xs ≡ xs
map-four f h [] = refl
map-four {A} f h (x ∷ xs) = ap₂ (λ (y : A) (ys : List A). y ∷ ys) (h x) (map-four f h xs)

module _ (K : Code) where
  open K use {Y, C, N, start, Branch, dist}

  pub record Symmetry : Type 0 where
    pub heard : Y → Y
    pub candidate : C → C
    pub state : ℕ → ℕ
    pub below : (s : ℕ) → s < N → state s < N
    pub starts : (s : ℕ) → T (start s) → T (start (state s))
    pub carries : (s t : ℕ) (c : C) → s < N → t < N → Branch s t c → Branch (state s) (state t) (candidate c)
    pub as-far : (y : Y) (s t : ℕ) (c : C) → s < N → t < N → Branch s t c → dist (heard y) (candidate c) ≡ dist y c
    pub heard-four : (y : Y) → times heard 4 y ≡ y
    pub candidate-four : (s t : ℕ) (c : C) → s < N → t < N → Branch s t c → times candidate 4 c ≡ c

pub answer-nearest : (K : Code) (ys : List K.Y) (p : Path K.C) → Answer K ys p → IsNearest K ys p
answer-nearest K ys p a = record { allowed = a.allowed; least = λ q b. (a.least q b).by-sum }

module _ {K : Code} (S : Symmetry K) where
  open K use {Y, C, N, Branch}
  open S use {heard, candidate, state}

  unfoldable pub turned_path : Path C → Path C
  turned_path (begin s) = begin (state s)
  turned_path (step p c s) = step (turned_path p) (candidate c) (state s)

  -- ---- one sequence

  last-turned : (p : Path C) → last (turned_path p) ≡ state (last p)
  unfolding turned_path
  last-turned (begin s) = refl
  last-turned (step p c s) = refl

  pub symbols-turned : (p : Path C) → symbols (turned_path p) ≡ map candidate (symbols p)
  unfolding turned_path
  symbols-turned (begin s) = refl
  symbols-turned (step p c s) =
      ap (λ (l : List C). l ++ (candidate c ∷ [])) (symbols-turned p) ∙ sym (map-append candidate (symbols p) (c ∷ []))

  allowed-turned : (ys : List Y) (p : Path C) → Allowed K ys p → Allowed K (map heard ys) (turned_path p)
  unfolding turned_path
  allowed-turned [] (begin s) a = (S.below s a.0, S.starts s a.1)
  allowed-turned [] (step p c s) a = absurd a
  allowed-turned (y ∷ ys) (begin s) a = absurd a
  allowed-turned (y ∷ ys) (step p c s) a = (
    S.below s a.0,
    rw (last-turned p) (S.carries (last p) s c (allowed-below K ys p a.2) a.0 a.1),
    allowed-turned ys p a.2,
  )

  sum-turned : (ys : List Y) (p : Path C) → Allowed K ys p → cost K (map heard ys) (turned_path p) ≡ cost K ys p
  unfolding turned_path
  sum-turned [] p a = refl
  sum-turned (y ∷ ys) (begin s) a = absurd a
  sum-turned (y ∷ ys) (step p c s) a =
      omega (arith, sum-turned ys p a.2, S.as-far y (last p) s c (allowed-below K ys p a.2) a.0 a.1)

  -- ---- three more turns lead back

  abbrev back : Path C → Path C
  back = times turned_path 3

  symbols-back : (ys : List Y) (p : Path C) → Allowed K ys p → symbols (turned_path (back p)) ≡ symbols p
  unfolding turned_path
  symbols-back [] (begin s) a = refl
  symbols-back [] (step p c s) a = absurd a
  symbols-back (y ∷ ys) (begin s) a = absurd a
  symbols-back (y ∷ ys) (step p c s) a =
      ap₂ (λ (l : List C) (x : C). l ++ (x ∷ [])) (symbols-back ys p a.2)
      (S.candidate-four (last p) s c (allowed-below K ys p a.2) a.0 a.1)

  -- allowed and summed as before, after any number of turns
  allowed-times : (k : ℕ) (ys : List Y) (p : Path C) → Allowed K ys p → Allowed K (times (map heard) k ys) (times turned_path k p)
  allowed-times zero ys p a = a
  allowed-times (suc k) ys p a = allowed-turned (times (map heard) k ys) (times turned_path k p) (allowed-times k ys p a)

  sum-times : (k : ℕ) (ys : List Y) (p : Path C) → Allowed K ys p → cost K (times (map heard) k ys) (times turned_path k p) ≡ cost K ys p
  sum-times zero ys p a = refl
  sum-times (suc k) ys p a = sum-turned (times (map heard) k ys) (times turned_path k p) (allowed-times k ys p a) ∙ sum-times k ys p a

  module _ (ys : List Y) where
    abbrev zs : List Y
    zs = map heard ys

    round : times (map heard) 3 zs ≡ ys
    round = map-four heard S.heard-four ys

    allowed-back : (p : Path C) → Allowed K zs p → Allowed K ys (back p)
    allowed-back p a = subst (λ (l : List Y). Allowed K l (back p)) round (allowed-times 3 zs p a)

    sum_back : (p : Path C) → Allowed K zs p → cost K ys (back p) ≡ cost K zs p
    sum_back p a = subst (λ (l : List Y). cost K l (back p) ≡ cost K zs p) round (sum-times 3 zs p a)

    -- ---- what is nearest

    pub turned-nearest : (p : Path C) → IsNearest K ys p → IsNearest K zs (turned_path p)
    turned-nearest p n =
        record {
          allowed = allowed-turned ys p n.allowed;
          least = λ q a. omega (arith, sum-turned ys p n.allowed, n.least (back q) (allowed-back q a), sum_back q a);
        }

    back-nearest : (p : Path C) → IsNearest K zs p → IsNearest K ys (back p)
    back-nearest p n =
        record {
          allowed = allowed-back p n.allowed;
          least = λ q a. omega (arith, sum_back p n.allowed, n.least (turned_path q) (allowed-turned ys q a), sum-turned ys q a);
        }

    -- the symbols of a sequence there are those of one here, turned
    from_back : (p : Path C) → Allowed K zs p → symbols p ≡ map candidate (symbols (back p))
    from_back p a = sym (symbols-back zs p a) ∙ symbols-turned (back p)

    pub turned-alone : Alone K ys → Alone K zs
    turned-alone A p q m n =
        let e = A (back p) (back q) (back-nearest p m) (back-nearest q n) in
        from_back p m.allowed ∙ ap (map candidate) e ∙ sym (from_back q n.allowed)
