-- What was sent, as a sequence of the theory: the symbols that stand beside the received ones are those of an allowed sequence, and what
-- holds of each pair holds along that sequence.
--   along-length       as many on both sides
--   AlongPath R ys p   R holds of each received symbol and the symbol of p in its place; here ys stands newest first
--   along-valid        one relation along the lists from another; path-map, along a sequence
--   SentPath, sent-path   the sequence of what was sent
use mathlib.Core.Path.{◌≡◌, refl, sym, ap, ◌∙◌}
use mathlib.Core.List.{List, [], ◌∷◌, ◌++◌, reverse, reverse-cons, reverse-reverse}
use Prim.Native.Nat.{ℕ, suc, ◌<◌}
use native.Mathlib.Omega.{arith}
use lib.Dec.{T}
use lib.ListN.{length, length-reverse}
use Rattle.wei.specs.Symbol.{Symbol, AllowedFrom}
use Rattle.trellis.specs.Lists.{Every}
use Rattle.trellis.specs.Code.{Path, begin, step, symbols, Allowed}
use Rattle.trellis.specs.Measure.{Start, may_start, Measure, wei_code}
use Rattle.trellis.proofs.Common.{path-length}
use Rattle.trellis.proofs.Paths.{from-drawn}
use Rattle.trellis.specs.Along.{Along}

module _ {A B : Type 0} (R : A → B → Type 0) where
  pub along-length : (xs : List A) (cs : List B) → Along R xs cs → length xs ≡ length cs
  along-length [] [] h = refl
  along-length [] (c ∷ cs) h = absurd h
  along-length (x ∷ xs) [] h = absurd h
  along-length (x ∷ xs) (c ∷ cs) h = ap suc (along-length xs cs h.1)

  -- the last of each
  along-last : (xs : List A) (cs : List B) (x : A) (c : B) → length xs ≡ length cs → Along R (xs ++ (x ∷ [])) (cs ++ (c ∷ [])) → Along R xs cs × R x c
  along-last [] [] x c l h = (tt, h.0)
  along-last [] (d ∷ cs) x c l h = absurd (omega arith)
  along-last (z ∷ xs) [] x c l h = absurd (omega arith)
  along-last (z ∷ xs) (d ∷ cs) x c l h = let (a, b) = along-last xs cs x c (omega arith) h.1 in ((h.0, a), b)

  abbrev pub AlongPath : List A → Path B → Type 0
  AlongPath [] p = Unit {0}
  AlongPath (y ∷ ys) (begin s) = ⊥
  AlongPath (y ∷ ys) (step p c s) = R y c × AlongPath ys p

pub path-map : {A B : Type 0} (R S : A → B → Type 0) → ((x : A) (c : B) → R x c → S x c) → (ys : List A) (p : Path B) → AlongPath R ys p → AlongPath S ys p
path-map R S f [] p h = tt
path-map R S f (y ∷ ys) (begin s) h = absurd h
path-map R S f (y ∷ ys) (step p c s) h = (f y c h.0, path-map R S f ys p h.1)

-- where the one relation brings the other for all that was sent
pub along-valid : {A B : Type 0} (Q : B → Type 0) (R S : A → B → Type 0) → ((x : A) (c : B) → Q c → R x c → S x c) → (xs : List A) (cs : List B) → Every Q cs → Along R xs cs → Along S xs cs
along-valid Q R S f [] [] v h = tt
along-valid Q R S f [] (c ∷ cs) v h = absurd h
along-valid Q R S f (x ∷ xs) [] v h = absurd h
along-valid Q R S f (x ∷ xs) (c ∷ cs) v h = (f x c v.0 h.0, along-valid Q R S f xs cs v.1 h.1)

module _ (u : ℕ) (M : Measure) (b : Start) (R : M.Heard → Symbol → Type 0) where
  open M use {Heard}

  along-path : (ys : List Heard) (p : Path Symbol) → Allowed (wei_code u M b) ys p → Along R (reverse ys) (symbols p) → AlongPath R ys p
  along-path [] p a h = tt
  along-path (y ∷ ys) (begin s) a h = absurd a
  along-path (y ∷ ys) (step p c s) a h =
      let l : length (reverse ys) ≡ length (symbols p) = length-reverse ys ∙ sym (path-length (wei_code u M b) ys p a.2) in
      let (r, z) = along-last R (reverse ys) (symbols p) y c l (rw (reverse-cons y ys) at h) in
      (z, along-path ys p a.2 r)

  pub record SentPath (xs : List Heard) (cs : List Symbol) : Type 0 where
    pub path : Path Symbol
    pub allowed : Allowed (wei_code u M b) (reverse xs) path
    pub along : AlongPath R (reverse xs) path
    pub symbols-are : symbols path ≡ cs

  pub sent-path : (s : ℕ) → s < 16 → T (may_start b s) → (xs : List Heard) (cs : List Symbol) → Along R xs cs → AllowedFrom u s cs → SentPath xs cs
  sent-path s h t xs cs k a =
      let d = from-drawn u M b s cs h t a (reverse xs) (length-reverse xs ∙ along-length R xs cs k) in
      record {
        path = d.path;
        allowed = d.allowed;
        along = along-path (reverse xs) d.path d.allowed (rw (reverse-reverse, d.symbols-are) k);
        symbols-are = d.symbols-are;
      }
