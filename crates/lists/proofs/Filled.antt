-- Lists that a loop fills from the front, and their places.
--   set_next                    a store in the place after those filled
--   tabled-length, tabled-at    how long a table is, and what stands in it
--   tabled-more                 one store more
--   listed, all_listed          a list is the table of its places
--   tabled-same, tabled-set     two tables that are equal place by place; one place changed
--   fill-length, fill-at, fill-past, fill-next   partly filled: the length, a place that is filled, one that is not yet, the next
use mathlib.Core.Path.{◌≡◌, refl, sym, ap, ◌∙◌}
use mathlib.Core.List.{List, [], ◌∷◌, ◌++◌}
use Prim.Native.Nat.{ℕ, zero, suc, ◌+◌, ◌≤◌, ◌<◌}
use native.Mathlib.Decide.{dec_lt, ℕ_discrete}
use native.Mathlib.Omega.{arith}
use lib.ListN.{get_or-append, length, get_or, take, drop, set, length-append, length-drop, length-set}
use lib.Seq.{take-suc, drop-cons, append_snoc, set_at, get_or_at, get_or-append-add, get_or-drop, get_or-set_same, get_or-set_other, ext_get_or, take-length}
use Rattle.lists.specs.Tabled.{tabled}

module _ {A : Type 0} where
  pub set_next : (p l : List A) (n : ℕ) (d a : A) → length p ≡ n → n < length l → set (p ++ drop n l) n a ≡ (p ++ (a ∷ [])) ++ drop (suc n) l
  set_next p l n d a e h =
      ap (λ (r : List A). set (p ++ r) n a) (drop-cons l n d h) ∙ set_at p (get_or l n d) (drop (suc n) l) a n e ∙ sym (append_snoc p a (drop (suc n) l))

pub tabled-length : (f : ℕ → ℕ) (n : ℕ) → length (tabled f n) ≡ n
unfolding tabled
tabled-length f zero = refl
tabled-length f (suc n) = omega (arith, length-append (tabled f n) (f n ∷ []), tabled-length f n)

pub tabled-at : (f : ℕ → ℕ) (n i : ℕ) → i < n → get_or (tabled f n) i 0 ≡ f i
unfolding tabled
tabled-at f zero i h = absurd (omega arith)
tabled-at f (suc n) i h = go (dec_lt i n) (tabled-at f n i)
  where
    go : Dec (i < n) → (i < n → get_or (tabled f n) i 0 ≡ f i) → get_or (tabled f n ++ (f n ∷ [])) i 0 ≡ f i
    go (yes k) r = get_or-append (tabled f n) (f n ∷ []) 0 i (omega (arith, tabled-length f n)) ∙ r k
    go (no k) r =
        let e : n ≡ i = omega arith in
        get_or_at (tabled f n) (f n) [] 0 i (tabled-length f n ∙ e) ∙ ap f e

pub tabled-more : (f : ℕ → ℕ) (n : ℕ) (l : List ℕ) → n < length l → set (tabled f n ++ drop n l) n (f n) ≡ tabled f (suc n) ++ drop (suc n) l
unfolding tabled
tabled-more f n l h = set_next (tabled f n) l n 0 (f n) (tabled-length f n) h

-- ── a list by its places ──
pub listed : (l : List ℕ) (n : ℕ) → n ≤ length l → tabled (λ i. get_or l i 0) n ≡ take n l
unfolding tabled
listed l zero h = refl
listed l (suc n) h = ap (λ (m : List ℕ). m ++ (get_or l n 0 ∷ [])) (listed l n (omega arith)) ∙ sym (take-suc l n 0 h)

pub all_listed : (l : List ℕ) (n : ℕ) → length l ≡ n → tabled (λ i. get_or l i 0) n ≡ l
all_listed l n e = listed l n (omega arith) ∙ ap (λ (k : ℕ). take k l) (sym e) ∙ take-length l

-- ── partly filled ──
pub fill-length : (f : ℕ → ℕ) (n : ℕ) (l : List ℕ) → n ≤ length l → length (tabled f n ++ drop n l) ≡ length l
fill-length f n l h = omega (arith, length-append (tabled f n) (drop n l), length-drop n l, tabled-length f n)

pub fill-at : (f : ℕ → ℕ) (n : ℕ) (l : List ℕ) (i : ℕ) → i < n → get_or (tabled f n ++ drop n l) i 0 ≡ f i
fill-at f n l i h = get_or-append (tabled f n) (drop n l) 0 i (omega (arith, tabled-length f n)) ∙ tabled-at f n i h

pub fill-past : (f : ℕ → ℕ) (n : ℕ) (l : List ℕ) (i : ℕ) → get_or (tabled f n ++ drop n l) (n + i) 0 ≡ get_or l (n + i) 0
fill-past f n l i =
    ap (λ (m : ℕ). get_or (tabled f n ++ drop n l) (m + i) 0) (sym (tabled-length f n)) ∙ get_or-append-add (tabled f n) (drop n l) i 0 ∙ get_or-drop n l i 0

pub fill-next : (f : ℕ → ℕ) (n : ℕ) (l : List ℕ) → get_or (tabled f n ++ drop n l) n 0 ≡ get_or l n 0
fill-next f n l = ap (λ (m : ℕ). get_or (tabled f n ++ drop n l) m 0) (add_none n) ∙ fill-past f n l 0 ∙ ap (λ (m : ℕ). get_or l m 0) (sym (add_none n))
  where
    add_none : (m : ℕ) → m ≡ m + 0
    add_none m = omega arith

-- ── tables by place ──
pub tabled-same : (f g : ℕ → ℕ) (n : ℕ) → ((i : ℕ) → i < n → f i ≡ g i) → tabled f n ≡ tabled g n
tabled-same f g n h =
    ext_get_or 0 (tabled f n) (tabled g n) (tabled-length f n ∙ sym (tabled-length g n))
    (λ i k. let l : i < n = omega (arith, tabled-length f n) in tabled-at f n i l ∙ h i l ∙ sym (tabled-at g n i l))

pub tabled-set : (f g : ℕ → ℕ) (n j v : ℕ) → j < n → g j ≡ v → ((i : ℕ) → i < n → (i ≡ j → ⊥) → g i ≡ f i) → set (tabled f n) j v ≡ tabled g n
tabled-set f g n j v h e o =
    ext_get_or 0 (set (tabled f n) j v) (tabled g n) (length-set (tabled f n) j v ∙ tabled-length f n ∙ sym (tabled-length g n))
    (λ i k. let l : i < n = omega (arith, length-set (tabled f n) j v, tabled-length f n) in go i l (ℕ_discrete i j))
  where
    go : (i : ℕ) → i < n → Dec (i ≡ j) → get_or (set (tabled f n) j v) i 0 ≡ get_or (tabled g n) i 0
    go i l (yes z) =
        ap (λ (m : ℕ). get_or (set (tabled f n) j v) m 0) z
        ∙ get_or-set_same (tabled f n) j v 0 (omega (arith, tabled-length f n))
        ∙ sym (tabled-at g n i l ∙ ap g z ∙ e)
    go i l (no z) = get_or-set_other (tabled f n) j i v 0 z ∙ tabled-at f n i l ∙ sym (tabled-at g n i l ∙ o i l z)
