-- Add, compare and select on numbers is the theory's. A number stands for a sum where it is below `limit`, and for nothing where it
-- is not; then the first of the least numbers is what the theory chooses. So the new sums are the theory's, the state before is
-- its state, and the state of the least sum is its end.
--   sealed v p      the sum v with p beside it; nothing where v is no sum
--   ups g n         g at 0 to n
--   choose-least    what is chosen of numbers
--   Room            a sum and the cost of any step are a sum
--   acs-is          add, compare and select from the sums
--   row_next        the new sums; off-new, they are off by as much as the old ones were
--   off-lowered     less the least they are off by so much more
--   from_is         the states before
--   end_is          the end
use mathlib.Core.Path.{◌≡◌, refl, sym, ap, ◌∙◌}
use mathlib.Core.Bool.{Bool, true, false, cond}
use mathlib.Core.List.{List, [], ◌∷◌, ◌++◌}
use Prim.Native.Nat.{ℕ, zero, suc, ◌+◌, ◌-◌, ◌<◌}
use native.Mathlib.Omega.{arith}
use lib.Dec.{ltb}
use lib.ListN.{get_or}
use borrow.Author.Tests.{ltb-true, ltb-false, lt-ltb, le-ltb}
use Rattle.trellis.specs.Best.{Surv, absent, alive}
use Rattle.trellis.specs.Choose.{keep, better, choose, raise, tag, bare, up, state_of}
use Rattle.trellis.specs.Search.{range}
use Rattle.trellis.specs.Cells.{acs, end-state, Off}
use Rattle.trellis.specs.Measure.{Start, Two}
use Rattle.trellis.specs.Pick.{keep_n, least, befores}
use Rattle.trellis.proofs.Select.{choose-ext}
use Rattle.trellis.proofs.Off.{off_next, off_less}
use Rattle.trellis.proofs.Least.{least-is}
use Rattle.trellis.proofs.Branches.{befores-below}
use Rattle.wei.specs.State.{before, between}
use Rattle.nearest.specs.declared.Received.{Received}
use Rattle.nearest.specs.Line.{line_measure}
use Rattle.nearest.specs.Found.{weighed_of}
use Rattle.select.specs.Select.{limit, sixteen, arrive, winner, sum_at, from_at, lowered, row_of}
use Rattle.sums.specs.Sums.{end_of, lowest}
use Rattle.sums.proofs.Least.{lowest-le}
use Rattle.select.proofs.Lists.{sixteen-at}
use Rattle.receiver_meaning.proofs.Search.{search_of, pick_of, laws, cost-at}
use Rattle.points.specs.declared.Accord.{Accord}

abbrev pub sealed : {P : Type 0} → ℕ → P → Surv P
sealed v p = cond (ltb v limit) (alive v p) absent

abbrev ups : (ℕ → ℕ) → ℕ → List ℕ
ups g zero = g zero ∷ []
ups g (suc n) = ups g n ++ (g (suc n) ∷ [])

-- ── choosing from the other end ──
module _ {P : Type 0} where
  better-none : (o : Surv P) → better o absent ≡ o
  unfolding better
  better-none absent = refl
  better-none (alive w p) = refl

  better-assoc : (a b c : Surv P) → better a (better b c) ≡ better (better a b) c
  unfolding better
  better-assoc absent b c = refl
  better-assoc (alive w p) absent c = refl
  better-assoc (alive w p) (alive v q) absent = sym (better-none (keep (ltb v w) (alive w p) (alive v q)))
  better-assoc (alive w p) (alive v q) (alive u r) = go (ltb u v) (ltb v w) refl refl
    where
      go : (i j : Bool) → ltb u v ≡ i → ltb v w ≡ j → better (alive w p) (keep i (alive v q) (alive u r)) ≡ better (keep j (alive w p) (alive v q)) (alive u r)
      go true true e f = rw (e, lt-ltb u w (omega (arith, ltb-true u v e, ltb-true v w f)))
      go true false e f = refl
      go false true e f = rw (e, f)
      go false false e f = rw (f, le-ltb u w (omega (arith, ltb-false u v e, ltb-false v w f)))

  choose-snoc : (f : ℕ → Surv P) (xs : List ℕ) (x : ℕ) → choose f (xs ++ (x ∷ [])) ≡ better (choose f xs) (f x)
  unfolding choose better
  choose-snoc f [] x = better-none (f x)
  choose-snoc f (t ∷ ts) x = ap (better (f t)) (choose-snoc f ts x) ∙ better-assoc (f t) (choose f ts) (f x)

  -- ── numbers ──
  better-sealed : (v w : ℕ) (p q : P) → better (sealed v p) (sealed w q) ≡ cond (ltb w v) (sealed w q) (sealed v p)
  unfolding better
  better-sealed v w p q = go (ltb v limit) (ltb w limit) (ltb w v) refl refl refl
    where
      go : (i j k : Bool) → ltb v limit ≡ i → ltb w limit ≡ j → ltb w v ≡ k →
          better (cond i (alive v p) absent) (cond j (alive w q) absent) ≡ cond k (cond j (alive w q) absent) (cond i (alive v p) absent)
      go true true true e f g = rw g
      go true true false e f g = rw g
      go true false true e f g = absurd (omega (arith, ltb-true v limit e, ltb-false w limit f, ltb-true w v g))
      go true false false e f g = refl
      go false true true e f g = refl
      go false true false e f g = absurd (omega (arith, ltb-false v limit e, ltb-true w limit f, ltb-false w v g))
      go false false true e f g = refl
      go false false false e f g = refl

choose-least : (h g : ℕ → ℕ) (n : ℕ) → let m : ℕ = least (λ k. h (g k)) n in choose (λ t. sealed (h t) t) (ups g n) ≡ sealed (h (g m)) (g m)
unfolding least choose
choose-least h g zero = better-none (sealed (h (g zero)) (g zero))
choose-least h g (suc n) =
    let m : ℕ = least (λ k. h (g k)) n in
    choose-snoc (λ t. sealed (h t) t) (ups g n) (g (suc n))
    ∙ ap (λ (o : Surv ℕ). better o (sealed (h (g (suc n))) (g (suc n)))) (choose-least h g n)
    ∙ better-sealed (h (g m)) (h (g (suc n))) (g m) (g (suc n))
    ∙ kept m (suc n) (ltb (h (g (suc n))) (h (g m)))
  where
    kept : (m k : ℕ) (b : Bool) → cond b (sealed (h (g k)) (g k)) (sealed (h (g m)) (g m)) ≡ sealed (h (g (keep_n b m k))) (g (keep_n b m k))
    kept m k true = refl
    kept m k false = refl

-- ── the sums ──
abbrev pub Room : List ℕ → List ℕ → Type 0
Room sums costs = (s t : ℕ) → s < 16 → get_or sums s 0 < limit → get_or sums s 0 + get_or costs (between s t) 0 < limit

-- a function goes through the two cases
through : {A B : Type 0} (f : A → B) (b : Bool) (x y : A) → f (cond b x y) ≡ cond b (f x) (f y)
through f true x y = refl
through f false x y = refl

pub up-sealed : {P : Type 0} (v : ℕ) (p : P) → up (sealed v p) ≡ ltb v limit
up-sealed v p = go (ltb v limit)
  where
    go : (b : Bool) → up (cond b (alive v p) absent) ≡ b
    go true = refl
    go false = refl

-- one more step
raise-sealed : (v d t : ℕ) → (v < limit → v + d < limit) → tag t (raise d (sealed {P = Unit {0}} v tt)) ≡ sealed (v + d) t
raise-sealed v d t h = go (ltb v limit) refl
  where
    go : (b : Bool) → ltb v limit ≡ b → tag t (raise {P = Unit {0}} d (cond b (alive v tt) absent)) ≡ sealed (v + d) t
    go true e = rw (lt-ltb (v + d) limit (h (ltb-true v limit e)))
    go false e = rw (le-ltb (v + d) limit (omega (arith, ltb-false v limit e)))

module _ (ac : Accord) (b : Start) (y : Two Received) (sums : List ℕ) (room : Room sums (weighed_of ac y).costs) where
  abbrev costs : List ℕ
  costs = (weighed_of ac y).costs

  abbrev sum_via : ℕ → ℕ → ℕ
  sum_via t s = get_or sums s 0 + get_or costs (between s t) 0

  via : (t s : ℕ) → s < 16 → tag s (raise ((line_measure ac).far y (pick_of ac y s t)) (row_of sums s)) ≡ sealed (sum_via t s) s
  via t s h =
      ap (λ (d : ℕ). tag s (raise d (row_of sums s))) (cost-at ac y s t)
      ∙ raise-sealed (get_or sums s 0) (get_or costs (between s t) 0) s (room s t h)

  acs-is : (t : ℕ) → t < 16 → acs (search_of ac b) y (row_of sums) t ≡ sealed (sum_at sums costs t) (before t (winner sums costs t))
  unfolding acs arrive winner sum_at
  acs-is t h =
      choose-ext (λ s. tag s (raise ((line_measure ac).far y (pick_of ac y s t)) (row_of sums s))) (λ s. sealed (sum_via t s) s) (befores t)
      (λ s i. via t s (befores-below s t h i))
      ∙ choose-least (sum_via t) (before t) 3

  -- the new sums, and the states before
  pub row_next : (t : ℕ) → t < 16 → row_of (sixteen (sum_at sums (weighed_of ac y).costs)) t ≡ bare (acs (search_of ac b) y (row_of sums) t)
  row_next t h =
      ap (λ (v : ℕ). sealed v tt) (sixteen-at (sum_at sums costs) t h)
      ∙ sym (through bare (ltb (sum_at sums costs t) limit) (alive (sum_at sums costs t) (before t (winner sums costs t))) absent) ∙ ap bare (sym (acs-is t h))

  -- the state before a reached one
  pub from_is : (t : ℕ) → t < 16 → get_or (sixteen (sum_at sums (weighed_of ac y).costs)) t 0 < limit → state_of (acs (search_of ac b) y (row_of sums) t) ≡ from_at sums (weighed_of ac y).costs t
  from_is t h k = ap state_of (acs-is t h) ∙ rw (lt-ltb (sum_at sums costs t) limit (omega (arith, sixteen-at (sum_at sums costs) t h)))

  pub off-new : (ys : List (Two Received)) (m : ℕ) → Off (search_of ac b) ys m (row_of sums) → Off (search_of ac b) (y ∷ ys) m (row_of (sixteen (sum_at sums (weighed_of ac y).costs)))
  off-new ys m off s h = off_next (search_of ac b) (laws ac b) ys m (row_of sums) off y s h ∙ ap (raise m) (sym (row_next s h))

-- ── less the least ──
row-lowered : (sums : List ℕ) (s : ℕ) → s < 16 → row_of sums s ≡ raise (lowest sums) (row_of (sixteen (lowered sums)) s)
unfolding lowered
row-lowered sums s h =
    go (ltb (get_or sums s 0) limit) refl ∙ ap (λ (v : ℕ). raise (lowest sums) (sealed v tt)) (sym (sixteen-at (lowered sums) s h))
  where
    v : ℕ
    v = get_or sums s 0

    go : (c : Bool) → ltb v limit ≡ c → cond c (alive v tt) absent ≡ raise {P = Unit {0}} (lowest sums) (sealed (cond c (v - lowest sums) limit) tt)
    go true e =
        let l : v - lowest sums < limit = omega (arith, ltb-true v limit e) in
        let d : v ≡ v - lowest sums + lowest sums = omega (arith, lowest-le sums s h) in
        sym (rw (lt-ltb (v - lowest sums) limit l) (ap (λ (n : ℕ). alive n tt) (sym d)))
    go false e = refl

pub off-lowered : (ac : Accord) (b : Start) (ys : List (Two Received)) (m : ℕ) (sums : List ℕ) → Off (search_of ac b) ys m (row_of sums) →
    Off (search_of ac b) ys (m + lowest sums) (row_of (sixteen (lowered sums)))
off-lowered ac b ys m sums off = off_less (search_of ac b) (laws ac b) ys m (row_of sums) off (lowest sums) (row_of (sixteen (lowered sums))) (row-lowered sums)

-- ── the end ──
pub end_is : (ac : Accord) (b : Start) (sums : List ℕ) (s : ℕ) → s < 16 → get_or sums s 0 < limit → end_of sums ≡ end-state (search_of ac b) (row_of sums)
unfolding end_of end-state range
end_is ac b sums s h k =
    let m : ℕ = least (λ t. get_or sums t 0) 15 in
    let l : get_or sums m 0 < limit = omega (arith, (least-is (λ t. get_or sums t 0) 15).is-least s (omega arith)) in
    let z : state_of (sealed (get_or sums m 0) m) ≡ m = rw (lt-ltb (get_or sums m 0) limit l) in
    sym (ap state_of (choose-ext (λ t. tag t (row_of sums t)) (λ t. sealed (get_or sums t 0) t) (range 0 16) (λ t i. through (tag t) (ltb (get_or sums t 0) limit) (alive (get_or sums t 0) tt) absent)
    ∙ choose-least (λ t. get_or sums t 0) (λ t. t) 15) ∙ z)
