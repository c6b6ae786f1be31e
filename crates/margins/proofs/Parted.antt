-- How long a best sequence can stay off the sent one. Where another symbol costs L more for each coordinate in which its points must
-- differ, a sequence whose states are off the sent one's for k symbols in a row costs about L k / 3 more, by the potential; and no best sequence
-- costs more than the sent one and a detour of two symbols (Detour). So all best sequences have the sent symbols but for the last ones.
--   Clear u M L x c    c is closest to x, and others cost that much more
--   Strayed K D ys s p q   p costs at most 2·D more than q, and at most D more if it ends low beside it
--   Roomy L D f B      B symbols apart cost more than that, where sequences may begin f apart
--   parted p q         for how many symbols the states of p and q have differed
--   parted-costs       what that costs
--   parted-few         a bound for best sequences
--   best-agrees        before they parted a best sequence has the sent symbols
--   pending-few        so no more symbols than that are pending
use mathlib.Core.Path.{◌≡◌, refl, sym, ap, subst, ◌∙◌}
use mathlib.Core.Bool.{Bool, true, false, cond}
use mathlib.Core.List.{List, [], ◌∷◌, ◌++◌, IsPrefix}
use Prim.Native.Nat.{ℕ, suc, ◌+◌, ◌-◌, ◌*◌, ◌≤◌, ◌<◌}
use native.Mathlib.Nat.{mul-add, mul_left_comm, mul-le-mul_left}
use native.Mathlib.Decide.{dec_le}
use native.Mathlib.Omega.{arith}
use borrow.Author.Tests.{eqb-true}
use lib.Dec.{eqb}
use lib.ListN.{length, take, length-take}
use lib.Seq.{take-take, take_at}
use Rattle.wei.specs.Symbol.{Symbol, Valid}
use Rattle.trellis.specs.Code.{Code, Path, begin, step, last, symbols, Allowed, cost}
use Rattle.trellis.specs.Best.{Best, Common, Longest}
use Rattle.trellis.specs.Measure.{Start, Measure, wei_code}
use Rattle.trellis.specs.Search.{Search, Laws}
use Rattle.trellis.specs.Same.{same_symbol}
use Rattle.trellis.specs.Pick.{Choice, Chooses, wei_search}
use Rattle.trellis.proofs.Optimal.{allowed-below}
use Rattle.trellis.proofs.Lists.{take-prefix}
use Rattle.trellis.proofs.Final.{came}
use Rattle.trellis.proofs.Common.{path-length}
use Rattle.trellis.proofs.WeiLaws.{wei-laws}
use Rattle.trellis.specs.Along.{Closest}
use Rattle.trellis.proofs.Sent.{AlongPath, path-map}
use Rattle.trellis.proofs.Closest.{least-only}
use Rattle.margins.specs.Latest.{begun}
use Rattle.margins.proofs.Potential.{weight, level, climbed, steps-rise, level-begun, level-least, level-same}

abbrev pub weight_of : Symbol → Symbol → ℕ
weight_of c d = weight c.y0 c.i1 c.i2 d.y0 d.i1 d.i2

pub record Clear (u : ℕ) (M : Measure) (L : ℕ) (x : M.Heard) (c : Symbol) : Type 0 where
  pub closest : Closest u M x c
  pub gap : (d : Symbol) → Valid u d → M.far x c + L * weight_of d c ≤ M.far x d

-- p ends in s and costs no more than q and two detours, or one, if s stands low beside q's end
pub record Strayed (K : Code) (D : ℕ) (ys : List K.Y) (s : ℕ) (p q : Path K.C) : Type 0 where
  pub strayed : cost K ys p ≤ cost K ys q + 2 * D
  pub low : level s (last q) ≤ 3 → cost K ys p ≤ cost K ys q + D

-- more than B symbols in a row off the sent sequence cost more than that: different states stand 4 high or higher, or 3
pub record Roomy (L D f B : ℕ) : Type 0 where
  pub room : 6 * D + L * f < L * (suc B + 4)
  pub low-room : 3 * D + L * f < L * (suc B + 3)

abbrev pub parted : Path Symbol → Path Symbol → ℕ
parted (begin s) q = 0
parted (step p c s) (begin t) = 0
parted (step p c s) (step q d t) = cond (eqb s t) 0 (suc (parted p q))

-- ---- a best sequence goes on from a best sequence
module _ {K : Code} (S : Search K) (L : Laws S) where
  open K use {Y, C}

  pub best-before : (y : Y) (ys : List Y) (p : Path C) (c : C) (s : ℕ) → Best K (y ∷ ys) s (step p c s) → Best K ys (last p) p
  best-before y ys p c s b =
      let k = came S L y ys s (step p c s) b in
      let e : k.path ≡ p = let z = k.is in cc in
      let g : Best K ys k.from p = subst (Best K ys k.from) e k.best in
      subst (λ (f : ℕ). Best K ys f p) (sym g.ends) g

module _ (u : ℕ) (M : Measure) (b : Start) (L : ℕ) where
  open M use {Heard, far}

  abbrev K : Code
  K = wei_code u M b

  pub clear-closest : (ys : List Heard) (q : Path Symbol) → AlongPath (Clear u M L) ys q → AlongPath (Closest u M) ys q
  clear-closest = path-map (Clear u M L) (Closest u M) (λ x c h. h.closest)

  pub parted-costs : (ys : List Heard) (p q : Path Symbol) → Allowed K ys p → Allowed K ys q → AlongPath (Clear u M L) ys q →
      3 * cost K ys q + L * (parted p q + level (last p) (last q)) ≤ 3 * cost K ys p + L * begun b
  parted-costs [] (begin s) (begin t) a k h = omega (arith, mul-le-mul_left L (level-begun b s t a.0 k.0 a.1 k.1))
  parted-costs [] (begin s) (step q d t) a k h = absurd k
  parted-costs [] (step p c s) q a k h = absurd a
  parted-costs (y ∷ ys) (begin s) q a k h = absurd a
  parted-costs (y ∷ ys) (step p c s) (begin t) a k h = absurd k
  parted-costs (y ∷ ys) (step p c s) (step q d t) a k h = go (eqb s t) refl (parted-costs ys p q a.2 k.2 h.1)
    where
      g : far y d + L * weight_of c d ≤ far y c
      g = h.0.gap c a.1.valid

      l : cost K ys q ≤ cost K ys p
      l = (least-only u M b ys p q a.2 k.2 (clear-closest ys q h.1)).0

      rise : climbed s t ≤ 3 * weight_of c d + level (last p) (last q)
      rise =
          let r =
          steps-rise (last p) (last q) c.i1 c.i2 d.i1 d.i2 (allowed-below K ys p a.2) (allowed-below K ys q k.2) a.1.valid.i1-below a.1.valid.i2-below k.1.valid.i1-below
          k.1.valid.i2-below in
          rw (a.1.parity, k.1.parity) (rw (a.1.leads, k.1.leads) at r)

      go : (m : Bool) → eqb s t ≡ m → 3 * cost K ys q + L * (parted p q + level (last p) (last q)) ≤ 3 * cost K ys p + L * begun b →
          3 * (cost K ys q + far y d) + L * (cond m 0 (suc (parted p q)) + level s t) ≤ 3 * (cost K ys p + far y c) + L * begun b
      go true e i =
          let z : level s t ≡ 0 = ap (level s) (sym (eqb-true s t e)) ∙ level-same s a.0 in
          let w : L * (0 + level s t) ≡ L * 0 = ap (λ (n : ℕ). L * (0 + n)) z in
          omega (arith, l, g, w)
      go false e i =
          let r : suc (level s t) ≤ 3 * weight_of c d + level (last p) (last q) = rw e at rise in
          let m : L * (suc (parted p q) + level s t) ≤ L * (3 * weight_of c d + (parted p q + level (last p) (last q))) =
          mul-le-mul_left L (let z : suc (parted p q) + level s t ≤ 3 * weight_of c d + (parted p q + level (last p) (last q)) = omega (arith, r) in z) in
          omega (arith, m, mul-add L (3 * weight_of c d) (parted p q + level (last p) (last q)), mul_left_comm L 3 (weight_of c d), g, i)

  -- ---- a bound
  met : (p q : Path Symbol) → eqb (last p) (last q) ≡ true → parted p q ≡ 0
  met (begin s) q e = refl
  met (step p c s) (begin t) e = refl
  met (step p c s) (step q d t) e = ap (λ (m : Bool). cond m 0 (suc (parted p q))) e

  -- what is off the sent sequence for k symbols and stands as high as v costs at most x more
  few : (B k v e x : ℕ) → L * (k + v) ≤ x + L * begun b → e ≤ v → x + L * begun b < L * (suc B + e) → k ≤ B
  few B k v e x h l r = go (dec_le k B)
    where
      go : Dec (k ≤ B) → k ≤ B
      go (yes z) = z
      go (no z) = absurd (omega (arith, mul-le-mul_left L (let y : suc B + e ≤ k + v = omega arith in y), h, r))

  -- where no best sequence strays far from the sent one
  module _ (D B : ℕ) (R : Roomy L D (begun b) B) where
    pub parted-few : (ys : List Heard) (s : ℕ) (p q : Path Symbol) → Best K ys s p → Allowed K ys q → AlongPath (Clear u M L) ys q → Strayed K D ys s p q → parted p q ≤ B
    parted-few ys s p q g k h c = go (eqb (last p) (last q)) refl (level-least (last p) (last q) (allowed-below K ys p g.allowed) (allowed-below K ys q k)) (dec_le (level (last p) (last q)) 3)
      where
        costs : 3 * cost K ys q + L * (parted p q + level (last p) (last q)) ≤ 3 * cost K ys p + L * begun b
        costs = parted-costs ys p q g.allowed k h

        go : (m : Bool) → eqb (last p) (last q) ≡ m → cond m 0 3 ≤ level (last p) (last q) → Dec (level (last p) (last q) ≤ 3) → parted p q ≤ B
        go true e l d = omega (arith, met p q e)
        go false e l (yes d) =
            let n : cost K ys p ≤ cost K ys q + D = c.low (subst (λ (t : ℕ). level t (last q) ≤ 3) g.ends d) in
            few B (parted p q) (level (last p) (last q)) 3 (3 * D) (omega (arith, costs, n)) l R.low-room
        go false e l (no d) = few B (parted p q) (level (last p) (last q)) 4 (6 * D) (omega (arith, costs, c.strayed)) (omega arith) R.room

-- ---- what they agree on
module _ {A : Type 0} where
  shorten : (m : ℕ) (xs zs : List A) → m ≤ length xs → take m (xs ++ zs) ≡ take m xs
  shorten m xs zs h = sym (take-take m (length xs) (xs ++ zs) h) ∙ ap (take m) (take_at xs zs (length xs) refl)

module _ (u : ℕ) (M : Measure) (H : Choice M) (C : Chooses u M H) (b : Start) where
  open M use {Heard}

  pub best-agrees : (ys : List Heard) (p q : Path Symbol) → Best (wei_code u M b) ys (last p) p → Allowed (wei_code u M b) ys q → AlongPath (Closest u M) ys q →
      take (length ys - parted p q) (symbols p) ≡ take (length ys - parted p q) (symbols q)
  best-agrees [] (begin s) (begin t) g k h = refl
  best-agrees [] (begin s) (step q d t) g k h = absurd k
  best-agrees [] (step p c s) q g k h = absurd g.allowed
  best-agrees (y ∷ ys) (begin s) q g k h = absurd g.allowed
  best-agrees (y ∷ ys) (step p c s) (begin t) g k h = absurd k
  best-agrees (y ∷ ys) (step p c s) (step q d t) g k h =
      go (eqb s t) refl (best-agrees ys p q (best-before (wei_search u M H same_symbol b) (wei-laws u M H C same_symbol b) y ys p c s g) k.2 h.1)
    where
      go : (m : Bool) → eqb s t ≡ m → take (length ys - parted p q) (symbols p) ≡ take (length ys - parted p q) (symbols q) →
          take (suc (length ys) - cond m 0 (suc (parted p q))) (symbols p ++ (c ∷ [])) ≡ take (suc (length ys) - cond m 0 (suc (parted p q))) (symbols q ++ (d ∷ []))
      go true e i =
          ap (take (suc (length ys) - 0)) ((least-only u M b (y ∷ ys) (step p c s) (step q d t) g.allowed k h).1 (g.least (step q d t) k (sym (eqb-true s t e))).by-sum)
      go false e i =
          let n : ℕ = suc (length ys) - suc (parted p q) in
          let z : n ≡ length ys - parted p q = omega arith in
          shorten n (symbols p) (c ∷ []) (omega (arith, path-length (wei_code u M b) ys p g.allowed.2))
          ∙ subst (λ (m : ℕ). take m (symbols p) ≡ take m (symbols q)) (sym z) i
          ∙ sym (shorten n (symbols q) (d ∷ []) (omega (arith, path-length (wei_code u M b) ys q k.2)))

  module _ (L D B : ℕ) (R : Roomy L D (begun b) B) (ys : List Heard) (q : Path Symbol) (k : Allowed (wei_code u M b) ys q) (h : AlongPath (Clear u M L) ys q)
      (close : (s : ℕ) (p : Path Symbol) → Best (wei_code u M b) ys s p → Strayed (wei_code u M b) D ys s p q) where
    all-begin : Common (wei_code u M b) ys (take (length ys - B) (symbols q))
    all-begin s p g =
        let n : ℕ = length ys in
        let g' : Best (wei_code u M b) ys (last p) p = subst (λ (t : ℕ). Best (wei_code u M b) ys t p) (sym g.ends) g in
        let l : n - B ≤ n - parted p q = omega (arith, parted-few u M b L D B R ys s p q g k h (close s p g)) in
        let e : take (n - B) (symbols p) ≡ take (n - B) (symbols q) =
        sym (take-take (n - B) (n - parted p q) (symbols p) l) ∙ ap (take (n - B)) (best-agrees ys p q g' k (clear-closest u M b L ys q h)) ∙ take-take (n - B) (n - parted p q) (symbols q) l in
        subst (λ (z : List Symbol). IsPrefix z (symbols p)) e (take-prefix (n - B) (symbols p))

    pub pending-few : (m : List Symbol) → Longest (wei_code u M b) ys m → length ys - length m ≤ B
    pending-few m z =
        omega (arith, z.longest (take (length ys - B) (symbols q)) all-begin, length-take (length ys - B) (symbols q), path-length (wei_code u M b) ys q k)
