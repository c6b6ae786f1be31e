-- The newest symbol is never agreed: after every symbol two states are reached whose best sequences end in different subsets. With
-- a free start, and after two symbols or more, these are the states 0 and 4, whose last symbols differ in Y0; after one symbol
-- from a named start they are two states that it leads to. So at least one symbol is always kept.
--   Apart S y ys          two states whose best sequences end in different symbols
--   apart-short           then the newest symbol is not agreed
--   all-free, all-later   all sixteen states are reached: with a free start; with any start after two symbols
--   newest-apart          there are two such states after every symbol
--   newest-kept           at most all but the newest are agreed
use mathlib.Core.Path.{◌≡◌, refl, sym, ap, subst, ◌∙◌}
use mathlib.Core.List.{List, [], ◌∷◌}
use Prim.Native.Nat.{ℕ, ◌+◌, ◌*◌, ◌/◌, ◌%◌, ◌≤◌, ◌<◌}
use native.Mathlib.Omega.{arith}
use native.Mathlib.Decide.{dec_le}
use lib.Dec.{eqb→eq, eqb_refl}
use lib.ListN.{length, take}
use lib.Pow.{pow_pos}
use Rattle.trellis.specs.Lists.{In}
use Rattle.trellis.specs.Code.{Code, Path, begin, step, last, symbols, Allowed, Reached}
use Rattle.trellis.specs.Best.{Best}
use Rattle.trellis.specs.Search.{Search, Laws}
use Rattle.trellis.specs.Common.{common, reach}
use Rattle.trellis.specs.Measure.{Start, free, named, GoodStart, Measure, wei_code}
use Rattle.trellis.specs.Pick.{Choice, Chooses, befores, wei_search}
use Rattle.trellis.proofs.Lists.{prefix-take, beyond-snoc}
use Rattle.trellis.proofs.Optimal.{allowed-below}
use Rattle.trellis.proofs.Answer.{reached-best}
use Rattle.trellis.proofs.Final.{Came, came}
use Rattle.trellis.proofs.Common.{path-length, common-common}
use Rattle.trellis.proofs.Onward.{some-reached}
use Rattle.trellis.proofs.Branches.{befores-lead, low-before, before-low}
use Rattle.trellis.proofs.WeiLaws.{wei-laws, wei-onward}
use Rattle.trellis.proofs.Subsets.{step-bits, picks-same}
use Rattle.wei.specs.State.{bit_w4, next_state, carry_i1, carry_i2, between}
use Rattle.wei.specs.Symbol.{Symbol, Carries}
use Rattle.wei.proofs.States.{carry_i1-below, carry_i2-below}

-- ── two best sequences that end in different symbols ──
pub record Apart {K : Code} (S : Search K) (y : K.Y) (ys : List K.Y) : Type 0 where
  pub one : ℕ
  pub two : ℕ
  pub path-one : Path K.C
  pub path-two : Path K.C
  pub best-one : Best K (y ∷ ys) one path-one
  pub best-two : Best K (y ∷ ys) two path-two
  pub came-one : Came S y ys one path-one
  pub came-two : Came S y ys two path-two
  pub differ : S.pick y came-one.from one ≡ S.pick y came-two.from two → ⊥

module _ {K : Code} (S : Search K) (L : Laws S) where
  open K use {Y}

  pub apart-short : (y : Y) (ys : List Y) → Apart S y ys → reach S (y ∷ ys) ≤ length ys
  unfolding reach
  apart-short y ys A = go (dec_le n (length ys))
    where
      n : ℕ
      n = length (common S (y ∷ ys))

      -- both begin with what is common
      same : take n (symbols A.path-one) ≡ take n (symbols A.path-two)
      same =
          prefix-take (common S (y ∷ ys)) (symbols A.path-one) (common-common S L (y ∷ ys) A.one A.path-one A.best-one)
          ∙ sym (prefix-take (common S (y ∷ ys)) (symbols A.path-two) (common-common S L (y ∷ ys) A.two A.path-two A.best-two))

      go : Dec (n ≤ length ys) → n ≤ length ys
      go (yes h) = h
      go (no f) =
          let a = A.came-one in
          let b = A.came-two in
          let la = path-length K ys a.path a.best.allowed in
          let lb = path-length K ys b.path b.best.allowed in
          let e = ap (λ (p : Path K.C). take n (symbols p)) a.is ∙ same ∙ sym (ap (λ (p : Path K.C). take n (symbols p)) b.is) in
          absurd (A.differ (beyond-snoc (symbols a.path) (symbols b.path) (S.pick y a.from A.one) (S.pick y b.from A.two) (la ∙ sym lb) n (omega (arith, f, la)) e).1)

-- ── which states are reached ──
module _ (u : ℕ) (M : Measure) where
  open M use {Heard}

  -- some symbol carries a state to each state that it stands before
  between-symbol : (s t : ℕ) → t < 16 → In s (befores t) → (c : Symbol) × Carries u s t c
  between-symbol s t h m = (
    record { y0 = bit_w4 s; i1 = carry_i1 s t; i2 = carry_i2 s t; i3 = 0; w1 = 0; w2 = 0 },
    record {
      valid = record { y0-below = omega arith; i1-below = carry_i1-below s t; i2-below = carry_i2-below s t; i3-below = omega arith; w1-below = pow_pos u; w2-below = pow_pos u };
      parity = refl;
      leads = befores-lead s t h m;
    },
  )

  onward : (b : Start) (y : Heard) (ys : List Heard) (s t : ℕ) → t < 16 → In s (befores t) → Reached (wei_code u M b) ys s → Reached (wei_code u M b) (y ∷ ys) t
  onward b y ys s t h m r =
      let (c, k) = between-symbol s t h m in
      record { by = step r.by c t; allowed = (h, subst (λ (x : ℕ). Carries u x t c) (sym r.ends) k, r.allowed); ends = refl }

  pub all-free : (ys : List Heard) (t : ℕ) → t < 16 → Reached (wei_code u M free) ys t
  all-free [] t h = record { by = begin t; allowed = (h, tt); ends = refl }
  all-free (y ∷ ys) t h = onward free y ys (t / 4) t h (low-before (t / 4) t (omega arith) (omega arith)) (all-free ys (t / 4) (omega arith))

  -- two steps lead anywhere
  pub all-later : (b : Start) → GoodStart b → (y x : Heard) (ys : List Heard) (t : ℕ) → t < 16 → Reached (wei_code u M b) (y ∷ x ∷ ys) t
  all-later b g y x ys t h =
      let (s, r) = some-reached (wei_code u M b) (wei-onward u M b g) ys in
      let k : s < 16 = omega (arith, allowed-below (wei_code u M b) ys r.by r.allowed, r.ends) in
      let m = 4 * (s % 4) + t / 4 in
      onward b y (x ∷ ys) m t h (low-before m t (omega arith) (omega arith)) (onward b x ys s m (omega arith) (low-before s m k (omega arith)) r)

  module _ (n : ℕ) (h : n < 16) where
    from_named : (y : Heard) (s : ℕ) → s < 16 → s / 4 ≡ n % 4 → Reached (wei_code u M (named n)) (y ∷ []) s
    from_named y s k e = onward (named n) y [] n s k (low-before n s h (sym e)) (record { by = begin n; allowed = (h, eqb_refl n); ends = refl })

    only-named : (s : ℕ) (p : Path Symbol) → Best (wei_code u M (named n)) [] s p → s ≡ n
    only-named s p b = go p b.allowed b.ends
      where
        go : (p : Path Symbol) → Allowed (wei_code u M (named n)) [] p → last p ≡ s → s ≡ n
        go (begin t) a e = sym e ∙ eqb→eq t n a.1
        go (step p c t) a e = absurd a

-- steps from one state to different states have different subsets
one-subset : (n s t : ℕ) → s < 16 → t < 16 → In n (befores s) → In n (befores t) → between n s ≡ between n t → s ≡ t
one-subset n s t hs ht ms mt e =
    let (z₀, z₁, z₂) = step-bits n s n t e in
    let z : next_state n (carry_i1 n s) (carry_i2 n s) ≡ next_state n (carry_i1 n t) (carry_i2 n t) = cc in
    sym (befores-lead n s hs ms) ∙ z ∙ befores-lead n t ht mt

-- ── the symbols at the ends ──
module _ (u : ℕ) (M : Measure) (H : Choice M) (C : Chooses u M H) (same : (c d : Symbol) → Dec (c ≡ d)) where
  open M use {Heard}

  -- two reached states, whose last steps have different subsets
  ends : (b : Start) (y : Heard) (ys : List Heard) (s t : ℕ) → Reached (wei_code u M b) (y ∷ ys) s → Reached (wei_code u M b) (y ∷ ys) t →
      ((s' t' : ℕ) → In s' (befores s) → In t' (befores t) → (p q : Path Symbol) → Best (wei_code u M b) ys s' p → Best (wei_code u M b) ys t' q → between s' s ≡ between t' t → ⊥) →
      Apart (wei_search u M H same b) y ys
  ends b y ys s t r q n =
      let S = wei_search u M H same b in
      let laws = wei-laws u M H C same b in
      let (p₁, b₁) = reached-best S laws (y ∷ ys) s r in
      let (p₂, b₂) = reached-best S laws (y ∷ ys) t q in
      let c₁ = came S laws y ys s p₁ b₁ in
      let c₂ = came S laws y ys t p₂ b₂ in
      record {
        one = s;
        two = t;
        path-one = p₁;
        path-two = p₂;
        best-one = b₁;
        best-two = b₂;
        came-one = c₁;
        came-two = c₂;
        differ = λ e. n c₁.from c₂.from c₁.from_in c₂.from_in c₁.path c₂.path c₁.best c₂.best ((picks-same u M H C same b y c₁.from s c₂.from t).0 e);
      }

  -- states 0 and 4 are entered with different Y0
  zero-four : (b : Start) (y : Heard) (ys : List Heard) → Reached (wei_code u M b) (y ∷ ys) 0 → Reached (wei_code u M b) (y ∷ ys) 4 → Apart (wei_search u M H same b) y ys
  zero-four b y ys r q = ends b y ys 0 4 r q (λ s t m l p₁ p₂ b₁ b₂ e. differ s t (before-low s 0 (omega arith) m) (before-low t 4 (omega arith) l) (step-bits s 0 t 4 e).0)
    where
      differ : (s t : ℕ) → s % 4 ≡ 0 → t % 4 ≡ 1 → bit_w4 s ≡ bit_w4 t → ⊥
      differ s t h k e = omega arith

  -- from a named start the two are entered from one state
  named-two : (n : ℕ) → n < 16 → (y : Heard) → Apart (wei_search u M H same (named n)) y []
  named-two n h y =
      let hs : s < 16 = omega arith in
      let ht : t < 16 = omega arith in
      ends (named n) y [] s t (from_named u M n h y s hs (omega arith)) (from_named u M n h y t ht (omega arith))
      (λ s' t' m l p q a b e. differ hs ht s' t' m l (only-named u M n h s' p a) (only-named u M n h t' q b) e)
    where
      s : ℕ
      s = 4 * (n % 4)

      t : ℕ
      t = 4 * (n % 4) + 1

      differ : s < 16 → t < 16 → (s' t' : ℕ) → In s' (befores s) → In t' (befores t) → s' ≡ n → t' ≡ n → between s' s ≡ between t' t → ⊥
      differ hs ht s' t' m l e f k =
          let z : s ≡ t =
          one-subset n s t hs ht (subst (λ (x : ℕ). In x (befores s)) e m) (subst (λ (x : ℕ). In x (befores t)) f l) (ap (λ (x : ℕ). between x s) (sym e) ∙ k ∙ ap (λ (x : ℕ). between x t) f) in
          omega arith

  pub newest-apart : (b : Start) → GoodStart b → (y : Heard) (ys : List Heard) → Apart (wei_search u M H same b) y ys
  newest-apart free g y ys = zero-four free y ys (all-free u M (y ∷ ys) 0 (omega arith)) (all-free u M (y ∷ ys) 4 (omega arith))
  newest-apart (named n) g y [] = named-two n g y
  newest-apart (named n) g y (x ∷ ys) = zero-four (named n) y (x ∷ ys) (all-later u M (named n) g y x ys 0 (omega arith)) (all-later u M (named n) g y x ys 4 (omega arith))

  pub newest-kept : (b : Start) → GoodStart b → (y : Heard) (ys : List Heard) → reach (wei_search u M H same b) (y ∷ ys) ≤ length ys
  newest-kept b g y ys = apart-short (wei_search u M H same b) (wei-laws u M H C same b) y ys (newest-apart b g y ys)
