-- Two allowed sequences that agree wherever points were heard run through the same states, if dropouts are followed by whole symbols. A symbol
-- missing one point can only turn I1 unseen, which turns W4, the Y0 of the next symbol, and that one is whole. A symbol missing both can
-- turn I2' too, which turns W4 one symbol later. And four whole symbols fix a first state.
--   Kept r c d       the answer's symbol c beside the symbol d that was sent: all of it but a missing point's number, and I3' where both are missing
--   all-kept         from one first state
--   all-fixed        from any two, with four whole symbols first
use mathlib.Core.Path.{◌≡◌, refl, sym, ap, ap₂, subst, ◌∙◌}
use mathlib.Core.Bool.{false, cond}
use mathlib.Core.List.{List, [], ◌∷◌}
use Prim.Native.Nat.{ℕ, zero, suc, ◌+◌, ◌*◌, ◌%◌, ◌≤◌, ◌<◌}
use native.Mathlib.Omega.{arith}
use lib.Dec.{T}
use lib.ListN.{length, take}
use Rattle.wei.specs.Label.{second_label}
use Rattle.wei.specs.State.{state_of, bit_w1, bit_w2, bit_w3, bit_w4, next_state}
use Rattle.wei.specs.Symbol.{Symbol, first_label, last_label, Valid, AllowedFrom}
use Rattle.wei.proofs.Finite.{and_left, and_right, equal1}
use Rattle.wei.proofs.Labels.{labels_apart}
use Rattle.trellis.specs.Measure.{Two}
use Rattle.nearest.specs.declared.Received.{Received}
use Rattle.nearest.specs.declared.Received.TheVariants.{Heard, Missing}
use Rattle.nearest.specs.Found.{heard_as}
use Rattle.dropouts.specs.Gaps.{is_missing, missing_of, is_whole, lost_both, rested, all_whole}
use Rattle.dropouts.proofs.Beside.{Beside}
use Rattle.dropouts.proofs.Agree.{Agrees}
use Rattle.dropouts.proofs.Zeros.{Zeroed}

pub record Kept (r : Two Received) (c d : Symbol) : Type 0 where
  pub y0-same : c.y0 ≡ d.y0
  pub i1-same : c.i1 ≡ d.i1
  pub i2-same : c.i2 ≡ d.i2
  pub i3-same : lost_both r ≡ false → c.i3 ≡ d.i3
  pub w1-is : c.w1 ≡ cond (is_missing r.first) 0 d.w1
  pub w2-is : c.w2 ≡ cond (is_missing r.second) 0 d.w2

-- what the answer has beside what was sent
abbrev pub Matches : Two Received → Symbol → Symbol → Type 0
Matches r c d = Agrees r c d × Zeroed r c

-- ---- the rule

whole-none : (r : Two Received) → T (is_whole r) → missing_of r ≡ 0
whole-none r t = go r.first r.second t
  where
    go : (a b : Received) → T (is_whole (heard_as a b)) → missing_of (heard_as a b) ≡ 0
    go (Heard g) (Heard h) t = refl
    go (Heard g) Missing t = absurd t
    go Missing (Heard h) t = absurd t
    go Missing Missing t = absurd t

rested-less : (o : ℕ) (rs : List (Two Received)) → T (rested o rs) → T (rested 0 rs)
rested-less zero rs t = t
rested-less (suc o) [] t = absurd t
rested-less (suc o) (r ∷ rs) t =
    subst (λ (n : ℕ). T (rested n rs)) (sym (whole-none r (and_left (is_whole r) (rested o rs) t))) (rested-less o rs (and_right (is_whole r) (rested o rs) t))

-- ---- bits of the next states

w4-next : (s i j : ℕ) → bit_w4 (next_state s i j) ≡ (bit_w1 s + bit_w3 s + i) % 2
unfolding next_state
w4-next s i j = omega arith

w3-next : (s i j : ℕ) → bit_w3 (next_state s i j) ≡ (bit_w2 s + j) % 2
unfolding next_state
w3-next s i j = omega arith

w2-next : (s i j : ℕ) → bit_w2 (next_state s i j) ≡ bit_w4 s
unfolding next_state
w2-next s i j = omega arith

w1-next : (s i j : ℕ) → bit_w1 (next_state s i j) ≡ bit_w3 s
unfolding next_state
w1-next s i j = omega arith

-- I1 is seen in the next W4
i1-seen : (s i j k l : ℕ) → i < 2 → k < 2 → bit_w4 (next_state s i j) ≡ bit_w4 (next_state s k l) → i ≡ k
i1-seen s i j k l a b e = let z : (bit_w1 s + bit_w3 s + i) % 2 ≡ (bit_w1 s + bit_w3 s + k) % 2 = sym (w4-next s i j) ∙ e ∙ w4-next s k l in omega arith

-- W4 two steps on
w4-after : (s i j k l : ℕ) → bit_w4 (next_state (next_state s i j) k l) ≡ (bit_w3 s + (bit_w2 s + j) % 2 + k) % 2
w4-after s i j k l = w4-next (next_state s i j) k l ∙ ap₂ (λ (x y : ℕ). (x + y + k) % 2) (w1-next s i j) (w3-next s i j)

-- and I2' in the W4 after that
i2-seen : (s i j k l m n : ℕ) → j < 2 → l < 2 → bit_w4 (next_state (next_state s i j) m n) ≡ bit_w4 (next_state (next_state s k l) m n) → j ≡ l
i2-seen s i j k l m n a b e =
    let z : (bit_w3 s + (bit_w2 s + j) % 2 + m) % 2 ≡ (bit_w3 s + (bit_w2 s + l) % 2 + m) % 2 = sym (w4-after s i j m n) ∙ e ∙ w4-after s k l m n in omega arith

-- ---- labels

-- a first point heard shows I2' and I3'
first-shows : (i2 i3 j2 j3 : ℕ) → i2 < 2 → j2 < 2 → 2 * i3 + i2 ≡ 2 * j3 + j2 → (i2 ≡ j2) × (i3 ≡ j3)
first-shows i2 i3 j2 j3 a b e = (omega arith, omega arith)

-- a second point heard shows I2', where Y0 is the same; and I3', where I1 is too
second-shows : (y0 i1 i2 i3 j1 j2 j3 : ℕ) → i2 < 2 → j2 < 2 → second_label (2 * i3 + i2) y0 i1 ≡ second_label (2 * j3 + j2) y0 j1 → i2 ≡ j2
unfolding second_label
second-shows y0 i1 i2 i3 j1 j2 j3 a b e = omega arith

type-shows : (y0 i1 i2 i3 j3 : ℕ) → i3 < 2 → j3 < 2 → second_label (2 * i3 + i2) y0 i1 ≡ second_label (2 * j3 + i2) y0 i1 → i3 ≡ j3
unfolding second_label
type-shows y0 i1 i2 zero zero a b e = refl
type-shows y0 i1 i2 zero (suc zero) a b e = absurd (omega arith)
type-shows y0 i1 i2 zero (suc (suc j)) a b e = absurd (omega arith)
type-shows y0 i1 i2 (suc zero) zero a b e = absurd (omega arith)
type-shows y0 i1 i2 (suc zero) (suc zero) a b e = refl
type-shows y0 i1 i2 (suc zero) (suc (suc j)) a b e = absurd (omega arith)
type-shows y0 i1 i2 (suc (suc i)) j3 a b e = absurd (omega arith)

module _ (u : ℕ) where
  whole_same : (r : Two Received) (c d : Symbol) → T (is_whole r) → Valid u c → Valid u d → Agrees r c d → c ≡ d
  whole_same r c d t v w a = go r.first r.second t a
    where
      go : (f s : Received) → T (is_whole (heard_as f s)) → Agrees (heard_as f s) c d → c ≡ d
      go (Heard g) (Heard h) t a = labels_apart u u c d v w a.first-same.0 a.second-same.0 a.first-same.1 a.second-same.1
      go (Heard g) Missing t a = absurd t
      go Missing (Heard h) t a = absurd t
      go Missing Missing t a = absurd t

  whole-kept : (r : Two Received) (c d : Symbol) → T (is_whole r) → Valid u c → Valid u d → Agrees r c d → Kept r c d
  whole-kept r c d t v w a = go r.first r.second t a
    where
      go : (f s : Received) → T (is_whole (heard_as f s)) → Agrees (heard_as f s) c d → Kept (heard_as f s) c d
      go (Heard g) (Heard h) t a =
          let e : c ≡ d = labels_apart u u c d v w a.first-same.0 a.second-same.0 a.first-same.1 a.second-same.1 in
          record {
            y0-same = ap (λ (x : Symbol). x.y0) e;
            i1-same = ap (λ (x : Symbol). x.i1) e;
            i2-same = ap (λ (x : Symbol). x.i2) e;
            i3-same = λ _. ap (λ (x : Symbol). x.i3) e;
            w1-is = ap (λ (x : Symbol). x.w1) e;
            w2-is = ap (λ (x : Symbol). x.w2) e;
          }
      go (Heard g) Missing t a = absurd t
      go Missing (Heard h) t a = absurd t
      go Missing Missing t a = absurd t

  -- a whole symbol after a dropout shows its I1
  seen-i1 : (o s i j k l : ℕ) → i < 2 → k < 2 → (rs : List (Two Received)) (cs ds : List Symbol) → AllowedFrom u (next_state s i j) cs → AllowedFrom u (next_state s k l) ds →
      Beside Matches rs cs ds → T (rested (suc o) rs) → i ≡ k
  seen-i1 o s i j k l hi hk [] cs ds a b h t = absurd t
  seen-i1 o s i j k l hi hk (r ∷ rs) [] ds a b h t = absurd h
  seen-i1 o s i j k l hi hk (r ∷ rs) (c ∷ cs) [] a b h t = absurd h
  seen-i1 o s i j k l hi hk (r ∷ rs) (c ∷ cs) (d ∷ ds) a b h t =
      let e : c ≡ d = whole_same r c d (and_left (is_whole r) (rested o rs) t) a.0.valid b.0.valid h.0.0 in
      i1-seen s i j k l hi hk (sym a.0.parity ∙ ap (λ (x : Symbol). x.y0) e ∙ b.0.parity)

  -- and a second one its I2'
  seen-after : (o s i j k l m n : ℕ) → j < 2 → l < 2 → (rs : List (Two Received)) (cs ds : List Symbol) →
      AllowedFrom u (next_state (next_state s i j) m n) cs → AllowedFrom u (next_state (next_state s k l) m n) ds → Beside Matches rs cs ds → T (rested (suc o) rs) → j ≡ l
  seen-after o s i j k l m n hj hl [] cs ds a b h t = absurd t
  seen-after o s i j k l m n hj hl (r ∷ rs) [] ds a b h t = absurd h
  seen-after o s i j k l m n hj hl (r ∷ rs) (c ∷ cs) [] a b h t = absurd h
  seen-after o s i j k l m n hj hl (r ∷ rs) (c ∷ cs) (d ∷ ds) a b h t =
      let e : c ≡ d = whole_same r c d (and_left (is_whole r) (rested o rs) t) a.0.valid b.0.valid h.0.0 in
      i2-seen s i j k l m n hj hl (sym a.0.parity ∙ ap (λ (x : Symbol). x.y0) e ∙ b.0.parity)

  seen-i2 : (o s i j k l : ℕ) → j < 2 → l < 2 → (rs : List (Two Received)) (cs ds : List Symbol) → AllowedFrom u (next_state s i j) cs → AllowedFrom u (next_state s k l) ds →
      Beside Matches rs cs ds → T (rested (suc (suc o)) rs) → j ≡ l
  seen-i2 o s i j k l hj hl [] cs ds a b h t = absurd t
  seen-i2 o s i j k l hj hl (r ∷ rs) [] ds a b h t = absurd h
  seen-i2 o s i j k l hj hl (r ∷ rs) (c ∷ cs) [] a b h t = absurd h
  seen-i2 o s i j k l hj hl (r ∷ rs) (c ∷ cs) (d ∷ ds) a b h t =
      let e : c ≡ d = whole_same r c d (and_left (is_whole r) (rested (suc o) rs) t) a.0.valid b.0.valid h.0.0 in
      seen-after o s i j k l c.i1 c.i2 hj hl rs cs ds a.1 (subst (λ (x : Symbol). AllowedFrom u (next_state (next_state s k l) x.i1 x.i2) ds) (sym e) b.1) h.1
      (and_right (is_whole r) (rested (suc o) rs) t)

  -- ---- the first symbol of a line
  module _ (s : ℕ) (rs : List (Two Received)) (c d : Symbol) (cs ds : List Symbol) (a : AllowedFrom u s (c ∷ cs)) (b : AllowedFrom u s (d ∷ ds)) (h : Beside Matches rs cs ds) where
    y0-eq : c.y0 ≡ d.y0
    y0-eq = a.0.parity ∙ sym b.0.parity

    i1-eq : (o : ℕ) → T (rested (suc o) rs) → c.i1 ≡ d.i1
    i1-eq o = seen-i1 o s c.i1 c.i2 d.i1 d.i2 a.0.valid.i1-below b.0.valid.i1-below rs cs ds a.1 b.1 h

    i2-eq : (o : ℕ) → T (rested (suc (suc o)) rs) → c.i2 ≡ d.i2
    i2-eq o = seen-i2 o s c.i1 c.i2 d.i1 d.i2 a.0.valid.i2-below b.0.valid.i2-below rs cs ds a.1 b.1 h

    -- by what was heard of it
    first-kept : (f g : Received) → Matches (heard_as f g) c d → T (rested 0 (heard_as f g ∷ rs)) → Kept (heard_as f g) c d
    unfolding last_label
    first-kept (Heard f) (Heard g) z t = whole-kept (heard_as (Heard f) (Heard g)) c d tt a.0.valid b.0.valid z.0
    first-kept (Heard f) Missing z t =
        let e = first-shows c.i2 c.i3 d.i2 d.i3 a.0.valid.i2-below b.0.valid.i2-below z.0.first-same.0 in
        record { y0-same = y0-eq; i1-same = i1-eq 0 t; i2-same = e.0; i3-same = λ _. e.1; w1-is = z.0.first-same.1; w2-is = z.1.second-zero }
    first-kept Missing (Heard g) z t =
        let l : last_label c ≡ last_label d = z.0.second-same.0 in
        let e₀ : second_label (first_label c) d.y0 c.i1 ≡ second_label (first_label d) d.y0 d.i1 = ap (λ (y : ℕ). second_label (first_label c) y c.i1) (sym y0-eq) ∙ l in
        let e₂ : c.i2 ≡ d.i2 = second-shows d.y0 c.i1 c.i2 c.i3 d.i1 d.i2 d.i3 a.0.valid.i2-below b.0.valid.i2-below e₀ in
        let e₁ : c.i1 ≡ d.i1 = i1-eq 0 t in
        let e₃ : second_label (2 * c.i3 + d.i2) d.y0 d.i1 ≡ second_label (2 * d.i3 + d.i2) d.y0 d.i1 =
        ap₂ (λ (x y : ℕ). second_label (2 * c.i3 + x) d.y0 y) (sym e₂) (sym e₁) ∙ e₀ in
        record {
          y0-same = y0-eq;
          i1-same = e₁;
          i2-same = e₂;
          i3-same = λ _. type-shows d.y0 d.i1 d.i2 c.i3 d.i3 a.0.valid.i3-below b.0.valid.i3-below e₃;
          w1-is = z.1.first-zero;
          w2-is = z.0.second-same.1;
        }
    first-kept Missing Missing z t =
        record {
          y0-same = y0-eq;
          i1-same = i1-eq 1 t;
          i2-same = i2-eq 0 t;
          i3-same = λ e. absurd (let q : ◌≡◌ {A = ℕ} 0 1 = cc in omega arith);
          w1-is = z.1.first-zero;
          w2-is = z.1.second-zero;
        }

  -- ---- from one first state
  pub all-kept : (s : ℕ) (rs : List (Two Received)) (cs ds : List Symbol) → AllowedFrom u s cs → AllowedFrom u s ds → Beside Matches rs cs ds → T (rested 0 rs) → Beside Kept rs cs ds
  all-kept s [] [] [] a b h t = tt
  all-kept s [] [] (d ∷ ds) a b h t = absurd h
  all-kept s [] (c ∷ cs) ds a b h t = absurd h
  all-kept s (r ∷ rs) [] ds a b h t = absurd h
  all-kept s (r ∷ rs) (c ∷ cs) [] a b h t = absurd h
  all-kept s (r ∷ rs) (c ∷ cs) (d ∷ ds) a b h t =
      let k : Kept r c d = first-kept s rs c d cs ds a b h.1 r.first r.second h.0 t in
      let e : next_state s d.i1 d.i2 ≡ next_state s c.i1 c.i2 = ap₂ (next_state s) (sym k.i1-same) (sym k.i2-same) in
      (k, all-kept (next_state s c.i1 c.i2) rs cs ds a.1 (subst (λ (n : ℕ). AllowedFrom u n ds) e b.1) h.1 (rested-less (missing_of r) rs t))

  -- ---- from any two
  whole-all : (s t : ℕ) (rs : List (Two Received)) (cs ds : List Symbol) → AllowedFrom u s cs → AllowedFrom u t ds → Beside Matches rs cs ds → T (all_whole rs) → Beside Kept rs cs ds
  whole-all s t [] [] [] a b h w = tt
  whole-all s t [] [] (d ∷ ds) a b h w = absurd h
  whole-all s t [] (c ∷ cs) ds a b h w = absurd h
  whole-all s t (r ∷ rs) [] ds a b h w = absurd h
  whole-all s t (r ∷ rs) (c ∷ cs) [] a b h w = absurd h
  whole-all s t (r ∷ rs) (c ∷ cs) (d ∷ ds) a b h w = (
    whole-kept r c d (and_left (is_whole r) (all_whole rs) w) a.0.valid b.0.valid h.0.0,
    whole-all (next_state s c.i1 c.i2) (next_state t d.i1 d.i2) rs cs ds a.1 b.1 h.1 (and_right (is_whole r) (all_whole rs) w),
  )

  -- n symbols with the same bits may follow both states
  abbrev Alike : ℕ → ℕ → ℕ → Type 0
  Alike zero s t = Unit {0}
  Alike (suc n) s t = (bit_w4 s ≡ bit_w4 t) × ((i : ℕ) × (j : ℕ) × Alike n (next_state s i j) (next_state t i j))

  alike_from : (n s t : ℕ) (rs : List (Two Received)) (cs ds : List Symbol) → n ≤ length rs → AllowedFrom u s cs → AllowedFrom u t ds → Beside Matches rs cs ds → T (all_whole (take n rs)) → Alike n s t
  alike_from zero s t rs cs ds l a b h w = tt
  alike_from (suc n) s t [] cs ds l a b h w = absurd (omega arith)
  alike_from (suc n) s t (r ∷ rs) [] ds l a b h w = absurd h
  alike_from (suc n) s t (r ∷ rs) (c ∷ cs) [] l a b h w = absurd h
  alike_from (suc n) s t (r ∷ rs) (c ∷ cs) (d ∷ ds) l a b h w =
      let e : c ≡ d = whole_same r c d (and_left (is_whole r) (all_whole (take n rs)) w) a.0.valid b.0.valid h.0.0 in
      let m : Alike n (next_state s c.i1 c.i2) (next_state t c.i1 c.i2) =
      alike_from n (next_state s c.i1 c.i2) (next_state t c.i1 c.i2) rs cs ds (omega arith) a.1
      (subst (λ (x : Symbol). AllowedFrom u (next_state t x.i1 x.i2) ds) (sym e) b.1) h.1 (and_right (is_whole r) (all_whole (take n rs)) w) in
      (sym a.0.parity ∙ ap (λ (x : Symbol). x.y0) e ∙ b.0.parity, (c.i1, c.i2, m))

  by_bits : (s : ℕ) → s < 16 → state_of (bit_w1 s) (bit_w2 s) (bit_w3 s) (bit_w4 s) ≡ s
  by_bits = equal1 16 (λ s. state_of (bit_w1 s) (bit_w2 s) (bit_w3 s) (bit_w4 s)) (λ s. s) tt

  -- a bit is seen through a sum modulo 2
  cancel : (x y p q : ℕ) → x < 2 → y < 2 → (x + p + q) % 2 ≡ (y + p + q) % 2 → x ≡ y
  cancel x y p q a b e = omega arith

  cancel-two : (x y j p q : ℕ) → x < 2 → y < 2 → ((x + j) % 2 + p + q) % 2 ≡ ((y + j) % 2 + p + q) % 2 → x ≡ y
  cancel-two x y j p q a b e = omega arith

  w4-third : (s i j k l m n : ℕ) → bit_w4 (next_state (next_state (next_state s i j) k l) m n) ≡ ((bit_w2 s + j) % 2 + (bit_w4 s + l) % 2 + m) % 2
  w4-third s i j k l m n = w4-after (next_state s i j) k l m n ∙ ap₂ (λ (x y : ℕ). (x + (y + l) % 2 + m) % 2) (w3-next s i j) (w2-next s i j)

  four-fix : (s t : ℕ) → s < 16 → t < 16 → Alike 4 s t → s ≡ t
  four-fix s t hs ht (w4, (i, j, (e₁, (k, l, (e₂, (m, n, (e₃, z))))))) =
      let w2 : bit_w2 s ≡ bit_w2 t =
      cancel-two (bit_w2 s) (bit_w2 t) j ((bit_w4 t + l) % 2) m (omega arith) (omega arith)
      (ap (λ (x : ℕ). ((bit_w2 s + j) % 2 + (x + l) % 2 + m) % 2) (sym w4) ∙ sym (w4-third s i j k l m n) ∙ e₃ ∙ w4-third t i j k l m n) in
      let w3 : bit_w3 s ≡ bit_w3 t =
      cancel (bit_w3 s) (bit_w3 t) ((bit_w2 t + j) % 2) k (omega arith) (omega arith)
      (ap (λ (x : ℕ). (bit_w3 s + (x + j) % 2 + k) % 2) (sym w2) ∙ sym (w4-after s i j k l) ∙ e₂ ∙ w4-after t i j k l) in
      let w1 : bit_w1 s ≡ bit_w1 t =
      cancel (bit_w1 s) (bit_w1 t) (bit_w3 t) i (omega arith) (omega arith) (ap (λ (x : ℕ). (bit_w1 s + x + i) % 2) (sym w3) ∙ sym (w4-next s i j) ∙ e₁ ∙ w4-next t i j) in
      let e : state_of (bit_w1 s) (bit_w2 s) (bit_w3 s) (bit_w4 s) ≡ state_of (bit_w1 t) (bit_w2 t) (bit_w3 t) (bit_w4 t) = cc in
      sym (by_bits s hs) ∙ e ∙ by_bits t ht

  pub all-fixed : (s t : ℕ) → s < 16 → t < 16 → (rs : List (Two Received)) (cs ds : List Symbol) → AllowedFrom u s cs → AllowedFrom u t ds → Beside Matches rs cs ds →
      T (all_whole (take 4 rs)) → T (rested 0 rs) → Beside Kept rs cs ds
  all-fixed s t hs ht [] cs ds a b h w r = whole-all s t [] cs ds a b h tt
  all-fixed s t hs ht (x ∷ []) cs ds a b h w r = whole-all s t (x ∷ []) cs ds a b h w
  all-fixed s t hs ht (x ∷ y ∷ []) cs ds a b h w r = whole-all s t (x ∷ y ∷ []) cs ds a b h w
  all-fixed s t hs ht (x ∷ y ∷ z ∷ []) cs ds a b h w r = whole-all s t (x ∷ y ∷ z ∷ []) cs ds a b h w
  all-fixed s t hs ht (x ∷ y ∷ z ∷ v ∷ rs) cs ds a b h w r =
      let e : s ≡ t = four-fix s t hs ht (alike_from 4 s t (x ∷ y ∷ z ∷ v ∷ rs) cs ds (omega arith) a b h w) in
      all-kept s (x ∷ y ∷ z ∷ v ∷ rs) cs ds a (subst (λ (n : ℕ). AllowedFrom u n ds) (sym e) b) h r
