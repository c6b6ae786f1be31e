-- Words put into their places one by one, and that the words so put are the registers moved.
--   put-none, put-more              the loop over the states
--   one-moved, two-moved, all_moved   one word, two, or all three
--   shift_one, shift_two, shift-three   the same, as the code finds them
use mathlib.Core.Path.{◌≡◌, refl, sym, ap, ap₂, ◌∙◌}
use mathlib.Core.Bool.{Bool, true, false, cond, ◌&&◌}
use mathlib.Core.List.{List}
use Prim.Native.Nat.{ℕ, zero, suc, ◌+◌, ◌*◌, ◌/◌, ◌%◌, ◌^◌, ◌≤◌, ◌<◌}
use native.Mathlib.Decide.{ℕ_discrete}
use native.Mathlib.Omega.{arith}
use borrow.Author.Tests.{eq-eqb, ne_eqb, lt-ltb, le-ltb, ltb-true, ltb-false, le-leb, lt-leb}
use lib.Dec.{eqb, ltb}
use lib.ListN.{length, get_or, set}
use lib.Seq.{ext_get_or}
use Rattle.lists.specs.Tabled.{tabled}
use Rattle.lists.proofs.Filled.{tabled-length, tabled-at, tabled-same, tabled-set, all_listed}
use Rattle.registers.specs.Registers.{longer, word_before, words_before, carried, moved_at, moved_words, place_moved, moved_of}
use Rattle.registers.specs.Put.{place_put, put_below, put_word}

-- ── the loop ──
and_none : (x : Bool) → (x && false) ≡ false
and_none true = refl
and_none false = refl

module _ (b : ℕ) (f : ℕ → ℕ) (registers : List ℕ) where
  pub put-length : (n : ℕ) → length (put_below b f registers n) ≡ 48
  unfolding put_below
  put-length n = tabled-length (place_put b f registers n) 48

  pub put-none : length registers ≡ 48 → registers ≡ put_below b f registers 0
  unfolding put_below
  put-none e =
      sym (all_listed registers 48 e)
      ∙ tabled-same (λ i. get_or registers i 0) (place_put b f registers 0) 48 (λ i h. sym (ap (λ (x : Bool). cond (eqb (i / 16) b && x) (f (i % 16)) (get_or registers i 0)) (le-ltb (i % 16) 0 (omega arith))
      ∙ ap (λ (x : Bool). cond x (f (i % 16)) (get_or registers i 0)) (and_none (eqb (i / 16) b))))

  pub put-more : (s v : ℕ) → b < 3 → s < 16 → v ≡ f s → set (put_below b f registers s) (16 * b + s) v ≡ put_below b f registers (s + 1)
  unfolding put_below
  put-more s v h k e = tabled-set (place_put b f registers s) (place_put b f registers (s + 1)) 48 (16 * b + s) v (omega arith) here other
    where
      here : place_put b f registers (s + 1) (16 * b + s) ≡ v
      here =
          let e₀ : (16 * b + s) / 16 ≡ b = omega arith in
          let e₁ : (16 * b + s) % 16 ≡ s = omega arith in
          rw (e₀, e₁, eq-eqb b b refl, lt-ltb s (s + 1) (omega arith)) (sym e)

      other : (i : ℕ) → i < 48 → (i ≡ 16 * b + s → ⊥) → place_put b f registers (s + 1) i ≡ place_put b f registers s i
      other i l d = ap (λ (x : Bool). cond x (f (i % 16)) (get_or registers i 0)) (go (ℕ_discrete (i / 16) b) (ℕ_discrete (i % 16) s))
        where
          beside : (x : ℕ) → (x ≡ s → ⊥) → ltb x (s + 1) ≡ ltb x s
          beside x n = side (ltb x s) refl
            where
              side : (y : Bool) → ltb x s ≡ y → ltb x (s + 1) ≡ y
              side true z = lt-ltb x (s + 1) (omega (arith, ltb-true x s z))
              side false z = le-ltb x (s + 1) (past (ℕ_discrete x s) z)
                where
                  past : Dec (x ≡ s) → ltb x s ≡ false → s + 1 ≤ x
                  past (yes y) z = absurd (n y)
                  past (no y) z = omega (arith, ltb-false x s z)

          go : Dec (i / 16 ≡ b) → Dec (i % 16 ≡ s) → (eqb (i / 16) b && ltb (i % 16) (s + 1)) ≡ (eqb (i / 16) b && ltb (i % 16) s)
          go (yes y) (yes z) = absurd (d (omega arith))
          go (yes y) (no z) = ap (λ (x : Bool). eqb (i / 16) b && x) (beside (i % 16) z)
          go (no y) z = rw (ne_eqb (i / 16) b y)

  -- a place once all are put
  put-at : (i : ℕ) → i < 48 → get_or (put_word b f registers) i 0 ≡ cond (eqb (i / 16) b) (f (i % 16)) (get_or registers i 0)
  unfolding put_below
  put-at i h = tabled-at (place_put b f registers 16) 48 i h ∙ ap (λ (x : Bool). cond x (f (i % 16)) (get_or registers i 0)) (go (eqb (i / 16) b))
    where
      go : (x : Bool) → (x && ltb (i % 16) 16) ≡ x
      go true = lt-ltb (i % 16) 16 (omega arith)
      go false = refl

-- ── the registers moved ──
module _ (registers steps : List ℕ) where
  first-is : (ways below : List ℕ) → ways ≡ words_before registers steps 0 → below ≡ tabled (λ s. get_or steps s 0 % 8 * 2 ^ 61) 16 → (s : ℕ) → s < 16 →
      longer (get_or ways s 0) (get_or below s 0 / 2 ^ 61 % 8) ≡ moved_at registers steps 0 s
  unfolding words_before carried
  first-is ways below e d s h =
      let up : get_or steps s 0 % 8 * 2 ^ 61 / 2 ^ 61 % 8 ≡ get_or steps s 0 % 8 = omega arith in
      ap₂ longer (ap (λ (l : List ℕ). get_or l s 0) e ∙ tabled-at (word_before registers steps 0) 16 s h)
      (ap (λ (l : List ℕ). get_or l s 0 / 2 ^ 61 % 8) d ∙ ap (λ (x : ℕ). x / 2 ^ 61 % 8) (tabled-at (λ s. get_or steps s 0 % 8 * 2 ^ 61) 16 s h) ∙ up)

  up_is : (b : ℕ) (ways below : List ℕ) → ways ≡ words_before registers steps (suc b) → below ≡ words_before registers steps b → (s : ℕ) → s < 16 →
      longer (get_or ways s 0) (get_or below s 0 / 2 ^ 61 % 8) ≡ moved_at registers steps (suc b) s
  unfolding words_before carried
  up_is b ways below e d s h =
      ap₂ (λ (w x : ℕ). longer w (x / 2 ^ 61 % 8)) (ap (λ (l : List ℕ). get_or l s 0) e ∙ tabled-at (word_before registers steps (suc b)) 16 s h)
      (ap (λ (l : List ℕ). get_or l s 0) d ∙ tabled-at (word_before registers steps b) 16 s h)

  moved_at_lem : (n i : ℕ) → i < 48 → get_or (moved_of n registers steps) i 0 ≡ place_moved n registers steps i
  unfolding moved_of
  moved_at_lem n i h = tabled-at (place_moved n registers steps) 48 i h

  moved-long : (n : ℕ) → length (moved_of n registers steps) ≡ 48
  unfolding moved_of
  moved-long n = tabled-length (place_moved n registers steps) 48

  module _ (n : ℕ) (f : ℕ → ℕ) (is : (s : ℕ) → s < 16 → f s ≡ moved_at registers steps 0 s) where
    pub one-moved : n ≤ 21 → put_word 0 f registers ≡ moved_of n registers steps
    unfolding moved_words
    one-moved h =
        ext_get_or 0 (put_word 0 f registers) (moved_of n registers steps) (put-length 0 f registers 16 ∙ sym (moved-long n))
        (λ i k. let l : i < 48 = omega (arith, put-length 0 f registers 16) in put-at 0 f registers i l ∙ go i (i / 16) ∙ sym (moved_at_lem n i l ∙ rw (le-leb n 21 h)))
      where
        go : (i b : ℕ) → cond (eqb b 0) (f (i % 16)) (get_or registers i 0) ≡ cond (ltb b 1) (moved_at registers steps b (i % 16)) (get_or registers i 0)
        go i zero = is (i % 16) (omega arith)
        go i (suc b) = rw (ne_eqb (suc b) 0 (λ (e : suc b ≡ 0). omega arith), le-ltb (suc b) 1 (omega arith))

    module _ (g : ℕ → ℕ) (is₁ : (s : ℕ) → s < 16 → g s ≡ moved_at registers steps 1 s) where
      pub two-moved : 21 < n → n ≤ 42 → put_word 0 f (put_word 1 g registers) ≡ moved_of n registers steps
      unfolding moved_words
      two-moved h h' =
          ext_get_or 0 (put_word 0 f (put_word 1 g registers)) (moved_of n registers steps) (put-length 0 f (put_word 1 g registers) 16 ∙ sym (moved-long n))
          (λ i k. let l : i < 48 = omega (arith, put-length 0 f (put_word 1 g registers) 16) in
          put-at 0 f (put_word 1 g registers) i l ∙ ap (λ (x : ℕ). cond (eqb (i / 16) 0) (f (i % 16)) x) (put-at 1 g registers i l) ∙ go i (i / 16)
          ∙ sym (moved_at_lem n i l ∙ rw (lt-leb n 21 h, le-leb n 42 h')))
        where
          go : (i b : ℕ) → cond (eqb b 0) (f (i % 16)) (cond (eqb b 1) (g (i % 16)) (get_or registers i 0)) ≡ cond (ltb b 2) (moved_at registers steps b (i % 16)) (get_or registers i 0)
          go i zero = is (i % 16) (omega arith)
          go i (suc zero) = is₁ (i % 16) (omega arith)
          go i (suc (suc b)) = rw (ne_eqb (suc (suc b)) 0 (λ (e : suc (suc b) ≡ 0). omega arith), ne_eqb (suc (suc b)) 1 (λ (e : suc (suc b) ≡ 1). omega arith), le-ltb (suc (suc b)) 2 (omega arith))

      pub all_moved : (k : ℕ → ℕ) → ((s : ℕ) → s < 16 → k s ≡ moved_at registers steps 2 s) → 42 < n → put_word 0 f (put_word 1 g (put_word 2 k registers)) ≡ moved_of n registers steps
      unfolding moved_words
      all_moved k is₂ h =
          ext_get_or 0 (put_word 0 f (put_word 1 g (put_word 2 k registers))) (moved_of n registers steps) (put-length 0 f (put_word 1 g (put_word 2 k registers)) 16 ∙ sym (moved-long n))
          (λ i m. let l : i < 48 = omega (arith, put-length 0 f (put_word 1 g (put_word 2 k registers)) 16) in
          put-at 0 f (put_word 1 g (put_word 2 k registers)) i l
          ∙ ap (λ (x : ℕ). cond (eqb (i / 16) 0) (f (i % 16)) x) (put-at 1 g (put_word 2 k registers) i l ∙ ap (λ (x : ℕ). cond (eqb (i / 16) 1) (g (i % 16)) x) (put-at 2 k registers i l))
          ∙ go i (i / 16) (omega arith) ∙ sym (moved_at_lem n i l ∙ rw (lt-leb n 21 (omega arith), lt-leb n 42 h)))
        where
          go : (i b : ℕ) → b < 3 →
              cond (eqb b 0) (f (i % 16)) (cond (eqb b 1) (g (i % 16)) (cond (eqb b 2) (k (i % 16)) (get_or registers i 0))) ≡ cond (ltb b 3) (moved_at registers steps b (i % 16)) (get_or registers i 0)
          go i zero l = is (i % 16) (omega arith)
          go i (suc zero) l = is₁ (i % 16) (omega arith)
          go i (suc (suc zero)) l = is₂ (i % 16) (omega arith)
          go i (suc (suc (suc b))) l = absurd (omega arith)

-- ── as the code does it ──
module _ (n : ℕ) (registers steps ways below : List ℕ) (is : ways ≡ words_before registers steps 0) (low : below ≡ tabled (λ s. get_or steps s 0 % 8 * 2 ^ 61) 16) (out : List ℕ) where
  abbrev into : ℕ → ℕ
  into s = longer (get_or ways s 0) (get_or below s 0 / 2 ^ 61 % 8)

  pub shift_one : n ≤ 21 → out ≡ put_word 0 (λ s. longer (get_or ways s 0) (get_or below s 0 / 2 ^ 61 % 8)) registers → out ≡ moved_of n registers steps
  shift_one h e = e ∙ one-moved registers steps n into (first-is registers steps ways below is low) h

  module _ (middle p₁ : List ℕ) (is₁ : middle ≡ words_before registers steps 1) where
    pub shift_two : 21 < n → n ≤ 42 → p₁ ≡ put_word 1 (λ s. longer (get_or middle s 0) (get_or ways s 0 / 2 ^ 61 % 8)) registers → out ≡ put_word 0 (λ s. longer (get_or ways s 0) (get_or below s 0 / 2 ^ 61 % 8)) p₁ →
        out ≡ moved_of n registers steps
    shift_two h k e₁ e = e ∙ ap (put_word 0 into) e₁ ∙ two-moved registers steps n into (first-is registers steps ways below is low) _ (up_is registers steps 0 middle ways is₁ is) h k

    pub shift-three : (high p₂ : List ℕ) → high ≡ words_before registers steps 2 → 42 < n → p₂ ≡ put_word 2 (λ s. longer (get_or high s 0) (get_or middle s 0 / 2 ^ 61 % 8)) registers →
        p₁ ≡ put_word 1 (λ s. longer (get_or middle s 0) (get_or ways s 0 / 2 ^ 61 % 8)) p₂ → out ≡ put_word 0 (λ s. longer (get_or ways s 0) (get_or below s 0 / 2 ^ 61 % 8)) p₁ → out ≡ moved_of n registers steps
    shift-three high p₂ is₂ h e₂ e₁ e =
        e ∙ ap (put_word 0 into) (e₁ ∙ ap (put_word 1 _) e₂)
        ∙ all_moved registers steps n into (first-is registers steps ways below is low) _ (up_is registers steps 0 middle ways is₁ is) _ (up_is registers steps 1 high middle is₂ is₁) h
