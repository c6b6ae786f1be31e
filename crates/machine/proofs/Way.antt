-- The pending symbols on the way into a state, one by one, and what a symbol makes of them.
--   way-length, way_at    how many there are, and each of them
--   way_same, same_way    two ways have the same k oldest symbols exactly if each of these is the same
--   way-grown             a symbol more, and the k oldest released
use mathlib.Core.Path.{◌≡◌, sym, ap, ap₂, ◌∙◌}
use mathlib.Core.List.{List, [], ◌∷◌, ◌++◌}
use Prim.Native.Nat.{ℕ, suc, ◌+◌, ◌-◌, ◌%◌, ◌≤◌, ◌<◌}
use native.Mathlib.Omega.{arith}
use native.Mathlib.Decide.{dec_lt}
use native.Mathlib.Nat.{add-mod_right}
use lib.ListN.{length, get_or, take, drop, length-append, length-drop, get_or-append}
use lib.Seq.{ext_get_or, get_or-take, get_or-drop, get_or_at, length-take-le}
use Rattle.registers.specs.Registers.{subset_in, came_from, moved_of}
use Rattle.registers.proofs.Moved.{newest-subset, older-subset}
use Rattle.wei.specs.Symbol.{Symbol}
use Rattle.machine.specs.declared.Core.{Core}
use Rattle.picks.specs.Picks.{type_at, numbers_at, symbol_by, symbol_in, kept_in}
use Rattle.picks.proofs.Kept.{newest-type, older-type, kept_slot, other-slot}
use Rattle.machine.specs.Machine.{slot_of, age_of, pending_at, way_from}
use Rattle.select.proofs.Lists.{range_length, range_at}

module _ (c : Core) (registers picks : List ℕ) where
  pub way-length : (s : ℕ) → length (way_from c registers picks s) ≡ c.pending
  unfolding way_from
  way-length s = range_length (pending_at c registers picks s) 0 c.pending

  pub way_at : (s j : ℕ) (d : Symbol) → j < c.pending → get_or (way_from c registers picks s) j d ≡ pending_at c registers picks s j
  unfolding way_from
  way_at s j d h = range_at (pending_at c registers picks s) 0 c.pending j d h ∙ ap (pending_at c registers picks s) (let e : 0 + j ≡ j = omega arith in e)

  module _ (s t k : ℕ) (few : k ≤ c.pending) where
    abbrev d : Symbol
    d = pending_at c registers picks s 0

    front : (r : ℕ) → length (take k (way_from c registers picks r)) ≡ k
    front r = length-take-le k (way_from c registers picks r) (omega (arith, way-length r))

    at : (r j : ℕ) → j < k → get_or (take k (way_from c registers picks r)) j d ≡ pending_at c registers picks r j
    at r j h = get_or-take k (way_from c registers picks r) j d h ∙ way_at r j d (omega arith)

    pub way_same : ((j : ℕ) → j < k → pending_at c registers picks s j ≡ pending_at c registers picks t j) → take k (way_from c registers picks s) ≡ take k (way_from c registers picks t)
    way_same f =
        ext_get_or d (take k (way_from c registers picks s)) (take k (way_from c registers picks t)) (front s ∙ sym (front t))
        (λ j h. at s j (omega (arith, front s)) ∙ f j (omega (arith, front s)) ∙ sym (at t j (omega (arith, front s))))

    pub same_way : take k (way_from c registers picks s) ≡ take k (way_from c registers picks t) → (j : ℕ) → j < k → pending_at c registers picks s j ≡ pending_at c registers picks t j
    same_way e j h = sym (at s j h) ∙ ap (λ (l : List Symbol). get_or l j d) e ∙ at t j h

-- ── a symbol more ──
-- a slot by its age, counted from the next slot
slot_at : (a p k i : ℕ) → a < 64 → k + i ≤ p → p ≤ 64 → p + 1 - k ≤ 64 → ((a + 1) % 64 + 64 - (p + 1 - k) + i) % 64 ≡ (a + 64 - p + (k + i)) % 64
slot_at a p k i h l g m = go (dec_lt a 63)
  where
    go : Dec (a < 63) → ((a + 1) % 64 + 64 - (p + 1 - k) + i) % 64 ≡ (a + 64 - p + (k + i)) % 64
    go (yes b) =
        let e : (a + 1) % 64 ≡ a + 1 = omega arith in
        let f : (a + 1) % 64 + 64 - (p + 1 - k) + i ≡ a + 64 - p + (k + i) = omega arith in
        ap (λ (x : ℕ). x % 64) f
    go (no b) =
        let e : (a + 1) % 64 ≡ 0 = omega arith in
        let f : (a + 1) % 64 + 64 - (p + 1 - k) + i + 64 ≡ a + 64 - p + (k + i) = omega arith in
        let x : ℕ = (a + 1) % 64 + 64 - (p + 1 - k) + i in
        sym (add-mod_right x 64) ∙ ap (λ (x : ℕ). x % 64) f

age-at : (p k i : ℕ) → k + i < p → p + 1 - k - 1 - i ≡ suc (p - 1 - (k + i))
age-at p k i h = omega arith

young-at : (p k i : ℕ) → k + i < p → p + 1 - k ≤ 64 → p - 1 - (k + i) < 63
young-at p k i h l = omega arith

among : (p m : ℕ) → m < p → suc (p - 1 - m) < p + 1
among p m h = omega arith

inside : (p k i : ℕ) → p + 1 - k ≤ 64 → p - (k + i) < 64
inside p k i l = omega arith

-- another slot than the next one
another : (a p m : ℕ) → a < 64 → p ≤ 64 → m < p → p - m < 64 → (a + 64 - p + m) % 64 ≡ a → ⊥
another a p m h g l k e = go (dec_lt (a + m) p)
  where
    go : Dec (a + m < p) → ⊥
    go (yes b) = omega arith
    go (no b) = omega arith

module _ (c : Core) (registers picks steps i3 : List ℕ) (n window turn k : ℕ) (long : length picks ≡ 72) (slot-below : c.slot < 64)
    (held : c.pending ≤ 64) (few : k ≤ c.pending) (kept : c.pending + 1 - k ≤ 64) (s : ℕ) (h : s < 16) where
  abbrev c' : Core
  c' = record { accord = c.accord; window = window; turn = turn; slot = (c.slot + 1) % 64; pending = c.pending + 1 - k }

  abbrev step : ℕ
  step = get_or steps s 0

  abbrev was : List Symbol
  was = way_from c registers picks (came_from (get_or steps s 0))

  abbrev now : Symbol
  now = symbol_by c.accord.u (get_or i3 (get_or steps s 0 % 8) 0 % 2) n (get_or steps s 0 % 8)

  abbrev moved : List ℕ
  moved = moved_of (c.pending + 1) registers steps

  abbrev stored : List ℕ
  stored = kept_in picks c.slot i3 n

  older : (i : ℕ) → k + i < c.pending → pending_at c' moved stored s i ≡ get_or (was ++ (now ∷ [])) (k + i) now
  older i l =
      let a = slot_of c (k + i) in
      let q = age_of c (k + i) in
      let x = subset_in registers (came_from step) q in
      let e₁ : slot_of c' i ≡ a = slot_at c.slot c.pending k i slot-below (omega arith) held kept in
      let e₂ : age_of c' i ≡ suc q = age-at c.pending k i l in
      let young : q < 63 = young-at c.pending k i l kept in
      let z₁ : numbers_at stored a ≡ numbers_at picks a = other-slot picks c.slot i3 n long slot-below a (another c.slot c.pending (k + i) slot-below held l (inside c.pending k i kept)) in
      let z₂ : subset_in moved s (suc q) ≡ x = older-subset (c.pending + 1) registers steps s h q young (among c.pending (k + i) l) in
      let z₃ : type_at stored x (suc q) ≡ type_at picks x q = older-type picks c.slot i3 n long slot-below x q (omega arith) young in
      ap₂ (λ (i j : ℕ). symbol_in c.accord.u stored i j (subset_in moved s j)) e₁ e₂
      ∙ ap (symbol_in c.accord.u stored a (suc q)) z₂
      ∙ ap₂ (λ (t m : ℕ). symbol_by c.accord.u t m x) z₃ z₁
      ∙ sym (get_or-append was (now ∷ []) now (k + i) (omega (arith, way-length c registers picks (came_from step))) ∙ way_at c registers picks (came_from step) (k + i) now l)

  newest : (i : ℕ) → k + i ≡ c.pending → pending_at c' moved stored s i ≡ get_or (was ++ (now ∷ [])) (k + i) now
  newest i l =
      let e₁ : slot_of c' i ≡ c.slot = omega arith in
      let e₂ : age_of c' i ≡ 0 = omega arith in
      ap₂ (λ (i j : ℕ). symbol_in c.accord.u stored i j (subset_in moved s j)) e₁ e₂
      ∙ ap (symbol_in c.accord.u stored c.slot 0) (newest-subset (c.pending + 1) registers steps s h)
      ∙ ap₂ (λ (t m : ℕ). symbol_by c.accord.u t m (step % 8)) (newest-type picks c.slot i3 n long slot-below (step % 8) (omega arith)) (kept_slot picks c.slot i3 n long slot-below)
      ∙ sym (get_or_at was now [] now (k + i) (way-length c registers picks (came_from step) ∙ sym l))

  each : (i : ℕ) → i < c.pending + 1 - k → pending_at c' moved stored s i ≡ get_or (was ++ (now ∷ [])) (k + i) now
  each i l = go (dec_lt (k + i) c.pending)
    where
      go : Dec (k + i < c.pending) → pending_at c' moved stored s i ≡ get_or (was ++ (now ∷ [])) (k + i) now
      go (yes g) = older i g
      go (no g) = newest i (omega arith)

  pub way-grown : way_from (record { accord = c.accord; window = window; turn = turn; slot = (c.slot + 1) % 64; pending = c.pending + 1 - k })
      (moved_of (c.pending + 1) registers steps) (kept_in picks c.slot i3 n) s
      ≡ drop k (way_from c registers picks (came_from (get_or steps s 0)) ++ (symbol_by c.accord.u (get_or i3 (get_or steps s 0 % 8) 0 % 2) n (get_or steps s 0 % 8) ∷ []))
  way-grown =
      let l = way_from c' moved stored s in
      let m = drop k (was ++ (now ∷ [])) in
      let a : length l ≡ c.pending + 1 - k = way-length c' moved stored s in
      let b : length m ≡ c.pending + 1 - k = omega (arith, length-drop k (was ++ (now ∷ [])), length-append was (now ∷ []), way-length c registers picks (came_from step)) in
      ext_get_or now l m (a ∙ sym b) (λ i g. way_at c' moved stored s i now (omega arith) ∙ each i (omega arith) ∙ sym (get_or-drop k (was ++ (now ∷ [])) i now))
