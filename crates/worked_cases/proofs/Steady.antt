-- A receiver can have been told any number of symbols: at width 0 with a free start, all zeros are good symbols, and never are more than
-- two of them pending.
--   zeros, zeros-good   the symbol, and that it is good
--   told n              n of them
--   steady, goes_on     that is a history which calls can tell, and the window holds what is pending after one more
-- All zeros are equally far from all points of width 0, so every state keeps 0, the first way into each state wins, and each symbol
-- has the same steps (`Steady`).
use mathlib.Core.Path.{◌≡◌, refl, sym, ap, ap₂, subst, ◌∙◌}
use mathlib.Core.Bool.{Bool, true}
use mathlib.Core.List.{List, ◌∷◌}
use Prim.Native.Nat.{ℕ, zero, suc, ◌+◌, ◌*◌, ◌%◌, ◌≤◌, ◌<◌}
use native.Mathlib.Omega.{arith}
use native.Mathlib.Decide.{dec_lt}
use borrow.Author.Tests.{le-ltb}
use lib.IntN.{pos}
use lib.ListN.{get_or, replicate}
use Rattle.wei.specs.State.{before, carry_i1, carry_i2, between}
use Rattle.wei.specs.Label.{second_label}
use Rattle.wei.proofs.Finite.{equal1}
use Rattle.wei.proofs.States.{before-below, between-below}
use Rattle.points.specs.declared.Accord.{Accord}
use Rattle.points.specs.Agreed.{of_width}
use Rattle.points.specs.Points.{coordinates, a_point}
use Rattle.points.specs.Turn.{point_of}
use Rattle.trellis.specs.Measure.{Two, free, counted}
use Rattle.trellis.specs.Pick.{keep_n, least, near, gap_of, type_sum, best_i3}
use Rattle.registers.specs.Registers.{subset_in, moved_of, same_at, oldest}
use Rattle.registers.proofs.Moved.{newest-subset, older-subset}
use Rattle.registers.proofs.Oldest.{same_in, oldest-most}
use Rattle.nearest.specs.declared.Received.{Received}
use Rattle.distance.specs.Distance.{distance}
use Rattle.nearest.specs.Line.{BothInRange, line_distance}
use Rattle.nearest.specs.Found.{cost_of, weighed_of}
use Rattle.machine.specs.declared.Receiver.{Receiver}
use Rattle.select.specs.Select.{sixteen, arrive, winner, sum_at, first_step, lowered, step_at, prev_in}
use Rattle.sums.specs.Sums.{end_of, lowest}
use Rattle.machine.specs.Machine.{fresh_sums, opened, next_sums, next_steps, agreed_of, kept_of, grown, machine_after, machine_of}
use Rattle.receiver_meaning.specs.Told.{Told, pending_after, Fine}
use Rattle.receiver_meaning.specs.Piece.{symbol_from}
use Rattle.select.proofs.Lists.{sixteen-at, sixteen-same}
use Rattle.select.proofs.Followed.{followed-live}
use Rattle.machine.proofs.Owed.{accord-told, kept-told, grown-told}
use Rattle.receiver_meaning.proofs.Telling.{telling-fine, fine-opened}

abbrev pub zeros : Two Received
zeros = symbol_from (pos 0) (pos 0) (pos 0) (pos 0)

pub zeros-good : BothInRange zeros
zeros-good = record { first-in = record { x-in = omega arith; y-in = omega arith }; second-in = record { x-in = omega arith; y-in = omega arith } }

abbrev pub told : ℕ → Told
told n = record { accord = of_width 0; window = 64; start = free; heard = replicate n zeros }

-- ---- one step over equal sums

abbrev costs : List ℕ
costs = (weighed_of (of_width 0) zeros).costs

costs-at : (i : ℕ) → i < 8 → get_or costs i 0 ≡ 65536
unfolding weighed_of cost_of best_i3 type_sum counted gap_of near least line_distance distance point_of a_point coordinates second_label
costs-at = equal1 8 (λ i. get_or costs i 0) (λ i. 65536) tt

least-flat : (f : ℕ → ℕ) (c n : ℕ) → ((k : ℕ) → k ≤ n → f k ≡ c) → least f n ≡ 0
unfolding least
least-flat f c zero h = refl
least-flat f c (suc n) h =
    let e : least f n ≡ 0 = least-flat f c n (λ k l. h k (omega arith)) in
    ap₂ (λ (b : Bool) (k : ℕ). keep_n b k (suc n)) (le-ltb (f (suc n)) (f (least f n)) (omega (arith, h (suc n) (omega arith), ap f e, h 0 (omega arith)))) e

-- the steps of the first way into each state
abbrev steps : List ℕ
steps = sixteen (λ t. 8 * before t 0 + between (before t 0) t)

abbrev flat : List ℕ
flat = sixteen (λ s. 0)

module _ (t : ℕ) (h : t < 16) where
  arrives : (k : ℕ) → k ≤ 3 → arrive flat costs t k ≡ 65536
  unfolding arrive
  arrives k l = ap₂ (λ (a b : ℕ). a + b) (sixteen-at (λ s. 0) (before t k) (before-below t k h (omega arith))) (costs-at (between (before t k) t) (between-below (before t k) t))

  wins : winner flat costs t ≡ 0
  unfolding winner
  wins = least-flat (arrive flat costs t) 65536 3 arrives

  sum_is : sum_at flat costs t ≡ 65536
  unfolding sum_at
  sum_is = ap (arrive flat costs t) wins ∙ arrives 0 (omega arith)

  step_is : step_at flat costs t ≡ 8 * before t 0 + between (before t 0) t
  unfolding step_at first_step
  step_is =
      ap (first_step flat costs) (followed-live (sixteen (sum_at flat costs)) t (omega (arith, sixteen-at (sum_at flat costs) t h, sum_is)))
      ∙ ap (λ (k : ℕ). 8 * before t k + between (before t k) t) wins

-- all states have the same sum, so each keeps 0 again
sums_next : sixteen (lowered (sixteen (sum_at flat costs))) ≡ flat
unfolding lowered lowest end_of least
sums_next = ap (λ (l : List ℕ). sixteen (lowered l)) (sixteen-same (sum_at flat costs) (λ s. 65536) sum_is)

steps_next : sixteen (step_at flat costs) ≡ steps
steps_next = sixteen-same (step_at flat costs) (λ t. 8 * before t 0 + between (before t 0) t) step_is

-- ---- two stay pending

-- two steps back all ways are in one state
one-past : (i : ℕ) → i < 16 → get_or steps (prev_in steps (prev_in steps i)) 0 % 8 ≡ get_or steps (prev_in steps (prev_in steps 0)) 0 % 8
unfolding before between carry_i1 carry_i2
one-past = equal1 16 (λ i. get_or steps (prev_in steps (prev_in steps i)) 0 % 8) (λ i. get_or steps (prev_in steps (prev_in steps 0)) 0 % 8) tt

record Steady (n : ℕ) : Type 0 where
  fine : Fine (told n)
  sums : (machine_of (told n)).sums ≡ flat
  few : (machine_of (told n)).core.pending ≤ 2
  newest : (s : ℕ) → s < 16 → 1 ≤ (machine_of (told n)).core.pending → subset_in (machine_of (told n)).registers s 0 ≡ get_or steps s 0 % 8
  older : (s : ℕ) → s < 16 → 2 ≤ (machine_of (told n)).core.pending → subset_in (machine_of (told n)).registers s 1 ≡ get_or steps (prev_in steps s) 0 % 8

module _ (n : ℕ) (S : Steady n) where
  abbrev rx : Receiver
  rx = machine_of (told n)

  costs-are : (weighed_of rx.core.accord zeros).costs ≡ costs
  costs-are = ap (λ (k : Accord). (weighed_of k zeros).costs) (accord-told (told n) S.fine)

  next-sums : next_sums rx zeros ≡ flat
  next-sums = ap₂ (λ (l c : List ℕ). sixteen (lowered (sixteen (sum_at l c)))) S.sums costs-are ∙ sums_next

  next-steps : next_steps rx zeros ≡ steps
  next-steps = ap₂ (λ (l c : List ℕ). sixteen (step_at l c)) S.sums costs-are ∙ steps_next

  -- the states before agree on the older of two
  one-older : 2 ≤ rx.core.pending → same_at rx.registers steps 1 ≡ true
  one-older h = same_in rx.registers (prev_in steps 0) 1 steps (λ i l. S.older (prev_in steps i) (omega arith) h ∙ one-past i l ∙ sym (S.older (prev_in steps 0) (omega arith) h))

  agrees : rx.core.pending ≡ 2 → 1 ≤ agreed_of rx zeros
  unfolding agreed_of
  agrees h =
      subst (λ (l : List ℕ). 1 ≤ oldest (same_at rx.registers l) rx.core.pending) (sym next-steps)
      (oldest-most (same_at rx.registers steps) rx.core.pending 1 (omega arith) (λ q l k. ap (same_at rx.registers steps) (let e : q ≡ 1 = omega arith in e) ∙ one-older (omega arith)))

  kept-two : kept_of rx zeros ≤ 2
  kept-two = go (dec_lt rx.core.pending 2)
    where
      go : Dec (rx.core.pending < 2) → kept_of rx zeros ≤ 2
      go (yes h) = omega arith
      go (no h) = omega (arith, S.few, agrees (omega (arith, S.few)))

  moved-is : moved_of (rx.core.pending + 1) rx.registers (next_steps rx zeros) ≡ moved_of (rx.core.pending + 1) rx.registers steps
  moved-is = ap (moved_of (rx.core.pending + 1) rx.registers) next-steps

  next-newest : (s : ℕ) → s < 16 → subset_in (moved_of (rx.core.pending + 1) rx.registers (next_steps rx zeros)) s 0 ≡ get_or steps s 0 % 8
  next-newest s h = ap (λ (l : List ℕ). subset_in l s 0) moved-is ∙ newest-subset (rx.core.pending + 1) rx.registers steps s h

  next-older : (s : ℕ) → s < 16 → 2 ≤ kept_of rx zeros → subset_in (moved_of (rx.core.pending + 1) rx.registers (next_steps rx zeros)) s 1 ≡ get_or steps (prev_in steps s) 0 % 8
  next-older s h k =
      ap (λ (l : List ℕ). subset_in l s 1) moved-is ∙ older-subset (rx.core.pending + 1) rx.registers steps s h 0 (omega arith) (omega arith) ∙ S.newest (prev_in steps s) (omega arith) (omega arith)

  grown-steady : (machine_of (told (suc n)) ≡ grown rx zeros) → Steady (suc n)
  unfolding grown
  grown-steady e =
      record {
        fine = telling-fine (told n) S.fine zeros zeros-good (omega (arith, kept-two, kept-told (told n) S.fine zeros));
        sums = ap (λ (x : Receiver). x.sums) e ∙ next-sums;
        few = subst (λ (x : Receiver). x.core.pending ≤ 2) (sym e) kept-two;
        newest = λ s h k. ap (λ (x : Receiver). subset_in x.registers s 0) e ∙ next-newest s h;
        older = λ s h k. ap (λ (x : Receiver). subset_in x.registers s 1) e ∙ next-older s h (subst (λ (x : Receiver). 2 ≤ x.core.pending) e k);
      }

steady-after : (n : ℕ) → Steady n
unfolding machine_after opened fresh_sums
steady-after zero =
    record { fine = fine-opened (of_width 0) 64 free refl (omega arith) (omega arith) tt; sums = refl; few = omega arith; newest = λ s l k. absurd (omega arith); older = λ s l k. absurd (omega arith) }
steady-after (suc n) = let s = steady-after n in grown-steady n s (grown-told (told n) s.fine zeros)

pub steady : (n : ℕ) → Fine (told n)
steady n = (steady-after n).fine

pub goes_on : (n : ℕ) → pending_after (told n) (zeros ∷ (told n).heard) ≤ 64
goes_on n = let s = steady-after n in omega (arith, kept-two n s, kept-told (told n) s.fine zeros)
