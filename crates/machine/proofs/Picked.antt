-- What the code selects for a reached state is the theory's cell: the state before it, and the symbol between, which is read off the
-- picks by the subset of the step.
--   step_from, step-subset  a step, read
--   symbol-at              a symbol, read off the picks, is the best of its subset
--   before-is, symbol-is   the cell
use mathlib.Core.Path.{◌≡◌, sym, ap, ◌∙◌}
use mathlib.Core.Bool.{true}
use mathlib.Core.List.{List}
use Prim.Native.Nat.{ℕ, ◌+◌, ◌/◌, ◌%◌, ◌^◌, ◌<◌}
use native.Mathlib.Nat.{mod-eq_of_lt}
use native.Mathlib.Omega.{arith}
use lib.ListN.{get_or}
use lib.Pow.{pow_mono}
use Rattle.trellis.specs.Cells.{cell}
use Rattle.trellis.specs.Measure.{Start, Two}
use Rattle.wei.specs.Label.{turn_of, second_label}
use Rattle.wei.specs.State.{between, bit_w4, carry_i1, carry_i2, subset_of}
use Rattle.wei.specs.Symbol.{Symbol}
use Rattle.wei.proofs.Labels.{second_below}
use Rattle.wei.proofs.States.{before-below, between-below, carry_i1-below, carry_i2-below}
use Rattle.nearest.specs.declared.Received.{Received}
use Rattle.nearest.specs.declared.Weighed.{Weighed}
use Rattle.nearest.specs.Line.{line_choice}
use Rattle.nearest.specs.Found.{weighed_of, picked_from}
use Rattle.trellis.proofs.Least.{least-is}
use Rattle.nearest.proofs.Laws.{i3s-below, w1-below, w2-below, best-read}
use Rattle.select.specs.Select.{limit, sixteen, arrive, winner, sum_at, from_at, first_step, followed, step_at, row_of}
use Rattle.picks.specs.Picks.{byte_at, numbers_of, symbol_by}
use Rattle.picks.proofs.Bytes.{first-number, second-number}
use Rattle.select.proofs.Lists.{sixteen-at}
use Rattle.receiver_meaning.proofs.Search.{search_of, pick_of}
use Rattle.machine.proofs.Arrivals.{Room, from_is}
use Rattle.select.proofs.Followed.{followed-below}
use Rattle.points.specs.declared.Accord.{Accord}
use Rattle.points.specs.Agreed.{is_accord}
use Rattle.points.proofs.Agreed.{accord-width}

-- ── steps ──
module _ (sums costs : List ℕ) (t : ℕ) (h : t < 16) where
  from-below : from_at sums costs t < 16
  unfolding winner
  from-below = before-below t (winner sums costs t) h (omega (arith, (least-is (arrive sums costs t) 3).low))

  pub first-from : first_step sums costs t / 8 % 16 ≡ from_at sums costs t
  unfolding first_step
  first-from = omega (arith, from-below, between-below (from_at sums costs t) t)

  pub first-subset : first_step sums costs t % 8 ≡ between (from_at sums costs t) t
  unfolding first_step
  first-subset = omega (arith, between-below (from_at sums costs t) t)

-- the step into a state is that of the one it follows
pub step-at : (sums costs : List ℕ) (t : ℕ) → t < 16 → get_or (sixteen (step_at sums costs)) t 0 ≡ first_step sums costs (followed (sixteen (sum_at sums costs)) t)
unfolding step_at
step-at sums costs t h = sixteen-at (step_at sums costs) t h

pub step_from : (sums costs : List ℕ) (t : ℕ) → t < 16 → get_or (sixteen (step_at sums costs)) t 0 / 8 % 16 ≡ from_at sums costs (followed (sixteen (sum_at sums costs)) t)
step_from sums costs t h =
    ap (λ (n : ℕ). n / 8 % 16) (step-at sums costs t h) ∙ first-from sums costs (followed (sixteen (sum_at sums costs)) t) (followed-below (sixteen (sum_at sums costs)) t h)

-- ── symbols ──
symbol-at : (ac : Accord) (y : Two Received) (a b c : ℕ) → is_accord ac ≡ true → a < 2 → b < 2 → c < 2 → let W = weighed_of ac y in let k = subset_of a b c in
    symbol_by ac.u (get_or W.i3 k 0 % 2) (numbers_of W.w1 W.w2) k ≡ line_choice ac y a b c
unfolding symbol_by picked_from
symbol-at ac y a b c small ha hb hc =
    let W : Weighed = weighed_of ac y in
    let k : ℕ = subset_of a b c in
    let i3 : ℕ = get_or W.i3 k 0 in
    let q : ℕ = turn_of c i3 in
    let l : ℕ = second_label q a b in
    let byte : (n : ℕ) → n < 2 ^ ac.u → n < 256 = λ n h. omega (arith, h, pow_mono (accord-width ac small)) in
    let h : q < 4 = omega (arith, i3s-below ac y k) in
    let e₀ : k / 4 % 2 ≡ a = omega arith in
    let e₁ : k / 2 % 2 ≡ b = omega arith in
    let e₂ : k % 2 ≡ c = omega arith in
    let e₃ : i3 % 2 ≡ i3 = omega (arith, i3s-below ac y k) in
    let e₄ : byte_at (numbers_of W.w1 W.w2) q ≡ get_or W.w1 q 0 = first-number W.w1 W.w2 (λ i. byte _ (w1-below ac y i)) (λ i. byte _ (w2-below ac y i)) q h in
    let e₅ : byte_at (numbers_of W.w1 W.w2) (4 + l) ≡ get_or W.w2 l 0 = second-number W.w1 W.w2 (λ i. byte _ (w1-below ac y i)) (λ i. byte _ (w2-below ac y i)) l (second_below q a b) in
    let z : symbol_by ac.u (i3 % 2) (numbers_of W.w1 W.w2) k ≡ picked_from W.i3 W.w1 W.w2 a b c =
    rw (e₀, e₁, e₂, e₃, e₄, e₅, mod-eq_of_lt (w1-below ac y q), mod-eq_of_lt (w2-below ac y l)) in
    z ∙ best-read ac y a b c ha hb hc

-- the newest symbol of a step's subset
abbrev pub new_symbol : Accord → Two Received → ℕ → Symbol
new_symbol ac y k = let w = weighed_of ac y in symbol_by ac.u (get_or w.i3 k 0 % 2) (numbers_of w.w1 w.w2) k

-- ── the cell ──
module _ (ac : Accord) (b : Start) (y : Two Received) (sums : List ℕ) (room : Room sums (weighed_of ac y).costs) (t : ℕ) (h : t < 16)
    (k : get_or (sixteen (sum_at sums (weighed_of ac y).costs)) t 0 < limit) where
  pub before-is : (cell (search_of ac b) y (row_of sums) t).prev ≡ from_at sums (weighed_of ac y).costs t
  unfolding cell
  before-is = from_is ac b y sums room t h k

  pub symbol-is : is_accord ac ≡ true → (cell (search_of ac b) y (row_of sums) t).symbol ≡ new_symbol ac y (first_step sums (weighed_of ac y).costs t % 8)
  unfolding cell between
  symbol-is small =
      let costs : List ℕ = (weighed_of ac y).costs in
      let s : ℕ = from_at sums costs t in
      ap (λ (x : ℕ). pick_of ac y x t) (from_is ac b y sums room t h k)
      ∙ sym (ap (new_symbol ac y) (first-subset sums costs t h) ∙ symbol-at ac y (bit_w4 s) (carry_i1 s t) (carry_i2 s t) small (omega arith) (carry_i1-below s t) (carry_i2-below s t))
