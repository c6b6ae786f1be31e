-- One symbol, from what the code's functions give to the machine's outcome: the look ahead, the two refusals and the taking.
--   summable             sums and costs add up
--   looked               what the look ahead puts together
--   full, short          the refusals 6 and 8
--   taken                the symbol is taken
use mathlib.Core.Path.{◌≡◌, refl, sym, ap, ap₂, ◌∙◌}
use mathlib.Core.List.{List, [], ◌++◌}
use Prim.Native.Nat.{ℕ, ◌+◌, ◌-◌, ◌/◌, ◌%◌, ◌≤◌, ◌<◌}
use native.Mathlib.Omega.{arith}
use lib.ListN.{length, get_or, take, drop}
use lib.Seq.{length-take-le}
use borrow.Author.Tests.{lt-ltb, le-ltb}
use Rattle.std.specs.Prelude.{Ok, Err}
use Rattle.trellis.specs.Measure.{Two}
use Rattle.trellis.specs.Speak.{after}
use Rattle.trellis.specs.Words.{word, words_from, turn_after}
use Rattle.trellis.proofs.Speak.{speak-length}
use Rattle.wei.specs.Symbol.{Symbol}
use Rattle.nearest.specs.declared.Received.{Received}
use Rattle.nearest.specs.declared.Weighed.{Weighed}
use Rattle.nearest.specs.Line.{InRange}
use Rattle.nearest.specs.Found.{heard_as, weighed_of}
use Rattle.nearest.proofs.Laws.{costs-most}
use Rattle.select.specs.declared.Selected.{Selected}
use Rattle.machine.specs.declared.Core.{Core}
use Rattle.machine.specs.declared.Receiver.{Receiver}
use Rattle.one_symbol.specs.declared.Outlook.{Outlook}
use Rattle.one_symbol.specs.declared.Took.{Took}
use Rattle.reasons.specs.declared.Why.{Why}
use Rattle.reasons.specs.declared.Why.TheVariants.{Full, NoRoom}
use Rattle.registers.specs.Registers.{words_before, moved_of, same_at, oldest}
use Rattle.machine.proofs.Agree.{agreed-few}
use Rattle.select.specs.Select.{sixteen, sum_at, lowered, step_at, prev_in}
use Rattle.picks.specs.Picks.{numbers_of, kept_in}
use Rattle.machine.specs.Machine.{next_sums, next_steps, numbers_in, way_from, agreed_of, released_of, grown, refused, taking}
use Rattle.machine.specs.Parts.{Ready, whole}
use Rattle.one_symbol.specs.Taken.{outlook_of, TookIs}
use Rattle.select.specs.Ways.{Summable}
use Rattle.machine.proofs.Way.{way-length}

-- ---- the look ahead
pub summable : (core : Core) (sums : List ℕ) (g h : Received) (w : Weighed) → Ready core sums → InRange g → InRange h →
    w ≡ weighed_of core.accord (heard_as g h) → Summable sums w.costs
summable core sums g h w r a b e =
    record {
      sums-most = r.sums-fit;
      costs-most = rw e (costs-most core.accord (heard_as g h));
    }

pub looked : (core : Core) (sums registers : List ℕ) (y : Two Received) (w : Weighed) (next : Selected) (ways : List ℕ) (n numbers state : ℕ)
    → w ≡ weighed_of core.accord y
    → next ≡ record { sums = sixteen (lowered (sixteen (sum_at sums w.costs))); steps = sixteen (step_at sums w.costs) }
    → ways ≡ words_before registers next.steps 0
    → n ≡ oldest (same_at registers next.steps) core.pending
    → numbers ≡ numbers_of w.w1 w.w2
    → state ≡ get_or next.steps 0 0 / 8 % 16
    → record { sums = next.sums; steps = next.steps; ways = ways; i3 = w.i3; numbers = numbers; state = state; agreed = n } ≡ outlook_of (whole core sums registers []) y
unfolding agreed_of
looked core sums registers y w next ways n numbers state ew es em en ek et =
    let rx = whole core sums registers [] in
    let a : next.sums ≡ next_sums rx y = ap (λ (x : Selected). x.sums) es ∙ rw ew in
    let b : next.steps ≡ next_steps rx y = ap (λ (x : Selected). x.steps) es ∙ rw ew in
    let f : ways ≡ words_before registers (next_steps rx y) 0 = em ∙ ap (λ (l : List ℕ). words_before registers l 0) b in
    let c : w.i3 ≡ (weighed_of core.accord y).i3 = ap (λ (x : Weighed). x.i3) ew in
    let k : numbers ≡ numbers_in rx y = ek ∙ ap (λ (x : Weighed). numbers_of x.w1 x.w2) ew in
    let s : state ≡ prev_in (next_steps rx y) 0 = et ∙ ap (λ (m : List ℕ). prev_in m 0) b in
    let m : n ≡ oldest (same_at registers (next_steps rx y)) core.pending = en ∙ ap (λ (l : List ℕ). oldest (same_at registers l) core.pending) b in
    λ i. record { sums = a i; steps = b i; ways = f i; i3 = c i; numbers = k i; state = s i; agreed = m i }

-- ---- the outcome
module _ (core : Core) (sums registers picks : List ℕ) (y : Two Received) (out : List ℕ) where
  abbrev rx : Receiver
  rx = whole core sums registers picks

  -- a refusal leaves all as it was
  as_before : (w : Why) (r : Took) → r ≡ record { core = core; written = 0; why = Err w } → taking rx y (length out) ≡ refused rx (Err w) → TookIs (taking rx y (length out)) r sums registers picks out out
  as_before w r f e = rw (e, f) (record { receiver = refl; why = refl; written = refl; out = refl })

  module _ (o : Outlook) (is : o ≡ outlook_of (whole core sums registers []) y) where
    agreed-same : o.agreed ≡ agreed_of rx y
    unfolding agreed_of
    agreed-same = ap (λ (x : Outlook). x.agreed) is

    pub few : o.agreed ≤ core.pending
    few = rw agreed-same (agreed-few rx y)

    pub ways-are : o.ways ≡ words_before registers o.steps 0
    ways-are = rw is

    pub state-below : o.state < 16
    state-below = rw is (omega arith)

    pub full : (r : Took) → r ≡ record { core = core; written = 0; why = Err Full } → core.window < core.pending + 1 - o.agreed → TookIs (taking rx y (length out)) r sums registers picks out out
    unfolding taking
    full r f h = as_before Full r f (rw (← agreed-same, lt-ltb _ _ h))

    module _ (fits : core.pending + 1 - o.agreed ≤ core.window) where
      pub short : (r : Took) → r ≡ record { core = core; written = 0; why = Err NoRoom } → length out < o.agreed → TookIs (taking rx y (length out)) r sums registers picks out out
      unfolding taking
      short r f h = as_before NoRoom r f (rw (← agreed-same, le-ltb _ _ fits, lt-ltb _ _ h))

      abbrev released : List Symbol
      released = take o.agreed (way_from core registers picks o.state)

      released-is : released ≡ released_of rx y
      unfolding released_of
      released-is = ap₂ (λ (n s : ℕ). take n (way_from core registers picks s)) agreed-same (ap (λ (x : Outlook). x.state) is)

      words-length : length (words_from core.accord.u core.turn released) ≡ o.agreed
      words-length =
          speak-length turn_after (word core.accord.u) core.turn released
          ∙ length-take-le o.agreed (way_from core registers picks o.state) (rw (way-length core registers picks o.state) few)

      pub done : (core' : Core) (sums' registers' picks' out' : List ℕ) (turn : ℕ) → o.agreed ≤ length out
          → turn ≡ after turn_after core.turn released
          → out' ≡ words_from core.accord.u core.turn released ++ drop o.agreed out
          → sums' ≡ o.sums
          → registers' ≡ moved_of (core.pending + 1) registers o.steps
          → picks' ≡ kept_in picks core.slot o.i3 o.numbers
          → core' ≡ record { accord = core.accord; window = core.window; turn = turn; slot = (core.slot + 1) % 64; pending = core.pending + 1 - o.agreed }
          → TookIs (taking rx y (length out)) (record { core = core'; written = o.agreed; why = Ok tt }) sums' registers' picks' out out'
      unfolding taking grown
      done core' sums' registers' picks' out' turn room et eo ea eb ec ed =
          rw (← agreed-same, le-ltb _ _ fits, le-ltb _ _ room, ← released-is)
          (record { receiver = rw (ed, et, ea, eb, ec, is); why = refl; written = sym words-length; out = rw words-length eo })
