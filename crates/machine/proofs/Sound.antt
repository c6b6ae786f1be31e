-- A receiver that the functions can work on stays one.
--   sound-live, sound-core, sound-ready   what the test of a record says
--   sound-from                          and what it wants
--   grown-sound                         one symbol more, where it was not refused
use mathlib.Core.Path.{◌≡◌}
use mathlib.Core.Bool.{true}
use mathlib.Core.List.{List, [], ◌∷◌, map}
use Prim.Native.Nat.{ℕ, zero, suc, ◌≤◌, ◌<◌}
use native.Mathlib.Omega.{arith}
use borrow.Author.Tests.{leb-true, ltb-true, lt-ltb, le-leb}
use lib.Dec.{leb, ltb}
use lib.ListN.{take}
use Rattle.points.specs.Agreed.{is_accord}
use Rattle.trellis.specs.Measure.{Two}
use Rattle.trellis.specs.Search.{range}
use Rattle.trellis.specs.Lists.{Every}
use Rattle.trellis.specs.Speak.{after}
use Rattle.trellis.specs.Words.{turn_after}
use Rattle.wei.specs.Symbol.{Symbol, first_label}
use Rattle.nearest.specs.declared.Received.{Received}
use Rattle.machine.specs.declared.Core.{Core}
use Rattle.machine.specs.declared.Receiver.{Receiver}
use Rattle.lists.proofs.UpTo.{and_both, up-to-all, all-up-to}
use Rattle.select.specs.Select.{limit}
use Rattle.picks.specs.Picks.{symbol_by}
use Rattle.machine.specs.Machine.{new_sums, sound_core, sound, pending_at, way_from, kept_of, agreed_of, released_of, grown}
use Rattle.machine.specs.Parts.{CoreFits, SumsFit, Ready}
use Rattle.machine.proofs.Bounds.{lowered-most}

-- ---- what the test says
core-facts : (c : Core) → sound_core c ≡ true → CoreFits c
unfolding sound_core
core-facts c e =
    let (e₀, r₀) = and_both (is_accord c.accord) _ e in
    let (e₁, r₁) = and_both (leb 1 c.window) _ r₀ in
    let (e₂, r₂) = and_both (leb c.window 64) _ r₁ in
    let (e₃, r₃) = and_both (leb c.turn 4) _ r₂ in
    let (e₄, e₅) = and_both (ltb c.slot 64) _ r₃ in
    record {
      agreed = e₀;
      some-window = leb-true 1 c.window e₁;
      small-window = leb-true c.window 64 e₂;
      turn_below = leb-true c.turn 4 e₃;
      slot-below = ltb-true c.slot 64 e₄;
      held = leb-true c.pending c.window e₅;
    }

sums-fact : (rx : Receiver) → sound rx ≡ true → SumsFit rx.sums
unfolding sound
sums-fact rx e = up-to-all limit rx.sums (and_both (sound_core rx.core) _ (and_both rx.live _ e).1).1

pub sound-live : (rx : Receiver) → sound rx ≡ true → rx.live ≡ true
unfolding sound
sound-live rx e = (and_both rx.live _ e).0

pub sound-core : (rx : Receiver) → sound rx ≡ true → CoreFits rx.core
unfolding sound
sound-core rx e = core-facts rx.core (and_both (sound_core rx.core) _ (and_both rx.live _ e).1).0

pub sound-ready : (rx : Receiver) → sound rx ≡ true → Ready rx.core rx.sums
sound-ready rx e = record { core-fits = sound-core rx e; sums-fit = sums-fact rx e }

-- ---- the turn after what is released
abbrev Turned : Symbol → Type 0
Turned c = first_label c < 4

map_turned : (f : ℕ → Symbol) → ((j : ℕ) → Turned (f j)) → (l : List ℕ) → Every Turned (map f l)
map_turned f h [] = tt
map_turned f h (j ∷ l) = (h j, map_turned f h l)

way-turned : (c : Core) (registers picks : List ℕ) (s : ℕ) → Every Turned (way_from c registers picks s)
unfolding way_from symbol_by
way-turned c registers picks s = map_turned (pending_at c registers picks s) (λ j. omega arith) (range 0 c.pending)

turned-after : (q n : ℕ) (l : List Symbol) → q ≤ 4 → Every Turned l → after turn_after q (take n l) ≤ 4
unfolding after
turned-after q zero l h v = h
turned-after q (suc n) [] h v = h
turned-after q (suc n) (c ∷ l) h v = turned-after (first_label c) n l (omega (arith, v.0)) v.1

released-turned : (rx : Receiver) (y : Two Received) → rx.core.turn ≤ 4 → after turn_after rx.core.turn (released_of rx y) ≤ 4
unfolding released_of
released-turned rx y h = turned-after rx.core.turn (agreed_of rx y) _ h (way-turned rx.core rx.registers rx.picks _)

-- ---- one symbol more
pub sound-from : (rx : Receiver) → rx.live ≡ true → CoreFits rx.core → SumsFit rx.sums → sound rx ≡ true
unfolding sound sound_core
sound-from rx l c s =
    rw (
      l,
      c.agreed,
      le-leb 1 rx.core.window c.some-window,
      le-leb rx.core.window 64 c.small-window,
      le-leb rx.core.turn 4 c.turn_below,
      lt-ltb rx.core.slot 64 c.slot-below,
      le-leb rx.core.pending rx.core.window c.held,
    )
    (all-up-to limit rx.sums s)

pub grown-sound : (rx : Receiver) (y : Two Received) → sound rx ≡ true → kept_of rx y ≤ rx.core.window → sound (grown rx y) ≡ true
unfolding grown
grown-sound rx y e h =
    let c = sound-core rx e in
    sound-from (grown rx y) (sound-live rx e)
    (record {
      agreed = c.agreed;
      some-window = c.some-window;
      small-window = c.small-window;
      turn_below = released-turned rx y c.turn_below;
      slot-below = omega arith;
      held = h;
    })
    (lowered-most (new_sums rx y))
