-- `make`: each callee is given numbers in range, and the results are the symbol's labels, points and next state.
use Rattle.std.proofs.Common.{◌%◌, ℕ}
use mathlib.Core.Path.{ap, ◌∙◌}
use native.Mathlib.Omega.{arith}
use lib.Bits.{and_mask, mask_lt}
use Rattle.maps.specs.PointMap.{point_at, first_at, second_at}
use Rattle.wei.specs.declared.word.Parts.{Parts}
use Rattle.wei.specs.State.{next_state}
use Rattle.wei.specs.Label.{turn_on, second_label}
use Rattle.wei.specs.Symbol.{last_label, symbol_of}
use Rattle.word_symbol.proofs.Parts.{parts_in, turn_is}
use Rattle.word_symbol.proofs.make.Goals as goal

pub turn_on-turn-requires : goal.turn_on-turn-requires
turn_on-turn-requires c = let p = parts_in c.args.k.u _ _ c.unpack-p.ensures in (c.requires.3, p.i2-below, p.i3-below)

pub labels-l-requires : goal.labels-l-requires
labels-l-requires c =
    let p = parts_in c.args.k.u _ _ c.unpack-p.ensures in
    (omega (arith, c.turn_on-turn.ensures), mask_lt c.args.state 1, p.i1-below)

pub next-requires : goal.next-requires
next-requires c =
    let p = parts_in c.args.k.u _ _ c.unpack-p.ensures in
    (c.requires.2, p.i1-below, omega (arith, p.i2-below, mask_lt c.turn_on-turn.result 1))

pub returns : goal.returns
unfolding symbol_of first_at second_at last_label
returns c =
    let a = c.args in
    let p = c.unpack-p.ensures in
    let r = c.turn_on-turn.ensures ∙ ap (λ (v : Parts). turn_on a.turn v.i2 v.i3) p in
    let q = r ∙ turn_is a.k.u a.state a.turn a.word in
    let e = c.labels-l.ensures in
    let made = symbol_of a.k.u a.state a.turn a.word in
    let f = c.point_on.ensures ∙ (λ i. point_at a.k (e i).first (p i).w1) ∙ ap (λ (n : ℕ). point_at a.k n made.w1) q in
    let g =
    c.point_on-2.ensures ∙ (λ i. point_at a.k (e i).second (p i).w2)
    ∙ (λ i. point_at a.k (second_label (q i) (and_mask a.state 1 i) (p i).i1) made.w2) in
    let low = and_mask c.turn_on-turn.result 1 ∙ ap (λ (n : ℕ). n % 2) r in
    let h = c.next.ensures ∙ (λ i. next_state a.state (p i).i1 (low i)) in
    λ i. record { turn = q i; state = h i; first = f i; second = g i }
