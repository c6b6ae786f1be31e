-- `nearest_keys`: four least keys, by the counts of the received point and those on the other side.
use Rattle.std.proofs.Common.{ℕ, ◌-◌, ◌≤◌, ◌≡◌, false, sym, ap, subst, ◌∙◌, arith}
use lib.IntN.{ℤ, nat_abs}
use mir.Syntax.{w32}
use mir.Val.{to_z, of_z}
use Rattle.points.proofs.Signed.{reads}
use Rattle.round_places.specs.Places.{Wide}
use Rattle.round_columns.specs.Cells.{count_of, Counted, Outside, Near, are_near}
use Rattle.round_columns.proofs.Counts.{count-in}
use Rattle.round_columns.proofs.Nearness.{near-not, near_again, away-out, keys-are}
use Rattle.round_columns.proofs.nearest_keys.Goals as goal

-- a count, and that on the other side
count-is : (z : ℤ) (p : ℕ) → nat_abs z ≤ 8192 → p ≡ count_of (to_z w32 (of_z w32 z)) → p ≡ count_of z
count-is z p h e = e ∙ ap count_of (reads w32 z (omega arith))

counted-in : (z : ℤ) (p : ℕ) → nat_abs z ≤ 8192 → p ≡ count_of (to_z w32 (of_z w32 z)) → Counted p
counted-in z p h e = subst Counted (sym (count-is z p h e)) (count-in z h)

other : (p : ℕ) → Counted p → Counted (24320 - p)
other p h = record { low = omega (arith, h.high); high = omega (arith, h.low) }

-- where one is not near, the longer side reaches the rim whatever the turn
module _ (u p q : ℕ) (wide : Wide u) (a : Counted p) (b : Counted q) (e : are_near p q ≡ false) where
  away : Near p → Near q → ⊥
  away = near-not p q e

  out-a : Outside u p q
  out-a = away-out u p q wide a b away

  out-c : Outside u (24320 - q) p
  out-c = away-out u (24320 - q) p wide (other q b) a (λ n m. away m (near_again q b n))

  out-b : Outside u (24320 - p) (24320 - q)
  out-b = away-out u (24320 - p) (24320 - q) wide (other p a) (other q b) (λ n m. away (near_again p a n) (near_again q b m))

  out-d : Outside u q (24320 - p)
  out-d = away-out u q (24320 - p) wide b (other p a) (λ n m. away (near_again p a m) n)

pub returns-then-are_near : goal.returns-then-are_near
returns-then-are_near c =
    let r = c.requires in
    keys-are c.args.u c.args.x c.args.y c.counted-px.result c.counted-py.result c.near_key.result c.near_key-then-are_near.result c.near_key-then-are_near-2.result c.near_key-then-are_near-3.result
    r.1 r.2 r.3 (count-is c.args.x c.counted-px.result r.2 c.counted-px.ensures) (count-is c.args.y c.counted-py.result r.3 c.counted-py.ensures)
    c.near_key.ensures c.near_key-then-are_near.ensures c.near_key-then-are_near-2.ensures c.near_key-then-are_near-3.ensures

pub outer-requires : goal.outer-requires
outer-requires c =
    let r = c.requires in
    let p = counted-in c.args.x c.counted-px.result r.2 c.counted-px.ensures in
    let q = counted-in c.args.y c.counted-py.result r.3 c.counted-py.ensures in
    (r.0, r.1, p, q, out-a c.args.u c.counted-px.result c.counted-py.result r.1 p q (sym c.are_near.ensures ∙ c.if-are_near.false))

pub outer-requires-2 : goal.outer-requires-2
outer-requires-2 c =
    let r = c.requires in
    let p = counted-in c.args.x c.counted-px.result r.2 c.counted-px.ensures in
    let q = counted-in c.args.y c.counted-py.result r.3 c.counted-py.ensures in
    (r.0, r.1, other c.counted-py.result q, p, out-c c.args.u c.counted-px.result c.counted-py.result r.1 p q (sym c.are_near.ensures ∙ c.if-are_near.false))

pub outer-requires-3 : goal.outer-requires-3
outer-requires-3 c =
    let r = c.requires in
    let p = counted-in c.args.x c.counted-px.result r.2 c.counted-px.ensures in
    let q = counted-in c.args.y c.counted-py.result r.3 c.counted-py.ensures in
    (r.0, r.1, other c.counted-px.result p, other c.counted-py.result q, out-b c.args.u c.counted-px.result c.counted-py.result r.1 p q (sym c.are_near.ensures ∙ c.if-are_near.false))

pub outer-requires-4 : goal.outer-requires-4
outer-requires-4 c =
    let r = c.requires in
    let p = counted-in c.args.x c.counted-px.result r.2 c.counted-px.ensures in
    let q = counted-in c.args.y c.counted-py.result r.3 c.counted-py.ensures in
    (r.0, r.1, q, other c.counted-px.result p, out-d c.args.u c.counted-px.result c.counted-py.result r.1 p q (sym c.are_near.ensures ∙ c.if-are_near.false))

pub returns : goal.returns
returns c =
    let r = c.requires in
    keys-are c.args.u c.args.x c.args.y c.counted-px.result c.counted-py.result c.outer.result c.outer-2.result c.outer-3.result c.outer-4.result
    r.1 r.2 r.3 (count-is c.args.x c.counted-px.result r.2 c.counted-px.ensures) (count-is c.args.y c.counted-py.result r.3 c.counted-py.ensures)
    c.outer.ensures c.outer-2.ensures c.outer-3.ensures c.outer-4.ensures
