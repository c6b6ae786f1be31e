-- `near_key`: the nearest place's number shows a point of the width, or the longer side reaches the rim.
use Rattle.std.proofs.Common.{ℕ, ◌+◌, ◌-◌, ◌*◌, ◌%◌, ◌^◌, ◌≤◌, ◌<◌, ◌≡◌, ap, ap₂, ◌∙◌, get_or, arith}
use native.Mathlib.Nat.{one-mul}
use lib.Pow.{shl_exact}
use Rattle.round_places.specs.Places.{listed, Wide}
use Rattle.round_columns.specs.Cells.{apart_of, place_of, near_number, Near}
use Rattle.round_columns.proofs.Shown.{near-counted, read_is, shown-least, hidden-out}
use Rattle.round_columns.proofs.near_key.Goals as goal

-- 1 << u
shifted : (u : ℕ) → u ≤ 8 → 1 * 2 ^ u % 2 ^ 32 ≡ 2 ^ u
shifted u h = shl_exact {a = 1} 1 u 32 (omega arith) (omega arith) ∙ one-mul (2 ^ u)

-- what is read
read : (u x y m e n : ℕ) → Wide u → Near x → Near y → m ≡ place_of x → e ≡ place_of y → n ≡ get_or listed (m * 19 + e - 300) 0 → n ≡ near_number x y
read u x y m e n h a b f g is = read_is u x y h a b n (is ∙ ap₂ (λ (a b : ℕ). get_or listed (a * 19 + b - 300) 0) f g)

pub returns-then-w-u : goal.returns-then-w-u
returns-then-w-u c =
    let u = c.args.u in
    let x = c.args.x in
    let y = c.args.y in
    let r = c.requires in
    let a = c.abs_diff-a in
    let b = c.abs_diff-b in
    let n = read u x y c.placed-m.result c.placed-e.result c.number-w.result r.1 r.2 r.3 c.placed-m.ensures c.placed-e.ensures c.number-w.ensures in
    let h : near_number x y + 2 < 2 ^ u = omega (arith, c.if-w-u.true, n, shifted u r.1.high) in
    shown-least u x y r.1 r.2 r.3 h a.result b.result (a.result * a.result + b.result * b.result + c.number-w.result)
    (a.ensures ∙ ap (λ (m : ℕ). apart_of x (512 * m)) c.placed-m.ensures)
    (b.ensures ∙ ap (λ (m : ℕ). apart_of y (512 * m)) c.placed-e.ensures)
    (ap (λ (w : ℕ). a.result * a.result + b.result * b.result + w) n)

pub outer-requires : goal.outer-requires
outer-requires c =
    let u = c.args.u in
    let x = c.args.x in
    let y = c.args.y in
    let r = c.requires in
    let n = read u x y c.placed-m.result c.placed-e.result c.number-w.result r.1 r.2 r.3 c.placed-m.ensures c.placed-e.ensures c.number-w.ensures in
    let h : 2 ^ u ≤ near_number x y + 2 = omega (arith, c.if-w-u.false, n, shifted u r.1.high) in
    (r.0, r.1, near-counted x r.2, near-counted y r.3, hidden-out u x y r.1 r.2 r.3 h)
