-- `near_point`: the lent table is the specification's, and its coordinates are small.
use mathlib.Core.Path.{◌≡◌, sym, ap, ap₂, subst, ◌∙◌}
use mathlib.Core.List.{List}
use Prim.Native.Nat.{ℕ, ◌≤◌, ◌<◌}
use native.Mathlib.Omega.{arith}
use lib.IntN.{ℤ, pos, nat_abs, ◌-ℤ◌}
use lib.ListN.{get_or}
use mir.Syntax.{w32}
use mir.Val.{to_z, of_z}
use Rattle.points.specs.Points.{a_point}
use Rattle.points.proofs.Signed.{reads}
use Rattle.points.proofs.Rule.{small}
use Rattle.round_places.specs.Places.{listed}
use Rattle.round_places.proofs.Rule.{near-x, near-y}
use Rattle.round_places.proofs.near_point.Goals as goal

-- an entry of the lent table
small-in : (l : List ℕ) (k : ℕ) → l ≡ listed → get_or listed k 0 < 128 → get_or l k 0 < 128
small-in l k e h = subst (λ (l : List ℕ). get_or l k 0 < 128) (sym e) h

-- and what is made of it
value : (l : List ℕ) (k : ℕ) (z c : ℤ) → l ≡ listed → z ≡ pos (get_or l k 0) -ℤ pos 95 → pos (get_or listed k 0) -ℤ pos 95 ≡ c →
    nat_abs c ≤ 39 → to_z w32 (of_z w32 z) ≡ c
value l k z c e f g h =
    let i : z ≡ c = f ∙ ap (λ (l : List ℕ). pos (get_or l k 0) -ℤ pos 95) e ∙ g in
    ap (λ (z : ℤ). to_z w32 (of_z w32 z)) i ∙ reads w32 c (omega arith)

pub uncounted-requires : goal.uncounted-requires
uncounted-requires c = small-in c.args.t.now _ c.requires.0 (near-x c.args.w c.requires.1).1

pub uncounted-requires-2 : goal.uncounted-requires-2
uncounted-requires-2 c = small-in c.args.t.now _ c.requires.0 (near-y c.args.w c.requires.1).1

pub returns : goal.returns
returns c =
    let w = c.args.w in
    let l = small w (omega (arith, c.requires.1)) in
    let x = c.uncounted in
    let y = c.uncounted-2 in
    let a = value c.args.t.now _ x.result (a_point w).x c.requires.0 x.ensures (near-x w c.requires.1).0 l.x-small in
    let b = value c.args.t.now _ y.result (a_point w).y c.requires.0 y.ensures (near-y w c.requires.1).0 l.y-small in
    ap₂ (λ (a b : ℤ). record { x = a; y = b }) a b
