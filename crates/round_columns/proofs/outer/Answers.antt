-- `outer`: what is seen has the rim that the loop goes through.
use Rattle.std.proofs.Common.{ℕ, ◌≡◌, ◌<◌, subst, arith}
use Rattle.round_places.specs.Places.{Wide}
use Rattle.round_columns.specs.declared.Side.{Side}
use Rattle.round_columns.specs.declared.View.{View}
use Rattle.round_columns.specs.Cells.{Counted, side_of, Sided, Seen, Viewed, Rimmed}
use Rattle.round_columns.proofs.Views.{side-in, seen-viewed}
use Rattle.round_columns.proofs.Searches.{first-rimmed, next-rimmed}
use Rattle.round_columns.proofs.Nearness.{outer-least}
use Rattle.round_columns.proofs.outer.Goals as goal

module _ (u x y : ℕ) (a b : Side) (s : View) (wide : Wide u) (p : Counted x) (q : Counted y) (f : (a ≡ side_of x) × Sided a) (g : (b ≡ side_of y) × Sided b) (h : Seen u a b s) where
  view : Seen u (side_of x) (side_of y) s
  view = subst (λ (a : Side). Seen u a (side_of y) s) f.0 (subst (λ (b : Side). Seen u a b s) g.0 h)

  viewed : Viewed s
  viewed = seen-viewed u (side_of x) (side_of y) s wide (side-in x p) (side-in y q) view

pub loop-i-init : goal.loop-i-init
loop-i-init c =
    let a = c.args in
    let v = viewed a.u a.x a.y _ _ c.seen-s.result c.requires.1 c.requires.2 c.requires.3 c.side_of.ensures c.side_of-2.ensures c.seen-s.ensures in
    first-rimmed c.seen-s.result v c.column-best.result c.column-best.ensures

pub loop-i-preserved : goal.loop-i-preserved
loop-i-preserved c =
    let a = c.args in
    let v = viewed a.u a.x a.y _ _ c.seen-s.result c.requires.1 c.requires.2 c.requires.3 c.side_of.ensures c.side_of-2.ensures c.seen-s.ensures in
    let h : c.loop-i.i < 4 = omega arith in
    next-rimmed c.seen-s.result v c.loop-i.i c.loop-i.best c.column.result c.min-best.result h c.loop-i.invariant c.column.ensures c.min-best.ensures

pub returns : goal.returns
returns c =
    let a = c.args in
    let w = view a.u a.x a.y _ _ c.seen-s.result c.requires.1 c.requires.2 c.requires.3 c.side_of.ensures c.side_of-2.ensures c.seen-s.ensures in
    let e : c.loop-i.i ≡ 4 = omega arith in
    let m = subst (λ (i : ℕ). Rimmed c.seen-s.result i c.loop-i.best) e c.loop-i.invariant in
    outer-least a.u a.x a.y c.requires.1 c.requires.2 c.requires.3 c.requires.4 c.seen-s.result w c.loop-i.best m
