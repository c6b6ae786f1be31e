-- `distance_from`: the two squares are those of the differences, and their sum fits.
use Prim.Native.Nat.{ℕ, ◌+◌}
use mathlib.Core.Path.{ap₂, ◌∙◌}
use native.Mathlib.Omega.{arith}
use Rattle.distance.specs.Distance.{distance}
use Rattle.round_search.proofs.Ints.{square_le, square-passed}
use Rattle.round_search.proofs.line.distance_from.Goals as goal

pub overflow_add-result : goal.overflow_add-result
overflow_add-result c =
    let h = c.args.h in
    let p = c.args.p in
    let r = c.requires in
    omega (
      arith,
      c.squared.ensures ∙ square-passed h.x p.x r.0.x-in r.1.x-small,
      c.squared-2.ensures ∙ square-passed h.y p.y r.0.y-in r.1.y-small,
      square_le h.x p.x r.0.x-in r.1.x-small,
      square_le h.y p.y r.0.y-in r.1.y-small,
    )

pub returns : goal.returns
unfolding distance
returns c =
    let h = c.args.h in
    let p = c.args.p in
    let r = c.requires in
    ap₂ (λ (m n : ℕ). m + n)
    (c.squared.ensures ∙ square-passed h.x p.x r.0.x-in r.1.x-small)
    (c.squared-2.ensures ∙ square-passed h.y p.y r.0.y-in r.1.y-small)
