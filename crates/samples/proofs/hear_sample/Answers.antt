-- `hear_sample`: each way through the code knows which answer it has of each coordinate, and a number read out of an answer fits an `i32`.
use Rattle.std.proofs.Common.{◌≡◌, ℤ, Option, Some, None, Ok, Err, rules, refl, sym, ap, ◌∙◌}
use Rattle.std.specs.Option.{ok_or}
use Rattle.std.proofs.lemmas.Result.{err_from_is_err_and}
use mir.Syntax.{w32}
use mir.Val.{to_z, of_z}
use Rattle.samples.specs.declared.Fault.{Fault}
use Rattle.samples.specs.declared.Fault.TheVariants as fault
use Rattle.samples.specs.Given.{GivenCoordinate, both_done, coordinate_given, sample_given}
use Rattle.samples.specs.Heard.{both_or_fault, heard_coordinate, heard_sample}
use Rattle.samples.proofs.hear_sample.Goals as goal

-- of an answer r, whose None became the fault f: nothing was heard, or z was
refused-is : (r : Option ℤ) (f e : Fault) → ok_or r f ≡ Err e → (r ≡ None) × (e ≡ f)
refused-is None f e h = (refl, cc)
refused-is (Some z) f e h = cc

heard-is : (r : Option ℤ) (f : Fault) (z : ℤ) → ok_or r f ≡ Ok z → r ≡ Some z
heard-is None f z h = cc
heard-is (Some y) f z h = cc

-- what is given of an answer r that turned out to be k
known : {r k : Option ℤ} {g : GivenCoordinate} → r ≡ k → coordinate_given r ≡ g → coordinate_given k ≡ g
known e h = sym (ap coordinate_given e) ∙ h

pub returns-in_err-x : goal.returns-in_err-x
unfolding heard_sample
returns-in_err-x c =
    let p = err_from_is_err_and c.from_residual.result c.from_residual.ensures.1 in
    let n = refused-is c.hear_coordinate.result fault.X c.in_err-x.field-0.0 (sym c.ok_or.ensures.value ∙ c.in_err-x.was) in
    ap sample_given (p.1 ∙ ap Err (p.2 ∙ n.1)) ∙ ap (λ a. both_or_fault a (heard_coordinate c.args.s.y)) (known n.0 c.hear_coordinate.ensures)

pub returns-in_err-y : goal.returns-in_err-y
unfolding heard_sample
returns-in_err-y c =
    let p = err_from_is_err_and c.from_residual-in_err-y.result c.from_residual-in_err-y.ensures.1 in
    let x = known (heard-is c.hear_coordinate.result fault.X c.in_ok-x.x (sym c.ok_or.ensures.value ∙ c.in_ok-x.was)) c.hear_coordinate.ensures in
    let n = refused-is c.hear_coordinate-2.result fault.Y c.in_err-y.field-0.0 (sym c.ok_or-2.ensures.value ∙ c.in_err-y.was) in
    let y = known n.0 c.hear_coordinate-2.ensures in
    ap sample_given (p.1 ∙ ap Err (p.2 ∙ n.1)) ∙ (λ i. both_or_fault (x i) (y i))

pub returns : goal.returns
unfolding heard_sample
returns c =
    let x = known (heard-is c.hear_coordinate.result fault.X c.in_ok-x.x (sym c.ok_or.ensures.value ∙ c.in_ok-x.was)) c.hear_coordinate.ensures in
    let y = known (heard-is c.hear_coordinate-2.result fault.Y c.in_ok-y.y (sym c.ok_or-2.ensures.value ∙ c.in_ok-y.was)) c.hear_coordinate-2.ensures in
    let x-fits : to_z w32 (of_z w32 c.in_ok-x.x) ≡ c.in_ok-x.x = search rules in
    let y-fits : to_z w32 (of_z w32 c.in_ok-y.y) ≡ c.in_ok-y.y = search rules in
    (λ i. both_done (x-fits i) (y-fits i)) ∙ (λ i. both_or_fault (x i) (y i))
