-- `number_in`: a view's steps are those of the definition.
use Rattle.std.proofs.Common.{ℕ, ◌+◌, ◌-◌, ◌*◌, ap, ap₂, ◌∙◌, get_or}
use Rattle.round_places.specs.Places.{listed, number_at}
use Rattle.round_columns.proofs.number_in.Goals as goal

pub returns : goal.returns
unfolding number_at
returns c =
    let v = c.requires.1 in
    c.number.ensures
    ∙ ap (λ (k : ℕ). get_or listed k 0)
    (ap₂ (λ (a b : ℕ). 180 + a - b) (ap₂ (λ (a b : ℕ). a * c.args.m + b * c.args.e) v.ahead-is v.rise-is) (ap₂ (λ (a b : ℕ). a * c.args.m + b * c.args.e) v.back_is v.fall-is))
