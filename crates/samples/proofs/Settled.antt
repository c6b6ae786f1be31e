-- The contracts of `hear_coordinate`, `hear_sample` and `hear_sampled` allow one result each, since the definitions that give 01's numbers and values
-- tell all cases of the answers apart: from what is given the answer can be read back. It leans on specs/Given.antt alone.
--   coordinate-is, sample-is             an answer, from what it gives
--   coordinate-apart, sample-apart       answers that give the same are equal
--   coordinate-settled, sample-settled, sampled-settled   any two answers that a contract allows are equal
use mathlib.Core.Path.{◌≡◌, refl, sym, ap, ◌∙◌}
use mathlib.Core.Bool.{cond}
use mathlib.Core.Option.{get_or}
use lib.Dec.{eqb}
use lib.Ieee.{Float}
use lib.IntN.{ℤ}
use Rattle.std.specs.Prelude.{Option, Some, None, Result, Ok, Err}
use Rattle.samples.specs.declared.Heard.{Heard}
use Rattle.samples.specs.declared.Fault.{Fault}
use Rattle.samples.specs.declared.Fault.TheVariants as fault
use Rattle.samples.specs.Given.{GivenCoordinate, GivenSample, coordinate_given, sample_given}
use Rattle.samples.specs.Heard.{heard_coordinate, heard_sample}
use Rattle.samples.specs.declared.Sampled.{Sampled}
use Rattle.samples.specs.Sampled.{GivenSampled, heard_sampled, marked_given}

abbrev pub coordinate_of : GivenCoordinate → Option ℤ
coordinate_of g = cond (eqb g.number 0) (Some g.value) None

abbrev pub fault_of : GivenSample → Fault
fault_of g = cond (eqb (get_or g.place 0) 0) fault.X fault.Y

abbrev pub pair_of : GivenSample → Result Heard Fault
pair_of g = cond (eqb g.number 0) (Ok (record { x = g.x; y = g.y })) (Err (fault_of g))

pub coordinate-is : (r : Option ℤ) → r ≡ coordinate_of (coordinate_given r)
coordinate-is (Some z) = refl
coordinate-is None = refl

pub sample-is : (r : Result Heard Fault) → r ≡ pair_of (sample_given r)
sample-is (Ok h) = refl
sample-is (Err fault.X) = refl
sample-is (Err fault.Y) = refl

pub coordinate-apart : (r s : Option ℤ) → coordinate_given r ≡ coordinate_given s → r ≡ s
coordinate-apart r s e = coordinate-is r ∙ ap coordinate_of e ∙ sym (coordinate-is s)

pub sample-apart : (r s : Result Heard Fault) → sample_given r ≡ sample_given s → r ≡ s
sample-apart r s e = sample-is r ∙ ap pair_of e ∙ sym (sample-is s)

pub coordinate-settled : (v : Float) (r s : Option ℤ) → coordinate_given r ≡ heard_coordinate v → coordinate_given s ≡ heard_coordinate v → r ≡ s
coordinate-settled v r s p q = coordinate-apart r s (p ∙ sym q)

pub sample-settled : (x y : Float) (r s : Result Heard Fault) → sample_given r ≡ heard_sample x y → sample_given s ≡ heard_sample x y → r ≡ s
sample-settled x y r s p q = sample-apart r s (p ∙ sym q)

abbrev pub marked_of : GivenSampled → Result (Option Heard) Fault
marked_of g = cond g.missing (Ok None) (cond (eqb g.given.number 0) (Ok (Some (record { x = g.given.x; y = g.given.y }))) (Err (fault_of g.given)))

pub marked-is : (r : Result (Option Heard) Fault) → r ≡ marked_of (marked_given r)
marked-is (Ok (Some h)) = refl
marked-is (Ok None) = refl
marked-is (Err fault.X) = refl
marked-is (Err fault.Y) = refl

pub sampled-settled : (v : Sampled) (r s : Result (Option Heard) Fault) → marked_given r ≡ heard_sampled v → marked_given s ≡ heard_sampled v → r ≡ s
sampled-settled v r s p q = marked-is r ∙ ap marked_of (p ∙ sym q) ∙ sym (marked-is s)
