-- The loops of `form` and `next`: what is left of them after one turn more.
use mathlib.Core.Path.{◌≡◌, sym}
use mathlib.Core.Bool.{Bool, true}
use mathlib.Core.List.{List}
use Prim.Native.Nat.{ℕ, suc, ◌+◌}
use native.Mathlib.Omega.{arith}
use Rattle.compare.specs.declared.Formed.{Formed}
use Rattle.compare.specs.declared.Pass.{Pass}
use Rattle.compare.specs.Passing.{is_record, is_same, form_step, form_from, pair_step, pass_from}

pub form-goes : (goal f g : Formed) (bs : List ℕ) (ends : Bool) (left rest : ℕ) → left ≡ rest + 1 → g ≡ form_step f bs ends → is_record g.sign ≡ true
    → goal ≡ form_from left f bs ends → goal ≡ form_from rest g bs ends
form-goes goal f g bs ends left rest n e s i = let m : left ≡ suc rest = omega arith in rw (i, m, sym e, s)

pub pass-goes : (goal p r : Pass) (xs ys : List ℕ) (ends closes : Bool) (left rest : ℕ) → left ≡ rest + 1 → r ≡ pair_step p xs ys ends closes → is_same r.event ≡ true
    → goal ≡ pass_from left p xs ys ends closes → goal ≡ pass_from rest r xs ys ends closes
pass-goes goal p r xs ys ends closes left rest n e s i = let m : left ≡ suc rest = omega arith in rw (i, m, sym e, s)
