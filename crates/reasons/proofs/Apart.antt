-- The number and the place tell the reasons apart, so a promise that fixes them fixes the reason.
--   given-one    two reasons with one number and one place are one
--   done-given   only one reason has the number 0
--   refused-err  a call that is refused is not done
--   err-done, err-refused   the code asks whether it is an Err, the promises whether the number is 0
--   never-seven  none has the number 7 (02, Wish 6)
use mathlib.Core.Path.{◌≡◌, refl, sym, ap, ◌∙◌}
use mathlib.Core.Bool.{Bool, true, false, cond, not}
use native.Mathlib.Omega.{arith}
use lib.Dec.{eqb}
use borrow.Author.Tests.{eqb-true}
use Rattle.std.specs.Prelude.{Result, Ok, Err, ⊤, is_err}
use Rattle.reasons.specs.declared.Why.{Why}
use Rattle.reasons.specs.declared.Why.TheVariants.{BadWidth, BadWindow, BadStart, BadSample, Full, NoRoom, Closed, Uneven}
use Rattle.reasons.specs.Reason.{Reason, reason, given_of, is_done}

why_of : Reason → Result ⊤ Why
why_of r =
    cond (eqb r.number 0) (Ok tt) (cond (eqb r.number 1) (Err BadWidth) (cond (eqb r.number 2) (Err BadWindow) (cond (eqb r.number 3) (Err BadStart)
    (cond (eqb r.number 5) (Err (BadSample r.place)) (cond (eqb r.number 6) (Err Full) (cond (eqb r.number 8) (Err NoRoom) (cond (eqb r.number 9) (Err Closed) (Err Uneven))))))))

back : (w : Result ⊤ Why) → why_of (given_of w) ≡ w
unfolding why_of
back (Ok x) = refl
back (Err BadWidth) = refl
back (Err BadWindow) = refl
back (Err BadStart) = refl
back (Err (BadSample p)) = refl
back (Err Full) = refl
back (Err NoRoom) = refl
back (Err Closed) = refl
back (Err Uneven) = refl

pub given-one : (v w : Result ⊤ Why) → given_of v ≡ given_of w → v ≡ w
given-one v w e = sym (back v) ∙ ap why_of e ∙ back w

-- a call that stops at a refusal takes nothing else for done
pub done-given : (w : Result ⊤ Why) → is_done w ≡ true → given_of w ≡ reason 0
unfolding why_of
done-given w e = let d : why_of (given_of w) ≡ Ok tt = rw (eqb-true (given_of w).number 0 e) in ap given_of (sym (back w) ∙ d)

done-err : (w : Result ⊤ Why) → is_done w ≡ not (is_err w)
done-err (Ok x) = refl
done-err (Err BadWidth) = refl
done-err (Err BadWindow) = refl
done-err (Err BadStart) = refl
done-err (Err (BadSample p)) = refl
done-err (Err Full) = refl
done-err (Err NoRoom) = refl
done-err (Err Closed) = refl
done-err (Err Uneven) = refl

pub refused-err : (w : Why) → is_done (Err w) ≡ false
refused-err w = done-err (Err w)

pub err-done : (w : Result ⊤ Why) (b : Bool) → b ≡ is_err w → b ≡ false → is_done w ≡ true
err-done w b e f = done-err w ∙ ap not (sym e ∙ f)

pub err-refused : (w : Result ⊤ Why) (b : Bool) → b ≡ is_err w → b ≡ true → is_done w ≡ false
err-refused w b e t = done-err w ∙ ap not (sym e ∙ t)

pub never-seven : (w : Result ⊤ Why) → (given_of w).number ≡ 7 → ⊥
never-seven (Ok x) e = omega arith
never-seven (Err BadWidth) e = omega arith
never-seven (Err BadWindow) e = omega arith
never-seven (Err BadStart) e = omega arith
never-seven (Err (BadSample p)) e = omega arith
never-seven (Err Full) e = omega arith
never-seven (Err NoRoom) e = omega arith
never-seven (Err Closed) e = omega arith
never-seven (Err Uneven) e = omega arith
