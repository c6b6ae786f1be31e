-- The range test, by two signed comparisons.
use mathlib.Core.Path.{◌≡◌, refl, sym, subst, ◌∙◌}
use mathlib.Core.Bool.{true, false}
use lib.Dec.{T, leb-suc-suc}
use lib.IntN.{ℤ, pos, negsuc}
use lib.Signed.{le_z}
use Rattle.nearest.specs.Line.{is_coordinate}

-- -8192 ≤ z and z ≤ 8192
pub upper : (z : ℤ) → le_z (negsuc 8191) z ≡ true → le_z z (pos 8192) ≡ is_coordinate z
upper (pos n) e = refl
upper (negsuc n) e = sym (leb-suc-suc n 8191 ∙ e)

pub lower : (z : ℤ) → le_z (negsuc 8191) z ≡ false → le_z (negsuc 8191) z ≡ is_coordinate z
lower (pos n) e = absurd (subst T e tt)
lower (negsuc n) e = sym (leb-suc-suc n 8191)
