-- A word gives back the map and the width that it was made of, and a number that is no map's names no line.
--   accord-back   the law
--   none_named    an opening with such a number is refused, and a state with it is not open
use Prim.Native.Nat.{ℕ, suc, ◌+◌, ◌*◌, ◌/◌, ◌%◌, ◌^◌, ◌<◌}
use mathlib.Core.Path.{◌≡◌, refl, ap₂}
use mathlib.Core.Bool.{false}
use native.Mathlib.Omega.{arith}
use Rattle.points.specs.declared.Map.{Map}
use Rattle.points.specs.declared.Map.TheVariants.{Round, Square}
use Rattle.points.specs.declared.Accord.{Accord}
use Rattle.points.specs.Agreed.{is_accord}
use Rattle.c_layout.specs.Accords.{accord_by, number_of, accord_word, accord_in}

word_back : (n : Map) (u : ℕ) → u < 2 ^ 32 → accord_by ((number_of n * 2 ^ 32 + u) / 2 ^ 32) ((number_of n * 2 ^ 32 + u) % 2 ^ 32) ≡ record { map = n; u = u }
word_back Round u h = ap₂ accord_by (let e : (0 * 2 ^ 32 + u) / 2 ^ 32 ≡ 0 = omega arith in e) (let e : (0 * 2 ^ 32 + u) % 2 ^ 32 ≡ u = omega arith in e)
word_back Square u h = ap₂ accord_by (let e : (1 * 2 ^ 32 + u) / 2 ^ 32 ≡ 1 = omega arith in e) (let e : (1 * 2 ^ 32 + u) % 2 ^ 32 ≡ u = omega arith in e)

pub accord-back : (k : Accord) → k.u < 2 ^ 32 → accord_in (accord_word k) ≡ k
unfolding accord_in accord_word
accord-back k h = word_back k.map k.u h

pub none_named : (m u : ℕ) → is_accord (accord_by (suc (suc m)) u) ≡ false
none_named m u = refl
