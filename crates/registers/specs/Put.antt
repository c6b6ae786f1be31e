-- Words put in their places, one by one.
--   put_below b f registers n   word b of each state s below n is f s
--   put_word b f registers      of all sixteen
use Rattle.std.specs.Prelude.{ℕ, ◌/◌, ◌%◌, cond, ◌&&◌, List, eqb, ltb, get_or}
use Rattle.lists.specs.Tabled.{tabled}

abbrev pub place_put : ℕ → (ℕ → ℕ) → List ℕ → ℕ → ℕ → ℕ
place_put b f registers n i = cond (eqb (i / 16) b && ltb (i % 16) n) (f (i % 16)) (get_or registers i 0)

-- those of the states below n
unfoldable pub put_below : ℕ → (ℕ → ℕ) → List ℕ → ℕ → List ℕ
put_below b f registers n = tabled (place_put b f registers n) 48

abbrev pub put_word : ℕ → (ℕ → ℕ) → List ℕ → List ℕ
put_word b f registers = put_below b f registers 16
