-- Three lists beside one another, one for one: what was heard, the answer's symbols, the symbols sent. Lists are in the order of time.
--   Beside R xs cs ds   R holds at each place
--   beside_snoc         one more at the end; along-snoc, of two lists
--   beside-with         and what holds along the first two lists besides
use mathlib.Core.List.{List, [], ◌∷◌, ◌++◌}
use Rattle.trellis.specs.Along.{Along}

abbrev pub Beside : {A B C : Type 0} → (A → B → C → Type 0) → List A → List B → List C → Type 0
Beside R [] [] [] = Unit {0}
Beside R [] [] (d ∷ ds) = ⊥
Beside R [] (c ∷ cs) ds = ⊥
Beside R (x ∷ xs) [] ds = ⊥
Beside R (x ∷ xs) (c ∷ cs) [] = ⊥
Beside R (x ∷ xs) (c ∷ cs) (d ∷ ds) = R x c d × Beside R xs cs ds

module _ {A B : Type 0} (R : A → B → Type 0) where
  pub along-snoc : (xs : List A) (cs : List B) (x : A) (c : B) → Along R xs cs → R x c → Along R (xs ++ (x ∷ [])) (cs ++ (c ∷ []))
  along-snoc [] [] x c h r = (r, tt)
  along-snoc [] (b ∷ cs) x c h r = absurd h
  along-snoc (a ∷ xs) [] x c h r = absurd h
  along-snoc (a ∷ xs) (b ∷ cs) x c h r = (h.0, along-snoc xs cs x c h.1 r)

module _ {A B C : Type 0} (R : A → B → C → Type 0) where
  pub beside_snoc : (xs : List A) (cs : List B) (ds : List C) (x : A) (c : B) (d : C) → Beside R xs cs ds → R x c d → Beside R (xs ++ (x ∷ [])) (cs ++ (c ∷ [])) (ds ++ (d ∷ []))
  beside_snoc [] [] [] x c d h r = (r, tt)
  beside_snoc [] [] (e ∷ ds) x c d h r = absurd h
  beside_snoc [] (b ∷ cs) ds x c d h r = absurd h
  beside_snoc (a ∷ xs) [] ds x c d h r = absurd h
  beside_snoc (a ∷ xs) (b ∷ cs) [] x c d h r = absurd h
  beside_snoc (a ∷ xs) (b ∷ cs) (e ∷ ds) x c d h r = (h.0, beside_snoc xs cs ds x c d h.1 r)

  pub beside-with : (Q : A → B → Type 0) (xs : List A) (cs : List B) (ds : List C) → Beside R xs cs ds → Along Q xs cs → Beside (λ x c d. R x c d × Q x c) xs cs ds
  beside-with Q [] [] [] h k = tt
  beside-with Q [] [] (d ∷ ds) h k = absurd h
  beside-with Q [] (c ∷ cs) ds h k = absurd h
  beside-with Q (x ∷ xs) [] ds h k = absurd h
  beside-with Q (x ∷ xs) (c ∷ cs) [] h k = absurd h
  beside-with Q (x ∷ xs) (c ∷ cs) (d ∷ ds) h k = ((h.0, k.0), beside-with Q xs cs ds h.1 k.1)
