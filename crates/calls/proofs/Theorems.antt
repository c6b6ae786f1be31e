-- What holds of every list of calls after an opening, whichever of them refuse. First with the heard symbols as they are kept,
-- newest first; then in the order of time, over the symbols that the calls took.
--   stays    what is spoken of some symbols begins what is spoken of these symbols followed by any others
--   begins   and it begins the answer for them
--   exact    while the line is open, the words written are exactly those that are final for the symbols taken
--   final    they begin the answer for the symbols taken, and for those followed by any symbols whatever
--   whole    joined with those of a finish that succeeds, they are the answer for the symbols taken, whole
--   closed   a closed line takes nothing and writes nothing
use mathlib.Core.Path.{◌≡◌, refl, sym, ap, subst, ◌∙◌}
use mathlib.Core.Bool.{Bool, true, false}
use mathlib.Core.List.{List, [], ◌∷◌, ◌++◌, reverse, reverse-append, reverse-reverse, IsPrefix}
use Rattle.calls.specs.Calls.{Speaker, Speaks, Judge, Call, idle, calls, run, Owed}
use Rattle.calls.proofs.Prefixes.{prefix-self, prefix_trans}
use Rattle.calls.proofs.Steps.{calls-heard, calls-said}

-- ── whatever the calls ──
module _ (S : Speaker) (L : Speaks S) where
  open S use {Y, W, spoken, answered}

  pub stays : (zs ys : List Y) → IsPrefix (spoken ys) (spoken (zs ++ ys))
  stays [] ys = prefix-self (spoken ys)
  stays (z ∷ zs) ys = prefix_trans (spoken ys) (spoken (zs ++ ys)) (spoken (z ∷ (zs ++ ys))) (stays zs ys) (L.grows (zs ++ ys) z)

  pub begins : (zs ys : List Y) → IsPrefix (spoken ys) (answered (zs ++ ys))
  begins zs ys = prefix_trans (spoken ys) (spoken (zs ++ ys)) (answered (zs ++ ys)) (stays zs ys) (L.within (zs ++ ys))

  pub begins-in-time : (xs zs : List Y) → IsPrefix (spoken (reverse xs)) (answered (reverse (xs ++ zs)))
  begins-in-time xs zs = subst (λ (ys : List Y). IsPrefix (spoken (reverse xs)) (answered ys)) (sym (reverse-append xs zs)) (begins (reverse zs) (reverse xs))

module _ (S : Speaker) (J : Judge S) where
  open S use {Y}

  pub closed : (ys : List Y) (ks : List (Call S)) → calls S J (record { heard = ys; is_open = false }) ks ≡ idle S (record { heard = ys; is_open = false })
  unfolding calls
  closed ys [] = refl
  closed ys (k ∷ ks) = rw (closed ys ks)

-- ── any list of calls ──
module _ (S : Speaker) (L : Speaks S) (J : Judge S) (ks : List (Call S)) where
  open S use {Y, W, spoken, answered}

  owed : (b : Bool) → (run S J ks).line.is_open ≡ b → Owed S (run S J ks).line.heard b (run S J ks).said
  owed b e =
      subst (λ (c : Bool). Owed S (run S J ks).line.heard c (run S J ks).said) e
      (calls-said S L J (record { heard = []; is_open = true }) ks [] (sym L.starts))

  -- newest first
  pub exact : (run S J ks).line.is_open ≡ true → (run S J ks).said ≡ spoken (run S J ks).line.heard
  exact e = owed true e

  pub final : (run S J ks).line.is_open ≡ true → (zs : List Y) → IsPrefix (run S J ks).said (answered (zs ++ (run S J ks).line.heard))
  final e zs =
      let h = (run S J ks).line.heard in
      subst (λ (ws : List W). IsPrefix ws (answered (zs ++ h))) (sym (exact e)) (begins S L zs h)

  pub whole : (run S J ks).line.is_open ≡ false → (run S J ks).said ≡ answered (run S J ks).line.heard
  whole e = owed false e

  -- in the order of time
  pub heard-in-time : (run S J ks).line.heard ≡ reverse (run S J ks).took
  heard-in-time = sym (reverse-reverse (run S J ks).line.heard) ∙ ap reverse (calls-heard S J (record { heard = []; is_open = true }) ks)

  pub exact-in-time : (run S J ks).line.is_open ≡ true → (run S J ks).said ≡ spoken (reverse (run S J ks).took)
  exact-in-time e = exact e ∙ ap spoken heard-in-time

  pub final-in-time : (run S J ks).line.is_open ≡ true → (zs : List Y) → IsPrefix (run S J ks).said (answered (reverse ((run S J ks).took ++ zs)))
  final-in-time e zs =
      let t = (run S J ks).took in
      subst (λ (ws : List W). IsPrefix ws (answered (reverse (t ++ zs)))) (sym (exact-in-time e)) (begins-in-time S L t zs)

  pub whole-in-time : (run S J ks).line.is_open ≡ false → (run S J ks).said ≡ answered (reverse (run S J ks).took)
  whole-in-time e = whole e ∙ ap answered heard-in-time
