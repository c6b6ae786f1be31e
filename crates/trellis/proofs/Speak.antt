-- The words: as many as symbols; those that are final only grow and begin the words of every later answer; what a symbol or the
-- finish writes are the words of the symbols that it releases, said from what is carried.
use mathlib.Core.Path.{◌≡◌, refl, sym, ap, subst, ◌∙◌}
use mathlib.Core.List.{List, [], ◌∷◌, ◌++◌, IsPrefix}
use Prim.Native.Nat.{suc}
use lib.ListN.{length, drop}
use lib.Seq.{drop_at}
use Rattle.trellis.specs.Code.{Code, Path, symbols, Onward}
use Rattle.trellis.specs.Best.{Surv, Answer}
use Rattle.trellis.specs.Search.{Search, Laws}
use Rattle.trellis.specs.Common.{common, reach}
use Rattle.trellis.specs.Speak.{speak, after, symbols_in, spoken, carried, answered}
use Rattle.trellis.proofs.Answer.{answer-found}
use Rattle.trellis.proofs.Final.{common-final}
use Rattle.trellis.proofs.Common.{common-common, common-grows}
use Rattle.trellis.proofs.Onward.{some-reached, some-answer}

module _ {B C : Type 0} (on : B → C → B) where
  after-append : (b : B) (l m : List C) → after on b (l ++ m) ≡ after on (after on b l) m
  unfolding after
  after-append b [] m = refl
  after-append b (c ∷ l) m = after-append (on b c) l m

  module _ {W : Type 0} (say : B → C → W) where
    pub speak-length : (b : B) (cs : List C) → length (speak say on b cs) ≡ length cs
    unfolding speak
    speak-length b [] = refl
    speak-length b (c ∷ cs) = ap suc (speak-length (on b c) cs)

    pub speak-append : (b : B) (l m : List C) → speak say on b (l ++ m) ≡ speak say on b l ++ speak say on (after on b l) m
    unfolding speak after
    speak-append b [] m = refl
    speak-append b (c ∷ l) m = ap (λ (r : List W). say b c ∷ r) (speak-append (on b c) l m)

    -- a beginning of the symbols speaks a beginning of the words
    pub speak-prefix : (b : B) (l m : List C) → IsPrefix l m → IsPrefix (speak say on b l) (speak say on b m)
    speak-prefix b l m (r, e) = (speak say on (after on b l) r, sym (speak-append b l r) ∙ ap (speak say on b) e)

    -- more symbols add the words said from what is carried
    speak-more : (b : B) (l m r : List C) → m ≡ l ++ r → drop (length (speak say on b l)) (speak say on b m) ≡ speak say on (after on b l) r
    speak-more b l m r e =
        ap (λ (x : List C). drop (length (speak say on b l)) (speak say on b x)) e
        ∙ ap (drop (length (speak say on b l))) (speak-append b l r)
        ∙ drop_at (speak say on b l) (speak say on (after on b l) r) (length (speak say on b l)) refl

module _ {K : Code} (S : Search K) (L : Laws S) {B W : Type 0} (say : B → K.C → W) (on : B → K.C → B) (b : B) where
  open K use {Y, C}

  pub spoken-length : (ys : List Y) → length (spoken S say on b ys) ≡ reach S ys
  unfolding spoken reach
  spoken-length ys = speak-length on say b (common S ys)

  pub answered-is : (ys : List Y) (p : Path C) → Answer K ys p → answered S say on b ys ≡ speak say on b (symbols p)
  unfolding answered
  answered-is ys p a = ap (λ (o : Surv (Path C)). speak say on b (symbols_in o)) (answer-found S L ys p a)

  -- zs are the symbols after ys, newest first
  pub spoken-grows : Onward K → (zs ys : List Y) → IsPrefix (spoken S say on b ys) (spoken S say on b (zs ++ ys))
  unfolding spoken
  spoken-grows O zs ys =
      let (s, r) = some-reached K O (zs ++ ys) in
      speak-prefix on say b (common S ys) (common S (zs ++ ys)) (common-grows S L zs ys s r)

  pub spoken-final : Onward K → (zs ys : List Y) → IsPrefix (spoken S say on b ys) (answered S say on b (zs ++ ys))
  unfolding spoken
  spoken-final O zs ys =
      let (p, a) = some-answer S L O (zs ++ ys) in
      subst (IsPrefix (speak say on b (common S ys))) (sym (answered-is (zs ++ ys) p a))
      (speak-prefix on say b (common S ys) (symbols p) (common-final S L zs ys (common S ys) (common-common S L ys) p a))

  -- what a symbol writes, and what is carried after it
  pub spoken-new : (y : Y) (ys : List Y) (new : List C) → common S (y ∷ ys) ≡ common S ys ++ new →
      (drop (length (spoken S say on b ys)) (spoken S say on b (y ∷ ys)) ≡ speak say on (carried S on b ys) new) ×
      (carried S on b (y ∷ ys) ≡ after on (carried S on b ys) new)
  unfolding spoken carried
  spoken-new y ys new e = (speak-more on say b (common S ys) (common S (y ∷ ys)) new e, ap (after on b) e ∙ after-append on b (common S ys) new)

  -- what finish writes
  pub spoken-rest : (ys : List Y) (p : Path C) → Answer K ys p → (rest : List C) → symbols p ≡ common S ys ++ rest →
      drop (length (spoken S say on b ys)) (answered S say on b ys) ≡ speak say on (carried S on b ys) rest
  unfolding spoken carried
  spoken-rest ys p a rest e = ap (drop (length (speak say on b (common S ys)))) (answered-is ys p a) ∙ speak-more on say b (common S ys) (symbols p) rest e
