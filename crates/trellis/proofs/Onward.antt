-- Where each state leads on, some state is reached after every list, so that there is always an answer.
use mathlib.Core.Path.{refl}
use mathlib.Core.List.{List, [], ◌∷◌}
use Prim.Native.Nat.{ℕ, ◌<◌}
use Rattle.trellis.specs.Code.{Code, Path, begin, step, last, Reached, Onward}
use Rattle.trellis.specs.Best.{Surv, absent, alive, Answer, Answered}
use Rattle.trellis.specs.Search.{Search, Laws, answer}
use Rattle.trellis.proofs.Optimal.{allowed-below}
use Rattle.trellis.proofs.Answer.{answer-answered}

module _ (K : Code) where
  open K use {Y, C, N, Branch, dist}

  pub some-reached : Onward K → (ys : List Y) → (s : ℕ) × Reached K ys s
  some-reached O [] = (O.from, record { by = begin O.from; allowed = (O.from-below, O.from_start); ends = refl })
  some-reached O (y ∷ ys) =
      let (s, r) = some-reached O ys in
      let t : ℕ = last r.by in
      let h : t < N = allowed-below K ys r.by r.allowed in
      (O.to t, record { by = step r.by (O.by t) (O.to t); allowed = (O.to_below t h, O.to-branch t h, r.allowed); ends = refl })

module _ {K : Code} (S : Search K) (L : Laws S) where
  open K use {Y, C, N, Branch, dist}

  -- there is always an answer
  pub some-answer : Onward K → (ys : List Y) → (p : Path C) × Answer K ys p
  some-answer O ys = go (answer S ys) (answer-answered S L ys)
    where
      go : (o : Surv (Path C)) → Answered K ys o → (p : Path C) × Answer K ys p
      go absent g = let (s, r) = some-reached K O ys in absurd (g r.by r.allowed)
      go (alive w p) g = (p, g.0)
