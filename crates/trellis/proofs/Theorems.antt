-- The summary. For every code, with any search that obeys its laws: what 01 says of the answer for a list and of release, in
-- the order of time: xs is what was received, the oldest first, and zs what comes after it. (`reverse`, because the
-- definitions have lists newest first.)
-- What must be believed to read it: specs/Code, Order and Best. Of the search only that it is there: `surv`, `answer` and
-- `common` (specs/Search, Common) are what it computes.
use mathlib.Core.Path.{◌≡◌, subst}
use mathlib.Core.List.{List, ◌++◌, reverse, reverse-append, IsPrefix}
use Prim.Native.Nat.{ℕ, ◌<◌}
use Rattle.trellis.specs.Code.{Code, Path, symbols, Onward}
use Rattle.trellis.specs.Best.{Surv, Answer, Common, Longest, Found, Answered}
use Rattle.trellis.specs.Search.{Search, Laws, surv, answer}
use Rattle.trellis.specs.Common.{common}
use Rattle.trellis.proofs.Optimal.{surv-found}
use Rattle.trellis.proofs.Answer.{found-only, answered-only, answer-answered}
use Rattle.trellis.proofs.Final.{common-final}
use Rattle.trellis.proofs.Common.{common-is, longest-only, common-begins}
use Rattle.trellis.proofs.Onward.{some-reached}

module _ {K : Code} (S : Search K) (L : Laws S) where
  open K use {Y, C, N}

  -- T1. "consider for each reachable state the best sequence ending there (same ties)": it is allowed, ends there and is before
  -- every other one that ends there; there is none exactly if no allowed sequence ends there. `surv` finds it, and nothing else is it.
  pub T1 : (xs : List Y) (s : ℕ) → s < N → Found K (reverse xs) s (surv S (reverse xs) s)
  T1 xs s h = surv-found S L (reverse xs) s h

  pub T1-only : (xs : List Y) (s : ℕ) → s < N → (o : Surv (Path C)) → Found K (reverse xs) s o → o ≡ surv S (reverse xs) s
  T1-only xs s h o f = found-only K L.antisym (reverse xs) s o (surv S (reverse xs) s) f (T1 xs s h)

  -- T2. "The answer is the allowed sequence with the least sum of squared distances. Ties: ..": `answer` finds it, and nothing
  -- else is it.
  pub T2 : (xs : List Y) → Answered K (reverse xs) (answer S (reverse xs))
  T2 xs = answer-answered S L (reverse xs)

  pub T2-only : (xs : List Y) (o : Surv (Path C)) → Answered K (reverse xs) o → o ≡ answer S (reverse xs)
  T2-only xs o a = answered-only K L.antisym (reverse xs) o (answer S (reverse xs)) a (T2 xs)

  -- T3. What is released is final: what all best sequences for xs begin with, the answer for xs followed by anything begins with.
  pub T3 : (xs zs : List Y) (l : List C) → Common K (reverse xs) l → (p : Path C) → Answer K (reverse (xs ++ zs)) p → IsPrefix l (symbols p)
  T3 xs zs l c p a = common-final S L (reverse zs) (reverse xs) l c p (subst (λ (ys : List Y). Answer K ys p) (reverse-append xs zs) a)

  -- T4. "All symbols of the longest common beginning of these sequences": `common` finds it, nothing else is it, and it never
  -- shrinks.
  pub T4 : Onward K → (xs : List Y) → Longest K (reverse xs) (common S (reverse xs))
  T4 O xs = let (s, r) = some-reached K O (reverse xs) in common-is S L (reverse xs) s r

  pub T4-only : Onward K → (xs : List Y) (l : List C) → Longest K (reverse xs) l → l ≡ common S (reverse xs)
  T4-only O xs l h = let (s, r) = some-reached K O (reverse xs) in longest-only S L (reverse xs) s r l (common S (reverse xs)) h (T4 O xs)

  pub T4-grows : Onward K → (xs zs : List Y) (l m : List C) → Longest K (reverse xs) l → Longest K (reverse (xs ++ zs)) m → IsPrefix l m
  T4-grows O xs zs l m h k =
      let (s, r) = some-reached K O (reverse zs ++ reverse xs) in
      common-begins S L (reverse zs) (reverse xs) s r l m h.common (subst (λ (ys : List Y). Longest K ys m) (reverse-append xs zs) k)
