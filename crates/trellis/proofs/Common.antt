-- What `common` computes is the longest common beginning of the best sequences (T4): it begins each of them, all that begins
-- each of them begins it, and it only grows. Leans on Answer for what the recursion finds.
use mathlib.Core.Path.{◌≡◌, refl, sym, ap, subst, ◌∙◌}
use mathlib.Core.List.{List, [], ◌∷◌, ◌++◌, IsPrefix}
use mathlib.Core.Logic.{◌⊎◌, inl, inr, ⊎_elim}
use Prim.Native.Nat.{ℕ, zero, ◌≤◌}
use native.Mathlib.Omega.{arith}
use lib.ListN.{length, length-append}
use Rattle.trellis.specs.Lists.{In}
use Rattle.trellis.specs.Code.{Code, Path, begin, step, symbols, Allowed, cost, Reached}
use Rattle.trellis.specs.Best.{Surv, absent, alive, Best, Common, Longest}
use Rattle.trellis.specs.Search.{Search, Laws, range, surv}
use Rattle.trellis.specs.Common.{lcp-at, lcp, lcps, add-live, live, common, reach}
use Rattle.trellis.proofs.Lists.{prefix-self, prefix-cons, prefix_trans, prefix-length, prefix-shorter, prefix-equal, state-in, state-below}
use Rattle.trellis.proofs.Optimal.{best-below}
use Rattle.trellis.proofs.Answer.{surv-best, best-surv, reached-best}
use Rattle.trellis.proofs.Final.{common-stays}

-- ── lists ──
module _ {C : Type 0} (same : (a b : C) → Dec (a ≡ b)) where
  lcp-both : (k l m : List C) → k ++ lcp same l m ≡ lcp same (k ++ l) (k ++ m)
  unfolding lcp
  lcp-both [] l m = refl
  lcp-both (c ∷ k) l m = go (same c c) (lcp-both k l m)
    where
      go : (d : Dec (c ≡ c)) → k ++ lcp same l m ≡ lcp same (k ++ l) (k ++ m) → c ∷ (k ++ lcp same l m) ≡ lcp-at d c (lcp same (k ++ l) (k ++ m))
      go (yes e) h = ap (λ (r : List C). c ∷ r) h
      go (no e) h = absurd (e refl)

  lcp-longest : (k l m : List C) → IsPrefix k l → IsPrefix k m → IsPrefix k (lcp same l m)
  lcp-longest k l m (r, e) (r', e') = (lcp same r r', lcp-both k r r' ∙ ap (λ (x : List C). lcp same x (k ++ r')) e ∙ ap (lcp same l) e')

  lcp-left : (l m : List C) → IsPrefix (lcp same l m) l
  unfolding lcp
  lcp-left [] m = ([], refl)
  lcp-left (a ∷ l) [] = (a ∷ l, refl)
  lcp-left (a ∷ l) (b ∷ m) = go (same a b) (lcp-left l m)
    where
      go : (d : Dec (a ≡ b)) → IsPrefix (lcp same l m) l → IsPrefix (lcp-at d a (lcp same l m)) (a ∷ l)
      go (yes e) h = prefix-cons a a (lcp same l m) l refl h
      go (no e) h = (a ∷ l, refl)

  lcp-right : (l m : List C) → IsPrefix (lcp same l m) m
  unfolding lcp
  lcp-right [] m = (m, refl)
  lcp-right (a ∷ l) [] = ([], refl)
  lcp-right (a ∷ l) (b ∷ m) = go (same a b) (lcp-right l m)
    where
      go : (d : Dec (a ≡ b)) → IsPrefix (lcp same l m) m → IsPrefix (lcp-at d a (lcp same l m)) (b ∷ m)
      go (yes e) h = prefix-cons a b (lcp same l m) m e h
      go (no e) h = (b ∷ m, refl)

  lcps-prefix : (ls : List (List C)) (l : List C) → In l ls → IsPrefix (lcps same ls) l
  unfolding lcps
  lcps-prefix [] l m = absurd m
  lcps-prefix (a ∷ []) l m = ⊎_elim (λ (e : l ≡ a). subst (IsPrefix a) (sym e) (prefix-self a)) (λ z. absurd z) m
  lcps-prefix (a ∷ b ∷ ls) l m =
      let r : List C = lcps same (b ∷ ls) in
      ⊎_elim (λ (e : l ≡ a). subst (IsPrefix (lcp same a r)) (sym e) (lcp-left a r))
      (λ z. prefix_trans (lcp same a r) r l (lcp-right a r) (lcps-prefix (b ∷ ls) l z)) m

  lcps-longest : (ls : List (List C)) (l k : List C) → In l ls → ((m : List C) → In m ls → IsPrefix k m) → IsPrefix k (lcps same ls)
  unfolding lcps
  lcps-longest [] l k m h = absurd m
  lcps-longest (a ∷ []) l k m h = h a (inl refl)
  lcps-longest (a ∷ b ∷ ls) l k m h = lcp-longest k a (lcps same (b ∷ ls)) (h a (inl refl)) (lcps-longest (b ∷ ls) b k (inl refl) (λ x z. h x (inr z)))

  lcps-short : (ls : List (List C)) (n : ℕ) → ((l : List C) → In l ls → length l ≤ n) → length (lcps same ls) ≤ n
  unfolding lcps
  lcps-short [] n h = omega arith
  lcps-short (a ∷ ls) n h = omega (arith, prefix-length (lcps same (a ∷ ls)) a (lcps-prefix (a ∷ ls) a (inl refl)), h a (inl refl))

-- ── what is live ──
module _ {C : Type 0} (f : ℕ → Surv (Path C)) where
  live_in : (xs : List ℕ) (s w : ℕ) (p : Path C) → In s xs → f s ≡ alive w p → In (symbols p) (live f xs)
  unfolding live
  live_in [] s w p m e = absurd m
  live_in (x ∷ xs) s w p m e = go (f x) refl (λ z. live_in xs s w p z e) m
    where
      go : (o : Surv (Path C)) → f x ≡ o → (In s xs → In (symbols p) (live f xs)) → (s ≡ x) ⊎ In s xs → In (symbols p) (add-live o (live f xs))
      go absent z r (inl k) = absurd (let z₀ : f s ≡ f x = ap f k in let z₁ : ◌≡◌ {A = ℕ} 0 1 = cc in omega arith)
      go absent z r (inr m) = r m
      go (alive v q) z r (inl k) = inl (let z₀ : f s ≡ f x = ap f k in let z₁ : p ≡ q = cc in ap symbols z₁)
      go (alive v q) z r (inr m) = inr (r m)

  -- these symbols stand at a listed state
  record Lives (xs : List ℕ) (l : List C) : Type 0 where
    at : ℕ
    at_in : In at xs
    sum : ℕ
    path : Path C
    is : f at ≡ alive sum path
    symbols-are : symbols path ≡ l

  live_out : (xs : List ℕ) (l : List C) → In l (live f xs) → Lives xs l
  unfolding live
  live_out [] l m = absurd m
  live_out (x ∷ xs) l m = go (f x) refl (live_out xs l) m
    where
      more : Lives xs l → Lives (x ∷ xs) l
      more k = record { at = k.at; at_in = inr k.at_in; sum = k.sum; path = k.path; is = k.is; symbols-are = k.symbols-are }

      go : (o : Surv (Path C)) → f x ≡ o → (In l (live f xs) → Lives xs l) → In l (add-live o (live f xs)) → Lives (x ∷ xs) l
      go absent z r m = more (r m)
      go (alive v q) z r (inl e) = record { at = x; at_in = inl refl; sum = v; path = q; is = z; symbols-are = sym e }
      go (alive v q) z r (inr m) = more (r m)

pub path-length : (K : Code) (ys : List K.Y) (p : Path K.C) → Allowed K ys p → length (symbols p) ≡ length ys
path-length K [] (begin s) a = refl
path-length K [] (step p c s) a = absurd a
path-length K (y ∷ ys) (begin s) a = absurd a
path-length K (y ∷ ys) (step p c s) a = omega (arith, length-append (symbols p) (c ∷ []), path-length K ys p a.2)

module _ {K : Code} (S : Search K) (L : Laws S) where
  open K use {Y, C, N}
  open S use {same}

  -- each live list is that of a best sequence
  live-best : (ys : List Y) (P : List C → Type 0) → ((s : ℕ) (p : Path C) → Best K ys s p → P (symbols p)) → (l : List C) →
      In l (live (surv S ys) (range zero N)) → P l
  live-best ys P h l m =
      let k = live_out (surv S ys) (range zero N) l m in
      subst P k.symbols-are (h k.at k.path (surv-best S L ys k.at k.sum k.path (state-below N k.at k.at_in) k.is).0)

  best-live : (ys : List Y) (s : ℕ) (p : Path C) → Best K ys s p → In (symbols p) (live (surv S ys) (range zero N))
  best-live ys s p b = live_in (surv S ys) (range zero N) s (cost K ys p) p (state-in N s (best-below K ys s p b)) (best-surv S L ys s p b)

  pub common-common : (ys : List Y) → Common K ys (common S ys)
  unfolding common
  common-common ys s p b = lcps-prefix same (live (surv S ys) (range zero N)) (symbols p) (best-live ys s p b)

  pub common-longest : (ys : List Y) (s : ℕ) → Reached K ys s → (l : List C) → Common K ys l → IsPrefix l (common S ys)
  unfolding common
  common-longest ys s r l k =
      let (p, b) = reached-best S L ys s r in
      lcps-longest same (live (surv S ys) (range zero N)) (symbols p) l (best-live ys s p b) (live-best ys (IsPrefix l) k)

  -- never longer than the list
  pub reach-le : (ys : List Y) → reach S ys ≤ length ys
  unfolding reach common
  reach-le ys =
      lcps-short same (live (surv S ys) (range zero N)) (length ys)
      (live-best ys (λ l. length l ≤ length ys) (λ s p b. omega (arith, path-length K ys p b.allowed)))

  module _ (ys : List Y) (s : ℕ) (r : Reached K ys s) where
    pub common-is : Longest K ys (common S ys)
    common-is = record { common = common-common ys; longest = λ m k. prefix-length m (common S ys) (common-longest ys s r m k) }

    pub longest-only : (l m : List C) → Longest K ys l → Longest K ys m → l ≡ m
    longest-only l m h k =
        let (p, b) = reached-best S L ys s r in
        prefix-equal l m (symbols p) (h.common s p b) (k.common s p b) (omega (arith, h.longest m k.common, k.longest l h.common))

  -- zs are the symbols after ys, newest first
  module _ (zs ys : List Y) (s : ℕ) (r : Reached K (zs ++ ys) s) where
    pub common-begins : (l m : List C) → Common K ys l → Longest K (zs ++ ys) m → IsPrefix l m
    common-begins l m h k =
        let (p, b) = reached-best S L (zs ++ ys) s r in
        let c : Common K (zs ++ ys) l = common-stays S L zs ys l h in
        prefix-shorter l m (symbols p) (c s p b) (k.common s p b) (k.longest l c)

    pub common-grows : IsPrefix (common S ys) (common S (zs ++ ys))
    common-grows = common-begins (common S ys) (common S (zs ++ ys)) (common-common ys) (common-is (zs ++ ys) s r)
