-- The four laws of the invariant. Start: before any symbol. One symbol: the ways with it, less what is released, keep it. Released:
-- what has become common is the oldest of the way into the state before any live state. Finish: what was released and the way into
-- the best end are the answer.
use mathlib.Core.Path.{◌≡◌, refl, sym, ap, subst, ◌∙◌}
use mathlib.Core.List.{List, [], ◌∷◌, ◌++◌, IsPrefix, append_assoc}
use Prim.Native.Nat.{ℕ, zero, suc, ◌+◌, ◌-◌, ◌≤◌, ◌<◌}
use native.Mathlib.Omega.{arith}
use lib.Dec.{T}
use lib.ListN.{length, take, drop, length-append, take-append-drop}
use lib.Seq.{length-take-le, take-append-le}
use Rattle.trellis.specs.Code.{Code, Path, symbols, cost, Reached, Onward}
use Rattle.trellis.specs.Best.{Surv, absent, alive, Best, Answer, Common}
use Rattle.trellis.specs.Choose.{up}
use Rattle.trellis.specs.Search.{Search, Laws, range, surv, answer}
use Rattle.trellis.specs.Common.{common, reach}
use Rattle.trellis.specs.Cells.{Cell, cell, end-state, Off}
use Rattle.trellis.specs.Invariant.{Shares, Agreed, Holds, before, longer}
use Rattle.trellis.proofs.Lists.{prefix-self, prefix-onto, prefix-off, prefix-length, prefix-take, prefix-equal, take-prefix, state-below}
use Rattle.trellis.proofs.Optimal.{best-below}
use Rattle.trellis.proofs.Answer.{surv-best, best-surv, reached-best, answer-found}
use Rattle.trellis.proofs.Select.{choose-at}
use Rattle.trellis.proofs.Off.{off-cell, off-up, off-end}
use Rattle.trellis.proofs.Final.{came, common-stays}
use Rattle.trellis.proofs.Common.{path-length, common-common, common-longest, reach-le}
use Rattle.trellis.proofs.Onward.{some-reached}

module _ {K : Code} (S : Search K) (L : Laws S) where
  open K use {Y, C, N}
  open S use {pick}

  -- ── start ──
  none : (l : List C) → length l ≤ 0 → l ≡ []
  none [] h = refl
  none (c ∷ l) h = absurd (omega arith)

  pub holds-start : (m : ℕ) (sums : ℕ → Surv (Unit {0})) → Off S [] m sums → (way : ℕ → List C) → ((s : ℕ) → way s ≡ []) → Holds S [] sums way 0
  unfolding reach
  holds-start m sums off way e =
      record {
        less = m;
        off = off;
        count = omega (arith, reach-le S L []);
        ways = λ s p b. none (symbols p) (omega (arith, path-length K [] p b.allowed)) ∙ sym (ap (λ (l : List C). l ++ way s) (none (common S []) (reach-le S L [])) ∙ e s);
      }

  -- ── finish ──
  -- the answer ends where the sums are least
  end-best : (ys : List Y) (p : Path C) → Answer K ys p → Best K ys (end-state S (surv S ys)) p
  unfolding end-state answer
  end-best ys p a =
      let (i, e) = choose-at (surv S ys) (range zero N) (cost K ys p) p (answer-found S L ys p a) in
      (surv-best S L ys (end-state S (surv S ys)) (cost K ys p) p (state-below N (end-state S (surv S ys)) i) e).0

  pub holds-finish : (ys : List Y) (sums : ℕ → Surv (Unit {0})) (way : ℕ → List C) (n : ℕ) → Holds S ys sums way n → (p : Path C) → Answer K ys p →
      symbols p ≡ common S ys ++ way (end-state S sums)
  holds-finish ys sums way n H p a =
      H.ways (end-state S sums) p (subst (λ (s : ℕ). Best K ys s p) (sym (off-end S L ys H.less sums H.off)) (end-best ys p a))

  -- ── one symbol: y comes after ys, `next` are the sums after it, and the newest symbol is not common ──
  module _ (O : Onward K) (y : Y) (ys : List Y) (sums next : ℕ → Surv (Unit {0})) (way : ℕ → List C) (n : ℕ) (H : Holds S ys sums way n)
      (m : ℕ) (off : Off S (y ∷ ys) m next) (newest : reach S (y ∷ ys) ≤ length ys) where
    abbrev zs : List Y
    zs = y ∷ ys

    abbrev l : List C
    l = common S ys

    abbrev past : ℕ → List C
    past s = way (before S y sums s)

    -- each best sequence is what was released, the way into the state before, and the new symbol
    splits : (s : ℕ) (p : Path C) → Best K zs s p → (symbols p ≡ l ++ longer S y sums way s) × (length (past s) ≡ n)
    unfolding cell reach
    splits s p b =
        let k = came S L y ys s p b in
        let e : cell S y sums s ≡ cell S y (surv S ys) s = off-cell S L ys H.less sums H.off y s (best-below K zs s p b) in
        let f : before S y sums s ≡ k.from = ap (λ (x : Cell C). x.prev) e ∙ k.from_is in
        let g : symbols k.path ≡ l ++ way k.from = H.ways k.from k.path k.best in
        let z : symbols p ≡ (l ++ way k.from) ++ (pick y k.from s ∷ []) = sym (ap symbols k.is) ∙ ap (λ (x : List C). x ++ (pick y k.from s ∷ [])) g in
        let c : length (way k.from) ≡ n = omega (arith, ap length g, length-append l (way k.from), path-length K ys k.path k.best.allowed, H.count) in (
          z ∙ append_assoc l (way k.from) (pick y k.from s ∷ []) ∙ ap (λ (t : ℕ). l ++ (way t ++ (pick y t s ∷ []))) (sym f),
          ap (λ (t : ℕ). length (way t)) f ∙ c,
        )

    live-best : (s : ℕ) → s < N → T (up (next s)) → (p : Path C) × Best K zs s p
    live-best s h t = go (surv S zs s) refl (subst T (off-up S L zs m next off s h) t)
      where
        go : (o : Surv (Path C)) → surv S zs s ≡ o → T (up o) → (p : Path C) × Best K zs s p
        go absent e t = absurd t
        go (alive w p) e t = (p, (surv-best S L zs s w p h e).0)

    best-live : (s : ℕ) (p : Path C) → Best K zs s p → T (up (next s))
    best-live s p b = subst T (sym (off-up S L zs m next off s (best-below K zs s p b) ∙ ap up (best-surv S L zs s p b))) tt

    -- one reached state, and what has become common
    reached : (s : ℕ) × Reached K zs s
    reached = some-reached K O zs

    more : IsPrefix l (common S zs)
    more = common-longest S L zs reached.0 reached.1 l (common-stays S L (y ∷ []) ys l (common-common S L ys))

    abbrev rest : List C
    rest = more.0

    rest-few : length rest ≤ n
    unfolding reach
    rest-few = omega (arith, newest, H.count, ap length more.1, length-append l rest)

    -- it begins the way into the state before every live one
    rest-begins : (s : ℕ) (p : Path C) → Best K zs s p → take (length rest) (past s) ≡ rest
    rest-begins s p b =
        let (e, c) = splits s p b in
        let h : IsPrefix (l ++ rest) (l ++ longer S y sums way s) =
        subst (λ (x : List C). IsPrefix x (l ++ longer S y sums way s)) (sym more.1) (subst (IsPrefix (common S zs)) e (common-common S L zs s p b)) in
        sym (take-append-le (length rest) (past s) ((cell S y sums s).symbol ∷ []) (omega (arith, rest-few))) ∙ prefix-take rest (longer S y sums way s) (prefix-off l rest (longer S y sums way s) h)

    module _ (k : ℕ) (A : Agreed N (λ s. up (next s)) past n k) where
      rest-shared : Shares N (λ s. up (next s)) past (length rest)
      rest-shared s t hs ht ls lt =
          let (p, b) = live-best s hs ls in
          let (q, c) = live-best t ht lt in
          rest-begins s p b ∙ sym (rest-begins t q c)

      rest-short : length rest ≤ k
      rest-short = A.most (length rest) rest-few rest-shared

      agreed-common : (s : ℕ) → s < N → T (up (next s)) → Common K zs (l ++ take k (past s))
      agreed-common s h a t q b =
          let (e, c) = splits t q b in
          let z : take k (longer S y sums way t) ≡ take k (past s) =
          take-append-le k (past t) ((cell S y sums t).symbol ∷ []) (omega (arith, A.few)) ∙ A.shared t s (best-below K zs t q b) h (best-live t q b) a in
          rw (e, ← z) (prefix-onto l (take k (longer S y sums way t)) (longer S y sums way t) (take-prefix k (longer S y sums way t)))

      agreed-rest : (s : ℕ) → s < N → T (up (next s)) → take k (past s) ≡ rest
      agreed-rest s h a =
          let (p, b) = live-best s h a in
          let r : List C = take k (past s) in
          let i : IsPrefix (l ++ r) (l ++ rest) = subst (IsPrefix (l ++ r)) (sym more.1) (common-longest S L zs reached.0 reached.1 (l ++ r) (agreed-common s h a)) in
          let j : IsPrefix r rest = prefix-off l r rest i in
          let e : length r ≡ k = length-take-le k (past s) (omega (arith, A.few, (splits s p b).1)) in
          prefix-equal r rest rest j (prefix-self rest) (omega (arith, rest-short, prefix-length r rest j))

      -- released, and how many
      pub released : (s : ℕ) → s < N → T (up (next s)) → common S (y ∷ ys) ≡ common S ys ++ take k (way (before S y sums s))
      released s h a = sym more.1 ∙ ap (λ (r : List C). l ++ r) (sym (agreed-rest s h a))

      pub newly-is : reach S ys + k ≡ reach S (y ∷ ys)
      unfolding reach
      newly-is =
          let (p, b) = reached-best S L zs reached.0 reached.1 in
          let s : ℕ = reached.0 in
          let e : length (take k (past s)) ≡ k = length-take-le k (past s) (omega (arith, A.few, (splits s p b).1)) in
          omega (arith, ap length (released s (best-below K zs s p b) (best-live s p b)), length-append l (take k (past s)))

      -- pending then are the symbols taken and not released, and the ways less what is released are theirs
      pub holds-next : (way' : ℕ → List C) → ((s : ℕ) → s < N → T (up (next s)) → length (way (before S y sums s)) ≡ n → way' s ≡ drop k (longer S y sums way s)) →
          Holds S (y ∷ ys) next way' (suc n - k)
      holds-next way' is =
          record {
            less = m;
            off = off;
            count = omega (arith, newly-is, A.few, H.count);
            ways = λ s p b.
                let (e, c) = splits s p b in
                let h : s < N = best-below K zs s p b in
                let a : T (up (next s)) = best-live s p b in
                let v : List C = longer S y sums way s in
                let f : take k v ≡ take k (past s) = take-append-le k (past s) ((cell S y sums s).symbol ∷ []) (omega (arith, A.few)) in
                e ∙ ap (λ (x : List C). l ++ x) (sym (take-append-drop k v)) ∙ sym (append_assoc l (take k v) (drop k v))
                ∙ ap (λ (x : List C). (l ++ x) ++ drop k v) f ∙ ap (λ (x : List C). x ++ drop k v) (sym (released s h a)) ∙ ap (λ (x : List C). common S zs ++ x) (sym (is s h a c));
          }
