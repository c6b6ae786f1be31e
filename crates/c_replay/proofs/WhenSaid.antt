-- WHEN A FAULT IS SAID. A lump's answer is a line exactly if the lump's last byte, or one before it in the lump, settled the verdict: every way on
-- from the bytes so far has it, and no verdict was settled by the lumps before. So a fault is said as soon as it is settled, and never before.
--   said-when    a lump that settles the verdict says its line
--   said-only    a lump that says something settled the verdict, and says its line
--   line-some    a line is never empty
use mathlib.Core.Path.{◌≡◌, refl, sym, ap, ◌∙◌}
use mathlib.Core.Bool.{Bool, true, false}
use mathlib.Core.List.{List, [], ◌∷◌, ◌++◌, append-nil}
use Prim.Native.Nat.{ℕ}
use native.Mathlib.Omega.{arith}
use Rattle.replay_judge.specs.declared.Verdict.{Verdict}
use Rattle.replay_judge.specs.declared.Verdict.TheVariants.{Agree, Differs, Extra, Missing, Refused, Malformed}
use Rattle.replay.specs.Meaning.{verdict_of}
use Rattle.replay.specs.Course.{Course, stepped, feedings, capped_verdict}
use Rattle.replay.proofs.Feeds.{feedings-append}
use Rattle.replay_text.specs.Says.{line_of}
use Rattle.c_replay.specs.Calls.{is_found, verdict_now, gone_on, start_call, feed_call}
use Rattle.c_replay.specs.Promise.{Starts, Feeds}
use Rattle.c_replay.specs.Run.{said_in, all_of}
use Rattle.c_replay.specs.Freely.{FedFreely}
use Rattle.c_replay.specs.Settled.{Settled, Open}
use Rattle.c_replay.proofs.Final.{gone_all, fresh, step_stays, stays-found, all_after, gone-before}
use Rattle.c_replay.proofs.Settling.{begins, ended_is, found-settled, settled-found}
use Rattle.c_replay.proofs.Runs.{run-keeps-freely, feed-said}

both : {b : Bool} → b ≡ true → b ≡ false → ⊥
both e f = let z : ◌≡◌ {A = ℕ} 0 1 = cc in omega arith

-- ---- lumps and all their bytes

found-keeps : (c : Course) (bs : List ℕ) → is_found c ≡ true → is_found (feedings c bs) ≡ true
unfolding feedings
found-keeps c [] e = e
found-keeps c (b ∷ bs) e = found-keeps (stepped c b) bs (stays-found c (stepped c b) (step_stays c b e) e)

-- a fault is found by lumps exactly if their bytes in one have it, and where none is found the replays are one
record Alike (d c : Course) : Type 0 where
  same-found : is_found d ≡ is_found c
  same : is_found c ≡ false → d ≡ c

alike-by : (c : Course) (xs : List (List ℕ)) → Alike (gone_all c xs) (feedings c (all_of xs))
unfolding gone_all all_of feedings
alike-by c [] = record { same-found = refl; same = λ _. refl }
alike-by c (x ∷ xs) = go (is_found c) refl (alike-by (feedings c x) xs)
  where
    go : (b : Bool) → is_found c ≡ b → Alike (gone_all (feedings c x) xs) (feedings (feedings c x) (all_of xs)) → Alike (gone_all (gone_on c x) xs) (feedings c (x ++ all_of xs))
    go true e _ =
        let f = found-keeps c (x ++ all_of xs) e in
        record { same-found = ap is_found (all_after c (x ∷ xs) e) ∙ e ∙ sym f; same = λ z. absurd (both f z) }
    go false e k =
        let a = feedings-append c x (all_of xs) in
        let g = ap (λ (d : Course). gone_all d xs) (gone-before c x e) in
        record { same-found = ap is_found g ∙ k.same-found ∙ ap is_found (sym a); same = λ z. g ∙ k.same (ap is_found (sym a) ∙ z) ∙ sym a }

-- ---- what a lump says

module _ (s₀ line told : List ℕ) {s t u w line' told' x : List ℕ} {xs : List (List ℕ)} (starts : Starts (start_call s₀) 0 s) (run : FedFreely s xs w t)
    (fed : Feeds t x (feed_call t x line told) 0 u line' told') where
  abbrev before : Course
  before = gone_all begins xs

  abbrev bytes : List ℕ
  bytes = all_of xs ++ x

  says : said_in told' line' ≡ fresh before (gone_on before x)
  says = (feed-said t line told before (run-keeps-freely s begins (starts.keeps refl) run).1 fed).0

  alike : Alike before (feedings begins (all_of xs))
  alike = alike-by begins xs

  -- where no fault was found before, the lump goes on from all the bytes
  goes_on : is_found before ≡ false → gone_on before x ≡ feedings begins bytes
  goes_on e =
      gone-before before x e ∙ ap (λ (d : Course). feedings d x) (alike.same (sym alike.same-found ∙ e)) ∙ sym (feedings-append begins (all_of xs) x)

  not-before : Open (all_of xs) → is_found before ≡ false
  not-before o = go (is_found before) refl
    where
      go : (b : Bool) → is_found before ≡ b → b ≡ false
      go true e = absurd (o (verdict_now (feedings begins (all_of xs))) (found-settled (all_of xs) (sym alike.same-found ∙ e)))
      go false e = refl

  pub said-when : (v : Verdict) → Settled bytes v → Open (all_of xs) → said_in told' line' ≡ line_of v
  said-when v h o =
      let e = not-before o in
      let d = goes_on e in
      let f : is_found (gone_on before x) ≡ true = ap is_found d ∙ settled-found bytes v h in
      let is : verdict_now (gone_on before x) ≡ v = ap verdict_now d ∙ ended_is bytes ∙ ap (λ (l : List ℕ). capped_verdict (verdict_of l)) (sym (append-nil bytes)) ∙ h [] in
      says ∙ rw (e, f) (ap line_of is)

  -- the line said, with the verdict that it settled
  pub record Said : Type 0 where
    pub verdict : Verdict
    pub settles : Settled bytes verdict
    pub unsettled : Open (all_of xs)
    pub line-is : said_in told' line' ≡ line_of verdict

  pub said-only : (said_in told' line' ≡ [] → ⊥) → Said
  said-only some = go (is_found before) (is_found (gone_on before x)) refl refl
    where
      go : (a b : Bool) → is_found before ≡ a → is_found (gone_on before x) ≡ b → Said
      go true b e f = absurd (some (says ∙ rw e))
      go false false e f = absurd (some (says ∙ rw (e, f)))
      go false true e f =
          let d = goes_on e in
          record {
            verdict = verdict_now (feedings begins bytes);
            settles = found-settled bytes (ap is_found (sym d) ∙ f);
            unsettled = λ v h. both (settled-found (all_of xs) v h) (sym alike.same-found ∙ e);
            line-is = says ∙ rw (e, f) (ap (λ (c : Course). line_of (verdict_now c)) d);
          }

pub line-some : (v : Verdict) → line_of v ≡ [] → ⊥
unfolding line_of
line-some (Agree n) e = let z : ◌≡◌ {A = ℕ} 0 1 = cc in omega arith
line-some (Differs n g h) e = let z : ◌≡◌ {A = ℕ} 0 1 = cc in omega arith
line-some (Extra n g) e = let z : ◌≡◌ {A = ℕ} 0 1 = cc in omega arith
line-some (Missing n h) e = let z : ◌≡◌ {A = ℕ} 0 1 = cc in omega arith
line-some (Refused n r) e = let z : ◌≡◌ {A = ℕ} 0 1 = cc in omega arith
line-some (Malformed p) e = let z : ◌≡◌ {A = ℕ} 0 1 = cc in omega arith
