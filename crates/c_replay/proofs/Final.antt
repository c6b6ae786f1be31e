-- A fault that is found stays the verdict, whatever comes; and so lumps say, joined, the verdict of all their bytes.
--   found-stays      after a fault a lump leaves the verdict as it is
--   gone_all, said_by, said_at_end   lumps one after the other: the replay after them, what they say, and what the end says
--   said-once        joined, what is said is the line of the verdict of all the bytes
use mathlib.Core.Path.{◌≡◌, refl, sym, ap, ◌∙◌}
use mathlib.Core.Bool.{Bool, true, false, cond}
use mathlib.Core.List.{List, [], ◌∷◌, ◌++◌, append_assoc, append-nil}
use Prim.Native.Nat.{ℕ}
use native.Mathlib.Omega.{arith}
use Rattle.records.specs.declared.Stage.{Stage}
use Rattle.records.specs.declared.Stage.TheVariants.{Fresh, Part, Whole, Bad}
use Rattle.records.specs.declared.Frame.{Frame}
use Rattle.records.specs.Values.{Entry}
use Rattle.records.specs.Frames.{pushed, pushed_at, entry_of}
use Rattle.replay_judge.specs.declared.Verdict.{Verdict}
use Rattle.replay_judge.specs.declared.Verdict.TheVariants.{Agree, Differs, Extra, Missing, Refused, Malformed}
use Rattle.replay_judge.specs.Judging.{State, upon, took}
use Rattle.replay.specs.Meaning.{agreed}
use Rattle.replay.specs.Course.{Course, is_whole, is_bad, settled, stepped, feedings, ended, found}
use Rattle.replay.proofs.Feeds.{feedings-append}
use Rattle.replay_text.specs.Says.{line_of}
use Rattle.c_replay.specs.Calls.{is_found, verdict_now, gone_on}
use Rattle.c_replay.specs.Run.{all_of}

no : false ≡ true → ⊥
no e = let z : ◌≡◌ {A = ℕ} 0 1 = cc in omega arith

-- ---- a fault of a record

upon-fault : (v : Verdict) (s : State) (r : Entry) → agreed v ≡ false → upon v s r ≡ s
upon-fault (Agree n) s r e = absurd (no (sym e))
upon-fault (Differs n g h) s r e = refl
upon-fault (Extra n g) s r e = refl
upon-fault (Missing n h) s r e = refl
upon-fault (Refused n w) s r e = refl
upon-fault (Malformed p) s r e = refl

settled-fault : (b : Bool) (s : State) (r : Entry) → agreed s.verdict ≡ false → settled b s r ≡ s
unfolding settled took
settled-fault true s r e = upon-fault s.verdict s r e
settled-fault false s r e = refl

-- ---- a malformed record

pushed-bad : (t : Stage) (f : Frame) (b : ℕ) → is_bad t ≡ true → pushed_at t f b ≡ f
pushed-bad Fresh f b e = absurd (no e)
pushed-bad Part f b e = absurd (no e)
pushed-bad Whole f b e = absurd (no e)
pushed-bad Bad f b e = refl

bad-part : (t : Stage) → is_bad t ≡ true → is_whole t ≡ false
bad-part Fresh e = absurd (no e)
bad-part Part e = absurd (no e)
bad-part Whole e = absurd (no e)
bad-part Bad e = refl

-- what stays: the state, and, where the fault is the frame's, the frame
pub record Stays (c d : Course) : Type 0 where
  pub state : d.state ≡ c.state
  pub frame : agreed c.state.verdict ≡ true → d.frame ≡ c.frame

step-fault : (c : Course) (b : ℕ) → agreed c.state.verdict ≡ false → Stays c (stepped c b)
unfolding stepped
step-fault c b e = record { state = settled-fault _ c.state _ e; frame = λ k. absurd (no (sym e ∙ k)) }

step-bad : (c : Course) (b : ℕ) → is_bad c.frame.stage ≡ true → Stays c (stepped c b)
unfolding stepped pushed settled
step-bad c b e =
    let f : pushed c.frame b ≡ c.frame = pushed-bad c.frame.stage c.frame b e in
    let w : is_whole (pushed c.frame b).stage ≡ false = ap (λ (g : Frame). is_whole g.stage) f ∙ bad-part c.frame.stage e in
    record { state = ap (λ (x : Bool). settled x c.state (entry_of (pushed c.frame b))) w; frame = λ k. f }

pub step_stays : (c : Course) (b : ℕ) → is_found c ≡ true → Stays c (stepped c b)
unfolding found
step_stays c b e = go (agreed c.state.verdict) refl
  where
    go : (a : Bool) → agreed c.state.verdict ≡ a → Stays c (stepped c b)
    go true k = step-bad c b (sym (ap (λ (x : Bool). cond x (is_bad c.frame.stage) true) k) ∙ e)
    go false k = step-fault c b k

module _ (c d : Course) (s : Stays c d) where
  pub stays-found : is_found c ≡ true → is_found d ≡ true
  unfolding found
  stays-found e = go (agreed c.state.verdict) refl
    where
      v : d.state.verdict ≡ c.state.verdict
      v = ap (λ (x : State). x.verdict) s.state

      go : (a : Bool) → agreed c.state.verdict ≡ a → is_found d ≡ true
      go true k = ap (λ (x : Verdict). found d.frame x) v ∙ ap (λ (f : Frame). found f c.state.verdict) (s.frame k) ∙ e
      go false k = ap (λ (x : Verdict). found d.frame x) v ∙ rw k

  stays-verdict : is_found c ≡ true → verdict_now d ≡ verdict_now c
  unfolding ended found
  stays-verdict e = go (agreed c.state.verdict) refl
    where
      same : verdict_now d ≡ verdict_now (record { frame = d.frame; state = c.state })
      same = ap (λ (x : State). verdict_now (record { frame = d.frame; state = x })) s.state

      go : (a : Bool) → agreed c.state.verdict ≡ a → verdict_now d ≡ verdict_now c
      go true k = same ∙ ap (λ (f : Frame). verdict_now (record { frame = f; state = c.state })) (s.frame k)
      go false k = same ∙ rw k

pub found-stays : (c : Course) (bs : List ℕ) → is_found c ≡ true → verdict_now (feedings c bs) ≡ verdict_now c
unfolding feedings
found-stays c [] e = refl
found-stays c (b ∷ bs) e =
    let s = step_stays c b e in
    found-stays (stepped c b) bs (stays-found c (stepped c b) s e) ∙ stays-verdict c (stepped c b) s e

-- ---- lumps

unfoldable pub gone_all : Course → List (List ℕ) → Course
gone_all c [] = c
gone_all c (x ∷ xs) = gone_all (gone_on c x) xs

-- a fault that a lump brought
abbrev pub fresh : Course → Course → List ℕ
fresh c d = cond (is_found c) [] (cond (is_found d) (line_of (verdict_now d)) [])

unfoldable pub said_by : Course → List (List ℕ) → List ℕ
said_by c [] = []
said_by c (x ∷ xs) = fresh c (gone_on c x) ++ said_by (gone_on c x) xs

abbrev pub said_at_end : Course → List ℕ
said_at_end c = cond (is_found c) [] (line_of (verdict_now c))

gone-after : (c : Course) (x : List ℕ) → is_found c ≡ true → gone_on c x ≡ c
unfolding gone_on
gone-after c x e = rw e

pub gone-before : (c : Course) (x : List ℕ) → is_found c ≡ false → gone_on c x ≡ feedings c x
unfolding gone_on
gone-before c x e = rw e

pub all_after : (c : Course) (xs : List (List ℕ)) → is_found c ≡ true → gone_all c xs ≡ c
unfolding gone_all
all_after c [] e = refl
all_after c (x ∷ xs) e = ap (λ (d : Course). gone_all d xs) (gone-after c x e) ∙ all_after c xs e

none_after : (c : Course) (xs : List (List ℕ)) → is_found c ≡ true → said_by c xs ≡ []
unfolding said_by
none_after c [] e = refl
none_after c (x ∷ xs) e =
    ap (λ (b : Bool). cond b [] (cond (is_found (gone_on c x)) (line_of (verdict_now (gone_on c x))) []) ++ said_by (gone_on c x) xs) e
    ∙ ap (λ (d : Course). said_by d xs) (gone-after c x e) ∙ none_after c xs e

-- one lump more, that was fed to d
module _ (c d : Course) (xs : List (List ℕ)) (e : is_found c ≡ false) where
  abbrev rest : List ℕ
  rest = fresh c d ++ (said_by d xs ++ said_at_end (gone_all d xs))

  brings : is_found d ≡ true → rest ≡ line_of (verdict_now d)
  brings f =
      let a : fresh c d ≡ line_of (verdict_now d) = rw (e, f) in
      let b : said_at_end (gone_all d xs) ≡ [] = ap said_at_end (all_after d xs f) ∙ rw f in
      (λ i. a i ++ (none_after d xs f i ++ b i)) ∙ append-nil (line_of (verdict_now d))

  brings-none : is_found d ≡ false → rest ≡ said_by d xs ++ said_at_end (gone_all d xs)
  brings-none f = rw (e, f)

pub said-once : (c : Course) (xs : List (List ℕ)) → is_found c ≡ false → said_by c xs ++ said_at_end (gone_all c xs) ≡ line_of (verdict_now (feedings c (all_of xs)))
unfolding said_by gone_all all_of feedings
said-once c [] e = rw e
said-once c (x ∷ xs) e =
    let g = gone-before c x e in
    append_assoc (fresh c (gone_on c x)) (said_by (gone_on c x) xs) (said_at_end (gone_all (gone_on c x) xs))
    ∙ ap (λ (d : Course). fresh c d ++ (said_by d xs ++ said_at_end (gone_all d xs))) g
    ∙ go (is_found (feedings c x)) refl (λ f. said-once (feedings c x) xs f)
    ∙ ap (λ (d : Course). line_of (verdict_now d)) (sym (feedings-append c x (all_of xs)))
  where
    line : List ℕ
    line = line_of (verdict_now (feedings (feedings c x) (all_of xs)))

    go : (b : Bool) → is_found (feedings c x) ≡ b → (is_found (feedings c x) ≡ false → said_by (feedings c x) xs ++ said_at_end (gone_all (feedings c x) xs) ≡ line) → rest c (feedings c x) xs e ≡ line
    go true f later = brings c (feedings c x) xs e f ∙ ap line_of (sym (found-stays (feedings c x) (all_of xs) f))
    go false f later = brings-none c (feedings c x) xs e f ∙ later f
