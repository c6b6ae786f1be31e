-- 02, Wish 7, over runs of calls: "The joined verdict must be the one a single lump gives .. After a first fault all later bytes are swallowed
-- with no further line".
--   run-keeps         the state of a run, and what it said
--   lumps-said        THE THEOREM: a start, any lumps, the end: joined, what is said is the line of the verdict on all the bytes
--   run-keeps-freely, lumps-said-freely   the same of runs with refused ends and copied states (specs/Freely); freely: a run is such a run
--   ended-none        a state that has ended holds no replay: every later call answers 9
--   feed-settled, end-settled, start-settled   any two results that a promise allows are equal
use mathlib.Core.Path.{◌≡◌, refl, sym, ap, subst, ◌∙◌}
use mathlib.Core.Bool.{Bool, true, false, cond, ◌&&◌}
use mathlib.Core.List.{List, [], ◌++◌}
use Prim.Native.Nat.{ℕ, ◌≤◌}
use native.Mathlib.Omega.{arith}
use borrow.Author.Tests.{ne_eqb}
use lib.Dec.{leb}
use lib.ListN.{length, take, drop, set}
use lib.Seq.{take_at, get_or-set_same}
use Rattle.replay_judge.specs.declared.Verdict.{Verdict}
use Rattle.replay.specs.Meaning.{verdict_of}
use Rattle.replay.specs.Course.{Course, feedings, found, replay_of, fresh_replay, capped_verdict}
use Rattle.replay_text.specs.Says.{line_of}
use Rattle.c_replay_state.specs.Table.{replay_tag, replay_length}
use Rattle.c_replay_state.specs.Words.{holds_replay, course_in}
use Rattle.c_replay.specs.Calls.{Call, Started, is_short, quiet, saying, is_found, verdict_now, into, fed, over, refusing, gone_on, start_call, feed_call, end_call}
use Rattle.c_replay.specs.Promise.{Keeps, Starts, Feeds, Ends}
use Rattle.c_replay.specs.Run as run
use Rattle.c_replay.specs.Run.{said_in, all_of, Fed}
use Rattle.c_replay.specs.Freely.{FedFreely, none, lump, refused, refused_end, copied}
use Rattle.c_replay.proofs.Cases.{long-enough}
use Rattle.c_replay.proofs.Final.{gone_all, fresh, said_by, said_at_end, said-once}
use Rattle.c_replay.proofs.Settling.{ended_is}

eight : ◌≡◌ {A = ℕ} 0 8 → ⊥
eight e = omega arith

-- ---- what a call says

quiet-says : (told line : List ℕ) → 1 ≤ length told → said_in (set told 0 0) line ≡ []
quiet-says told line h = rw (get_or-set_same told 0 0 0 h)

saying-says : (v : Verdict) (told line : List ℕ) → 1 ≤ length told → said_in (set told 0 (length (line_of v))) (line_of v ++ drop (length (line_of v)) line) ≡ line_of v
saying-says v told line h =
    ap (λ (n : ℕ). take n (line_of v ++ drop (length (line_of v)) line)) (get_or-set_same told 0 (length (line_of v)) 0 h)
    ∙ take_at (line_of v) (drop (length (line_of v)) line) (length (line_of v)) refl

module _ (c : Course) (x state line told : List ℕ) (h : 1 ≤ length told) where
  fed-says : said_in (fed c x state line told).told (fed c x state line told).line ≡ fresh c (gone_on c x)
  unfolding gone_on
  fed-says = go (is_found c) refl
    where
      d : Course
      d = feedings c x

      call : Bool → Bool → Call
      call a b = cond a (quiet 0 state line told) (cond b (saying (verdict_now (feedings c x)) (into (feedings c x) state) line told) (quiet 0 (into (feedings c x) state) line told))

      two : (b : Bool) → said_in (call false b).told (call false b).line ≡ cond b (line_of (verdict_now (feedings c x))) []
      two true = saying-says (verdict_now (feedings c x)) told line h
      two false = quiet-says told line h

      go : (a : Bool) → is_found c ≡ a → said_in (call (is_found c) (is_found (feedings c x))).told (call (is_found c) (is_found (feedings c x))).line ≡ fresh c (cond (is_found c) c (feedings c x))
      go true e = rw e (quiet-says told line h)
      go false e = rw e (two (is_found (feedings c x)))

  over-says : said_in (over c state line told).told (over c state line told).line ≡ said_at_end c
  over-says = go (is_found c)
    where
      go : (a : Bool) → said_in (cond a (quiet 0 (set state 0 0) line told) (saying (verdict_now c) (set state 0 0) line told)).told
          (cond a (quiet 0 (set state 0 0) line told) (saying (verdict_now c) (set state 0 0) line told)).line
          ≡ cond a [] (line_of (verdict_now c))
      go true = quiet-says told line h
      go false = saying-says (verdict_now c) told line h

-- a call that was done was not refused
module _ (c : Call) (state line told : List ℕ) (held : holds_replay state ≡ true) (done : 0 ≡ (refusing c state line told).number) where
  was-done : (refusing c state line told ≡ c) × (1 ≤ length told)
  was-done = go (is_short (length line) (length told)) refl
    where
      go : (b : Bool) → is_short (length line) (length told) ≡ b → (refusing c state line told ≡ c) × (1 ≤ length told)
      go true e = absurd (eight (done ∙ rw e))
      go false e = (rw (e, held), (long-enough (length line) (length told) e).1)

module _ (s line told : List ℕ) {t line' told' : List ℕ} (c : Course) (k : Keeps s c) where
  pub feed-said : {x : List ℕ} → Feeds s x (feed_call s x line told) 0 t line' told' → (said_in told' line' ≡ fresh c (gone_on c x)) × Keeps t (gone_on c x)
  unfolding feed_call
  feed-said {x} f =
      let w = was-done (fed (course_in s) x s line told) s line told k.0 f.number in
      let said : said_in told' line' ≡ fresh (course_in s) (gone_on (course_in s) x) =
      (λ i. said_in (f.told_is i) (f.line-is i)) ∙ ap (λ (y : Call). said_in y.told y.line) w.0 ∙ fed-says (course_in s) x s line told w.1 in
      let kept = f.keeps refl in
      (said ∙ ap (λ (d : Course). fresh d (gone_on d x)) k.1, (kept.0, kept.1 ∙ ap (λ (d : Course). gone_on d x) k.1))

  end-said : Ends (end_call s line told) 0 t line' told' → said_in told' line' ≡ said_at_end c
  unfolding end_call
  end-said f =
      let w = was-done (over (course_in s) s line told) s line told k.0 f.number in
      (λ i. said_in (f.told_is i) (f.line-is i)) ∙ ap (λ (y : Call). said_in y.told y.line) w.0 ∙ over-says (course_in s) [] s line told w.1 ∙ ap said_at_end k.1

-- a refused call leaves the state
zero-fed : (c : Course) (x s line told : List ℕ) → (fed c x s line told).number ≡ 0
zero-fed c x s line told = go (is_found c) (is_found (feedings c x))
  where
    go : (a b : Bool) → (cond a (quiet 0 s line told) (cond b (saying (verdict_now (feedings c x)) (into (feedings c x) s) line told) (quiet 0 (into (feedings c x) s) line told))).number ≡ 0
    go true b = refl
    go false true = refl
    go false false = refl

left_alone : (c : Call) (s line told : List ℕ) → c.number ≡ 0 → ((refusing c s line told).number ≡ 0 → ⊥) → (refusing c s line told).state ≡ s
left_alone c s line told z some = go (is_short (length line) (length told)) (holds_replay s) refl refl
  where
    go : (a b : Bool) → is_short (length line) (length told) ≡ a → holds_replay s ≡ b → (refusing c s line told).state ≡ s
    go true b e f = rw e
    go false true e f = absurd (some (rw (e, f) z))
    go false false e f = rw (e, f)

refused-stays : (line told : List ℕ) {s x t line' told' : List ℕ} (n : ℕ) → Feeds s x (feed_call s x line told) n t line' told' → (n ≡ 0 → ⊥) → t ≡ s
unfolding feed_call
refused-stays line told {s} {x} n f some =
    f.state-is ∙ left_alone (fed (course_in s) x s line told) s line told (zero-fed (course_in s) x s line told) (λ e. some (f.number ∙ e))

-- and so does a refused end
zero-over : (c : Course) (s line told : List ℕ) → (over c s line told).number ≡ 0
zero-over c s line told = go (is_found c)
  where
    go : (a : Bool) → (cond a (quiet 0 (set s 0 0) line told) (saying (verdict_now c) (set s 0 0) line told)).number ≡ 0
    go true = refl
    go false = refl

refused-end-stays : (line told : List ℕ) {s t line' told' : List ℕ} (n : ℕ) → Ends (end_call s line told) n t line' told' → (n ≡ 0 → ⊥) → t ≡ s
unfolding end_call
refused-end-stays line told {s} n f some =
    f.state-is ∙ left_alone (over (course_in s) s line told) s line told (zero-over (course_in s) s line told) (λ e. some (f.number ∙ e))

-- ---- a run

pub run-keeps-freely : (s : List ℕ) {t w : List ℕ} {xs : List (List ℕ)} (c : Course) → Keeps s c → FedFreely s xs w t → (w ≡ said_by c xs) × Keeps t (gone_all c xs)
unfolding said_by gone_all
run-keeps-freely s c k none = (refl, k)
run-keeps-freely s c k (lump {t = t} {x = x} line told line' told' f r) =
    let a = feed-said s line told c k f in
    let b = run-keeps-freely t (gone_on c x) a.1 r in
    ((λ i. a.0 i ++ b.0 i), b.1)
run-keeps-freely s c k (refused {t = t} n line told line' told' f some r) =
    run-keeps-freely t c (subst (λ (q : List ℕ). Keeps q c) (sym (refused-stays line told n f some)) k) r
run-keeps-freely s c k (refused_end {t = t} n line told line' told' f some r) =
    run-keeps-freely t c (subst (λ (q : List ℕ). Keeps q c) (sym (refused-end-stays line told n f some)) k) r
run-keeps-freely s c k (copied {t = t} h e r) = run-keeps-freely t c (h ∙ k.0, e ∙ k.1) r

fresh-none : is_found (replay_of fresh_replay) ≡ false
unfolding found
fresh-none = refl

-- THE THEOREM
pub lumps-said-freely : (s₀ line told : List ℕ) {s t u w line' told' : List ℕ} {xs : List (List ℕ)} → Starts (start_call s₀) 0 s → FedFreely s xs w t → Ends (end_call t line told) 0 u line' told'
    → w ++ said_in told' line' ≡ line_of (capped_verdict (verdict_of (all_of xs)))
lumps-said-freely s₀ line told {s = s} {t = t} {xs = xs} a r e =
    let c = replay_of fresh_replay in
    let k = run-keeps-freely s c (a.keeps refl) r in
    (λ i. k.0 i ++ end-said t line told (gone_all c xs) k.1 e i) ∙ said-once c xs fresh-none ∙ ap line_of (ended_is (all_of xs))

-- a run is a free one
pub freely : {s t w : List ℕ} {xs : List (List ℕ)} → Fed s xs w t → FedFreely s xs w t
freely run.none = none
freely (run.lump line told line' told' f r) = lump line told line' told' f (freely r)
freely (run.refused n line told line' told' f some r) = refused n line told line' told' f some (freely r)

pub run-keeps : (s : List ℕ) {t w : List ℕ} {xs : List (List ℕ)} (c : Course) → Keeps s c → Fed s xs w t → (w ≡ said_by c xs) × Keeps t (gone_all c xs)
run-keeps s c k f = run-keeps-freely s c k (freely f)

pub lumps-said : (s₀ line told : List ℕ) {s t u w line' told' : List ℕ} {xs : List (List ℕ)} → Starts (start_call s₀) 0 s → Fed s xs w t → Ends (end_call t line told) 0 u line' told'
    → w ++ said_in told' line' ≡ line_of (capped_verdict (verdict_of (all_of xs)))
lumps-said s₀ line told a r e = lumps-said-freely s₀ line told a (freely r) e

-- ---- a replay that has ended

no-tag : ◌≡◌ {A = ℕ} 0 replay_tag → ⊥
no-tag e = omega arith

pub ended-none : (state : List ℕ) → 1 ≤ length state → holds_replay (set state 0 0) ≡ false
unfolding holds_replay
ended-none state h = rw (get_or-set_same state 0 0 0 h, ne_eqb 0 replay_tag no-tag) (go (leb replay_length (length (set state 0 0))))
  where
    go : (b : Bool) → (b && false) ≡ false
    go true = refl
    go false = refl

-- ---- settled

pub start-settled : (c : Started) {m n : ℕ} {a b : List ℕ} → Starts c m a → Starts c n b → (m ≡ n) × (a ≡ b)
start-settled c p q = (p.number ∙ sym q.number, p.state-is ∙ sym q.state-is)

pub feed-settled : (s x : List ℕ) (c : Call) {m n : ℕ} {a b l k t u : List ℕ} → Feeds s x c m a l t → Feeds s x c n b k u → (m ≡ n) × (a ≡ b) × (l ≡ k) × (t ≡ u)
feed-settled s x c p q = (p.number ∙ sym q.number, p.state-is ∙ sym q.state-is, p.line-is ∙ sym q.line-is, p.told_is ∙ sym q.told_is)

pub end-settled : (c : Call) {m n : ℕ} {a b l k t u : List ℕ} → Ends c m a l t → Ends c n b k u → (m ≡ n) × (a ≡ b) × (l ≡ k) × (t ≡ u)
end-settled c p q = (p.number ∙ sym q.number, p.state-is ∙ sym q.state-is, p.line-is ∙ sym q.line-is, p.told_is ∙ sym q.told_is)
