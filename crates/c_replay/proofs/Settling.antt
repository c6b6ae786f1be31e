-- A replay has found a fault exactly if the verdict is settled. Where none is found there are two ways on with different verdicts: one that ends in a
-- malformed record, and one that does not.
--   found-settled     after a fault every way on has the same verdict
--   two_ways          where none is found, two ways on differ
--   settled-found     so a verdict is settled only where a fault is found
use mathlib.Core.Path.{◌≡◌, refl, sym, ap, ◌∙◌}
use mathlib.Core.Bool.{Bool, true, false, cond, ◌&&◌}
use mathlib.Core.List.{List, [], ◌∷◌, ◌++◌}
use Prim.Native.Nat.{ℕ, zero, suc, ◌+◌, ◌-◌, ◌<◌}
use native.Mathlib.Omega.{arith}
use borrow.Author.Tests.{lt-ltb, le-ltb, ltb-true}
use lib.Dec.{eqb, leb, ltb}
use lib.ListN.{get_or, length, drop}
use Rattle.reasons.specs.Reason.{is_done}
use Rattle.openings.specs.Given.{start_at}
use Rattle.openings.specs.Opening.{opening}
use Rattle.receiver.specs.Doors as doors
use Rattle.records.specs.declared.Phase.TheVariants.{Start}
use Rattle.records.specs.declared.Role.{Role}
use Rattle.records.specs.declared.Role.TheVariants.{Open, Symbol, Word, Finish, Unknown}
use Rattle.records.specs.declared.Stage.{Stage}
use Rattle.records.specs.declared.Stage.TheVariants.{Fresh, Part, Whole, Bad}
use Rattle.records.specs.declared.Frame.{Frame}
use Rattle.records.specs.Kinds.{kind_of, may_stand, after_role}
use Rattle.records.specs.Values.{Entry, byte_fits, misses, accord_of, window_of, start_of, mark_in, coordinates_of, word_of}
use Rattle.receiver_meaning.specs.Piece.{marked_piece}
use Rattle.records.specs.Frames.{capped, stage_at, begun, may_grow, spoilt, grew, grown, pushed, pushed_at, entry_of}
use Rattle.records.proofs.Steps.{size_fits}
use Rattle.replay_judge.specs.declared.Verdict.{Verdict}
use Rattle.replay_judge.specs.declared.Verdict.TheVariants.{Agree, Differs, Extra, Missing, Refused, Malformed}
use Rattle.replay_judge.specs.Judging.{State, left, opened, answered, unless_due, heard, finished, worded, by_role, upon, took, left_of, went, refused_by, agreed_more, faulted, hears, finishes}
use Rattle.replay.specs.Meaning.{agreed, verdict_of}
use Rattle.replay.specs.Course.{Course, is_whole, is_bad, settled, stepped, feedings, unless_left, ended, found, replay_of, fresh_replay, capped_verdict}
use Rattle.replay.proofs.Feeds.{feedings-append}
use Rattle.replay.proofs.Meant.{verdict-meant}
use Rattle.c_replay.specs.Calls.{is_found, verdict_now}
use Rattle.c_replay.specs.Settled.{Settled}
use Rattle.c_replay.proofs.Final.{found-stays}

differ : {b : Bool} → b ≡ true → b ≡ false → ⊥
differ e f = let z : ◌≡◌ {A = ℕ} 0 1 = cc in omega arith

-- ---- a record under way can always be completed

-- a byte that may stand at the place i of a body, whatever its kind
abbrev filler_at : ℕ → ℕ
filler_at i = cond (eqb i 0) 1 0

filler-fits : (k m i : ℕ) → byte_fits k m i (filler_at i) ≡ true
unfolding byte_fits
filler-fits k m i = go (eqb k 5) (eqb i 0) (misses m i)
  where
    go : (a b c : Bool) → cond a (cond b (leb 1 (cond b 1 0) && leb (cond b 1 0) 3) (cond c (eqb (cond b 1 0) 0) true)) true ≡ true
    go true true c = refl
    go true false true = refl
    go true false false = refl
    go false b c = refl

-- what holds of every frame that bytes lead to: a record under way lacks bytes, and before the first byte nothing has begun
record Good (f : Frame) : Type 0 where
  lacks : f.stage ≡ Part → f.have < (kind_of f.kind).size
  first : f.stage ≡ Fresh → f.phase ≡ Start

stage-lacks : (have size : ℕ) → stage_at have size ≡ Part → have < size
stage-lacks have size = go (ltb have size) refl
  where
    go : (b : Bool) → ltb have size ≡ b → cond b Part Whole ≡ Part → have < size
    go true e z = ltb-true have size e
    go false e z = absurd (let y : ◌≡◌ {A = ℕ} 0 1 = cc in omega arith)

stage-begun : (have size : ℕ) → stage_at have size ≡ Fresh → ⊥
stage-begun have size = go (ltb have size)
  where
    go : (b : Bool) → cond b Part Whole ≡ Fresh → ⊥
    go true z = let y : ◌≡◌ {A = ℕ} 0 1 = cc in omega arith
    go false z = let y : ◌≡◌ {A = ℕ} 0 1 = cc in omega arith

bad-good : (f : Frame) → f.stage ≡ Bad → Good f
bad-good f e =
    record {
      lacks = λ z. absurd (let y : ◌≡◌ {A = ℕ} 0 1 = cc in omega arith);
      first = λ z. absurd (let y : ◌≡◌ {A = ℕ} 0 1 = cc in omega arith);
    }

begun-good : (f : Frame) (k : ℕ) → Good (begun f k)
unfolding begun
begun-good f k = go (may_stand f.phase (kind_of k).role)
  where
    one : Frame
    one = record { stage = stage_at 0 (kind_of k).size; phase = after_role f.phase (kind_of k).role; kind = k; have = 0; body = f.body; at = f.fed; fed = capped (f.fed + 1) }

    none : Frame
    none = record { stage = Bad; phase = f.phase; kind = k; have = 0; body = f.body; at = f.fed; fed = capped (f.fed + 1) }

    go : (b : Bool) → Good (cond b one none)
    go true = record { lacks = stage-lacks 0 (kind_of k).size; first = λ z. absurd (stage-begun 0 (kind_of k).size z) }
    go false = bad-good none refl

grown-good : (f : Frame) (b : ℕ) → Good (grown f b)
unfolding grown
grown-good f b = go (may_grow f b)
  where
    go : (c : Bool) → Good (cond c (grew f b) (spoilt f))
    go true = record { lacks = stage-lacks (f.have + 1) (kind_of f.kind).size; first = λ z. absurd (stage-begun (f.have + 1) (kind_of f.kind).size z) }
    go false = bad-good (spoilt f) refl

pushed-good : (f : Frame) (b : ℕ) → Good (pushed f b)
unfolding pushed
pushed-good f b = go f.stage refl
  where
    go : (s : Stage) → f.stage ≡ s → Good (pushed_at s f b)
    go Fresh e = begun-good f b
    go Part e = grown-good f b
    go Whole e = begun-good f b
    go Bad e = bad-good f e

-- ---- no record is judged malformed: only a frame is

is_malformed : Verdict → Bool
is_malformed (Agree n) = false
is_malformed (Differs n g h) = false
is_malformed (Extra n g) = false
is_malformed (Missing n h) = false
is_malformed (Refused n w) = false
is_malformed (Malformed p) = true

Sane : Verdict → Type 0
Sane v = is_malformed v ≡ false

took-sane : (s : State) (r : Entry) → Sane s.verdict → Sane (took s r).verdict
unfolding took Sane is_malformed opened answered unless_due heard finished
took-sane s r h = go s.verdict h
  where
    answers : (q : doors.Ran) → Sane (answered s q).verdict
    answers q = by (is_done q.why)
      where
        by : (b : Bool) → Sane (cond b (went s q.receiver (q.words ++ drop (length q.words) s.due) (length q.words)) (refused_by s q.why)).verdict
        by true = h
        by false = refl

    unless : (l : List ℕ) (n : State) → Sane n.verdict → Sane (unless_due s l n).verdict
    unless [] n e = e
    unless (x ∷ l) n e = refl

    opens : (k : ℕ) (body : List ℕ) → Sane (opened s (accord_of k body) (window_of body) (start_of body)).verdict
    opens k body = let o = opening (accord_of k body) (window_of body) (start_at (start_of body)) in by (is_done o.why)
      where
        by : (b : Bool) → let o = opening (accord_of k body) (window_of body) (start_at (start_of body)) in Sane (cond b (went s o.receiver s.due 0) (refused_by s o.why)).verdict
        by true = h
        by false = refl

    words : (n g : ℕ) (l : List ℕ) → Sane (worded s n g l).verdict
    words n g [] = refl
    words n g (x ∷ l) = by (eqb g x)
      where
        by : (b : Bool) → Sane (cond b (agreed_more s n) (faulted s (Differs s.records g x))).verdict
        by true = refl
        by false = refl

    role : (p : Role) (n k : ℕ) (body : List ℕ) → Sane (by_role p s n k body).verdict
    role Open n k body = opens k body
    role Symbol n k body = unless (left_of s) (hears s k body) (answers (doors.hearing s.receiver (marked_piece (mark_in k body ∷ []) (coordinates_of k body)) (length s.due)))
    role Word n k body = words n (word_of body) (left_of s)
    role Finish n k body = unless (left_of s) (finishes s) (answers (doors.finishing s.receiver (length s.due)))
    role Unknown n k body = h

    go : (v : Verdict) → Sane v → Sane (upon v s r).verdict
    go (Agree n) e = role (kind_of r.kind).role n r.kind r.body
    go (Differs n g x) e = h
    go (Extra n g) e = h
    go (Missing n x) e = h
    go (Refused n w) e = h
    go (Malformed p) e = h

-- ---- what holds of every replay that bytes lead to

record Sound (c : Course) : Type 0 where
  frame : Good c.frame
  verdict : Sane c.state.verdict

step-sound : (c : Course) (b : ℕ) → Sound c → Sound (stepped c b)
unfolding stepped settled
step-sound c b h = record { frame = pushed-good c.frame b; verdict = go (is_whole (pushed c.frame b).stage) }
  where
    go : (w : Bool) → Sane (cond w (took c.state (entry_of (pushed c.frame b))) c.state).verdict
    go true = took-sane c.state (entry_of (pushed c.frame b)) h.verdict
    go false = h.verdict

feed-sound : (c : Course) (bs : List ℕ) → Sound c → Sound (feedings c bs)
unfolding feedings
feed-sound c [] h = h
feed-sound c (b ∷ bs) h = feed-sound (stepped c b) bs (step-sound c b h)

fresh-sound : Sound (replay_of fresh_replay)
unfolding Sane is_malformed
fresh-sound = record { frame = record { lacks = λ z. absurd (let y : ◌≡◌ {A = ℕ} 0 1 = cc in omega arith); first = λ z. refl }; verdict = refl }

-- ---- two ways on

-- a way on from c after which the verdict is malformed, or is not
record Way (c : Course) (b : Bool) : Type 0 where
  bytes : List ℕ
  is : is_malformed (verdict_now (feedings c bytes)) ≡ b

-- the verdict at the end of a whole record is none of a malformed one
whole-sane : (c : Course) → c.frame.stage ≡ Whole → Sane c.state.verdict → is_malformed (verdict_now c) ≡ false
unfolding ended Sane is_malformed
whole-sane c e h = rw e (go (agreed c.state.verdict) (left c.state.shown c.state.given c.state.due))
  where
    go : (a : Bool) (l : List ℕ) → is_malformed (cond a (unless_left c.state.verdict c.state.records l) c.state.verdict) ≡ false
    go true [] = h
    go true (x ∷ l) = refl
    go false l = h

-- inside a record, or before the first, the end is malformed
cut-bad : (c : Course) → agreed c.state.verdict ≡ true → is_whole c.frame.stage ≡ false → is_malformed (verdict_now c) ≡ true
unfolding ended is_malformed
cut-bad c a e = rw (a, e)

-- one byte more of a record under way
grow-one : (c : Course) → c.frame.stage ≡ Part → Good c.frame → (stepped c (filler_at c.frame.have)).frame ≡ grew c.frame (filler_at c.frame.have)
unfolding stepped pushed grown may_grow
grow-one c e g =
    let h : c.frame.have < 9 = omega (arith, g.lacks e, size_fits c.frame.kind) in
    rw (e, lt-ltb c.frame.have 9 h, filler-fits c.frame.kind (get_or c.frame.body 0 0) c.frame.have)

complete : (n : ℕ) (c : Course) → Sound c → c.frame.stage ≡ Part → (kind_of c.frame.kind).size ≡ c.frame.have + suc n → Way c false
unfolding feedings
complete zero c h e m =
    let b = filler_at c.frame.have in
    let f = grow-one c e h.frame in
    let w : (stepped c b).frame.stage ≡ Whole = ap (λ (x : Frame). x.stage) f ∙ rw (le-ltb (c.frame.have + 1) (kind_of c.frame.kind).size (omega arith)) in
    record { bytes = b ∷ []; is = whole-sane (stepped c b) w (step-sound c b h).verdict }
complete (suc n) c h e m =
    let b = filler_at c.frame.have in
    let f = grow-one c e h.frame in
    let p : (stepped c b).frame.stage ≡ Part = ap (λ (x : Frame). x.stage) f ∙ rw (lt-ltb (c.frame.have + 1) (kind_of c.frame.kind).size (omega arith)) in
    let k : (kind_of (stepped c b).frame.kind).size ≡ (kind_of c.frame.kind).size = ap (λ (x : Frame). (kind_of x.kind).size) f in
    let v : (stepped c b).frame.have ≡ c.frame.have + 1 = ap (λ (x : Frame). x.have) f in
    let r = complete n (stepped c b) (step-sound c b h) p (omega arith) in
    record { bytes = b ∷ r.bytes; is = r.is }

part-on : (c : Course) → Sound c → c.frame.stage ≡ Part → Way c false
part-on c h e = let l = h.frame.lacks e in complete ((kind_of c.frame.kind).size - (c.frame.have + 1)) c h e (omega arith)

-- before the first byte: an open begins
first_on : (c : Course) → Sound c → c.frame.stage ≡ Fresh → Way c false
unfolding feedings stepped pushed begun kind_of
first_on c h e =
    let p = h.frame.first e in
    let s : (stepped c 1).frame.stage ≡ Part = rw (e, p) in
    let r = part-on (stepped c 1) (step-sound c 1 h) s in
    record { bytes = 1 ∷ r.bytes; is = r.is }

-- after a whole record: an unknown kind
unknown-on : (c : Course) → agreed c.state.verdict ≡ true → c.frame.stage ≡ Whole → Way c true
unfolding feedings stepped settled pushed begun kind_of
unknown-on c a e = record { bytes = 0 ∷ []; is = cut-bad (stepped c 0) (rw e a) (rw e) }

two_ways : (c : Course) → Sound c → is_found c ≡ false → Way c true × Way c false
unfolding found feedings
two_ways c h e = go (agreed c.state.verdict) refl e
  where
    by : agreed c.state.verdict ≡ true → (s : Stage) → c.frame.stage ≡ s → is_bad s ≡ false → Way c true × Way c false
    by a Fresh f z = (record { bytes = []; is = cut-bad c a (rw f) }, first_on c h f)
    by a Part f z = (record { bytes = []; is = cut-bad c a (rw f) }, part-on c h f)
    by a Whole f z = (unknown-on c a f, record { bytes = []; is = whole-sane c f h.verdict })
    by a Bad f z = absurd (differ {b = is_bad Bad} refl z)

    go : (a : Bool) → agreed c.state.verdict ≡ a → cond a (is_bad c.frame.stage) true ≡ false → Way c true × Way c false
    go true a z = by a c.frame.stage refl z
    go false a z = absurd (differ refl z)

-- ---- settled

abbrev pub begins : Course
begins = replay_of fresh_replay

pub ended_is : (bs : List ℕ) → verdict_now (feedings begins bs) ≡ capped_verdict (verdict_of bs)
unfolding ended
ended_is bs = verdict-meant bs

way-is : (bs zs : List ℕ) → verdict_now (feedings (feedings begins bs) zs) ≡ capped_verdict (verdict_of (bs ++ zs))
way-is bs zs = ap verdict_now (sym (feedings-append begins bs zs)) ∙ ended_is (bs ++ zs)

pub found-settled : (bs : List ℕ) → is_found (feedings begins bs) ≡ true → Settled bs (verdict_now (feedings begins bs))
found-settled bs e zs = sym (way-is bs zs) ∙ found-stays (feedings begins bs) zs e

pub settled-found : (bs : List ℕ) (v : Verdict) → Settled bs v → is_found (feedings begins bs) ≡ true
settled-found bs v h = go (is_found (feedings begins bs)) refl
  where
    go : (b : Bool) → is_found (feedings begins bs) ≡ b → b ≡ true
    go true e = refl
    go false e =
        let (x, y) = two_ways (feedings begins bs) (feed-sound begins bs fresh-sound) e in
        absurd (differ (ap is_malformed (sym (way-is bs x.bytes ∙ h x.bytes)) ∙ x.is) (ap is_malformed (sym (way-is bs y.bytes ∙ h y.bytes)) ∙ y.is))
