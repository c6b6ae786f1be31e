-- THE CODE'S SALVAGE IS THE ONE THAT IS MEANT, whatever lumps the bytes come in.
--   After s bs out      what is held and what was written after the bytes bs
--   after_run           so it is after any run
--   salvage-meant       THE THEOREM: the bytes that are written, and the four numbers
--   run-agrees, run-same   what is written replays as agreeing; of a capture that agrees nothing is changed
--   runs-settled, feed-settled   any two runs over the same bytes write the same; any two results of a call are equal
use mathlib.Core.Path.{◌≡◌, refl, sym, ap, ap₂, subst, ◌∙◌}
use mathlib.Core.Bool.{Bool, true, false, cond}
use mathlib.Core.List.{List, [], ◌++◌, append-nil}
use Prim.Native.Nat.{ℕ, ◌+◌, ◌-◌, ◌≤◌}
use native.Mathlib.Omega.{arith}
use lib.ListN.{length, take}
use Rattle.records.specs.declared.Stage.{Stage}
use Rattle.records.specs.declared.Stage.TheVariants.{Fresh, Part, Whole, Bad}
use Rattle.records.specs.declared.Phase.TheVariants.{Start}
use Rattle.records.specs.declared.Frame.{Frame}
use Rattle.records.specs.Values.{Entry, bytes_of}
use Rattle.records.specs.Reading.{reading_of}
use Rattle.records.specs.Frames.{capped, fresh, Read, before, following}
use Rattle.records.proofs.Counts.{capped_small}
use Rattle.records.proofs.Steps.{following-append, following-reads, swallows}
use Rattle.record_write.proofs.Fronts.{bytes-append}
use Rattle.page.proofs.Pages.{front-is}
use Rattle.replay_judge.specs.declared.Verdict.TheVariants.{Agree}
use Rattle.replay_judge.specs.Judging.{left, left_of}
use Rattle.replay.specs.Meaning.{closed, agreed, verdict_of}
use Rattle.replay.specs.Course.{is_bad, found}
use Rattle.salvage_meaning.specs.Salvage as meaning
use Rattle.salvage_meaning.specs.Salvage.{kept, mended, grouped, replaced_in, added_in, removed_in, changes, salvage_of}
use Rattle.salvage_meaning.proofs.Running.{false-true}
use Rattle.salvage_meaning.proofs.Groups.{first-none}
use Rattle.salvage_meaning.proofs.Written.{reading-formed, kept-formed, Agreeing, written-agrees}
use Rattle.salvage_meaning.proofs.Same.{Bytes, agreed-same}
use Rattle.salvage_meaning.proofs.Laws.{kept-few}
use Rattle.salvage.specs.declared.Salvage.{Salvage}
use Rattle.salvage.specs.declared.Changes.{Changes}
use Rattle.salvage.specs.Working.{Held, feedings, outs, Feeds, changes_of, end_of, salvage_at, fresh_salvage}
use Rattle.salvage.specs.Run.{Ran, starts, feeds, skips, Reported}
use Rattle.salvage.proofs.Feeds.{Both, beside, holding, minds, wrotes, minds-append, wrotes-append, feedings-follow, outs-follow, feeds-settled}
use Rattle.salvage.proofs.Comes.{Holds, off-minds, Comes, comes}

-- ---- after a run

abbrev fresh₀ : Both
fresh₀ = beside (salvage_at fresh_salvage)

record After (s : Salvage) (bs out : List ℕ) : Type 0 where
  held : beside (salvage_at s) ≡ minds fresh₀ (following fresh bs).entries
  frame : agreed s.replay.judge.verdict ≡ true → s.replay.frame ≡ (following fresh bs).frame
  wrote : out ≡ bytes_of (wrotes fresh₀ (following fresh bs).entries)

module _ (s : Salvage) (bs out : List ℕ) (a : After s bs out) (ys : List ℕ) where
  abbrev X : Read
  X = following fresh bs

  abbrev b : Both
  b = beside (salvage_at s)

  -- what later bytes do, if they are looked at
  more-held : minds fresh₀ (following fresh (bs ++ ys)).entries ≡ minds b (following X.frame ys).entries
  more-held =
      ap (λ (r : Read). minds fresh₀ r.entries) (following-append fresh bs ys)
      ∙ sym (minds-append fresh₀ X.entries (following X.frame ys).entries) ∙ ap (λ (c : Both). minds c (following X.frame ys).entries) (sym a.held)

  more-wrote : bytes_of (wrotes fresh₀ (following fresh (bs ++ ys)).entries) ≡ out ++ bytes_of (wrotes b (following X.frame ys).entries)
  more-wrote =
      let es = (following X.frame ys).entries in
      ap (λ (r : Read). bytes_of (wrotes fresh₀ r.entries)) (following-append fresh bs ys)
      ∙ ap bytes_of (sym (wrotes-append fresh₀ X.entries es)) ∙ bytes-append (wrotes fresh₀ X.entries) (wrotes (minds fresh₀ X.entries) es)
      ∙ ap₂ (λ (x : List ℕ) (c : Both). x ++ bytes_of (wrotes c es)) (sym a.wrote) (sym a.held)

  -- after a refusal they are not, whatever frame they come to
  module _ (off : agreed s.replay.judge.verdict ≡ false) where
    off-held : minds fresh₀ (following fresh (bs ++ ys)).entries ≡ b
    off-held = more-held ∙ (off-minds b (following X.frame ys).entries off).0

    off-wrote : bytes_of (wrotes fresh₀ (following fresh (bs ++ ys)).entries) ≡ out
    unfolding bytes_of
    off-wrote = more-wrote ∙ ap (λ (x : List Entry). out ++ bytes_of x) (off-minds b (following X.frame ys).entries off).1 ∙ append-nil out

    off-wrote-none : (f : Frame) → outs (holding f b) ys ≡ []
    off-wrote-none f = outs-follow f b ys ∙ (off-minds b (following f ys).entries off).1

  -- they are fed
  module _ (r : Salvage) (e : salvage_at r ≡ feedings (salvage_at s) ys) (os : List ℕ) (z : os ≡ bytes_of (outs (salvage_at s) ys)) where
    fed-held : beside (salvage_at r) ≡ minds b (following s.replay.frame ys).entries
    fed-held = ap beside (e ∙ feedings-follow s.replay.frame b ys)

    fed-off : agreed s.replay.judge.verdict ≡ false → After r (bs ++ ys) (out ++ os)
    unfolding bytes_of
    fed-off off =
        let same : beside (salvage_at r) ≡ b = fed-held ∙ (off-minds b (following s.replay.frame ys).entries off).0 in
        record {
          held = same ∙ sym (off-held off);
          frame = λ k. absurd (false-true (sym (ap (λ (c : Both). agreed c.state.verdict) same ∙ off) ∙ k));
          wrote = ap (λ (x : List ℕ). out ++ x) (z ∙ ap bytes_of (off-wrote-none off s.replay.frame)) ∙ append-nil out ∙ sym (off-wrote off);
        }

    fed-on : agreed s.replay.judge.verdict ≡ true → After r (bs ++ ys) (out ++ os)
    fed-on on =
        let g : s.replay.frame ≡ X.frame = a.frame on in
        record {
          held = fed-held ∙ ap (λ (f : Frame). minds b (following f ys).entries) g ∙ sym more-held;
          frame = λ _. ap (λ (h : Held). h.frame) (e ∙ feedings-follow s.replay.frame b ys) ∙ ap (λ (f : Frame). (following f ys).frame) g
              ∙ sym (ap (λ (x : Read). x.frame) (following-append fresh bs ys));
          wrote = ap (λ (x : List ℕ). out ++ x) (z ∙ ap bytes_of (outs-follow s.replay.frame b ys) ∙ ap (λ (f : Frame). bytes_of (wrotes b (following f ys).entries)) g) ∙ sym more-wrote;
        }

    after-fed : After r (bs ++ ys) (out ++ os)
    after-fed = go (agreed s.replay.judge.verdict) refl
      where
        go : (c : Bool) → agreed s.replay.judge.verdict ≡ c → After r (bs ++ ys) (out ++ os)
        go true k = fed-on k
        go false k = fed-off k

  -- they are not
  bad-stage : (t : Stage) → is_bad t ≡ true → t ≡ Bad
  bad-stage Fresh k = absurd (false-true k)
  bad-stage Part k = absurd (false-true k)
  bad-stage Whole k = absurd (false-true k)
  bad-stage Bad k = refl

  swallowed : s.replay.frame ≡ X.frame → following X.frame ys ≡ record { entries = []; frame = X.frame } → After s (bs ++ ys) out
  unfolding minds wrotes bytes_of
  swallowed g n =
      record {
        held = sym (more-held ∙ ap (λ (x : Read). minds b x.entries) n);
        frame = λ _. g ∙ sym (ap (λ (x : Read). x.frame) (following-append fresh bs ys ∙ ap (before X.entries) n));
        wrote = sym (more-wrote ∙ ap (λ (x : Read). out ++ bytes_of (wrotes b x.entries)) n ∙ append-nil out);
      }

  after-skip : found s.replay.frame s.replay.judge.verdict ≡ true → After s (bs ++ ys) out
  unfolding found
  after-skip f = go (agreed s.replay.judge.verdict) refl f
    where
      go : (c : Bool) → agreed s.replay.judge.verdict ≡ c → cond c (is_bad s.replay.frame.stage) true ≡ true → After s (bs ++ ys) out
      go false k m = record { held = sym (off-held k); frame = λ n. absurd (false-true (sym k ∙ n)); wrote = sym (off-wrote k) }
      go true k m =
          let g : s.replay.frame ≡ X.frame = a.frame k in
          swallowed g (swallows X.frame ys (ap (λ (x : Frame). x.stage) (sym g) ∙ bad-stage s.replay.frame.stage m))

after_none : After fresh_salvage [] []
unfolding following minds wrotes bytes_of
after_none = record { held = refl; frame = λ _. refl; wrote = refl }

after_run : {s : Salvage} {bs out : List ℕ} → Ran s bs out → After s bs out
after_run starts = after_none
after_run (feeds {s} {r} {bs} {out} {lump} {page} {page'} {used} {size} q f) =
    after-fed s bs out (after_run q) (take used lump) r f.held (take size page') (front-is f.wrote)
after_run (skips {s} {bs} {out} q f ys) = after-skip s bs out (after_run q) ys f

-- ---- THE THEOREM

fresh_holds : Holds (salvage_at fresh_salvage).state closed []
unfolding left
fresh_holds = record { receiver = refl; fine = tt; due = refl; long = refl; on = refl }

all_come : (bs : List ℕ) → Comes (minds fresh₀ (reading_of bs).records) (wrotes fresh₀ (reading_of bs).records) closed (kept closed (reading_of bs).records) [] 0 0 0 0
unfolding capped
all_come bs = comes (reading_of bs).records Start (reading-formed bs) _ closed [] fresh_holds 0 0 0 0

pub record Meant (s : Salvage) (bs out : List ℕ) : Type 0 where
  pub bytes : out ≡ (salvage_of bs).bytes
  pub numbers : (c : Changes) → c ≡ end_of (salvage_at s) (capped (length bs)) → Reported c bs

meant : (s : Salvage) (bs out : List ℕ) → After s bs out → Meant s bs out
unfolding salvage_of replaced_in
meant s bs out a =
    let rs = (reading_of bs).records in
    let old = kept closed rs in
    let new = (grouped (mended closed old)).later in
    let q = (following-reads bs).entries in
    let c = all_come bs in
    let none : (grouped old).front ≡ [] = first-none old (kept-formed Start closed rs (reading-formed bs)) in
    let same : beside (salvage_at s) ≡ minds fresh₀ rs = a.held ∙ ap (minds fresh₀) q in
    record {
      bytes = a.wrote ∙ ap (λ (x : List Entry). bytes_of (wrotes fresh₀ x)) q ∙ ap bytes_of c.0;
      numbers = λ x e. record {
        replaced = ap (λ (y : Changes). y.replaced) e ∙ ap (λ (y : Both). y.tally.replaced) same ∙ c.1.replaced
            ∙ ap (λ (y : List ℕ). capped (0 + (replaced_in y [] + changes replaced_in (grouped old).later new))) none ∙ ap capped (omega arith);
        added = ap (λ (y : Changes). y.added) e ∙ ap (λ (y : Both). capped (y.tally.added + length (left_of y.state))) same ∙ c.1.added
            ∙ ap (λ (y : List ℕ). capped (0 + (added_in y [] + changes added_in (grouped old).later new))) none ∙ ap capped (omega arith);
        removed = ap (λ (y : Changes). y.removed) e ∙ ap (λ (y : Both). y.tally.removed) same ∙ c.1.removed
            ∙ ap (λ (y : List ℕ). capped (0 + (removed_in y [] + changes removed_in (grouped old).later new))) none ∙ ap capped (omega arith);
        cut = λ h.
            ap (λ (y : Changes). y.cut) e ∙ ap (λ (y : Both). capped (length bs) - y.tally.kept) same ∙ ap (λ (k : ℕ). capped (length bs) - k) c.1.space
            ∙ ap₂ (λ (n k : ℕ). n - k) (capped_small (length bs) h) (capped_small (0 + length (bytes_of old)) (omega (arith, kept-few bs))) ∙ omega arith;
      };
    }

pub salvage-meant : {s : Salvage} {bs out : List ℕ} → Ran s bs out → Meant s bs out
salvage-meant {s} {bs} {out} q = meant s bs out (after_run q)

-- ---- what it promises

-- "What it writes replays as agreeing"
pub run-agrees : {s : Salvage} {bs out : List ℕ} → Ran s bs out → (out ≡ [] → ⊥) → Agreeing out
run-agrees {s} {bs} {out} q some =
    let e = (salvage-meant q).bytes in
    subst Agreeing (sym e) (written-agrees bs (λ z. some (e ∙ z)))

-- "A capture that agrees comes out byte for byte with four zeros"
pub run-same : {s : Salvage} {bs out : List ℕ} → Ran s bs out → Bytes bs → (k : ℕ) → verdict_of bs ≡ Agree k
    → (out ≡ bs) × (length bs ≤ 18446744073709551615 → end_of (salvage_at s) (capped (length bs)) ≡ changes_of 0 0 0 0)
unfolding capped
run-same {s} {bs} {out} q h k v =
    let m = salvage-meant q in
    let r = m.numbers (end_of (salvage_at s) (capped (length bs))) refl in
    let u = agreed-same bs h k v in
    let replaced = r.replaced ∙ ap (λ (x : meaning.Salvage). capped x.replaced) u in
    let added = r.added ∙ ap (λ (x : meaning.Salvage). capped x.added) u in
    let removed = r.removed ∙ ap (λ (x : meaning.Salvage). capped x.removed) u in (
      m.bytes ∙ ap (λ (x : meaning.Salvage). x.bytes) u,
      λ l. let cut = r.cut l ∙ ap (λ (x : meaning.Salvage). x.cut) u in λ i. changes_of (replaced i) (added i) (removed i) (cut i),
    )

-- whatever lumps and pages there were: the same bytes, and the same numbers
pub runs-settled : {s t : Salvage} {bs out other : List ℕ} → Ran s bs out → Ran t bs other → (n : ℕ) → (out ≡ other) × (end_of (salvage_at s) n ≡ end_of (salvage_at t) n)
runs-settled q p n =
    let a = after_run q in
    let b = after_run p in
    (a.wrote ∙ sym b.wrote, ap (λ (x : Both). end_of (holding fresh x) n) (a.held ∙ sym b.held))

back : Held → Salvage
back h =
    let s = h.state in
    record {
      replay = record {
        frame = h.frame;
        judge = record { live = s.receiver.live; core = s.receiver.core; given = s.given; shown = s.shown; records = s.records; verdict = s.verdict };
        sums = s.receiver.sums;
        registers = s.receiver.registers;
        picks = s.receiver.picks;
        due = s.due;
      };
      tally = h.tally;
    }

-- any two results of one call are equal
pub feed-settled : (s a b : Salvage) (bs page : List ℕ) (n m x y : ℕ) (p q : List ℕ) → Feeds (salvage_at s) bs page (salvage_at a) n x p → Feeds (salvage_at s) bs page (salvage_at b) m y q
    → (a ≡ b) × (n ≡ m) × (x ≡ y) × (p ≡ q)
unfolding back
feed-settled s a b bs page n m x y p q f g =
    let e = feeds-settled (salvage_at s) bs page (salvage_at a) (salvage_at b) n m x y p q f g in
    (ap back e.0, e.1, e.2, e.3)
