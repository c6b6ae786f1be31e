-- The calls case by case, over what the callees gave.
--   long-enough                     what the test of the lengths leaves
--   start-short, start-done         a start
--   feed-short, feed-none, feed-after, feed-on, feed-says   a lump: 8; 9; after a fault; no fault yet; the fault
--   end_short, end_none, end_after, end-says   the end
--   told-feeds, told-ends           what was to be said is said
use mathlib.Core.Path.{◌≡◌, refl, sym, ap, ◌∙◌}
use mathlib.Core.Bool.{Bool, true, false, ◌||◌}
use mathlib.Core.List.{List}
use Prim.Native.Nat.{ℕ, ◌≤◌, ◌<◌}
use native.Mathlib.Omega.{arith}
use borrow.Author.Tests.{lt-ltb, le-ltb, ltb-false}
use lib.Dec.{ltb}
use lib.ListN.{length, set}
use Rattle.std.specs.Prelude.{Some, None, Ok, Err}
use Rattle.std.proofs.lemmas.Bool.{or_parts}
use Rattle.replay_judge.specs.declared.Verdict.{Verdict}
use Rattle.replay.specs.declared.Replay.{Replay}
use Rattle.replay.specs.Course.{Course, feedings, replay_of, fresh_replay}
use Rattle.c_replay_state.specs.Table.{replay_length}
use Rattle.c_replay_state.specs.Words.{holds_replay, course_in, CourseStored}
use Rattle.c_replay.specs.declared.Refusal.{Refusal}
use Rattle.c_replay.specs.declared.Refusal.TheVariants.{Short, NoReplay}
use Rattle.c_replay.specs.Calls.{Call, is_short, is_found, verdict_now, into, start_call, gone_on, feed_call, end_call}
use Rattle.c_replay.specs.Promise.{Keeps, Starts, Feeds, Ends}
use Rattle.c_replay.specs.Saying.{Said, saying_of, Tells, Says, Heard}

-- ---- the lengths

pub long-enough : (line told : ℕ) → is_short line told ≡ false → (64 ≤ line) × (1 ≤ told)
unfolding is_short
long-enough line told e = let p = or_parts (ltb told 1) (ltb line 64) e in (ltb-false line 64 p.1, ltb-false told 1 p.0)

-- ---- a start

eight : ◌≡◌ {A = ℕ} 8 0 → ⊥
eight e = omega arith

nine : ◌≡◌ {A = ℕ} 9 0 → ⊥
nine e = omega arith

pub start-short : (state : List ℕ) → length state < replay_length → Starts (start_call state) 8 state
unfolding start_call
start-short state h = rw (lt-ltb (length state) replay_length h) (record { number = refl; state-is = refl; keeps = λ e. absurd (eight e) })

pub start-done : (state : List ℕ) (r : Replay) {o : List ℕ} → replay_length ≤ length state → r ≡ fresh_replay → CourseStored (replay_of r) state o → Starts (start_call state) 0 o
unfolding start_call
start-done state r h e s =
    rw (le-ltb (length state) replay_length h)
    (record { number = refl; state-is = s.words ∙ ap (λ (x : Replay). into (replay_of x) state) e; keeps = λ k. (s.holds, s.reads ∙ ap (λ (x : Replay). replay_of x) e) })

-- ---- what is to be said

-- where nothing is said no room is wanted
silent : (call : List ℕ → List ℕ → Call) (short : Bool) (state : List ℕ) →
    ((line told : List ℕ) → is_short (length line) (length told) ≡ short → call line told ≡ saying_of (Ok None) state line told) → Says call short (Ok None) state
silent call short state f = record { is = f; room = λ line told e. tt }

refused : (call : List ℕ → List ℕ → Call) (short : Bool) (why : Refusal) (state : List ℕ) →
    ((line told : List ℕ) → is_short (length line) (length told) ≡ short → call line told ≡ saying_of (Err why) state line told) → Says call short (Err why) state
refused call short why state f = record { is = f; room = λ line told e. tt }

-- and a line has it, where the call is not short
spoken : (call : List ℕ → List ℕ → Call) (short : Bool) (v : Verdict) (state : List ℕ) → short ≡ false →
    ((line told : List ℕ) → is_short (length line) (length told) ≡ short → call line told ≡ saying_of (Ok (Some v)) state line told) → Says call short (Ok (Some v)) state
spoken call short v state s f = record { is = f; room = λ line told e. long-enough line told (e ∙ s) }

-- ---- a lump

module _ (state lump : List ℕ) (short : Bool) where
  abbrev call : List ℕ → List ℕ → Call
  call = feed_call state lump

  pub feed-short : short ≡ true → Heard state lump short (Err Short) state
  unfolding feed_call
  feed-short s = record { says = refused call short Short state (λ line told e. rw (e ∙ s)); keeps = λ k. absurd (eight k) }

  module _ (s : short ≡ false) where
    pub feed-none : holds_replay state ≡ false → Heard state lump short (Err NoReplay) state
    unfolding feed_call
    feed-none h = record { says = refused call short NoReplay state (λ line told e. rw (e ∙ s, h)); keeps = λ k. absurd (nine k) }

    module _ (h : holds_replay state ≡ true) (c : Course) (is : c ≡ course_in state) where
      there : (b : Bool) → is_found c ≡ b → is_found (course_in state) ≡ b
      there b e = ap is_found (sym is) ∙ e

      pub feed-after : is_found c ≡ true → Heard state lump short (Ok None) state
      unfolding feed_call gone_on
      feed-after f = record { says = silent call short state (λ line told e. rw (e ∙ s, h, there true f)); keeps = λ k. (h, rw (there true f)) }

      module _ (f : is_found c ≡ false) (d : Course) (on : d ≡ feedings c lump) {st : List ℕ} (stored : CourseStored d state st) where
        so : d ≡ feedings (course_in state) lump
        so = on ∙ ap (λ (x : Course). feedings x lump) is

        kept : Keeps st (gone_on (course_in state) lump)
        unfolding gone_on
        kept = (stored.holds, stored.reads ∙ so ∙ rw (there false f))

        now-found : (b : Bool) → is_found d ≡ b → is_found (feedings (course_in state) lump) ≡ b
        now-found b e = ap is_found (sym so) ∙ e

        written : into (feedings (course_in state) lump) state ≡ st
        written = ap (λ (x : Course). into x state) (sym so) ∙ sym stored.words

        pub feed-on : is_found d ≡ false → Heard state lump short (Ok None) st
        unfolding feed_call
        feed-on g =
            record {
              says = silent call short st (λ line told e. rw (e ∙ s, h, there false f, now-found false g) (ap (λ (x : List ℕ). saying_of (Ok None) x line told) written));
              keeps = λ k. kept;
            }

        pub feed-says : (v : Verdict) → is_found d ≡ true → v ≡ verdict_now d → Heard state lump short (Ok (Some v)) st
        unfolding feed_call
        feed-says v g w =
            record {
              says = spoken call short v st s (λ line told e. rw (e ∙ s, h, there false f, now-found true g) (λ i. saying_of (Ok (Some (now-told i))) (written i) line told));
              keeps = λ k. kept;
            }
          where
            now-told : verdict_now (feedings (course_in state) lump) ≡ v
            now-told = ap verdict_now (sym so) ∙ sym w

-- ---- the end

module _ (state : List ℕ) (short : Bool) where
  pub end_short : short ≡ true → Says (end_call state) short (Err Short) state
  unfolding end_call
  end_short s = refused (end_call state) short Short state (λ line told e. rw (e ∙ s))

  module _ (s : short ≡ false) where
    pub end_none : holds_replay state ≡ false → Says (end_call state) short (Err NoReplay) state
    unfolding end_call
    end_none h = refused (end_call state) short NoReplay state (λ line told e. rw (e ∙ s, h))

    module _ (h : holds_replay state ≡ true) (c : Course) (is : c ≡ course_in state) where
      pub end_after : is_found c ≡ true → Says (end_call state) short (Ok None) (set state 0 0)
      unfolding end_call
      end_after f = silent (end_call state) short (set state 0 0) (λ line told e. rw (e ∙ s, h, ap is_found (sym is) ∙ f))

      pub end-says : (v : Verdict) → is_found c ≡ false → v ≡ verdict_now c → Says (end_call state) short (Ok (Some v)) (set state 0 0)
      unfolding end_call
      end-says v f w =
          spoken (end_call state) short v (set state 0 0) s (λ line told e.
          rw (e ∙ s, h, ap is_found (sym is) ∙ f) (ap (λ (x : Verdict). saying_of (Ok (Some x)) (set state 0 0) line told) (ap verdict_now (sym is) ∙ sym w)))

-- ---- what was to be said is said

module _ (call : List ℕ → List ℕ → Call) (short : Bool) (said : Said) (state line told : List ℕ) (s : Says call short said state)
    (e : short ≡ is_short (length line) (length told)) {n : ℕ} {ln t : List ℕ} (p : Tells said line told n ln t) where
  as_called : call line told ≡ saying_of said state line told
  as_called = s.is line told (sym e)

  pub told-ends : Ends (call line told) n state ln t
  told-ends = rw as_called (record { number = p.number; state-is = refl; line-is = p.line-is; told_is = p.told_is })

pub told-feeds : (before lump : List ℕ) (short : Bool) (said : Said) (state line told : List ℕ) → Heard before lump short said state →
    short ≡ is_short (length line) (length told) → {n : ℕ} {ln t : List ℕ} → Tells said line told n ln t →
    Feeds before lump (feed_call before lump line told) n state ln t
told-feeds before lump short said state line told h e p =
    let q = told-ends (feed_call before lump) short said state line told h.says e p in
    record { number = q.number; state-is = q.state-is; line-is = q.line-is; told_is = q.told_is; keeps = λ z. h.keeps (sym p.number ∙ z) }
