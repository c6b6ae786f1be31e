-- Words that hold a replay give it back: reading undoes writing, whatever stands behind it.
--   Holding, holding, holds_long      what is known of words that hold one
--   grown, filled                     parts put one after the other, and a list that was filled
--   lists-put, all-put                the parts of a replay
--   CourseFits, course-stored    a replay's numbers and words fit, and its lists have their lengths: then its words read as it
use mathlib.Core.Path.{◌≡◌, refl, sym, ap, ◌∙◌}
use mathlib.Core.Bool.{true}
use Rattle.std.proofs.lemmas.Bool.{and_parts}
use mathlib.Core.List.{List, [], ◌∷◌, ◌++◌, append_assoc, append-nil}
use Prim.Native.Nat.{ℕ, ◌+◌, ◌≤◌}
use native.Mathlib.Omega.{arith}
use borrow.Author.Tests.{le-leb, eq-eqb, leb-true}
use lib.Dec.{eqb, leb}
use lib.ListN.{get_or, length, take, drop, length-append, length-drop, drop_of_length-le, take-append-drop}
use lib.Seq.{take_at, drop_at, drop-drop, length-take-le}
use Rattle.replay_judge.specs.declared.Judge.{Judge}
use Rattle.replay_judge.specs.Judging.{State}
use Rattle.replay.specs.Course.{Course, course_of}
use Rattle.c_replay_state.specs.Table.{replay_tag, replay_length, sums_at, registers_at, picks_at, due_at, limits, due_limits, within, Small}
use Rattle.c_layout.specs.Halves.{unpacked, packed, AllHalves}
use Rattle.c_layout.proofs.Halves.{packed-length}
use Rattle.c_layout.proofs.Halves as halves
use Rattle.c_replay_state.proofs.Limits.{few}
use Rattle.c_replay_state.specs.Numbers.{frame_in, judge_in, numbers_of}
use Rattle.c_replay_state.proofs.NumbersBack.{frame_back, judge-back}
use Rattle.c_replay_state.specs.Words.{numbers_in, due_in, holds_replay, course_in, judge_of, words_of, CourseStored}

pub record Holding (ws : List ℕ) : Type 0 where
  pub long : replay_length ≤ length ws
  pub numbers : within limits (numbers_in ws) ≡ true
  pub due : within due_limits (due_in ws) ≡ true

pub holding : (ws : List ℕ) → holds_replay ws ≡ true → Holding ws
unfolding holds_replay
holding ws e =
    let a = and_parts (leb replay_length (length ws)) _ e in
    let b = and_parts (eqb (get_or ws 0 0) replay_tag) _ a.1 in
    let c = and_parts (within limits (numbers_in ws)) _ b.1 in
    record { long = leb-true replay_length (length ws) a.0; numbers = c.0; due = c.1 }

pub holds_long : (ws : List ℕ) → holds_replay ws ≡ true → replay_length ≤ length ws
holds_long ws e = (holding ws e).long

pub due-long : (ws : List ℕ) → holds_replay ws ≡ true → length (due_in ws) ≡ 65
due-long ws e = let h = holds_long ws e in length-take-le 65 (drop 157 ws) (rw length-drop (omega arith))

-- ---- there and back

pub record CourseFits (c : Course) : Type 0 where
  pub numbers : within limits (numbers_of c.frame (judge_of c.state)) ≡ true
  pub nine : length c.frame.body ≡ 9
  pub sums : length c.state.receiver.sums ≡ 16
  pub halves : AllHalves c.state.receiver.sums
  pub registers : length c.state.receiver.registers ≡ 48
  pub picks : length c.state.receiver.picks ≡ 72
  pub due : length c.state.due ≡ 65
  pub small : Small c.state.due
  pub width : c.state.receiver.core.accord.u ≤ 4294967295

module _ (c : Course) (rest : List ℕ) (f : CourseFits c) where
  abbrev s : State
  s = c.state

  abbrev j : Judge
  j = judge_of s

  abbrev numbers : List ℕ
  numbers = numbers_of c.frame j

  abbrev words : List ℕ
  words = words_of c ++ rest

  sized : length numbers ≡ 28
  unfolding numbers_of
  sized = refl

  -- the five parts behind the tag, and what stands behind them
  parts : drop 1 words ≡ numbers ++ (packed s.receiver.sums ++ (s.receiver.registers ++ (s.receiver.picks ++ (s.due ++ rest))))
  unfolding words_of
  parts = simp append_assoc

  sums_at_lem : drop 29 words ≡ packed s.receiver.sums ++ (s.receiver.registers ++ (s.receiver.picks ++ (s.due ++ rest)))
  sums_at_lem = sym (drop-drop 28 1 words) ∙ ap (λ (l : List ℕ). drop 28 l) parts ∙ drop_at numbers _ 28 sized

  registers-at : drop 37 words ≡ s.receiver.registers ++ (s.receiver.picks ++ (s.due ++ rest))
  registers-at = sym (drop-drop 8 29 words) ∙ ap (λ (l : List ℕ). drop 8 l) sums_at_lem ∙ drop_at (packed s.receiver.sums) _ 8 (packed-length s.receiver.sums)

  picks-at : drop 85 words ≡ s.receiver.picks ++ (s.due ++ rest)
  picks-at = sym (drop-drop 48 37 words) ∙ ap (λ (l : List ℕ). drop 48 l) registers-at ∙ drop_at s.receiver.registers _ 48 f.registers

  due-at : drop 157 words ≡ s.due ++ rest
  due-at = sym (drop-drop 72 85 words) ∙ ap (λ (l : List ℕ). drop 72 l) picks-at ∙ drop_at s.receiver.picks _ 72 f.picks

  numbers-in : numbers_in words ≡ numbers
  numbers-in = ap (λ (l : List ℕ). take 28 l) parts ∙ take_at numbers _ 28 sized

  due_in_lem : due_in words ≡ s.due
  due_in_lem = ap (λ (l : List ℕ). take 65 l) due-at ∙ take_at s.due rest 65 f.due

  long : replay_length ≤ length words
  unfolding words_of numbers_of
  long =
      rw (
        length-append (words_of c) rest,
        length-append numbers (packed s.receiver.sums ++ (s.receiver.registers ++ (s.receiver.picks ++ s.due))),
        length-append (packed s.receiver.sums) (s.receiver.registers ++ (s.receiver.picks ++ s.due)),
        length-append s.receiver.registers (s.receiver.picks ++ s.due),
        length-append s.receiver.picks s.due,
        packed-length s.receiver.sums,
        f.registers,
        f.picks,
        f.due,
      )
      (omega arith)

  tagged : get_or words 0 0 ≡ replay_tag
  unfolding words_of
  tagged = refl

  due-few : within due_limits (due_in words) ≡ true
  due-few = ap (λ (l : List ℕ). within due_limits l) due_in_lem ∙ few 65 s.due (omega (arith, f.due)) f.small

  all_fit : within limits (numbers_in words) ≡ true
  all_fit = ap (λ (l : List ℕ). within limits l) numbers-in ∙ f.numbers

  pub holds-back : holds_replay words ≡ true
  unfolding holds_replay
  holds-back = rw (le-leb replay_length (length words) long, eq-eqb (get_or words 0 0) replay_tag tagged, all_fit) due-few

  pub course-back : course_in words ≡ c
  unfolding course_in
  course-back =
      let a : frame_in (numbers_in words) ≡ c.frame = ap frame_in numbers-in ∙ frame_back c.frame j f.nine in
      let b : judge_in (numbers_in words) ≡ j = ap judge_in numbers-in ∙ judge-back c.frame j f.width in
      let h : take 8 (drop sums_at words) ≡ packed s.receiver.sums = ap (λ (l : List ℕ). take 8 l) sums_at_lem ∙ take_at (packed s.receiver.sums) _ 8 (packed-length s.receiver.sums) in
      let p : unpacked (take 8 (drop sums_at words)) ≡ s.receiver.sums = ap unpacked h ∙ halves.back s.receiver.sums f.halves f.sums in
      let q : take 48 (drop registers_at words) ≡ s.receiver.registers = ap (λ (l : List ℕ). take 48 l) registers-at ∙ take_at s.receiver.registers _ 48 f.registers in
      let r : take 72 (drop picks_at words) ≡ s.receiver.picks = ap (λ (l : List ℕ). take 72 l) picks-at ∙ take_at s.receiver.picks _ 72 f.picks in
      λ i. course_of (a i) (b i) (p i) (q i) (r i) (due_in_lem i)

pub course-stored : (c : Course) (l : List ℕ) {o : List ℕ} → CourseFits c → o ≡ words_of c ++ drop replay_length l → CourseStored c l o
course-stored c l f e =
    let rest = drop replay_length l in
    record { words = e; holds = ap holds_replay e ∙ holds-back c rest f; reads = ap course_in e ∙ course-back c rest f }

-- ---- one part after the other

-- a list that begins with p and ends as l₀ did, with f put behind p
pub grown : (l₀ p f : List ℕ) {l o : List ℕ} (a n : ℕ) → length p ≡ a → l ≡ p ++ drop a l₀ → o ≡ take a l ++ (f ++ drop n (drop a l)) → o ≡ (p ++ f) ++ drop (a + n) l₀
grown l₀ p f {l} {o} a n h e is =
    let front : take a l ≡ p = ap (λ (m : List ℕ). take a m) e ∙ take_at p (drop a l₀) a h in
    let rest : drop a l ≡ drop a l₀ = ap (λ (m : List ℕ). drop a m) e ∙ drop_at p (drop a l₀) a h in
    let behind : drop n (drop a l) ≡ drop (a + n) l₀ = ap (λ (m : List ℕ). drop n m) rest ∙ drop-drop n a l₀ in
    is ∙ (λ i. front i ++ (f ++ behind i)) ∙ sym (append_assoc p f (drop (a + n) l₀))

-- a list that was filled with words from a place
pub filled : (f z : List ℕ) {r : List ℕ} → length f ≡ length z → r ≡ f ++ drop (length f) z → r ≡ f
filled f z h e = e ∙ rw (drop_of_length-le z {i = length f} (omega arith)) (append-nil f)

-- the parts of a replay, put one after the other
pub lists-put : (l sums registers picks : List ℕ) {o₁ o₂ o₃ : List ℕ} → sums_at ≤ length l → length sums ≡ 8 → length registers ≡ 48 → length picks ≡ 72
    → o₁ ≡ take 29 l ++ (sums ++ drop 8 (drop 29 l)) → o₂ ≡ take 37 o₁ ++ (registers ++ drop 48 (drop 37 o₁)) → o₃ ≡ take 85 o₂ ++ (picks ++ drop 72 (drop 85 o₂))
    → o₃ ≡ take sums_at l ++ (sums ++ (registers ++ (picks ++ drop due_at l)))
lists-put l sums registers picks {o₁} {o₂} {o₃} h a b c e₁ e₂ e₃ =
    let p : length (take 29 l) ≡ 29 = length-take-le 29 l h in
    let q : length (take 29 l ++ sums) ≡ 37 = length-append (take 29 l) sums ∙ omega arith in
    let r : length ((take 29 l ++ sums) ++ registers) ≡ 85 = length-append (take 29 l ++ sums) registers ∙ omega arith in
    let f₁ : o₁ ≡ (take 29 l ++ sums) ++ drop 37 l = grown l (take 29 l) sums 29 8 p (sym (take-append-drop 29 l)) e₁ in
    let f₂ : o₂ ≡ ((take 29 l ++ sums) ++ registers) ++ drop 85 l = grown l (take 29 l ++ sums) registers 37 48 q f₁ e₂ in
    let f₃ : o₃ ≡ (((take 29 l ++ sums) ++ registers) ++ picks) ++ drop 157 l = grown l ((take 29 l ++ sums) ++ registers) picks 85 72 r f₂ e₃ in
    f₃ ∙ simp append_assoc

pub all-put : (c : Course) (l : List ℕ) {ns o₁ o₂ o₃ o₄ : List ℕ} → replay_length ≤ length l → CourseFits c
    → o₁ ≡ (replay_tag ∷ []) ++ drop 1 l
    → ns ≡ numbers_of c.frame (judge_of c.state) → o₂ ≡ take 1 o₁ ++ (ns ++ drop 28 (drop 1 o₁))
    → o₃ ≡ take 29 o₂ ++ (packed c.state.receiver.sums ++ (c.state.receiver.registers ++ (c.state.receiver.picks ++ drop 157 o₂)))
    → o₄ ≡ take 157 o₃ ++ (c.state.due ++ drop 65 (drop 157 o₃))
    → CourseStored c l o₄
unfolding words_of
all-put c l {ns} {o₁} {o₂} {o₃} {o₄} h f e₁ e e₂ e₃ e₄ =
    let s = c.state in
    let rx = s.receiver in
    let n : length ns ≡ 28 = ap length e ∙ sized c [] f in
    let g₁ : o₂ ≡ (replay_tag ∷ ns) ++ drop 29 l = grown l (replay_tag ∷ []) ns 1 28 refl e₁ e₂ in
    let m : length (replay_tag ∷ ns) ≡ 29 = omega arith in
    let sums = packed rx.sums in
    let lists = sums ++ (rx.registers ++ rx.picks) in
    let k : length lists ≡ 128 = length-append sums (rx.registers ++ rx.picks) ∙ rw (length-append rx.registers rx.picks, packed-length rx.sums, f.registers, f.picks) (omega arith) in
    let front : take 29 o₂ ≡ replay_tag ∷ ns = ap (λ (x : List ℕ). take 29 x) g₁ ∙ take_at (replay_tag ∷ ns) (drop 29 l) 29 m in
    let behind : drop 157 o₂ ≡ drop 157 l =
    sym (drop-drop 128 29 o₂) ∙ ap (λ (x : List ℕ). drop 128 (drop 29 x)) g₁ ∙ ap (λ (x : List ℕ). drop 128 x) (drop_at (replay_tag ∷ ns) (drop 29 l) 29 m) ∙ drop-drop 128 29 l in
    let g₂ : o₃ ≡ ((replay_tag ∷ ns) ++ lists) ++ drop 157 l = e₃ ∙ (λ i. front i ++ (sums ++ (rx.registers ++ (rx.picks ++ behind i)))) ∙ simp append_assoc in
    let q : length ((replay_tag ∷ ns) ++ lists) ≡ 157 = length-append (replay_tag ∷ ns) lists ∙ omega arith in
    let g₃ : o₄ ≡ (((replay_tag ∷ ns) ++ lists) ++ s.due) ++ drop 222 l = grown l ((replay_tag ∷ ns) ++ lists) s.due 157 65 q g₂ e₄ in
    let whole : o₄ ≡ (replay_tag ∷ (ns ++ (sums ++ (rx.registers ++ (rx.picks ++ s.due))))) ++ drop 222 l = g₃ ∙ simp append_assoc in
    course-stored c l f (whole ∙ ap (λ (m : List ℕ). (replay_tag ∷ (m ++ (sums ++ (rx.registers ++ (rx.picks ++ s.due))))) ++ drop 222 l) e)
