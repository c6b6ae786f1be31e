-- One record, by what the code asks.
--   left-length                         how many words have no old one against them
--   minded-off, minded-word, minded-run   after a refusal; an old word; any other record
--   minded-own                          a record's values stand in its own bytes: what lies behind them in the frame makes no difference
--   ran-is                              the last by what the code has in hand
use mathlib.Core.Path.{◌≡◌, refl, ap, ◌∙◌}
use mathlib.Core.Bool.{Bool, true, false, cond}
use mathlib.Core.List.{List}
use Prim.Native.Nat.{ℕ, ◌+◌, ◌-◌, ◌<◌, min}
use native.Mathlib.Omega.{arith}
use lib.ListN.{get_or, length, take, length-take, length-drop}
use lib.Seq.{get_or-take}
use Rattle.records.specs.Kinds.{kind_of}
use Rattle.records.specs.Values.{Entry, entry, word_of}
use Rattle.records.specs.Frames.{capped}
use Rattle.replay_judge.specs.declared.Judge.{Judge}
use Rattle.replay_judge.specs.Judging.{State, state_of, left, left_of, took}
use Rattle.replay.specs.Meaning.{agreed}
use Rattle.replay.proofs.Own.{took-own}
use Rattle.salvage_meaning.specs.Salvage.{is_word}
use Rattle.salvage_meaning.proofs.Same.{word_size}
use Rattle.salvage.specs.declared.record.Tally.{Tally}
use Rattle.salvage.specs.Taking.{waiting_for, waiting_state, counts, Minded, minded_of, worded, tally_ran, ran, minded}

-- ---- the words that belong there

pub left-length : (shown given : ℕ) (due : List ℕ) → length (left shown given due) ≡ min given (length due) - shown
unfolding left
left-length shown given due = length-drop shown (take given due) ∙ ap (λ (n : ℕ). n - shown) (length-take given due)

-- ---- any record

module _ (s : State) (t : Tally) (r : Entry) where
  abbrev pub quiet : Minded
  quiet = record { state = s; tally = t; writes = false }

  pub minded-off : agreed s.verdict ≡ false → minded s t r ≡ quiet
  unfolding minded
  minded-off e = rw e

  module _ (e : agreed s.verdict ≡ true) where
    pub minded-word : is_word r ≡ true → minded s t r ≡ worded s t (word_of r.body)
    unfolding minded
    minded-word h = rw (e, h)

    pub minded-run : is_word r ≡ false → minded s t r ≡ ran s t r
    unfolding minded
    minded-run h = rw (e, h)

-- ---- a record in a frame

module _ (s : State) (t : Tally) (k : ℕ) (body : List ℕ) where
  abbrev own : Entry
  own = entry k (take (kind_of k).size body)

  word-own : is_word own ≡ true → word_of body ≡ word_of own.body
  word-own h =
      let z : (kind_of k).size ≡ 4 = word_size own h in
      let at : (i : ℕ) → i < 4 → get_or (take (kind_of k).size body) i 0 ≡ get_or body i 0 = λ i l. get_or-take (kind_of k).size body i 0 (omega arith) in
      rw (at 0 (omega arith), at 1 (omega arith), at 2 (omega arith), at 3 (omega arith))

  ran-own : ran s t (entry k body) ≡ ran s t own
  unfolding ran
  ran-own =
      ap (λ (n : State). record { state = n; tally = tally_ran s t (kind_of k).size (agreed n.verdict); writes = agreed n.verdict }) (took-own (waiting_state s) k body)

  pub minded-own : minded s t (entry k body) ≡ minded s t own
  unfolding minded
  minded-own = go (is_word own) refl
    where
      go : (b : Bool) → is_word own ≡ b
          → cond (agreed s.verdict) (cond b (worded s t (word_of body)) (ran s t (entry k body))) (record { state = s; tally = t; writes = false })
          ≡ cond (agreed s.verdict) (cond b (worded s t (word_of own.body)) (ran s t own)) (record { state = s; tally = t; writes = false })
      go true h = ap (λ (g : ℕ). cond (agreed s.verdict) (worded s t g) (record { state = s; tally = t; writes = false })) (word-own h)
      go false h = ap (λ (m : Minded). cond (agreed s.verdict) m (record { state = s; tally = t; writes = false })) ran-own

-- ---- what the code has in hand

module _ (j : Judge) (t : Tally) (k : ℕ) (body sums registers picks due : List ℕ) where
  abbrev s : State
  s = state_of j sums registers picks due

  module _ (wait next : Judge) (sums₁ registers₁ picks₁ due₁ : List ℕ) (w : wait ≡ waiting_for j)
      (n : state_of next sums₁ registers₁ picks₁ due₁ ≡ took (state_of wait sums registers picks due) (entry k body)) where
    abbrev after : State → Minded
    after x = record { state = x; tally = tally_ran s t (kind_of k).size (agreed x.verdict); writes = agreed x.verdict }

    pub ran-is : (few added kept : ℕ) (b : Bool) → few ≡ length (left_of s) → added ≡ capped (t.added + few) → b ≡ agreed next.verdict
        → kept ≡ cond b (capped (t.kept + (1 + (kind_of k).size))) t.kept
        → minded_of (record { judge = next; tally = counts t.replaced added t.removed kept; writes = b }) sums₁ registers₁ picks₁ due₁ ≡ ran s t (entry k body)
    unfolding ran
    ran-is few added kept b f a v z = rw (z, v, a, f) (ap after (n ∙ ap (λ (x : Judge). took (state_of x sums registers picks due) (entry k body)) w))
