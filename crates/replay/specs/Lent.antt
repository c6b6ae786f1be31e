-- What the steps of a record do to the judge and the lists lent. What a whole record does is `took` (replay_judge/specs/Judging).
--   Laid why rx ..        the receiver's lists after an answer
--   OpensLent j k body ..   an open of kind k, whatever words lie in the list of those that are due
use Rattle.std.specs.Prelude.{ℕ, ◌≡◌, cond, List, Result, ⊤}
use Rattle.machine.specs.declared.Receiver.{Receiver}
use Rattle.reasons.specs.declared.Why.{Why}
use Rattle.reasons.specs.Reason.{is_done}
use Rattle.records.specs.Values.{accord_of, window_of, start_of}
use Rattle.replay_judge.specs.declared.Judge.{Judge}
use Rattle.replay_judge.specs.Judging.{state_of, opened}

pub record Laid (why : Result ⊤ Why) (rx : Receiver) (sums registers picks sums₁ registers₁ picks₁ : List ℕ) : Type 0 where
  pub sums-is : sums₁ ≡ cond (is_done why) rx.sums sums
  pub registers-is : registers₁ ≡ cond (is_done why) rx.registers registers
  pub picks-is : picks₁ ≡ cond (is_done why) rx.picks picks

abbrev pub OpensLent : Judge → ℕ → List ℕ → List ℕ → List ℕ → List ℕ → Judge → List ℕ → List ℕ → List ℕ → Type 0
OpensLent j k body sums registers picks r sums₁ registers₁ picks₁ =
    (due : List ℕ) → state_of r sums₁ registers₁ picks₁ due ≡ opened (state_of j sums registers picks due) (accord_of k body) (window_of body) (start_of body)
