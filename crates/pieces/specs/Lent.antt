-- What the code of a run is lent and what it leaves, in terms of `running`.
--   RunsLent          a run's result, the lists that were lent to it and the output are those of `running`
use Rattle.std.specs.Prelude.{ℕ, ◌≡◌, List, length}
use Rattle.machine.specs.Parts.{whole}
use Rattle.reasons.specs.Reason.{given_of}
use Rattle.pieces.specs.declared.Heard.{Heard}
use Rattle.pieces.specs.Running.{Ran, Written}

-- the result r of a run, where the receiver's lists were lent, and what stands in them and in the output after it
pub record RunsLent (ran : Ran) (out : List ℕ) (r : Heard) (sums registers picks o : List ℕ) : Type 0 where
  pub receiver : whole r.core sums registers picks ≡ ran.receiver
  pub taken : r.taken ≡ ran.taken
  pub written : r.written ≡ length ran.words
  pub given : given_of r.why ≡ given_of ran.why
  pub output : Written ran.words out o
