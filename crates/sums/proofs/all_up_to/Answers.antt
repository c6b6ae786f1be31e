-- `all_up_to`: the library's `all`, and the test of lists/specs/UpTo.
use Rattle.std.proofs.Common.{◌≤◌, Decides, rules}
use Rattle.std.specs.List.{All}
use Rattle.std.proofs.lemmas.Bool.Decides.{same_from_decides}
use Rattle.lists.proofs.UpTo.{up-to-decides}
use Rattle.sums.proofs.all_up_to.Goals as goal

pub returns : goal.returns
returns c =
    let m = c.args.top in
    let each : Decides c.all.result (All (λ x. x ≤ m) c.args.sums.now) = search rules in same_from_decides _ _ each (up-to-decides m c.args.sums.now)
