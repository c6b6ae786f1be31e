-- Both say of each byte in turn that it is not above the bound.
use Rattle.std.proofs.Common.{◌≤◌, rules}
use Rattle.std.specs.Bool.{Decides}
use Rattle.std.specs.List.{All}
use Rattle.std.proofs.lemmas.Bool.Decides.{same_from_decides}
use Rattle.lists.specs.UpTo.{all_up_to}
use Rattle.lists.proofs.UpTo.{up-to-decides}
use Rattle.lists.proofs.bytes_up_to.Goals as goal

pub returns : goal.returns
returns c =
    let each : Decides c.all.result (All (λ x. x ≤ c.args.most) c.args.list.now) = search rules in
    same_from_decides c.all.result (all_up_to c.args.most c.args.list.now) each (up-to-decides c.args.most c.args.list.now)
