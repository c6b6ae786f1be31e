-- `put_own`: the kind, and as much of the frame's body as the kind has.
use Rattle.std.proofs.Common.{◌≡◌, length, arith, rules}
use Rattle.salvage.proofs.Putting.{size_is, own_put}
use Rattle.salvage.proofs.put_own.Goals as goal

pub shared_ref_as_front-put_text : goal.shared_ref_as_front-put_text
shared_ref_as_front-put_text c =
    let nine : length c.args.frame.body ≡ 9 = search rules in
    (size_is c.args.frame _ c.kind_of-kind.ensures nine).few

pub returns-clause-puts : goal.returns-clause-puts
returns-clause-puts c =
    let nine : length c.args.frame.body ≡ 9 = search rules in
    own_put _ _ (size_is c.args.frame _ c.kind_of-kind.ensures nine) _ _ _ _ _ _ (omega (arith, c.requires)) c.put_byte-p.ensures c.put_text.ensures
