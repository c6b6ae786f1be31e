-- `put_hex`: eight digits, the highest first.
use Rattle.std.proofs.Common.{arith}
use Rattle.replay_text.proofs.Lines.{hex-few, hex-put}
use Rattle.replay_text.proofs.put_hex.Goals as goal

pub put_text-requires : goal.put_text-requires
put_text-requires c =
    let few = rw c.from.ensures at c.hex-k.ensures.len in
    omega (arith, hex-few (omega arith) few, c.hex-k.ensures.in_bounds)

pub returns : goal.returns
returns c =
    hex-put _ (omega arith) (rw c.from.ensures at c.hex-k.ensures.len) (rw c.from.ensures at c.hex-k.ensures.digits) c.put_text.ensures
