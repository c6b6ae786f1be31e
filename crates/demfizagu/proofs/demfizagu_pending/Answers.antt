-- `demfizagu_pending`: what is pending is at most 64.
use Rattle.std.proofs.Common.{◌≡◌, arith}
use Rattle.demfizagu.specs.Calls.{pending_in}
use Rattle.demfizagu.proofs.Cases.{pending-small}
use Rattle.demfizagu.proofs.demfizagu_pending.Goals as goal

pub overflow_cast-result : goal.overflow_cast-result
unfolding pending_in
overflow_cast-result c =
    let e : c.pending.result ≡ pending_in c.args.state.now = rw c.load_receiver.ensures at c.pending.ensures in
    let h = pending-small c.args.state.now in
    rw e (omega (arith, h))

pub returns : goal.returns
unfolding pending_in
returns c = rw c.load_receiver.ensures at c.pending.ensures
