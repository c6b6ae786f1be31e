-- `demfizagu_is_open`: the one end or the other.
use Rattle.std.proofs.Common.{◌≡◌, ◌∙◌, sym, ap, refl, Bool, true, false, cond}
use mathlib.Core.Bool.{◌||◌}
use Rattle.std.specs.Int.{from_bool}
use Rattle.machine.specs.Machine as machine
use Rattle.sender.specs.Send as sender
use Rattle.c_states.specs.State.{sender_in, receiver_in}
use Rattle.demfizagu.specs.Calls.{open_in}
use Rattle.demfizagu.proofs.demfizagu_is_open.Goals as goal
use Rattle.demfizagu.proofs.demfizagu_is_open.Goals.{then-is_open, else-is_open}

as-number : (b : Bool) → from_bool b ≡ cond b 1 0
as-number true = refl
as-number false = refl

pub returns : goal.returns
unfolding open_in
returns c =
    let ws = c.args.state.now in
    let either : c.if-is_open.from ≡ (machine.sound (receiver_in ws) || sender.sound (sender_in ws)) =
    elim c.if-is_open.branch [
      | then-is_open w ↦ w.from-is ∙ w.if-is_open.true ∙ rw (sym (rw c.load_receiver.ensures at c.is_open.ensures) ∙ w.if-is_open.true)
      | else-is_open w ↦ w.from-is ∙ (rw w.load_sender.ensures at w.is_open-else-is_open.ensures) ∙ rw (sym (rw c.load_receiver.ensures at c.is_open.ensures) ∙ w.if-is_open.false)
    ] in
    c.from.ensures ∙ as-number c.if-is_open.from ∙ ap (λ (b : Bool). cond b 1 0) either
