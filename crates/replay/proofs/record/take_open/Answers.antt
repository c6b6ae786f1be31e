-- `take_open`: what the opening answered, on the map of its kind.
use Rattle.replay.proofs.Records.{open_is}
use Rattle.replay.proofs.record.take_open.Goals as goal

pub returns : goal.returns
returns c =
    λ due. simp (c.from.ensures, c.from-2.ensures, c.from-3.ensures) at (open_is _ _ _ _ due _ _ _ c.open_receiver-o.result (rw (c.map_in.ensures, c.start_at-start.ensures) at c.open_receiver-o.ensures) _ _ _ c.lay.ensures _ c.answer.ensures)
