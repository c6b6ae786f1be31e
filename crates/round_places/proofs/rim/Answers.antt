-- `rim`: the entry is the definition's.
use Rattle.round_places.specs.Places.{rim_of}
use Rattle.round_places.proofs.rim.Goals as goal

pub returns : goal.returns
unfolding rim_of
returns c = c.number.ensures
