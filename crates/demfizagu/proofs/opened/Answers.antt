-- `opened`: 8 where the state is too short, or what the opening gave.
use Rattle.demfizagu.proofs.Cases.{receiver-short, receiver-opened}
use Rattle.demfizagu.proofs.opened.Goals as goal

pub returns-then-state-lt-RECEIVER_WORDS : goal.returns-then-state-lt-RECEIVER_WORDS
returns-then-state-lt-RECEIVER_WORDS c k w b e = receiver-short c.args.state.now k w b c.if-state-lt-RECEIVER_WORDS.true

pub returns : goal.returns
returns c k w b e = receiver-opened c.args.state.now _ k w b _ _ c.if-state-lt-RECEIVER_WORDS.false e c.number.ensures c.store_receiver.ensures
