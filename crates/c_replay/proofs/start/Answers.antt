-- `start`: 8 where the state is too short.
use Rattle.c_replay.proofs.Cases.{start-short, start-done}
use Rattle.c_replay.proofs.start.Goals as goal

pub returns-then-state-lt-WORDS : goal.returns-then-state-lt-WORDS
returns-then-state-lt-WORDS c = start-short c.args.state.now c.if-state-lt-WORDS.true

pub returns : goal.returns
returns c = start-done c.args.state.now _ c.if-state-lt-WORDS.false c.start.ensures c.store.ensures
