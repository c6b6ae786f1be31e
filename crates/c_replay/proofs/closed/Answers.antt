-- `closed`: short, no replay, a fault that is said already, or the verdict.
use Rattle.std.proofs.Common.{arith, sym, ◌∙◌, ◌≡◌, true}
use Rattle.replay.specs.Course.{replay_of}
use Rattle.c_replay_state.specs.Words.{holds_replay}
use Rattle.c_replay_state.proofs.WordsBack.{holds_long}
use Rattle.c_replay.proofs.Cases.{end_short, end_none, end_after, end-says}
use Rattle.c_replay.proofs.closed.Goals as goal

pub returns-then-short : goal.returns-then-short
returns-then-short c = end_short c.args.state.now c.args.short c.if-short.true

pub returns-then-not-holds_replay : goal.returns-then-not-holds_replay
returns-then-not-holds_replay c = end_none c.args.state.now c.args.short c.if-short.false (sym c.holds_replay.ensures ∙ c.if-not-holds_replay.true)

pub bounds-state-0 : goal.bounds-state-0
bounds-state-0 c = omega (arith, holds_long c.args.state.now (sym c.holds_replay.ensures ∙ c.if-not-holds_replay.false))

pub returns-then-found : goal.returns-then-found
returns-then-found c =
    let held : holds_replay c.args.state.now ≡ true = sym c.holds_replay.ensures ∙ c.if-not-holds_replay.false in
    end_after c.args.state.now c.args.short c.if-short.false held (replay_of c.load-r.result) c.load-r.ensures (sym c.found.ensures ∙ c.if-found.true)

pub returns : goal.returns
returns c =
    let held : holds_replay c.args.state.now ≡ true = sym c.holds_replay.ensures ∙ c.if-not-holds_replay.false in
    end-says c.args.state.now c.args.short c.if-short.false held (replay_of c.load-r.result) c.load-r.ensures c.end.result (sym c.found.ensures ∙ c.if-found.false) c.end.ensures
