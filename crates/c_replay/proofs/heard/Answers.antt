-- `heard`: short, no replay, after a fault, no fault yet, or the fault.
use Rattle.std.proofs.Common.{arith, sym, ◌∙◌, ◌≡◌, true}
use Rattle.replay.specs.Course.{replay_of}
use Rattle.c_replay_state.specs.Words.{holds_replay}
use Rattle.c_replay_state.proofs.WordsBack.{holds_long}
use Rattle.c_replay.proofs.Cases.{feed-short, feed-none, feed-after, feed-on, feed-says}
use Rattle.c_replay.proofs.heard.Goals as goal

pub returns-then-short : goal.returns-then-short
returns-then-short c = feed-short c.args.state.now c.args.lump.now c.args.short c.if-short.true

pub returns-then-not-holds_replay : goal.returns-then-not-holds_replay
returns-then-not-holds_replay c = feed-none c.args.state.now c.args.lump.now c.args.short c.if-short.false (sym c.holds_replay.ensures ∙ c.if-not-holds_replay.true)

pub returns-then-found : goal.returns-then-found
returns-then-found c =
    let held : holds_replay c.args.state.now ≡ true = sym c.holds_replay.ensures ∙ c.if-not-holds_replay.false in
    feed-after c.args.state.now c.args.lump.now c.args.short c.if-short.false held (replay_of c.load-r.result) c.load-r.ensures (sym c.found.ensures ∙ c.if-found.true)

pub store-requires : goal.store-requires
store-requires c = omega (arith, holds_long c.args.state.now (sym c.holds_replay.ensures ∙ c.if-not-holds_replay.false))

pub returns-then-not-found : goal.returns-then-not-found
returns-then-not-found c =
    let held : holds_replay c.args.state.now ≡ true = sym c.holds_replay.ensures ∙ c.if-not-holds_replay.false in
    feed-on c.args.state.now c.args.lump.now c.args.short c.if-short.false held (replay_of c.load-r.result) c.load-r.ensures (sym c.found.ensures ∙ c.if-found.false)
    (replay_of c.feed-fed.result) c.feed-fed.ensures c.store.ensures (sym c.found-2.ensures ∙ c.if-not-found.true)

pub returns : goal.returns
returns c =
    let held : holds_replay c.args.state.now ≡ true = sym c.holds_replay.ensures ∙ c.if-not-holds_replay.false in
    feed-says c.args.state.now c.args.lump.now c.args.short c.if-short.false held (replay_of c.load-r.result) c.load-r.ensures (sym c.found.ensures ∙ c.if-found.false)
    (replay_of c.feed-fed.result) c.feed-fed.ensures c.store.ensures c.end.result (sym c.found-2.ensures ∙ c.if-not-found.false) c.end.ensures
