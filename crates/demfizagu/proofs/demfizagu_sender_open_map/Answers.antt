-- `demfizagu_sender_open_map`: 8 where the state is too short, or what the opening gave.
use mathlib.Core.Path.{subst}
use Rattle.points.specs.declared.Accord.{Accord}
use Rattle.c_layout.specs.Accords.{accord_by}
use Rattle.sender.specs.Promise.{Opens}
use Rattle.demfizagu.proofs.Cases.{sender-short, sender-opened}
use Rattle.demfizagu.proofs.demfizagu_sender_open_map.Goals as goal

pub returns-then-state-lt-SENDER_WORDS : goal.returns-then-state-lt-SENDER_WORDS
returns-then-state-lt-SENDER_WORDS c = sender-short c.args.state.now (accord_by c.args.map c.args.u) c.if-state-lt-SENDER_WORDS.true

pub returns : goal.returns
returns c =
    sender-opened c.args.state.now _ (accord_by c.args.map c.args.u) _ _ c.if-state-lt-SENDER_WORDS.false
    (subst (λ (k : Accord). Opens k c.open_sender-o.result) c.accord_by.ensures c.open_sender-o.ensures) c.number.ensures c.store_sender.ensures
