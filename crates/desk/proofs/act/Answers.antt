-- `act`: by the kind of the request; each arm is one call, which promises the desk and the answer of its own request.
use Rattle.std.proofs.Common.{arith, refl}
use Rattle.requests.specs.Named.{named}
use Rattle.phrases.proofs.Phrases.{nothing_put}
use Rattle.desk.specs.Desk.{acting}
use Rattle.desk.proofs.Desks.{does, acts}
use Rattle.desk.proofs.act.Goals as goal

pub returns-in-Nothing : goal.returns-in-Nothing
unfolding acting
returns-in-Nothing c =
    acts c.args.desk (named c.args.coordinates.now c.args.words.now c.args.marks.now) c.in-Nothing.is (does refl refl refl (omega arith) (nothing_put _ _))

pub returns-in-Unread : goal.returns-in-Unread
unfolding acting
returns-in-Unread c =
    acts c.args.desk (named c.args.coordinates.now c.args.words.now c.args.marks.now) c.in-Unread.is c.unread.ensures

pub returns-in-Sender : goal.returns-in-Sender
unfolding acting
returns-in-Sender c =
    acts c.args.desk (named c.args.coordinates.now c.args.words.now c.args.marks.now) c.in-Sender.is c.open_sender.ensures

pub returns-in-Send : goal.returns-in-Send
unfolding acting
returns-in-Send c =
    acts c.args.desk (named c.args.coordinates.now c.args.words.now c.args.marks.now) c.in-Send.is c.send.ensures

pub returns-in-Plain : goal.returns-in-Plain
unfolding acting
returns-in-Plain c =
    acts c.args.desk (named c.args.coordinates.now c.args.words.now c.args.marks.now) c.in-Plain.is c.open_plain.ensures

pub returns-in-Free : goal.returns-in-Free
unfolding acting
returns-in-Free c =
    acts c.args.desk (named c.args.coordinates.now c.args.words.now c.args.marks.now) c.in-Free.is c.open_free.ensures

pub returns-in-At : goal.returns-in-At
unfolding acting
returns-in-At c =
    acts c.args.desk (named c.args.coordinates.now c.args.words.now c.args.marks.now) c.in-At.is c.open_at.ensures

pub returns-in-Piece : goal.returns-in-Piece
unfolding acting
returns-in-Piece c =
    acts c.args.desk (named c.args.coordinates.now c.args.words.now c.args.marks.now) c.in-Piece.is c.hear.ensures

pub returns-in-Finish : goal.returns-in-Finish
unfolding acting
returns-in-Finish c =
    acts c.args.desk (named c.args.coordinates.now c.args.words.now c.args.marks.now) c.in-Finish.is c.finish.ensures

pub returns-in-Sample : goal.returns-in-Sample
unfolding acting
returns-in-Sample c =
    acts c.args.desk (named c.args.coordinates.now c.args.words.now c.args.marks.now) c.in-Sample.is c.sample.ensures

pub returns-in-Pending : goal.returns-in-Pending
unfolding acting
returns-in-Pending c =
    acts c.args.desk (named c.args.coordinates.now c.args.words.now c.args.marks.now) c.in-Pending.is c.pending.ensures

pub returns-in-List : goal.returns-in-List
unfolding acting
returns-in-List c =
    acts c.args.desk (named c.args.coordinates.now c.args.words.now c.args.marks.now) c.in-List.is c.list.ensures

pub returns-in-Missing : goal.returns-in-Missing
unfolding acting
returns-in-Missing c =
    acts c.args.desk (named c.args.coordinates.now c.args.words.now c.args.marks.now) c.in-Missing.is c.missing.ensures

pub returns-in-Marked : goal.returns-in-Marked
unfolding acting
returns-in-Marked c =
    acts c.args.desk (named c.args.coordinates.now c.args.words.now c.args.marks.now) c.in-Marked.is c.hear-in-Marked.ensures

pub returns-in-Card : goal.returns-in-Card
unfolding acting
returns-in-Card c =
    acts c.args.desk (named c.args.coordinates.now c.args.words.now c.args.marks.now) c.in-Card.is c.card.ensures
