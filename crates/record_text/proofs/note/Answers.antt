-- `note`: by the kind of the request. Each arm is one call.
use Rattle.std.proofs.Common.{[], arith}
use Rattle.desk.proofs.Desks.{sizes-of}
use Rattle.phrases.proofs.Phrases.{nothing_put}
use Rattle.requests.specs.Named.{named}
use Rattle.record_text.specs.Note.{noting}
use Rattle.record_text.proofs.Notings.{idles, noted-as, at-noted, piece-noted, marked-noted, finish-noted, other-noted, notes-same}
use Rattle.record_text.proofs.note.Goals as goal

pub returns-in-Nothing : goal.returns-in-Nothing
unfolding noting
returns-in-Nothing c =
    let a = c.args in
    let l = named a.coordinates.now a.words.now a.marks.now in
    notes-same (noted-as a.rx a.begun l _ c.in-Nothing.is) (rw c.idle.ensures (idles a.rx a.begun [] _ _ _ 0 (omega arith) (nothing_put _ 0)))

pub returns-in-Plain : goal.returns-in-Plain
unfolding noting
returns-in-Plain c =
    let a = c.args in
    let l = named a.coordinates.now a.words.now a.marks.now in
    notes-same (noted-as a.rx a.begun l _ c.in-Plain.is) c.opening.ensures

pub returns-in-Free : goal.returns-in-Free
unfolding noting
returns-in-Free c =
    let a = c.args in
    let l = named a.coordinates.now a.words.now a.marks.now in
    notes-same (noted-as a.rx a.begun l _ c.in-Free.is) c.opening-in-Free.ensures

pub returns-in-At : goal.returns-in-At
returns-in-At c =
    let a = c.args in
    let l = named a.coordinates.now a.words.now a.marks.now in
    notes-same (at-noted a.rx a.begun l _ c.in-At.is c.start_number.ensures) c.opening-in-At.ensures

pub returns-in-Piece : goal.returns-in-Piece
returns-in-Piece c =
    let a = c.args in
    let l = named a.coordinates.now a.words.now a.marks.now in
    let sizes = sizes-of _ c.in-Piece.is c.requires.fit in
    notes-same (piece-noted a.rx a.begun l _ c.in-Piece.is (omega (arith, sizes.0, c.requires.long.words_long))) c.hear.ensures

pub returns-in-Finish : goal.returns-in-Finish
returns-in-Finish c =
    let a = c.args in
    let l = named a.coordinates.now a.words.now a.marks.now in
    let sizes = sizes-of _ c.in-Finish.is c.requires.fit in
    notes-same (finish-noted a.rx a.begun l _ c.in-Finish.is (omega (arith, sizes, c.requires.long.words_long))) c.finish.ensures

pub returns-in-Marked : goal.returns-in-Marked
returns-in-Marked c =
    let a = c.args in
    let l = named a.coordinates.now a.words.now a.marks.now in
    let sizes = sizes-of _ c.in-Marked.is c.requires.fit in
    notes-same (marked-noted a.rx a.begun l _ c.in-Marked.is (omega (arith, sizes.0, c.requires.long.words_long))) c.hear_marked.ensures

pub returns-in_default : goal.returns-in_default
returns-in_default c =
    let a = c.args in
    let l = named a.coordinates.now a.words.now a.marks.now in
    let d = c.in_default in
    notes-same (other-noted a.rx a.begun l _ a.asked d.not-Nothing d.not-Plain d.not-Free d.not-At d.not-Piece d.not-Finish d.not-Marked) c.unread.ensures
