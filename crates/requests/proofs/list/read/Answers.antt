-- `list::read`: a cap, and then nothing or the words, 1,024 at most.
use Rattle.std.proofs.Common.{ap, ◌≡◌, ◌<◌, ◌≤◌, refl, ℕ, Some}
use borrow.Author.Tests.{lt-leb, le-leb}
use Rattle.requests.specs.declared.Request.TheVariants as request
use Rattle.requests.specs.Verb.{unless_unread, sent_of}
use Rattle.requests.proofs.Readers.{list-bad, list-alone, list-more}
use Rattle.requests.proofs.list.read.Goals as goal

too_many : (c n : ℕ) → 1024 < n → request.Unread ≡ sent_of (Some c) (Some n)
too_many c n h = rw (lt-leb n 1024 h)

so-many : (c n : ℕ) → n ≤ 1024 → request.List c n ≡ sent_of (Some c) (Some n)
so-many c n h = rw (le-leb n 1024 h)

pub returns-in_err-cap : goal.returns-in_err-cap
returns-in_err-cap c =
    let e = list-bad c.before-n.ensures c.args.words.now c.in_err-cap.ensures in
    record { value = rw c.from_residual.ensures (ap unless_unread (e.0)); words_after = e.1 }

pub returns-then-n-rest : goal.returns-then-n-rest
returns-then-n-rest c =
    let e = list-alone c.before-n.ensures c.args.words.now c.if-n-rest.true c.in_ok-cap.ensures in
    record { value = ap unless_unread (e.0); words_after = e.1 }

pub returns-in_err-count : goal.returns-in_err-count
returns-in_err-count c =
    let e = list-more c.before-n.ensures c.if-n-rest.false c.in_ok-cap.ensures c.in_err-count.ensures refl in
    record { value = rw c.from_residual-in_err-count.ensures (ap unless_unread (e.0)); words_after = e.1 }

pub returns-then-count-gt-MOST_WORDS : goal.returns-then-count-gt-MOST_WORDS
returns-then-count-gt-MOST_WORDS c =
    let e = list-more c.before-n.ensures c.if-n-rest.false c.in_ok-cap.ensures c.in_ok-count.ensures (too_many c.in_ok-cap.cap c.in_ok-count.count c.if-count-gt-MOST_WORDS.true) in
    record { value = ap unless_unread (e.0); words_after = e.1 }

pub returns : goal.returns
returns c =
    let e = list-more c.before-n.ensures c.if-n-rest.false c.in_ok-cap.ensures c.in_ok-count.ensures (so-many c.in_ok-cap.cap c.in_ok-count.count c.if-count-gt-MOST_WORDS.false) in
    record { value = ap unless_unread (e.0); words_after = e.1 }
