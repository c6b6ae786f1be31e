-- `send_words`: the loop goes on, stops at a refused word, or comes to the end (proofs/Lists).
use Rattle.sender.proofs.Cases.{err-done, err-refused}
use Rattle.sender.proofs.Lists.{go_on, stop, stop-open, stop-accord, end, went-is}
use Rattle.sender.proofs.send_words.Goals as goal

pub loop-sent-preserved : goal.loop-sent-preserved
loop-sent-preserved c =
    let r = c.send_word-r in
    go_on c.args.words.now c.args.out.now c.sender_at-sender.result _ _ _ c.loop-sent.invariant c.loop-sent-test.true r.result _ r.ensures r.auto.out
    (err-done r.result.why c.is_err.result c.is_err.ensures.value c.if-is_err.false)

pub returns-then-is_err : goal.returns-then-is_err
returns-then-is_err c =
    let a = c.args in
    let s = c.sender_at-sender.result in
    let ws = a.words.now in
    let out = a.out.now in
    let g = c.loop-sent.invariant in
    let more = c.loop-sent-test.true in
    let r = c.send_word-r in
    went-is s a.accord a.turn a.state c.sender_at-sender.ensures ws out r.result.sender _ _ _
    (stop-open ws out s _ _ _ g more r.result _ r.ensures r.auto.out) (stop-accord ws out s _ _ _ g more r.result _ r.ensures r.auto.out)
    (stop ws out s _ _ _ g more r.result _ r.ensures r.auto.out (err-refused r.result.why c.is_err.result c.is_err.ensures.value c.if-is_err.true))

pub returns : goal.returns
returns c =
    let a = c.args in
    let g = c.loop-sent.invariant in
    went-is c.sender_at-sender.result a.accord a.turn a.state c.sender_at-sender.ensures a.words.now a.out.now _ _ _ _ g.fit g.accord
    (end a.words.now a.out.now c.sender_at-sender.result _ _ _ g c.loop-sent-test.false)
