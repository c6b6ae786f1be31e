-- `unread`: an answer alone.
use Rattle.std.proofs.Common.{◌≡◌, arith}
use Rattle.record_text.proofs.Notings.{idles}
use Rattle.record_text.proofs.unread.Goals as goal

pub returns : goal.returns
returns c =
    let two : c.unread.result ≡ 2 = c.unread.ensures.next in
    rw c.idle.ensures (idles c.args.rx c.args.begun _ _ _ _ c.unread.result (omega arith) c.unread.ensures)
