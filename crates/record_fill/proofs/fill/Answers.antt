-- `fill`: a write into the body is one of its bytes after another.
use Rattle.std.proofs.Common.{◌≡◌, ◌≤◌, ◌+◌, ◌-◌, ℕ, List, length, arith, take, drop-drop, append_assoc}
use borrow.Rule.Slice.PartMut.{put_mid}
use Rattle.std.proofs.lemmas.List.Edits.{sets, sets-eq}
use Rattle.record_fill.proofs.fill.Goals as goal

written : (bs body ys : List ℕ) (have : ℕ) → have + length bs ≤ length body → ys ≡ bs → put_mid have (have + length bs - have) body ys ≡ sets body have bs
written bs body ys have h e =
    let m : have + length bs - have ≡ length bs = omega arith in
    rw (e, m, sets-eq bs body have h, ← drop-drop (length bs) have body, append_assoc (take have body) bs)

pub returns : goal.returns
returns c =
    let a = c.args in
    written a.bytes.now a.body _ a.have (omega arith) c.copy_from_slice.ensures.after
