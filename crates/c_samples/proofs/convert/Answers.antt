-- `convert`: the loop goes on, or ends in one of three ways.
use mir.Syntax.{w32}
use mir.Val.{to_z, of_z}
use Rattle.std.proofs.Common.{rules, ◌≡◌, ◌+◌, ◌*◌, ◌/◌, length, arith, refl}
use Rattle.c_samples.proofs.Floats.{end, stop-fault, stop-room, go_on}
use Rattle.c_samples.proofs.convert.Goals as goal

pub returns-in-Err : goal.returns-in-Err
returns-in-Err c =
    let a = c.args in
    rw c.from.ensures (stop-fault a.floats.now a.missing.now a.out.now c.loop-j.out (2 * c.loop-j.j) c.loop-j.invariant _ (omega arith) c.sample_at.ensures _ c.in-Err.ensures)

pub returns-then-out-i : goal.returns-then-out-i
returns-then-out-i c =
    let a = c.args in
    stop-room a.floats.now a.missing.now a.out.now c.loop-j.out (2 * c.loop-j.j) c.loop-j.invariant _ (omega arith) c.sample_at.ensures _ _ c.in-Ok.ensures c.if-out-i.true

pub loop-j-preserved : goal.loop-j-preserved
loop-j-preserved c =
    let a = c.args in
    let n : 2 * (c.loop-j.j + 1) ≡ 2 * c.loop-j.j + 2 = omega arith in
    let x : to_z w32 (of_z w32 c.in-Ok.heard.0) ≡ c.in-Ok.heard.0 = search rules in
    let y : to_z w32 (of_z w32 c.in-Ok.heard.1) ≡ c.in-Ok.heard.1 = search rules in
    rw (n, x, y)
    (go_on a.floats.now a.missing.now a.out.now c.loop-j.out (2 * c.loop-j.j) c.loop-j.invariant _ (omega arith) c.sample_at.ensures _ _ c.in-Ok.ensures _ refl c.if-out-i.false)

pub returns : goal.returns
returns c =
    let a = c.args in
    let e : length a.floats.now / 2 ≡ c.loop-j.j = omega arith in
    rw e (end a.floats.now a.missing.now a.out.now c.loop-j.out (2 * c.loop-j.j) c.loop-j.invariant (omega arith))
