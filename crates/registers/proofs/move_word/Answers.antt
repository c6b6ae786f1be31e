-- `move_word`: the states that are moved so far.
use Rattle.std.proofs.Common.{◌≡◌, ℕ, ◌+◌, ◌*◌, ◌/◌, ◌%◌, ◌^◌, List, get_or, set, ap, ◌∙◌, arith}
use Rattle.registers.specs.Registers.{longer}
use Rattle.registers.proofs.Places.{put-none, put-more}
use Rattle.registers.proofs.move_word.Goals as goal

pub loop-s-init : goal.loop-s-init
loop-s-init c = put-none _ _ _ c.told-registers

pub loop-s-preserved : goal.loop-s-preserved
loop-s-preserved c =
    let a = c.args in
    let s = c.loop-s.s in
    let e : get_or a.below.now s 0 / 2 ^ 61 ≡ get_or a.below.now s 0 / 2 ^ 61 % 8 = omega (arith, c.fits-below s) in
    ap (λ (l : List ℕ). set l (16 * a.b + s) c.longer_by.result) c.loop-s.invariant
    ∙ put-more a.b _ a.registers.now s c.longer_by.result (omega arith) (omega arith) (c.longer_by.ensures ∙ ap (longer (get_or a.ways.now s 0)) e)
