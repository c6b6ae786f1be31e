-- `apart`: the bits in which the words so far differ.
use Rattle.std.proofs.Common.{◌≡◌, ℕ, ◌+◌, ◌<◌, List, length, get_or, drop, sym, ap, ◌∙◌, add-one, arith}
use lib.Bits.{bit_or, bit_xor}
use lib.ListN.{drop_of_length-le}
use lib.Seq.{drop-cons}
use Rattle.registers.specs.Registers.{apart_from}
use Rattle.registers.proofs.apart.Goals as goal

more : (f d s : ℕ) (l : List ℕ) → s < length l → apart_from f d (drop s l) ≡ apart_from f (bit_or d (bit_xor (get_or l s 0) f)) (drop (s + 1) l)
unfolding apart_from
more f d s l h = ap (apart_from f d) (drop-cons l s 0 h) ∙ ap (λ (n : ℕ). apart_from f (bit_or d (bit_xor (get_or l s 0) f)) (drop n l)) (sym (add-one s))

pub loop-word-preserved : goal.loop-word-preserved
loop-word-preserved c =
    let w = c.args.ways.now in
    c.loop-word.invariant ∙ more (get_or w 0 0) c.loop-word.bits c.loop-word.word-index w (omega arith)

pub returns : goal.returns
unfolding apart_from
returns c =
    let w = c.args.ways.now in
    sym (c.loop-word.invariant ∙ ap (apart_from (get_or w 0 0) c.loop-word.bits) (drop_of_length-le w {i = c.loop-word.word-index} (omega arith)))
