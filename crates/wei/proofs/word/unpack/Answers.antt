-- `word::unpack`: each part is a quotient's remainder.
use Prim.Native.Nat.{◌/◌}
use lib.Bits.{and_mask}
use Rattle.wei.specs.Word.{unpacked}
use Rattle.wei.proofs.Words.{masked, masked-w2}
use Rattle.wei.proofs.word.unpack.Goals as goal

pub returns : goal.returns
unfolding unpacked
returns c =
    let n = c.args.word in
    let u = c.args.u in
    λ i. record {
      i1 = and_mask n 1 i;
      i2 = and_mask (n / 2) 1 i;
      i3 = and_mask (n / 4) 1 i;
      w1 = masked (n / 8) u c.requires i;
      w2 = masked-w2 n u c.requires i;
    }
