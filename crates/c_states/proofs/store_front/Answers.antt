-- `store_front`: the parts one after the other.
use Rattle.std.proofs.Common.{rules, ◌≡◌, ◌++◌, refl, ◌∙◌, length, arith, length-append}
use Rattle.c_layout.specs.Halves.{packed}
use Rattle.c_layout.proofs.Halves.{packed-length}
use Rattle.c_states.specs.Front.{words_of_core}
use Rattle.c_states.proofs.Holding.{part-written}
use Rattle.c_states.proofs.store_front.Goals as goal

pub returns : goal.returns
returns c =
    let core = c.store_core.ensures in
    let a = c.args in
    let l = a.words.now in
    let head = words_of_core a.live a.front.core in
    let halves = packed a.front.sums in
    let n : length halves ≡ 8 = packed-length a.front.sums in
    let m : length (head ++ halves) ≡ 14 = rw length-append (omega arith) in
    let e = part-written l head c.copy_from_slice.new.self 6 8 refl core.words in
    let d = part-written l (head ++ c.copy_from_slice.new.self) c.copy_from_slice-2.new.self 14 48 (rw (c.copy_from_slice.ensures.after, c.pack.ensures.0) m) e in
    record {
      words = d ∙ rw (c.copy_from_slice.ensures.after, c.copy_from_slice-2.ensures.after, c.pack.ensures.0);
      u-fits = core.u-fits;
      turn-fits = core.turn-fits;
      sums-fit = search rules;
      sums-small = c.pack.ensures.1;
      registers-fit = search rules;
    }
