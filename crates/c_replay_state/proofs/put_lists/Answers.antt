-- `put_lists`: one list behind the other.
use Rattle.std.proofs.Common.{rules, ◌≡◌, ◌∙◌, arith, refl}
use Rattle.c_layout.specs.Halves.{packed}
use Rattle.c_layout.proofs.Halves.{packed-length}
use Rattle.c_replay_state.proofs.WordsBack.{lists-put}
use Rattle.c_replay_state.proofs.put_lists.Goals as goal

pub returns : goal.returns
returns c =
    let l = c.args.words.now in
    let a = c.args in
    let sums : c.copy_from_slice.new.self ≡ packed a.sums = c.copy_from_slice.ensures.after ∙ c.pack.ensures.0 in
    record {
      is = rw (sums, c.copy_from_slice-2.ensures.after, c.copy_from_slice-3.ensures.after) (lists-put l (packed a.sums) a.registers a.picks (omega arith) (packed-length a.sums) (search rules) (search rules) refl refl refl);
      same = search rules;
      sums-fit = search rules;
      sums-small = c.pack.ensures.1;
      registers-fit = search rules;
      picks-fit = search rules;
    }
