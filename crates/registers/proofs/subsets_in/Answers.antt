-- `subsets_in`: the table of what each place was given.
use Rattle.std.proofs.Common.{◌≡◌, ◌*◌, ◌%◌, ◌^◌, get_or, arith, rules}
use Rattle.lists.proofs.Made.{made}
use Rattle.registers.proofs.subsets_in.Goals as goal

pub returns : goal.returns
returns c =
    let x = c.args.steps.now in
    made _ _ (λ s. get_or x s 0 % 8 * 2 ^ 61) 16
    (λ s y q h k. let e : get_or x s 0 % 8 * 2 ^ 61 % 2 ^ 64 ≡ get_or x s 0 % 8 * 2 ^ 61 = omega arith in (search rules, search rules))
    _ c.from_fn.ensures.items
