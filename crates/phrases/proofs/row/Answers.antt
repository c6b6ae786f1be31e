-- `row`: one number more.
use Rattle.std.proofs.Common.{rules, arith, ap, ◌+◌, ◌*◌, ◌≡◌, ◌++◌}
use Rattle.text.specs.Bytes.{bytes}
use Rattle.page.proofs.Pages.{joined}
use Rattle.phrases.proofs.Phrases.{puts-as, one_number}
use Rattle.phrases.proofs.row.Goals as goal

pub loop-n-preserved : goal.loop-n-preserved
loop-n-preserved g c = record {
  near =
      let one : (c.loop-n.n-index + 1) * g.N.Number.room ≡ c.loop-n.n-index * g.N.Number.room + g.N.Number.room = grind arith in
      omega (arith, c.loop-n.invariant.near, c.put-p.ensures.near);
  long = search rules;
  put =
      puts-as (one_number g.N.Number.text c.args.numbers.now c.loop-n.n-index c.n-item.result (search rules))
      (joined (search rules) c.loop-n.invariant.put
      (puts-as (ap (λ x. bytes " " ++ g.N.Number.text x) c.n-item.is) c.put-p.ensures.puts));
}
