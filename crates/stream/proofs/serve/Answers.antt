-- `serve`: a pass more. The reading leaves the lines as they are, and what the pass hands on is the answer to what it heard.
use Rattle.std.proofs.Common.{◌∙◌, sym, arith}
use Rattle.stream.proofs.Streams.{served-as, served-on}
use Rattle.stream.proofs.serve.Goals as goal

pub loop-preserved : goal.loop-preserved
loop-preserved g c =
    let l = c.loop.invariant in
    let r = c.refill-now in
    let a = c.answer-now in
    record {
      page = a.auto.page ∙ l.page;
      place = a.ensures.from_le_to_2.0;
      end = omega (arith, a.ensures.from_le_to_2.1, r.ensures.from_le_to.1, r.auto.chunk);
      held = omega (arith, a.ensures.from_le_to_2.3, a.auto.line);
      served = served-on r.result r.new.chunk a.result.from (sym a.ensures.from_le_to_2.2 ∙ c.if-now.false) a.auto.line
          (served-as r.ensures.from_le_to.2 r.ensures.from_le_to.3 l.served) a.ensures.passes;
    }
