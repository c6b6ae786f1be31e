-- `hear_chunk`: what stands before a newline grows the line, and at the newline it is answered.
use Rattle.std.proofs.Common.{◌+◌, ◌<◌, ◌∙◌, refl, length, arith}
use Rattle.text.proofs.Tokens.{token_end}
use Rattle.stream.proofs.Streams.{stands-as, after-gather, after-reply, to_the_end, to-the-newline}
use Rattle.stream.proofs.hear_chunk.Goals as goal

pub returns-then-end-chunk-clause-moves : goal.returns-then-end-chunk-clause-moves
returns-then-end-chunk-clause-moves c =
    λ k b z. let stands = c.loop-from.invariant.moves k b z in
    stands-as (to_the_end _ k c.args.chunk.now c.loop-from.from c.before-n.result c.before-n.ensures)
    (after-gather stands _ refl refl (c.gather-now.ensures.by_index _ stands.holds.part))

pub loop-from-preserved : goal.loop-from-preserved
loop-from-preserved c =
    let found : c.loop-from.from + c.before-n.result < length c.args.chunk.now =
    omega (arith, token_end c.args.chunk.now c.loop-from.from c.loop-from.invariant.within c.before-n.ensures, c.if-end-chunk.false) in
    record {
      within = omega (arith, found);
      line = c.gather-now.auto.line ∙ c.loop-from.invariant.line;
      page = c.reply-now.auto.page ∙ c.loop-from.invariant.page;
      room = omega (arith, c.reply-now.ensures.at_bound.0, c.if-now-le32768.true);
      held = omega (arith, c.reply-now.ensures.at_bound.1);
      begun = λ e. absurd (omega (arith, e));
      moves = λ k b z. let stands = c.loop-from.invariant.moves k b z in
          let grown = after-gather stands _ refl refl (c.gather-now.ensures.by_index _ stands.holds.part) in
          let most = c.gather-now.auto.line ∙ c.loop-from.invariant.line in
          stands-as (to-the-newline _ k c.args.chunk.now c.loop-from.from c.before-n.result c.before-n.ensures most found)
          (after-reply grown _ _ (omega (arith, c.loop-from.invariant.page, c.if-now-le32768.true)) (c.reply-now.ensures.by_index _ grown.holds.part));
    }
