-- `open_receiver`: the outcomes, each by its law.
use Rattle.std.proofs.Common.{true, sym, ap, ◌∙◌, arith}
use Rattle.std.proofs.lemmas.Grind.{common_steps}
use Rattle.std.proofs.lemmas.Bool.Decides.{nat_tests}
use lib.ListN.{replicate}
use Rattle.std.specs.Prelude.{Ok}
use Rattle.machine.specs.Machine.{core, opened}
use Rattle.openings.proofs.Openings.{opens-wide, opens-window, opens-start, opens-done}
use Rattle.openings.proofs.open_receiver.Goals as goal

pub returns-then-not-is_accord : goal.returns-then-not-is_accord
returns-then-not-is_accord c =
    let a = c.args in
    opens-wide a.accord a.window a.start c.not_opened.result (sym c.is_accord.ensures ∙ c.if-not-is_accord.true) c.not_opened.ensures

pub returns-then-not-contains : goal.returns-then-not-contains
returns-then-not-contains c =
    let a = c.args in
    let fits = sym c.is_accord.ensures ∙ c.if-not-is_accord.false in
    opens-window a.accord a.window a.start c.not_opened-then-not-contains.result fits (grind (arith, common_steps, nat_tests)) c.not_opened-then-not-contains.ensures

pub returns-then-not-start_fits : goal.returns-then-not-start_fits
returns-then-not-start_fits c =
    let a = c.args in
    let fits = sym c.is_accord.ensures ∙ c.if-not-is_accord.false in
    opens-start a.accord a.window a.start c.not_opened-then-not-start_fits.result fits (grind (arith, common_steps, nat_tests))
    (sym c.start_fits.ensures ∙ c.if-not-start_fits.true) c.not_opened-then-not-start_fits.ensures

pub returns : goal.returns
unfolding opened
returns c =
    let a = c.args in
    let fits = sym c.is_accord.ensures ∙ c.if-not-is_accord.false in
    let starts = sym c.start_fits.ensures ∙ c.if-not-start_fits.false in
    let f = c.fresh_core.ensures ∙ ap (core a.accord a.window) c.first_turn.ensures in
    let g = c.fresh_sums.ensures in
    opens-done a.accord a.window a.start _ fits (grind (arith, common_steps, nat_tests)) (grind (arith, common_steps, nat_tests)) starts
    (λ i. record { receiver = record { live = true; core = f i; sums = g i; registers = replicate 48 0; picks = replicate 72 0 }; why = Ok tt })
