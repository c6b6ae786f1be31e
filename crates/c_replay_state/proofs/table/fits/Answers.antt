-- `fits`: each word beside its limit.
use Rattle.std.proofs.Common.{ℕ, ◌∙◌, rules, tests}
use lib.Dec.{leb}
use Rattle.std.proofs.lemmas.Iterator.{YieldsList-from_slice, YieldsList-from_zip}
use Rattle.std.proofs.lemmas.Iterator.Search.{all_from_yields_List}
use Rattle.c_replay_state.proofs.Limits.{within-by}
use Rattle.c_replay_state.proofs.table.fits.Goals as goal

pub returns : goal.returns
returns c =
    let ls = c.args.limits.now in
    let ws = c.args.words.now in
    all_from_yields_List (λ (p : ℕ × ℕ). leb p.0 p.1) c.all.new.self _ c.all.result c.all.ensures.ran (YieldsList-from_zip (YieldsList-from_slice ws cc) (YieldsList-from_slice ls cc))
    (λ x b q k. search (rules, tests))
    ∙ within-by ls ws c.requires
