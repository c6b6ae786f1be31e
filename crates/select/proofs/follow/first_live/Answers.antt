-- `follow::first_live`: the states passed over are not reached.
use Rattle.std.proofs.Common.{◌/◌, ltb, rules, tests}
use Rattle.std.proofs.lemmas.Iterator.{YieldsList-from_slice}
use Rattle.std.proofs.lemmas.Iterator.Search.{position_from_yields_List}
use Rattle.select.specs.Select.{limit}
use Rattle.select.proofs.Followed.{head-found}
use Rattle.select.proofs.follow.first_live.Goals as goal

pub returns : goal.returns
returns c =
    let found = position_from_yields_List (λ x. ltb (x / 128) limit) _ _ c.position.result c.position.ensures.ran (YieldsList-from_slice c.args.keys.now cc) (λ x b q k. search (rules, tests)) in
    head-found c.args.keys.now _ _ c.told-keys found c.unwrap_or.ensures
