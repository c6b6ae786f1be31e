-- `look_ahead`.
use Rattle.nearest.specs.Found.{heard_as}
use Rattle.one_symbol.proofs.CodeTaken.{summable, looked}
use Rattle.one_symbol.proofs.look_ahead.Goals as goal

pub advance-requires : goal.advance-requires
advance-requires c =
    summable c.args.core c.args.sums.now c.args.first c.args.second c.weigh-weighed.result c.requires.ready c.requires.t_value.1 c.requires.t_value.2 c.weigh-weighed.ensures

pub returns : goal.returns
returns c =
    let a = c.args in
    looked a.core a.sums.now a.registers.now (heard_as a.first a.second) c.weigh-weighed.result c.advance.result c.words_before-ways.result c.agreed-agreed.result
    c.numbers_of.result c.from.result c.weigh-weighed.ensures c.advance.ensures c.words_before-ways.ensures c.agreed-agreed.ensures c.numbers_of.ensures c.from.ensures
