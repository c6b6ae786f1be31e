-- `keys_from`: the distance from a point turned l times is that of the received point turned back l times.
use Rattle.round_search.proofs.Distances.{key_fits}
use Rattle.round_search.proofs.Keys.{turned-keys}
use Rattle.round_search.proofs.key.keys_from.Goals as goal

pub overflow_add-result : goal.overflow_add-result
overflow_add-result c =
    key_fits c.args.h c.args.p c.distance_from.result c.args.w c.requires.0 c.requires.1 c.distance_from.ensures c.requires.2

pub overflow_add-result-2 : goal.overflow_add-result-2
overflow_add-result-2 c =
    key_fits c.turned_back-h1.result c.args.p c.distance_from-2.result c.args.w c.turned_back-h1.ensures.1 c.requires.1 c.distance_from-2.ensures c.requires.2

pub overflow_add-result-3 : goal.overflow_add-result-3
overflow_add-result-3 c =
    key_fits c.turned_back-h2.result c.args.p c.distance_from-3.result c.args.w c.turned_back-h2.ensures.1 c.requires.1 c.distance_from-3.ensures c.requires.2

pub overflow_add-result-4 : goal.overflow_add-result-4
overflow_add-result-4 c =
    key_fits c.turned_back-h3.result c.args.p c.distance_from-4.result c.args.w c.turned_back-h3.ensures.1 c.requires.1 c.distance_from-4.ensures c.requires.2

pub returns : goal.returns
returns c =
    turned-keys c.args.h c.turned_back-h1.result c.turned_back-h2.result c.turned_back-h3.result c.args.p c.args.w _ _ _ _
    c.turned_back-h1.ensures.0
    c.turned_back-h2.ensures.0
    c.turned_back-h3.ensures.0
    c.distance_from.ensures
    c.distance_from-2.ensures
    c.distance_from-3.ensures
    c.distance_from-4.ensures
