-- `numbers_of`: each number in its place, and none above its limit.
use Rattle.std.proofs.Common.{rules, ◌≡◌, List, ℕ, true, ap, ◌∙◌}
use Rattle.c_replay_state.specs.Table.{limits, within}
use Rattle.c_replay_state.specs.Numbers.{live_number, numbers_of}
use Rattle.c_replay_state.proofs.NumbersBack.{Bytes, live-from, fit}
use Rattle.c_replay_state.proofs.numbers.numbers_of.Goals as goal

pub returns : goal.returns
unfolding numbers_of
returns c =
    let f = c.args.f in
    let j = c.args.j in
    let bytes : Bytes f.body = (search rules, search rules, search rules, search rules, search rules, search rules, search rules, search rules, search rules) in
    let none : within limits (numbers_of f j) ≡ true = fit f j (search rules) bytes (search rules) (search rules) (search rules) (search rules) in
    let both : (l : List ℕ) → l ≡ numbers_of f j → (l ≡ numbers_of f j) × (within limits l ≡ true) = λ l e. (e, ap (λ (m : List ℕ). within limits m) e ∙ none) in
    let live : c.from-11.result ≡ live_number j.live = c.from-11.ensures ∙ live-from j.live in
    both _ cc
