-- `keys_below`: the search over all numbers, or the one by columns.
use Rattle.std.proofs.Common.{ℕ, ◌*◌, ◌%◌, ◌^◌, ◌≤◌, ◌<◌, ◌≡◌, ◌∙◌, arith}
use native.Mathlib.Nat.{one-mul}
use lib.Pow.{pow_mono, shl_exact}
use Rattle.round_search.proofs.Columns.{column-keys}
use Rattle.round_search.proofs.key.keys_below.Goals as goal

-- 1 << u
shifted : (u : ℕ) → u < 5 → 1 * 2 ^ u % 2 ^ 64 ≡ 2 ^ u
shifted u h = shl_exact {a = 1} 1 u 64 (omega arith) (omega arith) ∙ one-mul (2 ^ u)

pub least_keys-requires : goal.least_keys-requires
least_keys-requires c =
    let h = c.if-u-lt5.true in
    let g : c.args.u ≤ 4 = omega (arith, h) in
    let e : 2 ^ c.args.u ≤ 16 = pow_mono g in
    (c.requires.0, c.requires.2, omega (arith, shifted c.args.u h))

pub returns : goal.returns
returns c = column-keys c.args.u c.args.h c.nearest_keys.result c.requires.2 c.nearest_keys.ensures
