-- What is known of words that can hold a record.
--   Held, held    they are long enough, and the turn fits its field
use mathlib.Core.Path.{◌≡◌}
use mathlib.Core.Bool.{true}
use mathlib.Core.List.{List}
use Prim.Native.Nat.{ℕ, ◌^◌, ◌≤◌, ◌<◌}
use borrow.Author.Tests.{leb-true, ltb-true}
use lib.ListN.{get_or, length}
use Rattle.std.proofs.lemmas.Bool.{and_parts}
use Rattle.c_layout.specs.Tagged.{holds}

module _ (size tag : ℕ) (ws : List ℕ) where
  pub record Held : Type 0 where
    pub long : size ≤ length ws
    pub two : get_or ws 2 0 < 2 ^ 32

  pub held : holds size tag ws ≡ true → Held
  unfolding holds
  held e =
      let (long, rest) = and_parts _ _ e in
      let (_, two) = and_parts _ _ rest in
      record { long = leb-true size (length ws) long; two = ltb-true _ _ two }
