-- What the tests of a card's lists and coordinates say, both ways.
--   fits-is, is-fit        the lengths of the lists
--   spots_in               two points whose four coordinates are in range
--   range-is, is-range     the four coordinates of a symbol
--   has                    the lists reach as far as each symbol needs
use mathlib.Core.Path.{◌≡◌}
use mathlib.Core.Bool.{true}
use Prim.Native.Nat.{ℕ, ◌+◌, ◌*◌, ◌≤◌, ◌<◌}
use native.Mathlib.Omega.{arith}
use borrow.Author.Tests.{le-leb, leb-true, eq-eqb, eqb-true}
use lib.Dec.{eqb, leb}
use Rattle.lists.proofs.UpTo.{and_both}
use Rattle.distance.specs.Distance.{SpotInRange}
use Rattle.nearest.specs.Line.{is_coordinate, BothInRange}
use Rattle.card_symbol.proofs.Tests.{joined}
use Rattle.card.specs.declared.Pair.{Pair}
use Rattle.card.specs.Card.{Card, count_of, heard_at}
use Rattle.card.specs.Check.{lengths_fit, fits, Has, pair_at, in_range}

-- the lengths of the lists of n symbols
pub record Long (n xs ss cs ns : ℕ) : Type 0 where
  pub some : 1 ≤ n
  pub few : n ≤ 64
  pub coordinates-long : xs ≡ 4 * n
  pub states-long : ss ≡ n + 1
  pub symbols-long : cs ≡ 6 * n
  pub numbers-long : ns ≡ 16 * (n + 1)

module _ (n xs ss cs ns : ℕ) where
  pub long-is : lengths_fit n xs ss cs ns ≡ true → Long n xs ss cs ns
  unfolding lengths_fit
  long-is e =
      let (a, e₁) = and_both (leb 1 n) _ e in
      let (b, e₂) = and_both (leb n 64) _ e₁ in
      let (e₃, f) = and_both _ (eqb ns (16 * (n + 1))) e₂ in
      let (e₄, g) = and_both _ (eqb cs (6 * n)) e₃ in
      let (h, k) = and_both (eqb xs (4 * n)) (eqb ss (n + 1)) e₄ in
      record {
        some = leb-true _ _ a;
        few = leb-true _ _ b;
        coordinates-long = eqb-true _ _ h;
        states-long = eqb-true _ _ k;
        symbols-long = eqb-true _ _ g;
        numbers-long = eqb-true _ _ f;
      }

  pub row_there : lengths_fit n xs ss cs ns ≡ true → 16 ≤ ns
  row_there e = omega (arith, (long-is e).numbers-long)

  pub is-long : Long n xs ss cs ns → lengths_fit n xs ss cs ns ≡ true
  unfolding lengths_fit
  is-long l =
      joined (le-leb _ _ l.some)
      (joined (le-leb _ _ l.few)
      (joined (joined (joined (eq-eqb _ _ l.coordinates-long) (eq-eqb _ _ l.states-long)) (eq-eqb _ _ l.symbols-long)) (eq-eqb _ _ l.numbers-long)))

pub spots_in : (h : Pair) → in_range h ≡ true → SpotInRange h.first × SpotInRange h.second
unfolding in_range
spots_in h e =
    let (e₁, w) = and_both _ (is_coordinate h.second.y) e in
    let (e₂, z) = and_both _ (is_coordinate h.second.x) e₁ in
    let (x, y) = and_both (is_coordinate h.first.x) (is_coordinate h.first.y) e₂ in
    (record { x-in = leb-true _ _ x; y-in = leb-true _ _ y }, record { x-in = leb-true _ _ z; y-in = leb-true _ _ w })

module _ (c : Card) (i : ℕ) where
  pub has : fits c ≡ true → i < count_of c → Has c i
  has e h =
      let l = long-is _ _ _ _ _ e in
      record {
        coordinates-has = omega (arith, l.coordinates-long);
        states-has = omega (arith, l.states-long);
        symbols-has = omega (arith, l.symbols-long);
        numbers-has = omega (arith, l.numbers-long);
      }

  pub range-is : in_range (pair_at c.coordinates (4 * i)) ≡ true → BothInRange (heard_at c i)
  range-is e = let (p, q) = spots_in (pair_at c.coordinates (4 * i)) e in record { first-in = p; second-in = q }

  pub is-range : BothInRange (heard_at c i) → in_range (pair_at c.coordinates (4 * i)) ≡ true
  unfolding in_range
  is-range b =
      joined (joined (joined (le-leb _ _ b.first-in.x-in) (le-leb _ _ b.first-in.y-in)) (le-leb _ _ b.second-in.x-in)) (le-leb _ _ b.second-in.y-in)
