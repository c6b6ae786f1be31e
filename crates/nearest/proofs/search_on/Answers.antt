-- `search_on`: by cases of the map, each by its own search.
use Prim.Native.Nat.{ℕ}
use mathlib.Core.Path.{◌≡◌, refl, sym, ap, subst, ◌∙◌}
use mathlib.Core.Bool.{true}
use Rattle.points.specs.declared.Map.{Map}
use Rattle.points.specs.declared.Map.TheVariants.{Round, Square}
use Rattle.points.specs.Agreed.{has_width}
use Rattle.distance.specs.declared.Spot.{Spot}
use Rattle.distance.specs.Found.{found_by}
use Rattle.round_search.specs.Key.{round_distance}
use Rattle.square_search.specs.Found.{square_distance}
use Rattle.nearest.specs.Line.{map_distance}
use Rattle.nearest.proofs.search_on.Goals as goal

module _ (u : ℕ) (h : Spot) where
  round : found_by u round_distance h ≡ found_by u (map_distance Round u) h
  unfolding round_distance
  round = refl

  square : found_by u (square_distance u) h ≡ found_by u (map_distance Square u) h
  unfolding square_distance
  square = refl

-- a width of the map that it turned out to be
width-on : (n k : Map) (u : ℕ) → n ≡ k → has_width n u ≡ true → has_width k u ≡ true
width-on n k u e h = subst (λ (n : Map). has_width n u ≡ true) e h

pub returns-in-Round : goal.returns-in-Round
returns-in-Round c =
    c.search.ensures ∙ round c.args.u c.args.h ∙ sym (ap (λ (n : Map). found_by c.args.u (map_distance n c.args.u) c.args.h) c.in-Round.is)

pub returns-in-Square : goal.returns-in-Square
returns-in-Square c =
    c.search-in-Square.ensures ∙ square c.args.u c.args.h ∙ sym (ap (λ (n : Map). found_by c.args.u (map_distance n c.args.u) c.args.h) c.in-Square.is)
