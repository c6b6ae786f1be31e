-- The two points of a symbol, from 01, "One word makes one symbol: two 2D points". That both points fix the symbol is proved in
-- proofs/Apart.
--   first_point c, second_point c   the points with the symbol's labels and numbers
use Rattle.points.specs.declared.Point.{Point}
use Rattle.points.specs.Turn.{point_of}
use Rattle.wei.specs.Symbol.{Symbol, first_label, last_label}

unfoldable pub first_point : Symbol → Point
first_point c = point_of (first_label c) c.w1

unfoldable pub second_point : Symbol → Point
second_point c = point_of (last_label c) c.w2
