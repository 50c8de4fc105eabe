-- What the functions on doubles answer. Nothing here is promised to a caller of the desk.
use Rattle.std.specs.Prelude.{cond, Float, ℤ, Option, Some, None}
use Rattle.doubles.specs.Doubles.{number_in, counts}

-- the figure that a double is, where it counts
unfoldable pub figure_of : Float → Option ℤ
figure_of x = cond (counts x) (Some (number_in x)) None
