-- Sides, directions and a round of the inside test. Assumes nothing.
use Rattle.std.specs.Prelude.{Bool, cond, not, ◌&&◌, Float}
use Rattle.std.specs.Float.Ieee.{neg, lt, le}
use Rattle.plane.specs.declared.answer.Side.{Side}
use Rattle.plane.specs.declared.answer.Side.TheVariants.{Left, Right, Level}
use Rattle.floats.specs.Operations.{nought}
use Rattle.single.specs.declared.corner.Corner.{Corner}
use Rattle.single.specs.Vectors.{origin, minus, perp_dot, dot_of}

-- twice the area of the triangle a b c, above zero where it turns left
abbrev pub area2 : Corner → Corner → Corner → Float
area2 a b c = perp_dot (minus b a) (minus c a)

-- left above the tolerance, right below it turned round
abbrev pub side_of : Float → Float → Side
side_of v epsilon = cond (lt epsilon v) Left (cond (lt v (neg epsilon)) Right Level)

-- the side of c along the edge from a to b
abbrev pub orientation_of : Corner → Corner → Corner → Float → Side
orientation_of a b c epsilon = side_of (area2 a b c) epsilon

-- the side of the direction from c to d, from that from a to b
abbrev pub turn_of : Corner → Corner → Corner → Corner → Float → Side
turn_of a b c d epsilon = orientation_of origin (minus b a) (minus d c) epsilon

-- a negative dot product of the two directions
abbrev pub against_of : Corner → Corner → Corner → Corner → Bool
against_of a b c d = lt (dot_of (minus b a) (minus d c)) nought

-- Whether the edge from a to b counts for p: p - a is not below 0 in height, b is above p, and the cross product of p - a and b - a is below 0;
-- or p - a is below 0, b is not above p, and the cross product is above 0.
abbrev pub passed_of : Corner → Corner → Corner → Bool
passed_of p a b = cond (le nought (minus p a).y) (lt p.y b.y && lt (perp_dot (minus p a) (minus b a)) nought) (not (lt p.y b.y) && lt nought (perp_dot (minus p a) (minus b a)))
