-- Where the edges from a to b and from c to d meet. Assumes nothing.
use Rattle.std.specs.Prelude.{Bool, true, false, cond, ◌&&◌, ◌||◌, Some, None, Option, from_bits, Float}
use Rattle.std.specs.Float.Ieee.{neg, lt, le, eq, ne}
use Rattle.std.specs.Float.{float_with_sign, binary32}
use Rattle.plane.specs.declared.answer.Side.{Side}
use Rattle.plane.specs.declared.answer.Side.TheVariants.{Left, Right, Level}
use Rattle.plane.specs.declared.answer.Meet.{Meet}
use Rattle.plane.specs.declared.answer.Meet.TheVariants.{Apart, Crossing}
use Rattle.plane.specs.declared.mark.Mark.{Mark}
use Rattle.plane.specs.declared.mark.Mark.TheVariants.{Start, Inside, End}
use Rattle.plane.specs.Marks.{overlap_of}
use Rattle.floats.specs.Operations.{◌⊕◌, ◌⊖◌, ◌⊗◌, ◌⊘◌, nought, unit}
use Rattle.single.specs.declared.corner.Corner.{Corner}
use Rattle.single.specs.declared.corner.Weights.{Weights}
use Rattle.single.specs.Triangle.{orientation_of}

-- D, what the places on both edges are divided by
abbrev pub denom_of : Corner → Corner → Corner → Corner → Float
denom_of a b c d = a.x ⊗ (d.y ⊖ c.y) ⊕ b.x ⊗ (c.y ⊖ d.y) ⊕ d.x ⊗ (b.y ⊖ a.y) ⊕ c.x ⊗ (a.y ⊖ b.y)

-- what is divided by D for a place, but for its sign
abbrev pub num_of : Corner → Corner → Corner → Float
num_of p q r = p.x ⊗ (r.y ⊖ q.y) ⊕ q.x ⊗ (p.y ⊖ r.y) ⊕ r.x ⊗ (q.y ⊖ p.y)

-- S: the place on the edge from a to b is S over D
abbrev pub num1_of : Corner → Corner → Corner → Float
num1_of a c d = num_of a c d

-- T: the place on the edge from c to d is T over D
abbrev pub num2_of : Corner → Corner → Corner → Float
num2_of a b c = neg (num_of a b c)

-- 2 ^ -23
abbrev pub ulp : Float
ulp = from_bits binary32 0x3400_0000

-- D counts as zero: the edges are parallel
abbrev pub is_parallel : Float → Float → Bool
is_parallel v epsilon = lt (float_with_sign false v) epsilon || le (float_with_sign false v) ulp

-- the mark at the part s of an edge
abbrev pub classified : Float → Mark Weights
classified s = cond (eq s nought) Start (cond (eq s unit) End (Inside (record { before = unit ⊖ s; behind = s })))

-- s or t is below 0 or above 1
abbrev pub is_out : Float → Float → Bool
is_out s t = lt s nought || lt unit s || lt t nought || lt unit t

-- edges that are not parallel cross at s of the one and t of the other
abbrev pub crossing_of : Float → Float → Meet (Mark Weights)
crossing_of s t = cond (is_out s t) Apart (Crossing (classified s) (classified t))

-- where w lies from u to v, on one axis; going down it is 1 less the part from v
abbrev pub along : Float → Float → Float → Option (Mark Weights)
along u v w = cond (le u w && le w v) (Some (classified ((w ⊖ u) ⊘ (v ⊖ u)))) (cond (le w u && le v w) (Some (classified (unit ⊖ (w ⊖ v) ⊘ (u ⊖ v)))) None)

-- where c lies on the edge from a to b, for c on its line: by x, or by y where the edge is upright, or at the start where it has no length
abbrev pub between_of : Corner → Corner → Corner → Option (Mark Weights)
between_of a b c = cond (ne a.x b.x) (along a.x b.x c.x) (cond (ne a.y b.y) (along a.y b.y c.y) (cond (eq a.x c.x && eq a.y c.y) (Some Start) None))

abbrev pub is_level : Side → Bool
is_level Left = false
is_level Right = false
is_level Level = true

-- parallel edges are apart where c is not level with ab
abbrev pub parallel_of : Corner → Corner → Corner → Corner → Float → Meet (Mark Weights)
parallel_of a b c d epsilon = cond (is_level (orientation_of a b c epsilon)) (overlap_of (between_of a b c) (between_of a b d) (between_of c d a) (between_of c d b)) Apart

-- how two edges meet
abbrev pub meet_of : Corner → Corner → Corner → Corner → Float → Meet (Mark Weights)
meet_of a b c d epsilon = cond (is_parallel (denom_of a b c d) epsilon) (parallel_of a b c d epsilon) (crossing_of (num1_of a c d ⊘ denom_of a b c d) (num2_of a b c ⊘ denom_of a b c d))
