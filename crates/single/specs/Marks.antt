-- Marks: their order along an edge, and their points. Assumes nothing.
use Rattle.std.specs.Prelude.{Bool, Float}
use Rattle.plane.specs.declared.mark.Mark.{Mark}
use Rattle.plane.specs.declared.mark.Mark.TheVariants.{Start, Inside, End}
use Rattle.floats.specs.Operations.{◌⊕◌, ◌⊗◌, nought, unit}
use Rattle.floats.specs.Order.{up_to}
use Rattle.single.specs.declared.corner.Corner.{Corner}
use Rattle.single.specs.declared.corner.Weights.{Weights}
use Rattle.single.specs.declared.corner.Point.{Point}

-- how far along its edge a mark stands
abbrev pub bcoords_of : Mark Weights → Float
bcoords_of Start = nought
bcoords_of (Inside w) = w.behind
bcoords_of End = unit

-- not-a-number comes last, and is level with itself
abbrev pub not_after : Mark Weights → Mark Weights → Bool
not_after m n = up_to (bcoords_of m) (bcoords_of n)

-- the point of a corner
abbrev pub point_of : Corner → Point
point_of c = record { x = c.x; y = c.y }

-- the point of a mark on the edge from a to b
abbrev pub point_at : Corner → Corner → Mark Weights → Point
point_at a b Start = point_of a
point_at a b (Inside w) = record { x = a.x ⊗ w.before ⊕ b.x ⊗ w.behind; y = a.y ⊗ w.before ⊕ b.y ⊗ w.behind }
point_at a b End = point_of b
