-- Corners as vectors. Assumes nothing.
use Rattle.std.specs.Prelude.{Float}
use Rattle.floats.specs.Operations.{◌⊕◌, ◌⊖◌, ◌⊗◌, nought}
use Rattle.single.specs.declared.corner.Corner.{Corner}

-- the origin
abbrev pub origin : Corner
origin = record { x = nought; y = nought }

-- what leads from q to p
abbrev pub minus : Corner → Corner → Corner
minus p q = record { x = p.x ⊖ q.x; y = p.y ⊖ q.y }

-- the cross product
abbrev pub perp_dot : Corner → Corner → Float
perp_dot u v = u.x ⊗ v.y ⊖ u.y ⊗ v.x

-- the dot product
abbrev pub dot_of : Corner → Corner → Float
dot_of u v = u.x ⊗ v.x ⊕ u.y ⊗ v.y
