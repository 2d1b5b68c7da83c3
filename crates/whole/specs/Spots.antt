-- What whole numbers answer: sides, meetings and the inside test without rounding. Assumes nothing.
use Rattle.std.specs.Prelude.{◌%◌, ⊤, Bool, cond, not, ◌&&◌, List, count_by, ℤ, pos, ◌+ℤ◌, ◌-ℤ◌, ◌*ℤ◌, neg_ℤ, ◌==◌, int_le, int_lt, Some, None, Option, unsigned_abs}
use Rattle.plane.specs.declared.answer.Side.{Side}
use Rattle.plane.specs.declared.answer.Side.TheVariants.{Left, Right, Level}
use Rattle.plane.specs.declared.answer.Meet.{Meet}
use Rattle.plane.specs.declared.answer.Meet.TheVariants.{Apart, Crossing}
use Rattle.plane.specs.declared.mark.Mark.{Mark}
use Rattle.plane.specs.declared.mark.Mark.TheVariants.{Start, Inside, End}
use Rattle.plane.specs.Marks.{both, overlap_of}
use Rattle.plane.specs.Rings.{edges}
use Rattle.floats.specs.Numbers.{same_z}
use Rattle.floats.specs.Quotients.{outside_z}
use Rattle.single.specs.Meets.{is_level}

-- a place in the plane at whole numbers
pub record Spot : Type 0 where
  pub x : ℤ
  pub y : ℤ

-- ---- sides and directions

-- what leads from q to p
abbrev pub minus_z : Spot → Spot → Spot
minus_z p q = record { x = p.x -ℤ q.x; y = p.y -ℤ q.y }

-- the cross product
abbrev pub perp_z : Spot → Spot → ℤ
perp_z u v = u.x *ℤ v.y -ℤ u.y *ℤ v.x

-- the dot product
abbrev pub dot_z : Spot → Spot → ℤ
dot_z u v = u.x *ℤ v.x +ℤ u.y *ℤ v.y

-- twice the area of the triangle a b c
abbrev pub area_z : Spot → Spot → Spot → ℤ
area_z a b c = perp_z (minus_z b a) (minus_z c a)

-- the side that a number tells by its sign
abbrev pub side_z : ℤ → Side
side_z z = cond (int_lt (pos 0) z) Left (cond (int_lt z (pos 0)) Right Level)

-- ---- the place of a point on an edge

-- at its start, at its end, or within, however far along
abbrev pub Place : Type 0
Place = Mark ⊤

-- the place at z / w of an edge, for a w that is not 0, if it is on it
abbrev pub place_z : ℤ → ℤ → Option Place
place_z z w = cond (outside_z z w) None (Some (cond (same_z z (pos 0)) Start (cond (same_z z w) End (Inside tt))))

-- the place of c on the edge from a to b, for c on its line, if it is on it
abbrev pub between_z : Spot → Spot → Spot → Option Place
between_z a b c =
    cond (not (same_z a.x b.x)) (place_z (c.x -ℤ a.x) (b.x -ℤ a.x))
    (cond (not (same_z a.y b.y)) (place_z (c.y -ℤ a.y) (b.y -ℤ a.y))
    (cond (same_z a.x c.x && same_z a.y c.y) (Some Start) None))

-- ---- how two edges meet, by the places of their marks

-- D, S and T
abbrev pub denom_z : Spot → Spot → Spot → Spot → ℤ
denom_z a b c d = a.x *ℤ (d.y -ℤ c.y) +ℤ b.x *ℤ (c.y -ℤ d.y) +ℤ d.x *ℤ (b.y -ℤ a.y) +ℤ c.x *ℤ (a.y -ℤ b.y)

abbrev pub num_z : Spot → Spot → Spot → ℤ
num_z p q r = p.x *ℤ (r.y -ℤ q.y) +ℤ q.x *ℤ (p.y -ℤ r.y) +ℤ r.x *ℤ (q.y -ℤ p.y)

abbrev pub num1_z : Spot → Spot → Spot → ℤ
num1_z a c d = num_z a c d

abbrev pub num2_z : Spot → Spot → Spot → ℤ
num2_z a b c = neg_ℤ (num_z a b c)

-- edges that are not parallel cross where both places are there
abbrev pub crossing_z : Option Place → Option Place → Meet Place
crossing_z p q = both p q (λ m n. Crossing m n) Apart

-- parallel edges are apart where c is not on the line of ab
abbrev pub parallel_z : Spot → Spot → Spot → Spot → Meet Place
parallel_z a b c d = cond (is_level (side_z (area_z a b c))) (overlap_of (between_z a b c) (between_z a b d) (between_z c d a) (between_z c d b)) Apart

-- how two edges meet: parallel exactly where D is 0
abbrev pub meet_z : Spot → Spot → Spot → Spot → Meet Place
meet_z a b c d = cond (unsigned_abs (denom_z a b c d) == 0) (parallel_z a b c d) (crossing_z (place_z (num1_z a c d) (denom_z a b c d)) (place_z (num2_z a b c) (denom_z a b c d)))

-- ---- the inside test

-- whether the edge from a to b counts for p
abbrev pub passed_z : Spot → Spot → Spot → Bool
passed_z p a b = cond (int_le a.y p.y) (int_lt p.y b.y && int_lt (perp_z (minus_z p a) (minus_z b a)) (pos 0)) (not (int_lt p.y b.y) && int_lt (pos 0) (perp_z (minus_z p a) (minus_z b a)))

-- a point lies inside a ring where an odd number of its edges count for the point
abbrev pub inside_z : Spot → List Spot → Bool
inside_z p ring = count_by (λ e. passed_z p e.from e.to) (edges ring) % 2 == 1
