-- What the exact arithmetic answers, over the whole numbers. Assumes nothing.
use Rattle.std.specs.Prelude.{ℕ, ◌*◌, ◌≤◌, Bool, false, cond, ◌&&◌, ℤ, pos, ◌+ℤ◌, ◌-ℤ◌, ◌*ℤ◌, neg_ℤ, Some, None, Option, ◌==◌, int_lt, nat_le, unsigned_abs}
use Rattle.plane.specs.declared.answer.Side.{Side}
use Rattle.plane.specs.declared.answer.Side.TheVariants.{Left, Right, Level}
use Rattle.plane.specs.declared.answer.Meet.{Meet}
use Rattle.plane.specs.declared.answer.Meet.TheVariants.{Apart, Crossing}
use Rattle.plane.specs.declared.mark.Mark as marks
use Rattle.plane.specs.declared.mark.Mark.TheVariants.{Start, Inside, End}
use Rattle.plane.specs.declared.pair.Pair as pairs
use Rattle.plane.specs.Marks.{end_of, overlap_of}
use Rattle.plane.specs.Meaning.{Meaning}
use Rattle.decimetre.specs.declared.corner.Decimetre.{Decimetre}
use Rattle.decimetre.specs.declared.corner.Corner.{Corner}
use Rattle.decimetre.specs.declared.corner.Fraction.{Fraction}
use Rattle.decimetre.specs.declared.corner.Point.{Point}

-- two whole numbers that may become a corner
abbrev pub Pair : Type 0
Pair = pairs.Pair ℤ

-- a position on an edge: inside it, the part that lies before
abbrev pub Mark : Type 0
Mark = marks.Mark Fraction

-- the farthest that a corner may lie from the origin, on each axis
abbrev pub farthest : ℕ
farthest = 16384

-- whether a corner is that near to the origin
abbrev pub near : Corner → Bool
near c = nat_le (unsigned_abs c.x) farthest && nat_le (unsigned_abs c.y) farthest

-- a pair is admitted as the corner of its two numbers
abbrev pub corner_of : Pair → Corner
corner_of p = record { x = p.x; y = p.y }

abbrev pub admitted : Pair → Option Corner
admitted p = cond (near (corner_of p)) (Some (corner_of p)) None

-- the cross product of the directions from a to b and from c to d
unfoldable pub cross : Corner → Corner → Corner → Corner → ℤ
cross a b c d = (b.x -ℤ a.x) *ℤ (d.y -ℤ c.y) -ℤ (b.y -ℤ a.y) *ℤ (d.x -ℤ c.x)

-- the doubled area of the triangle from a by b to c, above 0 where it turns left
abbrev pub area2 : Corner → Corner → Corner → ℤ
area2 a b c = cross a b a c

-- the side that a doubled area tells
abbrev pub side_of : ℤ → Side
side_of z = cond (int_lt (pos 0) z) Left (cond (int_lt z (pos 0)) Right Level)

-- D, what the places on both edges are divided by: 0 where the edges are parallel
unfoldable pub denom : Corner → Corner → Corner → Corner → ℤ
denom a b c d = a.x *ℤ (d.y -ℤ c.y) +ℤ b.x *ℤ (c.y -ℤ d.y) +ℤ d.x *ℤ (b.y -ℤ a.y) +ℤ c.x *ℤ (a.y -ℤ b.y)

-- what S and T are summed up from: the doubled area of the triangle from p by r to q
unfoldable pub num_of : Corner → Corner → Corner → ℤ
num_of p q r = p.x *ℤ (r.y -ℤ q.y) +ℤ q.x *ℤ (p.y -ℤ r.y) +ℤ r.x *ℤ (q.y -ℤ p.y)

-- S: the place on the edge from a to b is S over D
abbrev pub num1 : Corner → Corner → Corner → Corner → ℤ
num1 a b c d = num_of a c d

-- T: the place on the edge from c to d is T over D
abbrev pub num2 : Corner → Corner → Corner → Corner → ℤ
num2 a b c d = neg_ℤ (num_of a b c)

-- the mark at u over l, where l is above 0: none outside 0 to 1
abbrev pub portion : ℤ → ℤ → Option Mark
portion u l = cond (int_lt u (pos 0)) None (cond (int_lt l u) None (cond (int_lt (pos 0) u) (cond (int_lt u l) (Some (Inside (record { upper = unsigned_abs u; lower = unsigned_abs l }))) (Some End)) (Some Start)))

-- the same where l is not 0: its sign is made positive first
abbrev pub share : ℤ → ℤ → Option Mark
share u l = cond (int_lt l (pos 0)) (portion (neg_ℤ u) (neg_ℤ l)) (portion u l)

-- edges that are not parallel cross where both marks exist
abbrev pub crossing : Option Mark → Option Mark → Meet Mark
crossing None t = Apart
crossing (Some s) None = Apart
crossing (Some s) (Some t) = Crossing s t

-- where c lies on the edge from a to b, if it does, for c on its line: by x, or by y where the edge stands upright
abbrev pub between_at : Corner → Corner → Corner → Option Mark
between_at a b c = cond (unsigned_abs (b.x -ℤ a.x) == 0) (cond (unsigned_abs (b.y -ℤ a.y) == 0) (cond (unsigned_abs (c.x -ℤ a.x) == 0) (cond (unsigned_abs (c.y -ℤ a.y) == 0) (Some Start) None) None) (share (c.y -ℤ a.y) (b.y -ℤ a.y))) (share (c.x -ℤ a.x) (b.x -ℤ a.x))

-- how two parallel edges meet: apart unless c is level with ab
abbrev pub parallel : Corner → Corner → Corner → Corner → Meet Mark
parallel a b c d = cond (unsigned_abs (area2 a b c) == 0) (overlap_of (between_at a b c) (between_at a b d) (between_at c d a) (between_at c d b)) Apart

-- how two edges meet: parallel exactly where D is 0
abbrev pub meet_of : Corner → Corner → Corner → Corner → Meet Mark
meet_of a b c d = cond (unsigned_abs (denom a b c d) == 0) (parallel a b c d) (crossing (share (num1 a b c d) (denom a b c d)) (share (num2 a b c d) (denom a b c d)))

-- a mark as a fraction: start is 0 over 1, end 1 over 1
abbrev pub part_of : Mark → Fraction
part_of Start = record { upper = 0; lower = 1 }
part_of (Inside part) = part
part_of End = record { upper = 1; lower = 1 }

abbrev pub upper_of : Mark → ℕ
upper_of m = (part_of m).upper

abbrev pub lower_of : Mark → ℕ
lower_of m = (part_of m).lower

-- by cross multiplication
abbrev pub not_after : Mark → Mark → Bool
not_after m n = nat_le (upper_of m * lower_of n) (upper_of n * lower_of m)

-- the product that a round of the inside test judges by
abbrev pub perp : Corner → Corner → Corner → ℤ
perp p a b = cross a p a b

-- whether the edge from a to b counts for the point p: a round of the inside test
abbrev pub passed_of : Corner → Corner → Corner → Bool
passed_of p a b = cond (int_lt p.y a.y) (cond (int_lt p.y b.y) false (int_lt (pos 0) (perp p a b))) (cond (int_lt p.y b.y) (int_lt (perp p a b) (pos 0)) false)

-- the dot product of the directions from a to b and from c to d
unfoldable pub dot : Corner → Corner → Corner → Corner → ℤ
dot a b c d = (b.x -ℤ a.x) *ℤ (d.x -ℤ c.x) +ℤ (b.y -ℤ a.y) *ℤ (d.y -ℤ c.y)

-- a coordinate at the mark m, over the mark's lower number: what of p lies before, what of q behind
abbrev pub blend : ℤ → ℤ → Mark → ℤ
blend p q m = p *ℤ (pos (lower_of m) -ℤ pos (upper_of m)) +ℤ q *ℤ pos (upper_of m)

abbrev pub blended : Corner → Corner → Mark → Point
blended a b m = record { x = blend a.x b.x m; y = blend a.y b.y m; lower = lower_of m }

abbrev pub point_of : Corner → Point
point_of c = record { x = c.x; y = c.y; lower = 1 }

-- of corners that are not near nothing is told: level, apart, false, the origin
abbrev pub near2 : Corner → Corner → Bool
near2 a b = near a && near b

abbrev pub near3 : Corner → Corner → Corner → Bool
near3 a b c = near a && near b && near c

abbrev pub near4 : Corner → Corner → Corner → Corner → Bool
near4 a b c d = near a && near b && near c && near d

abbrev pub side_at : Corner → Corner → Corner → Side
side_at a b c = cond (near3 a b c) (side_of (area2 a b c)) Level

abbrev pub meet_at : Corner → Corner → Corner → Corner → Meet Mark
meet_at a b c d = cond (near4 a b c d) (meet_of a b c d) Apart

abbrev pub passed_at : Corner → Corner → Corner → Bool
passed_at p a b = cond (near3 p a b) (passed_of p a b) false

abbrev pub turn_at : Corner → Corner → Corner → Corner → Side
turn_at a b c d = cond (near4 a b c d) (side_of (cross a b c d)) Level

abbrev pub against_at : Corner → Corner → Corner → Corner → Bool
against_at a b c d = cond (near4 a b c d) (int_lt (dot a b c d) (pos 0)) false

abbrev pub point_at : Corner → Corner → Mark → Point
point_at a b m = cond (near2 a b) (blended a b m) (record { x = pos 0; y = pos 0; lower = 1 })

abbrev pub exact : Meaning Decimetre Pair Corner Mark Point
exact = record {
  admitted = admitted;
  side = λ _ a b c. side_at a b c;
  meet = λ _ a b c d. meet_at a b c d;
  not_after = λ _ m n. not_after m n;
  passed = λ _ p a b. passed_at p a b;
  turn = λ _ a b c d. turn_at a b c d;
  against = λ _ a b c d. against_at a b c d;
  end_of = λ _ m. end_of m;
  point_at = λ _ a b m. point_at a b m;
  point_of = λ _ c. point_of c;
}

-- a corner, if it is near
abbrev pub near_of : Corner → Option Corner
near_of c = cond (near c) (Some c) None

-- what `near` tells
abbrev pub Near : Corner → Type 0
Near c = (unsigned_abs c.x ≤ farthest) × (unsigned_abs c.y ≤ farthest)
