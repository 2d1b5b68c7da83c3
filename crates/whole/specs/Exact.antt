-- On whole corners within 1,024 single precision answers as whole numbers do. Assumes nothing.
use Rattle.std.specs.Prelude.{◌≡◌, ℕ, ◌<◌, ◌≤◌, Bool, true, false, ◌||◌, T, List, ℤ, pos, Option, ◌==◌, int_lt, unsigned_abs, Float}
use Rattle.std.specs.List.{AllZip}
use Rattle.std.specs.Option.{option_map}
use Rattle.std.specs.Float.Ieee.{lt, le}
use Rattle.plane.specs.declared.answer.Meet.{Meet}
use Rattle.plane.specs.declared.answer.Meet.TheVariants.{Apart, Crossing, Overlap}
use Rattle.plane.specs.declared.mark.Mark.{Mark}
use Rattle.plane.specs.declared.mark.Mark.TheVariants.{Start, Inside, End}
use Rattle.plane.specs.Rings.{inside}
use Rattle.floats.specs.Operations.{nought, unit}
use Rattle.floats.specs.Numbers.{IsWhole}
use Rattle.floats.specs.Quotients.{outside_z}
use Rattle.single.specs.declared.tolerance.Single.{Single}
use Rattle.single.specs.declared.corner.Corner.{Corner}
use Rattle.single.specs.declared.corner.Weights.{Weights}
use Rattle.single.specs.Tolerance.{walking}
use Rattle.single.specs.Triangle.{orientation_of, turn_of, against_of, passed_of}
use Rattle.single.specs.Meets.{is_parallel, between_of, meet_of}
use Rattle.single.specs.Single.{single}
use Rattle.whole.specs.Spots.{Spot, minus_z, perp_z, dot_z, area_z, side_z, Place, between_z, denom_z, num1_z, num2_z, meet_z, passed_z, inside_z}

-- how far a whole corner may lie from the origin, on each axis
abbrev pub near : ℕ
near = 1024

-- a corner at whole numbers, that near
pub record WholeCorner (c : Corner) (z : Spot) : Type 0 where
  pub x_whole : IsWhole c.x z.x
  pub y_whole : IsWhole c.y z.y
  pub x_near : unsigned_abs z.x ≤ near
  pub y_near : unsigned_abs z.y ≤ near

-- a tolerance from 0 to below 1
abbrev pub Slight : Float → Type 0
Slight epsilon = T (le nought epsilon) × T (lt epsilon unit)

-- such as the walk's
abbrev pub WalkSlight : Type 0
WalkSlight = Slight walking

-- the side of a corner along an edge is the exact one
abbrev pub ExactSide : Type 0
ExactSide =
    (epsilon : Float) → Slight epsilon → (a b c : Corner) (i j k : Spot) → WholeCorner a i → WholeCorner b j → WholeCorner c k
    → orientation_of a b c epsilon ≡ side_z (area_z i j k)

-- so is the side of a direction
abbrev pub ExactTurn : Type 0
ExactTurn =
    (epsilon : Float) → Slight epsilon → (a b c d : Corner) (i j k l : Spot) → WholeCorner a i → WholeCorner b j → WholeCorner c k → WholeCorner d l
    → turn_of a b c d epsilon ≡ side_z (perp_z (minus_z j i) (minus_z l k))

-- and whether one points against another
abbrev pub ExactAgainst : Type 0
ExactAgainst =
    (a b c d : Corner) (i j k l : Spot) → WholeCorner a i → WholeCorner b j → WholeCorner c k → WholeCorner d l
    → against_of a b c d ≡ int_lt (dot_z (minus_z j i) (minus_z l k)) (pos 0)

-- of whole numbers only 0 counts as the D of parallel edges
abbrev pub ExactParallel : Type 0
ExactParallel = (epsilon : Float) → Slight epsilon → (v : Float) (z : ℤ) → IsWhole v z → is_parallel v epsilon ≡ (unsigned_abs z == 0)

abbrev pub is_apart : Meet (Mark Weights) → Bool
is_apart Apart = true
is_apart (Crossing m n) = false
is_apart (Overlap m n o p) = false

-- edges that are not parallel are apart exactly where the exact place on one of them is out of it
abbrev pub ExactCrossing : Type 0
ExactCrossing =
    (epsilon : Float) → Slight epsilon → (a b c d : Corner) (i j k l : Spot) → WholeCorner a i → WholeCorner b j → WholeCorner c k → WholeCorner d l
    → 0 < unsigned_abs (denom_z i j k l)
    → is_apart (meet_of a b c d epsilon) ≡ (outside_z (num1_z i k l) (denom_z i j k l) || outside_z (num2_z i j k) (denom_z i j k l))

-- where a mark stands
abbrev pub place_of : Mark Weights → Place
place_of Start = Start
place_of (Inside w) = Inside tt
place_of End = End

abbrev pub found_at : Option (Mark Weights) → Option Place
found_at o = option_map place_of o

-- a corner on the line of an edge is found at its exact place, though the quotient is rounded, and twice where the edge goes down
abbrev pub ExactBetween : Type 0
ExactBetween =
    (a b c : Corner) (i j k : Spot) → WholeCorner a i → WholeCorner b j → WholeCorner c k
    → found_at (between_of a b c) ≡ between_z i j k

abbrev pub shape_of : Meet (Mark Weights) → Meet Place
shape_of Apart = Apart
shape_of (Crossing m n) = Crossing (place_of m) (place_of n)
shape_of (Overlap m n o p) = Overlap (place_of m) (place_of n) (place_of o) (place_of p)

-- edges meet as they do exactly, parallel or not, each mark at its exact place
abbrev pub ExactMeet : Type 0
ExactMeet =
    (epsilon : Float) → Slight epsilon → (a b c d : Corner) (i j k l : Spot) → WholeCorner a i → WholeCorner b j → WholeCorner c k → WholeCorner d l
    → shape_of (meet_of a b c d epsilon) ≡ meet_z i j k l

-- an edge counts for a point as it does exactly
abbrev pub ExactPassed : Type 0
ExactPassed = (p a b : Corner) (i j k : Spot) → WholeCorner p i → WholeCorner a j → WholeCorner b k → passed_of p a b ≡ passed_z i j k

-- a ring of such corners, in order
abbrev pub WholeRing : List Corner → List Spot → Type 0
WholeRing = AllZip WholeCorner

-- and so the inside test is exact
abbrev pub ExactInside : Type 0
ExactInside = (s : Single) (p : Corner) (ps : List Corner) (i : Spot) (zs : List Spot) → WholeCorner p i → WholeRing ps zs → inside single s p ps ≡ inside_z i zs
