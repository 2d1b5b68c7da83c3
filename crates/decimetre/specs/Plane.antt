-- What the answers of the exact arithmetic say of the plane: the laws above the formulas. Assumes nothing.
use Rattle.std.specs.Prelude.{◌≡◌, ℕ, ◌*◌, ◌^◌, ◌<◌, ◌≤◌, true, ◌⊎◌, ℤ, pos, ◌+ℤ◌, ◌-ℤ◌, ◌*ℤ◌, ◌≤ℤ◌, ◌<ℤ◌, Decides, ◌≢◌}
use Rattle.plane.specs.declared.answer.Side.{Side}
use Rattle.plane.specs.declared.answer.Side.TheVariants.{Left, Right, Level}
use Rattle.plane.specs.declared.answer.Meet.{Meet}
use Rattle.plane.specs.declared.answer.Meet.TheVariants.{Apart, Crossing, Overlap}
use Rattle.decimetre.specs.declared.corner.Corner.{Corner}
use Rattle.plane.specs.declared.mark.Mark.TheVariants.{Start, Inside, End}
use Rattle.decimetre.specs.Exact.{Mark, upper_of, lower_of, cross, near3, near4, side_at, meet_at, passed_at}

-- an inside mark is a proper fraction with a positive lower number
abbrev pub Proper : Mark → Type 0
Proper Start = Unit {0}
Proper (Inside part) = (0 < part.upper) × (part.upper < part.lower) × (part.lower ≤ 2 ^ 31)
Proper End = Unit {0}

abbrev pub ProperMeet : Meet Mark → Type 0
ProperMeet Apart = Unit {0}
ProperMeet (Crossing s t) = Proper s × Proper t
ProperMeet (Overlap s t u v) = Proper s × Proper t × Proper u × Proper v

-- twice what an edge sweeps as seen from the origin
abbrev pub swept : Corner → Corner → ℤ
swept a b = a.x *ℤ b.y -ℤ b.x *ℤ a.y

-- the doubled area that a triangle's three edges sweep, above 0 where it turns left
abbrev pub doubled_area : Corner → Corner → Corner → ℤ
doubled_area a b c = swept a b +ℤ swept b c +ℤ swept c a

-- a side is the sign of the doubled area
abbrev pub SideBySign : Corner → Corner → Corner → Side → Type 0
SideBySign a b c Left = pos 0 <ℤ doubled_area a b c
SideBySign a b c Right = doubled_area a b c <ℤ pos 0
SideBySign a b c Level = doubled_area a b c ≡ pos 0

-- the point at u / l on the edge from a to b is the point at v / m on the edge from c to d
pub record SamePoint (a b : Corner) (u l : ℕ) (c d : Corner) (v m : ℕ) : Type 0 where
  pub on_x : (a.x *ℤ (pos l -ℤ pos u) +ℤ b.x *ℤ pos u) *ℤ pos m ≡ (c.x *ℤ (pos m -ℤ pos v) +ℤ d.x *ℤ pos v) *ℤ pos l
  pub on_y : (a.y *ℤ (pos l -ℤ pos u) +ℤ b.y *ℤ pos u) *ℤ pos m ≡ (c.y *ℤ (pos m -ℤ pos v) +ℤ d.y *ℤ pos v) *ℤ pos l

-- a crossing's two marks are one point of the plane
abbrev pub AtOnePoint : Corner → Corner → Corner → Corner → Meet Mark → Type 0
AtOnePoint a b c d Apart = Unit {0}
AtOnePoint a b c d (Crossing s t) = SamePoint a b (upper_of s) (lower_of s) c d (upper_of t) (lower_of t)
AtOnePoint a b c d (Overlap p q r s) = Unit {0}

-- u / l is a place from the start of an edge to its end
pub record Place (u l : ℕ) : Type 0 where
  pub within : u ≤ l
  pub parted : 0 < l

-- a meeting is a crossing, at the place u / l of the one edge and v / m of the other
abbrev pub CrossesAt : ℕ → ℕ → ℕ → ℕ → Meet Mark → Type 0
CrossesAt u l v m Apart = ⊥
CrossesAt u l v m (Crossing s t) = (upper_of s * l ≡ u * lower_of s) × (upper_of t * m ≡ v * lower_of t)
CrossesAt u l v m (Overlap p q r s) = ⊥

-- two edges that are not parallel and share a point cross, and there
abbrev pub SharedCrosses : Corner → Corner → Corner → Corner → Meet Mark → Type 0
SharedCrosses a b c d r = (u l v m : ℕ) → Place u l → Place v m → (cross a b c d ≢ pos 0) → SamePoint a b u l c d v m → CrossesAt u l v m r

-- a crossing is of edges that are not parallel
abbrev pub NotParallel : Corner → Corner → Corner → Corner → Meet Mark → Type 0
NotParallel a b c d Apart = Unit {0}
NotParallel a b c d (Crossing s t) = cross a b c d ≡ pos 0 → ⊥
NotParallel a b c d (Overlap p q r s) = cross a b c d ≡ pos 0

-- the edge from a to b climbs past the height of p, from its own start on and short of its end, with p strictly to its left
pub record Climbs (p a b : Corner) : Type 0 where
  pub from : a.y ≤ℤ p.y
  pub short : p.y <ℤ b.y
  pub left : pos 0 <ℤ doubled_area a b p

-- an edge counts for p where it climbs past p, read from one of its ends to the other
abbrev pub HalfOpen : Corner → Corner → Corner → Type 0
HalfOpen p a b = Climbs p a b ⊎ Climbs p b a

-- The laws, of every corner. Only for corners that are admitted is anything told.

abbrev pub EverySide : Type 0
EverySide = (a b c : Corner) → near3 a b c ≡ true → SideBySign a b c (side_at a b c)

abbrev pub EveryCrossing : Type 0
EveryCrossing = (a b c d : Corner) → AtOnePoint a b c d (meet_at a b c d)

abbrev pub EveryMeeting : Type 0
EveryMeeting = (a b c d : Corner) → NotParallel a b c d (meet_at a b c d)

abbrev pub EveryShared : Type 0
EveryShared = (a b c d : Corner) → near4 a b c d ≡ true → SharedCrosses a b c d (meet_at a b c d)

abbrev pub EveryRound : Type 0
EveryRound = (p a b : Corner) → near3 p a b ≡ true → Decides (passed_at p a b) (HalfOpen p a b)
