-- How two rings cross: the crossings, how they stand along each edge, and the places that a walk goes through. Assumes nothing.
use Rattle.std.specs.Prelude.{◌≡◌, ℕ, ◌+◌, ◌<◌, cond, List, Some, None, Option, ◌==◌}
use Rattle.plane.specs.declared.ring.Ring.{Ring}
use Rattle.plane.specs.declared.ring.Ring.TheVariants.{One, Two}
use Rattle.rules.specs.Lists.{In, Once, first, behind}

-- the ring that it is not
abbrev pub other : Ring → Ring
other One = Two
other Two = One

-- A chart of two rings.
pub record Chart : Type 0 where
  -- how many corners, and so edges, a ring has; edge i runs from corner i to the next corner
  pub corners : Ring → ℕ
  -- how many crossings there are; they are numbered from 0
  pub count : ℕ
  -- the edge of a ring on which a crossing lies
  pub edge : Ring → ℕ → ℕ
  -- the ring along which a loop that begins at a crossing leaves it
  pub leaving : ℕ → Ring
  -- the crossings on an edge of a ring, in the order in which they stand along it
  pub along : Ring → ℕ → List ℕ
  -- where there is no crossing: the ring that lies inside the other, if one does
  pub inner : Option Ring

-- A sound chart: each ring has a corner, and each crossing stands once along its own edge of either ring, and nowhere else.
pub record Sound (c : Chart) : Type 0 where
  pub some_corner : (r : Ring) → 0 < c.corners r
  pub on_its_edge : (r : Ring) (e x : ℕ) → In x (c.along r e) → (x < c.count) × (c.edge r x ≡ e)
  pub all_there : (r : Ring) (x : ℕ) → x < c.count → (c.edge r x < c.corners r) × In x (c.along r (c.edge r x))
  pub there_once : (r : Ring) (e : ℕ) → Once (c.along r e)

-- A place: a corner of a ring, from which its edge is followed, or a crossing with the ring that it is left along.
pub data Place : Type 0 where
  corner : Ring → ℕ → Place
  crossing : ℕ → Ring → Place

-- the corner after corner i of a ring, round the ring
abbrev pub next_corner : Chart → Ring → ℕ → ℕ
next_corner c r i = cond (i + 1 == c.corners r) 0 (i + 1)

-- along edge i of ring r: the crossing that comes next, left along the other ring, or else the corner that ends the edge
abbrev pub reach : Chart → Ring → ℕ → Option ℕ → Place
reach c r i (Some y) = crossing y (other r)
reach c r i None = corner r (next_corner c r i)

-- the place after a place
abbrev pub next : Chart → Place → Place
next c (corner r i) = reach c r i (first (c.along r i))
next c (crossing x r) = reach c r (c.edge r x) (behind x (c.along r (c.edge r x)))

-- the first crossing reached from a place, past any corners, with the ring that it is left along
pub data Reaches (c : Chart) : Place → ℕ → Ring → Type 0 where
  at_once : {p : Place} {y : ℕ} {r : Ring} → next c p ≡ crossing y r → Reaches c p y r
  past_a_corner : {p : Place} {s : Ring} {i y : ℕ} {r : Ring} → next c p ≡ corner s i → Reaches c (corner s i) y r → Reaches c p y r

-- Sides alternate: from every crossing, left along its leaving side, the first crossing reached has the other leaving side.
abbrev pub Alternate : Chart → Type 0
Alternate c = (x y : ℕ) (r : Ring) → x < c.count → Reaches c (crossing x (c.leaving x)) y r → c.leaving y ≡ other (c.leaving x)
