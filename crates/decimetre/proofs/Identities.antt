-- The polynomial identities between the formulas of the exact arithmetic. Assumes nothing.
use Rattle.std.proofs.Common.{◌≡◌, List, [], ◌∷◌, ℤ, ◌+ℤ◌, ◌-ℤ◌, ◌*ℤ◌, neg_ℤ, refl}
use Rattle.decimetre.specs.declared.corner.Corner.{Corner}
use Rattle.decimetre.specs.Exact.{area2, denom, num_of, num1, num2, perp, cross}
use Rattle.decimetre.specs.Plane.{doubled_area}
use Rattle.decimetre.proofs.Ring.{Expr, var, ◌⊕◌, ◌⊖◌, ◌⊗◌, ⊝◌, ring}

-- the coordinates of four corners, then the rest
abbrev corners : Corner → Corner → Corner → Corner → List ℤ → List ℤ
corners a b c d rest = a.x ∷ a.y ∷ b.x ∷ b.y ∷ c.x ∷ c.y ∷ d.x ∷ d.y ∷ rest

abbrev ax : Expr
ax = var 0

abbrev ay : Expr
ay = var 1

abbrev bx : Expr
bx = var 2

abbrev by : Expr
by = var 3

abbrev cx : Expr
cx = var 4

abbrev cy : Expr
cy = var 5

abbrev dx : Expr
dx = var 6

abbrev dy : Expr
dy = var 7

-- twice a triangle's area is what its edges sweep
abbrev swept_area : Expr
swept_area = (ax ⊗ by ⊖ bx ⊗ ay) ⊕ (bx ⊗ cy ⊖ cx ⊗ by) ⊕ (cx ⊗ ay ⊖ ax ⊗ cy)

pub area_swept : (a b c : Corner) → area2 a b c ≡ doubled_area a b c
unfolding cross
area_swept a b c = ring (corners a b c c []) ((bx ⊖ ax) ⊗ (cy ⊖ ay) ⊖ (by ⊖ ay) ⊗ (cx ⊖ ax)) swept_area refl

-- the inside test's product, as the area that is swept from either end
pub perp_climbs : (p a b : Corner) → doubled_area a b p ≡ neg_ℤ (perp p a b)
unfolding cross
perp_climbs p a b = ring (corners a b p p []) swept_area (⊝ ((cx ⊖ ax) ⊗ (by ⊖ ay) ⊖ (cy ⊖ ay) ⊗ (bx ⊖ ax))) refl

pub perp_falls : (p a b : Corner) → doubled_area b a p ≡ perp p a b
unfolding cross
perp_falls p a b = ring (corners b a p p []) swept_area ((cx ⊖ bx) ⊗ (ay ⊖ by) ⊖ (cy ⊖ by) ⊗ (ax ⊖ bx)) refl

-- D, S and T
abbrev the_d : Expr
the_d = ax ⊗ (dy ⊖ cy) ⊕ bx ⊗ (cy ⊖ dy) ⊕ dx ⊗ (by ⊖ ay) ⊕ cx ⊗ (ay ⊖ by)

abbrev the_s : Expr
the_s = ax ⊗ (dy ⊖ cy) ⊕ cx ⊗ (ay ⊖ dy) ⊕ dx ⊗ (cy ⊖ ay)

abbrev the_t : Expr
the_t = ⊝ (ax ⊗ (cy ⊖ by) ⊕ bx ⊗ (ay ⊖ cy) ⊕ cx ⊗ (by ⊖ ay))

pub denom-cross : (a b c d : Corner) → denom a b c d ≡ neg_ℤ (cross a b c d)
unfolding denom cross
denom-cross a b c d = ring (corners a b c d []) the_d (⊝ ((bx ⊖ ax) ⊗ (dy ⊖ cy) ⊖ (by ⊖ ay) ⊗ (dx ⊖ cx))) refl

-- S over D on the one edge is T over D on the other
pub one_x : (a b c d : Corner) → a.x *ℤ (denom a b c d -ℤ num1 a b c d) +ℤ b.x *ℤ num1 a b c d ≡ c.x *ℤ (denom a b c d -ℤ num2 a b c d) +ℤ d.x *ℤ num2 a b c d
unfolding denom num_of
one_x a b c d = ring (corners a b c d []) (ax ⊗ (the_d ⊖ the_s) ⊕ bx ⊗ the_s) (cx ⊗ (the_d ⊖ the_t) ⊕ dx ⊗ the_t) refl

pub one_y : (a b c d : Corner) → a.y *ℤ (denom a b c d -ℤ num1 a b c d) +ℤ b.y *ℤ num1 a b c d ≡ c.y *ℤ (denom a b c d -ℤ num2 a b c d) +ℤ d.y *ℤ num2 a b c d
unfolding denom num_of
one_y a b c d = ring (corners a b c d []) (ay ⊗ (the_d ⊖ the_s) ⊕ by ⊗ the_s) (cy ⊗ (the_d ⊖ the_t) ⊕ dy ⊗ the_t) refl

-- two places, u / l and v / m
abbrev u' : Expr
u' = var 8

abbrev l' : Expr
l' = var 9

abbrev v' : Expr
v' = var 10

abbrev m' : Expr
m' = var 11

-- by how far the one place lies from the other, multiplied out, along one axis
abbrev gap : ℤ → ℤ → ℤ → ℤ → ℤ → ℤ → ℤ → ℤ → ℤ
gap a b c d u l v m = (a *ℤ (l -ℤ u) +ℤ b *ℤ u) *ℤ m -ℤ (c *ℤ (m -ℤ v) +ℤ d *ℤ v) *ℤ l

abbrev gap_x : Expr
gap_x = (ax ⊗ (l' ⊖ u') ⊕ bx ⊗ u') ⊗ m' ⊖ (cx ⊗ (m' ⊖ v') ⊕ dx ⊗ v') ⊗ l'

abbrev gap_y : Expr
gap_y = (ay ⊗ (l' ⊖ u') ⊕ by ⊗ u') ⊗ m' ⊖ (cy ⊗ (m' ⊖ v') ⊕ dy ⊗ v') ⊗ l'

module _ (a b c d : Corner) (u l v m : ℤ) where
  abbrev between_x : ℤ
  between_x = gap a.x b.x c.x d.x u l v m

  abbrev between_y : ℤ
  between_y = gap a.y b.y c.y d.y u l v m

  pub first_gap : m *ℤ (u *ℤ denom a b c d -ℤ l *ℤ num1 a b c d) ≡ between_y *ℤ (d.x -ℤ c.x) -ℤ between_x *ℤ (d.y -ℤ c.y)
  unfolding denom num_of
  first_gap = ring (corners a b c d (u ∷ l ∷ v ∷ m ∷ [])) (m' ⊗ (u' ⊗ the_d ⊖ l' ⊗ the_s)) (gap_y ⊗ (dx ⊖ cx) ⊖ gap_x ⊗ (dy ⊖ cy)) refl

  pub second_gap : l *ℤ (v *ℤ denom a b c d -ℤ m *ℤ num2 a b c d) ≡ between_y *ℤ (b.x -ℤ a.x) -ℤ between_x *ℤ (b.y -ℤ a.y)
  unfolding denom num_of
  second_gap = ring (corners a b c d (u ∷ l ∷ v ∷ m ∷ [])) (l' ⊗ (v' ⊗ the_d ⊖ m' ⊗ the_t)) (gap_y ⊗ (bx ⊖ ax) ⊖ gap_x ⊗ (by ⊖ ay)) refl
