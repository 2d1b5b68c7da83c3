-- What leads from one corner to another, and the products of two such vectors. Assumes nothing.
use Rattle.std.specs.Prelude.{◌≡◌, ℤ, ◌+ℤ◌, ◌-ℤ◌, ◌*ℤ◌}
use Rattle.decimetre.specs.declared.corner.Corner.{Corner}
use Rattle.decimetre.specs.declared.math.Vector2.{Vector2}
use Rattle.decimetre.specs.Exact.{Near}

-- the vector v leads from a to b
pub record Leads (a b : Corner) (v : Vector2) : Type 0 where
  pub on_x : v.x ≡ b.x -ℤ a.x
  pub on_y : v.y ≡ b.y -ℤ a.y

-- the vector v is the near corner c, widened
pub record Wide (v : Vector2) (c : Corner) : Type 0 where
  pub on_x : v.x ≡ c.x
  pub on_y : v.y ≡ c.y
  pub near : Near c

-- the cross product
unfoldable pub perp_dot : Vector2 → Vector2 → ℤ
perp_dot u v = u.x *ℤ v.y -ℤ u.y *ℤ v.x

-- the dot product
unfoldable pub dot_of : Vector2 → Vector2 → ℤ
dot_of u v = u.x *ℤ v.x +ℤ u.y *ℤ v.y
