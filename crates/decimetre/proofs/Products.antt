-- The products of the exact arithmetic, as products of vectors. Assumes nothing.
use Rattle.std.proofs.Common.{◌≡◌, refl}
use Rattle.decimetre.specs.declared.corner.Corner.{Corner}
use Rattle.decimetre.specs.declared.math.Vector2.{Vector2}
use Rattle.decimetre.specs.Exact.{cross, dot}
use Rattle.decimetre.specs.Vectors.{Leads, perp_dot, dot_of}

pub perp_dot_is : {a b c d : Corner} {u v : Vector2} → Leads a b u → Leads c d v → perp_dot u v ≡ cross a b c d
unfolding perp_dot cross
perp_dot_is p q = rw (p.on_x, p.on_y, q.on_x, q.on_y) refl

pub dot_is : {a b c d : Corner} {u v : Vector2} → Leads a b u → Leads c d v → dot_of u v ≡ dot a b c d
unfolding dot_of dot
dot_is p q = rw (p.on_x, p.on_y, q.on_x, q.on_y) refl
