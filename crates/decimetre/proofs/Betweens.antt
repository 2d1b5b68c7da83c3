-- Where a corner lies on an edge, by the tests of the code. Assumes nothing.
use Rattle.std.proofs.Common.{◌≡◌, true, false, eqb, ◌-ℤ◌, nat_abs, refl}
use Rattle.decimetre.specs.declared.corner.Corner.{Corner}
use Rattle.decimetre.specs.Exact.{share, between_at}

module _ (a b c : Corner) where
  pub by_x : eqb (nat_abs (b.x -ℤ a.x)) 0 ≡ false → between_at a b c ≡ share (c.x -ℤ a.x) (b.x -ℤ a.x)
  by_x p = rw p refl

  pub by_y : eqb (nat_abs (b.x -ℤ a.x)) 0 ≡ true → eqb (nat_abs (b.y -ℤ a.y)) 0 ≡ false → between_at a b c ≡ share (c.y -ℤ a.y) (b.y -ℤ a.y)
  by_y p q = rw (p, q) refl
