use Rattle.std.proofs.Common.{arith}
use Rattle.std.proofs.lemmas.Int.{ints}
use Rattle.decimetre.proofs.math.NearCornerSub.sub.Goals as goal

pub returns : goal.returns
returns c = rw (← c.self.view_is, ← c.other.view_is) (record { on_x = omega (arith, ints); on_y = omega (arith, ints) })
