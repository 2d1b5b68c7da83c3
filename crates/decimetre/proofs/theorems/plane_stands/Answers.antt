use Rattle.decimetre.proofs.Geometry.{side_by_sign, at_one_point, not_parallel, shared_crosses, half_open}
use Rattle.decimetre.proofs.theorems.plane_stands.Goals as goal

pub returns : goal.returns
returns c = record { side = side_by_sign; crossing = at_one_point; meeting = not_parallel; shared = shared_crosses; round = half_open }
