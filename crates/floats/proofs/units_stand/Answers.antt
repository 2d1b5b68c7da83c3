use Rattle.floats.proofs.Units.{steps_ordered, step_some, part_in_unit, rest_in_unit}
use Rattle.floats.proofs.units_stand.Goals as goal

pub returns : goal.returns
returns c = record { steps = steps_ordered; some = step_some; part = part_in_unit; rest = rest_in_unit }
