use Rattle.floats.proofs.Quotients as quotients
use Rattle.floats.proofs.quotients_stand.Goals as goal

pub returns : goal.returns
returns c = record { placed = quotients.placed; rest = quotients.rest_placed }
