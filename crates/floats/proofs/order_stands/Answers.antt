use Rattle.floats.proofs.Order as order
use Rattle.floats.proofs.order_stands.Goals as goal

pub returns : goal.returns
returns c = record { total = order.total; transitive = order.transitive; last = order.last; numbers = order.numbers }
