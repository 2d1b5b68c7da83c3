use Rattle.floats.proofs.Bounds.{sum_bounded, difference_bounded, product_bounded, quotient_number}
use Rattle.floats.proofs.bounds_stand.Goals as goal

pub returns : goal.returns
returns c = record { sum = sum_bounded; difference = difference_bounded; product = product_bounded; quotient = quotient_number }
