-- Single precision keeps the arithmetic's law. Assumes nothing.
use Rattle.std.specs.Float.Ieee.Bits.{is_true}
use Rattle.std.proofs.lemmas.Bool.{or_cases}
use Rattle.std.proofs.lemmas.Float.{T_from_true}
use Rattle.plane.specs.Meaning.{Ordered}
use Rattle.floats.specs.Order.{up_to}
use Rattle.floats.proofs.Order as order
use Rattle.single.specs.declared.tolerance.Single.{Single}
use Rattle.single.specs.Marks.{bcoords_of}
use Rattle.single.specs.Single.{single}

-- of any two marks one is not after the other, and not after is transitive, given by meet or not
pub ordered : (self : Single) → Ordered single self
ordered self = record {
  total = λ m n _ _. or_cases (up_to (bcoords_of m) (bcoords_of n)) (up_to (bcoords_of n) (bcoords_of m)) (is_true _ (order.total (bcoords_of m) (bcoords_of n)));
  trans = λ m n o _ _ _ p q. is_true _ (order.transitive (bcoords_of m) (bcoords_of n) (bcoords_of o) (T_from_true _ p) (T_from_true _ q));
}
