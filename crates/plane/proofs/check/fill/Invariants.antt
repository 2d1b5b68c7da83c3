use Rattle.std.proofs.Common.{take}
use Rattle.plane.specs.Outlines.{Corners}
use Rattle.plane.proofs.check.fill.Given as goal

abbrev pub invariant-loop-i : goal.invariant-loop-i
invariant-loop-i g l = Corners g.K.Arithmetic.meaning (take l.i l.raw) (take l.i l.places)
