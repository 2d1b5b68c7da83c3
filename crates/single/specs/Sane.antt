-- What holds of the answers for admitted corners: finite formulas, and marks that are numbers from 0 to 1. Assumes nothing.
use Rattle.std.specs.Prelude.{◌≡◌, true, T}
use Rattle.std.specs.Float.Ieee.{lt}
use Rattle.std.specs.Float.{float_is_finite}
use Rattle.plane.specs.declared.answer.Meet.{Meet}
use Rattle.plane.specs.declared.answer.Meet.TheVariants.{Apart, Crossing, Overlap}
use Rattle.plane.specs.declared.mark.Mark.{Mark}
use Rattle.plane.specs.declared.mark.Mark.TheVariants.{Start, Inside, End}
use Rattle.floats.specs.Operations.{◌⊖◌, nought, unit}
use Rattle.floats.specs.Units.{InUnit}
use Rattle.single.specs.declared.corner.Corner.{Corner}
use Rattle.single.specs.declared.corner.Weights.{Weights}
use Rattle.single.specs.Admitted.{is_admitted}
use Rattle.single.specs.Meets.{denom_of, num1_of, num2_of}

-- both numbers of a corner are finite
pub record FiniteCorner (c : Corner) : Type 0 where
  pub on_x : float_is_finite c.x ≡ true
  pub on_y : float_is_finite c.y ≡ true

-- all four corners are admitted
pub record AllAdmitted (a b c d : Corner) : Type 0 where
  pub first : is_admitted a ≡ true
  pub second : is_admitted b ≡ true
  pub third : is_admitted c ≡ true
  pub fourth : is_admitted d ≡ true

-- D, S and T are finite
pub record FiniteParts (a b c d : Corner) : Type 0 where
  pub denom : float_is_finite (denom_of a b c d) ≡ true
  pub num1 : float_is_finite (num1_of a c d) ≡ true
  pub num2 : float_is_finite (num2_of a b c) ≡ true

-- the weights of an inside mark: the one behind is above 0 and below 1, and the one before is 1 less it, from 0 to 1
pub record SaneWeights (w : Weights) : Type 0 where
  pub above : T (lt nought w.behind)
  pub below : T (lt w.behind unit)
  pub rest : w.before ≡ unit ⊖ w.behind
  pub within_unit : InUnit w.before

abbrev pub SaneMark : Mark Weights → Type 0
SaneMark Start = Unit {0}
SaneMark (Inside w) = SaneWeights w
SaneMark End = Unit {0}

-- so are all marks of a meeting
abbrev pub SaneMeet : Meet (Mark Weights) → Type 0
SaneMeet Apart = Unit {0}
SaneMeet (Crossing m n) = SaneMark m × SaneMark n
SaneMeet (Overlap m n o p) = SaneMark m × SaneMark n × SaneMark o × SaneMark p
