-- What the quotient of whole numbers, which is rounded, can be around 0 and 1. Assumes nothing.
use Rattle.std.specs.Prelude.{◌≡◌, ◌^◌, ◌<◌, ◌≤◌, Bool, cond, ◌||◌, T, ℤ, pos, int_le, int_lt, unsigned_abs, Float}
use Rattle.std.specs.Float.Ieee.{lt, eq}
use Rattle.floats.specs.Operations.{◌⊖◌, ◌⊘◌, nought, unit}
use Rattle.floats.specs.Numbers.{IsWhole, same_z}

-- the fraction z / w is below 0 or above 1, for a w that is not 0
abbrev pub outside_z : ℤ → ℤ → Bool
outside_z z w = cond (int_lt (pos 0) w) (int_lt z (pos 0) || int_lt w z) (int_lt (pos 0) z || int_lt z w)

-- the float q is below 0 or above 1, at 0, and at 1 exactly where the fraction z / w is
pub record Placed (q : Float) (z w : ℤ) : Type 0 where
  pub out : (lt q nought || lt unit q) ≡ outside_z z w
  pub start : eq q nought ≡ same_z z (pos 0)
  pub end : eq q unit ≡ same_z z w

-- so is the quotient, for divisors up to 2 ^ 23
abbrev pub QuotientPlaced : Type 0
QuotientPlaced = (x y : Float) (z w : ℤ) → IsWhole x z → IsWhole y w → 0 < unsigned_abs w → unsigned_abs w ≤ 2 ^ 23 → Placed (x ⊘ y) z w

-- whether a float is at 0 and at 1
pub record Ends (q : Float) (start end : Bool) : Type 0 where
  pub at_nought : eq q nought ≡ start
  pub at_unit : eq q unit ≡ end

-- 1 less the quotient, which is rounded twice: at 0 where the fraction is 1, at 1 where it is 0, for divisors up to 2,048
abbrev pub RestPlaced : Type 0
RestPlaced =
    (x y : Float) (z w : ℤ) → IsWhole x z → IsWhole y w → T (int_le (pos 0) z) → T (int_le z w) → T (int_lt (pos 0) w) → unsigned_abs w ≤ 2048
    → Ends (unit ⊖ x ⊘ y) (same_z z w) (same_z z (pos 0))
