-- Whole numbers of small size are held, added, subtracted, multiplied and compared exactly. Assumes nothing.
use Rattle.std.specs.Prelude.{◌≡◌, ℕ, ◌^◌, ◌<◌, ◌≤◌, ℤ, pos, negsuc, ◌+ℤ◌, ◌-ℤ◌, ◌*ℤ◌, neg_ℤ, int_le, int_lt, unsigned_abs, Float}
use Rattle.std.specs.Float.{binary32}
use Rattle.std.specs.Float.Ieee.{of_int, neg, lt, le, eq}
use Rattle.floats.specs.Operations.{◌⊕◌, ◌⊖◌, ◌⊗◌, nought}
use Rattle.floats.specs.Numbers.{IsWhole, same_z}

-- up to this size every whole number is a float
abbrev pub largest : ℕ
largest = 2 ^ 24

-- the float nearest to a whole number
abbrev pub float : ℤ → Float
float z = of_int binary32 z

-- it is that number
abbrev pub WholeHeld : Type 0
WholeHeld = (z : ℤ) → unsigned_abs z ≤ largest → IsWhole (float z) z

-- the sum stands for the sum
abbrev pub WholeSum : Type 0
WholeSum = (x y : Float) (z w : ℤ) → IsWhole x z → IsWhole y w → unsigned_abs (z +ℤ w) ≤ largest → IsWhole (x ⊕ y) (z +ℤ w)

-- the difference for the difference
abbrev pub WholeDifference : Type 0
WholeDifference = (x y : Float) (z w : ℤ) → IsWhole x z → IsWhole y w → unsigned_abs (z -ℤ w) ≤ largest → IsWhole (x ⊖ y) (z -ℤ w)

-- the product for the product
abbrev pub WholeProduct : Type 0
WholeProduct = (x y : Float) (z w : ℤ) → IsWhole x z → IsWhole y w → unsigned_abs (z *ℤ w) ≤ largest → IsWhole (x ⊗ y) (z *ℤ w)

-- and what is turned round for the number turned round
abbrev pub WholeNegation : Type 0
WholeNegation = (x : Float) (z : ℤ) → IsWhole x z → IsWhole (neg x) (neg_ℤ z)

-- floats that are whole numbers compare as these do
pub record Compared (x y : Float) (z w : ℤ) : Type 0 where
  pub below : lt x y ≡ int_lt z w
  pub up_to : le x y ≡ int_le z w
  pub level : eq x y ≡ same_z z w

abbrev pub WholeCompared : Type 0
WholeCompared = (x y : Float) (z w : ℤ) → IsWhole x z → IsWhole y w → Compared x y z w

-- the difference of two whole numbers is the very float of their difference
abbrev pub SameDifference : Type 0
SameDifference = (z w : ℤ) → unsigned_abs z ≤ largest → unsigned_abs w ≤ largest → float z ⊖ float w ≡ float (z -ℤ w)

-- the product is the very float of their product where no factor is 0
abbrev pub SameProduct : Type 0
SameProduct = (z w : ℤ) → unsigned_abs z ≤ largest → unsigned_abs w ≤ largest → 0 < unsigned_abs z → 0 < unsigned_abs w → float z ⊗ float w ≡ float (z *ℤ w)

-- with a factor 0 it may be the zero with a minus sign
abbrev pub MinusNought : Type 0
MinusNought = float (negsuc 0) ⊗ float (pos 0) ≡ neg nought
