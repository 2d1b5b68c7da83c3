-- The number that a finite float stands for. Assumes nothing.
use Rattle.std.specs.Prelude.{◌≡◌, ℕ, Bool, true, false, not, ◌&&◌, ℤ, pos, neg_ℤ, int_lt, Float}
use Rattle.std.specs.Float.Ieee.Exact.{HasValue}

-- a number from its sign, true below zero, and its size
abbrev pub signed : Bool → ℕ → ℤ
signed false n = pos n
signed true n = neg_ℤ (pos n)

-- the float x is finite and stands for z / c, with c above 0; a zero may have either sign
pub record IsFraction (x : Float) (z : ℤ) (c : ℕ) : Type 0 where
  pub sign : Bool
  pub size : ℕ
  pub value : HasValue x sign size c
  pub is : z ≡ signed sign size

-- the float x stands for the whole number z
abbrev pub IsWhole : Float → ℤ → Type 0
IsWhole x z = IsFraction x z 1

-- two whole numbers are the same: neither is below the other
abbrev pub same_z : ℤ → ℤ → Bool
same_z z w = not (int_lt z w) && not (int_lt w z)
