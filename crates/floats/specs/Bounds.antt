-- How large the results of bounded floats get. Assumes nothing.
use Rattle.std.specs.Prelude.{◌≡◌, ℕ, suc, ◌+◌, ◌*◌, ◌^◌, ◌<◌, ◌≤◌, false, is_nan, Float}
use Rattle.std.specs.Float.{nan, inf, fin}
use Rattle.std.specs.Float.Ieee.{up, down, eq}
use Rattle.floats.specs.Operations.{◌⊕◌, ◌⊖◌, ◌⊗◌, ◌⊘◌, nought}

-- the float is finite and at most 2 ^ k in size
abbrev pub Within : ℕ → Float → Type 0
Within k nan = ⊥
Within k (inf s) = ⊥
Within k (fin s m e) = m * up e ≤ 2 ^ k * down e

-- a sum is at most twice as large as its parts, and finite up to 2 ^ 127
abbrev pub SumBounded : Type 0
SumBounded = (x y : Float) (k : ℕ) → k < 127 → Within k x → Within k y → Within (suc k) (x ⊕ y)

-- so is a difference
abbrev pub DifferenceBounded : Type 0
DifferenceBounded = (x y : Float) (k : ℕ) → k < 127 → Within k x → Within k y → Within (suc k) (x ⊖ y)

-- a product's bound is the product of the bounds
abbrev pub ProductBounded : Type 0
ProductBounded = (x y : Float) (j k : ℕ) → j + k ≤ 127 → Within j x → Within k y → Within (j + k) (x ⊗ y)

-- a finite float by another that is not 0 is a number, though perhaps an infinity
abbrev pub QuotientNumber : Type 0
QuotientNumber = (x y : Float) (j k : ℕ) → Within j x → Within k y → eq y nought ≡ false → is_nan (x ⊘ y) ≡ false
