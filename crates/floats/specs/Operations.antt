-- The operations of single precision, each of which rounds once, and two of its numbers. Assumes nothing.
use Rattle.std.specs.Prelude.{from_bits, Float}
use Rattle.std.specs.Float.{binary32}
use Rattle.std.specs.Float.Ieee.{add, sub, mul, div}

infixl 60 ◌⊕◌ ◌⊖◌
infixl 70 ◌⊗◌ ◌⊘◌
-- the sum
abbrev pub ◌⊕◌ : Float → Float → Float
x ⊕ y = add binary32 x y

-- the difference
abbrev pub ◌⊖◌ : Float → Float → Float
x ⊖ y = sub binary32 x y

-- the product
abbrev pub ◌⊗◌ : Float → Float → Float
x ⊗ y = mul binary32 x y

-- the quotient
abbrev pub ◌⊘◌ : Float → Float → Float
x ⊘ y = div binary32 x y

-- 0, with the sign of a plus
abbrev pub nought : Float
nought = from_bits binary32 0

-- 1
abbrev pub unit : Float
unit = from_bits binary32 0x3f80_0000
