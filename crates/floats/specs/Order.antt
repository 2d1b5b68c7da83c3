-- The order of floats: the numbers by size, both zeros level, then not-a-number, level with itself. Assumes nothing.
use Rattle.std.specs.Prelude.{◌≡◌, Bool, false, not, ◌||◌, T, is_nan, Float}
use Rattle.std.specs.Float.{nan}
use Rattle.std.specs.Float.Ieee.{lt, le}

-- x stands before y or level with it
abbrev pub up_to : Float → Float → Bool
up_to x y = is_nan y || le x y

-- of any two floats one is up to the other
abbrev pub OrderTotal : Type 0
OrderTotal = (x y : Float) → T (up_to x y || up_to y x)

-- what is up to y, and y up to z, is up to z
abbrev pub OrderTransitive : Type 0
OrderTransitive = (x y z : Float) → T (up_to x y) → T (up_to y z) → T (up_to x z)

-- every float is up to not-a-number, and not-a-number to nothing else
abbrev pub NanLast : Type 0
NanLast = (x : Float) → T (up_to x nan) × (T (up_to nan x) → x ≡ nan)

-- of two numbers one is below the other exactly where the other is not up to it
abbrev pub NumbersOrdered : Type 0
NumbersOrdered = (x y : Float) → is_nan x ≡ false → is_nan y ≡ false → lt x y ≡ not (le y x)
