-- What stays from 0 to 1: the part that one difference is of another. Assumes nothing.
use Rattle.std.specs.Prelude.{ℕ, T, Float}
use Rattle.std.specs.Float.{binary32}
use Rattle.std.specs.Float.Ieee.{lt, le, fits}
use Rattle.floats.specs.Operations.{◌⊖◌, ◌⊘◌, nought, unit}
use Rattle.floats.specs.Bounds.{Within}

-- from 0 to 1
pub record InUnit (q : Float) : Type 0 where
  pub low : T (le nought q)
  pub high : T (le q unit)

-- where u ≤ w ≤ v, from u to w is not below 0, and no more than from u to v
pub record Steps (u w v : Float) : Type 0 where
  pub forth : T (le nought (w ⊖ u))
  pub short : T (le (w ⊖ u) (v ⊖ u))

abbrev pub StepsOrdered : Type 0
StepsOrdered = (u w v : Float) (j k : ℕ) → Within j u → Within k v → T (le u w) → T (le w v) → Steps u w v

-- single-precision numbers that differ have a difference that is not 0, however small
abbrev pub StepSome : Type 0
StepSome = (u v : Float) → T (fits binary32 u) → T (fits binary32 v) → (j k : ℕ) → Within j u → Within k v → T (lt u v) → T (lt nought (v ⊖ u))

-- the part that x is of y
abbrev pub PartInUnit : Type 0
PartInUnit = (x y : Float) (k : ℕ) → Within k y → T (le nought x) → T (le x y) → T (lt nought y) → InUnit (x ⊘ y)

-- and what it leaves of 1
abbrev pub RestInUnit : Type 0
RestInUnit = (q : Float) → InUnit q → InUnit (unit ⊖ q)
