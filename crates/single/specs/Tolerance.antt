-- Which tolerances an arithmetic is made with. Assumes nothing.
use Rattle.std.specs.Prelude.{Bool, cond, ◌&&◌, Some, None, Option, from_bits, Float}
use Rattle.std.specs.Float.{binary32}
use Rattle.std.specs.Float.Ieee.{le}
use Rattle.plane.specs.Refusals.{Told, tells}
use Rattle.floats.specs.Operations.{nought, unit}

-- from 0 to 1, and so not not-a-number
abbrev pub in_unit : Float → Bool
in_unit v = le nought v && le v unit

-- what a tolerance is refused with: nothing where it is in range, else 4 at 0
abbrev pub tolerated : Float → Option Told
tolerated t = cond (in_unit t) None (Some (tells 4 0))

-- the walk's, 100 · 2 ^ -23
abbrev pub walking : Float
walking = from_bits binary32 0x3748_0000
