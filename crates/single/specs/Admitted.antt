-- Which pairs of numbers are admitted as corners. Assumes nothing.
use Rattle.std.specs.Prelude.{Bool, cond, ◌&&◌, Some, None, Option, from_bits, Float}
use Rattle.std.specs.Float.{binary32}
use Rattle.std.specs.Float.Ieee.{neg, le}
use Rattle.plane.specs.declared.pair.Pair.{Pair}
use Rattle.single.specs.declared.corner.Corner.{Corner}

-- 2 ^ 59
abbrev pub farthest : Float
farthest = from_bits binary32 0x5d00_0000

-- within it on either side of 0
abbrev pub in_reach : Float → Bool
in_reach v = le (neg farthest) v && le v farthest

abbrev pub is_admitted : Corner → Bool
is_admitted c = in_reach c.x && in_reach c.y

-- a pair is admitted as the corner of its two numbers
abbrev pub corner_of : Pair Float → Corner
corner_of p = record { x = p.x; y = p.y }

abbrev pub admitted : Pair Float → Option Corner
admitted p = cond (is_admitted (corner_of p)) (Some (corner_of p)) None
