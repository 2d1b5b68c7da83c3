-- What becomes of a job's outlines. Assumes nothing.
use Rattle.std.specs.Prelude.{ℕ, ◌+◌, cond, List, length, Some, None, Ok, Err, Option, Result, nat_lt}
use Rattle.plane.specs.Refusals.{Told, tells}
use Rattle.plane.specs.Outlines.{Corners}
use Rattle.decimetre.specs.declared.corner.Corner.{Corner}
use Rattle.decimetre.specs.Exact.{exact}
use Rattle.job.specs.Format.{Lists}

-- how many corners the rings of a job have in all
abbrev pub corners_in : Lists → ℕ
corners_in l = length l.one + length l.two

-- what is told of a reading where there are so many places: its own refusal, or number 10 for want of a place
abbrev pub placed : ℕ → Result Lists Told → Option Told
placed places (Ok l) = cond (nat_lt places (corners_in l)) (Some (tells 10 0)) None
placed places (Err t) = Some t

-- the corners are those that the pairs of the reading are admitted as
abbrev pub Outlines : Result Lists Told → List Corner → List Corner → Type 0
Outlines (Ok l) one two = Corners exact l.one one × Corners exact l.two two
Outlines (Err t) one two = ⊥
