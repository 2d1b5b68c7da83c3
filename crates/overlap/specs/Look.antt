-- What is found out about a job: its corners and crossings, or a refusal. Assumes nothing.
use Rattle.std.specs.Prelude.{ℕ, cond, ◌||◌, List, map, length, Ok, Err, Result, ◌==◌}
use Rattle.plane.specs.Refusals.{Told, tells}
use Rattle.decimetre.specs.declared.corner.Decimetre.{Decimetre}
use Rattle.decimetre.specs.declared.corner.Corner.{Corner}
use Rattle.decimetre.specs.Exact.{exact, corner_of}
use Rattle.chart.specs.Crossings.{crossings}
use Rattle.job.specs.Format.{Lists, read_job, and_then}
use Rattle.overlap.specs.declared.look.Found.{Found}

-- the exact arithmetic
abbrev pub decimetres : Decimetre
decimetres = record {}

-- of two rings: how many corners each has, and how many pairs of an edge of each cross
abbrev pub found_between : List Corner → List Corner → Found
found_between one two = record { one = length one; two = length two; crossings = crossings exact decimetres one two }

-- of the pairs of a job that was read
abbrev pub found_in : Lists → Found
found_in l = found_between (map corner_of l.one) (map corner_of l.two)

-- of bytes: what reading refuses, or what is found in the job
abbrev pub look_at : List ℕ → Result Found Told
look_at bytes = and_then (read_job bytes) (λ l. Ok (found_in l))

-- a ring without corners is number 1
abbrev pub cornered : Found → Result Found Told
cornered f = cond (f.one == 0 || f.two == 0) (Err (tells 1 0)) (Ok f)
