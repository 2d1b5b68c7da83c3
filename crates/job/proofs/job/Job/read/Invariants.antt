use Rattle.std.proofs.Common.{◌≡◌, ◌-◌, ◌≤◌, length, drop}
use Rattle.job.specs.Format.{read_from, read_job}
use Rattle.job.specs.Held.{lists_of}
use Rattle.job.proofs.job.Job.read.Given as goal

abbrev pub invariant-loop-at : goal.invariant-loop-at
invariant-loop-at l = record {
  within : l.at ≤ length l.bytes;
  same : read_from l.at (lists_of l.job) (drop l.at l.bytes) ≡ read_job l.bytes;
}

abbrev pub decreases-loop-at : goal.decreases-loop-at
decreases-loop-at l = length l.bytes - l.at
