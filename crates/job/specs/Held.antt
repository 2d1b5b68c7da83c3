-- What a job holds. Assumes nothing.
use Rattle.job.specs.declared.job.Job.{Job}
use Rattle.job.specs.Format.{Lists}

-- the pairs of both rings
abbrev pub lists_of : Job → Lists
lists_of job = record { one = job.one; two = job.two }
