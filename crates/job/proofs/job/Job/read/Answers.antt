-- What is left gives the answer, from record to record.
use Rattle.std.proofs.Common.{◌≡◌, ◌+◌, length, drop, Ok, Err, ◌∙◌, arith}
use Rattle.plane.specs.Refusals.{tells}
use Rattle.plane.specs.declared.ring.Ring.TheVariants.{One, Two}
use Rattle.job.specs.Format.{read_job, seen}
use Rattle.job.specs.Held.{lists_of}
use Rattle.job.proofs.Checked.{rings_pass}
use Rattle.job.proofs.Readings.{reads_one, reads_none, reads_on}
use Rattle.job.proofs.Splits.{split_of}
use Rattle.job.proofs.job.Job.read.Goals.{else-loop-at-test, then-loop-at-test+in_ok-ring+in-Corner+in_ok-add-in-Corner+else-at-end-at-gt5}
use Rattle.job.proofs.job.Job.read.Goals as goal

pub returns-in_err-ring : goal.returns-in_err-ring
returns-in_err-ring c =
    let v : seen lists_of c.from_residual.result ≡ read_job c.args.bytes.now = grind (arith, reads_one c.loop-at.at (lists_of c.loop-at.job) (drop c.loop-at.at c.args.bytes.now)) in
    record { value = v; split = split_of _ _ c.type_inv.bytes v; few = grind arith }

pub returns-in_err-add-in-Corner : goal.returns-in_err-add-in-Corner
returns-in_err-add-in-Corner c =
    let v : seen lists_of c.from_residual-in_err-add-in-Corner.result ≡ read_job c.args.bytes.now = grind (arith, reads_one c.loop-at.at (lists_of c.loop-at.job) (drop c.loop-at.at c.args.bytes.now)) in
    record { value = v; split = split_of _ _ c.type_inv.bytes v; few = grind arith }

pub returns-in-End : goal.returns-in-End
returns-in-End c =
    let v : Ok (lists_of c.loop-at.job) ≡ read_job c.args.bytes.now = grind (arith, reads_one c.loop-at.at (lists_of c.loop-at.job) (drop c.loop-at.at c.args.bytes.now)) in
    let s = split_of _ _ c.type_inv.bytes v in
    record { value = v; split = s; few = ((rings_pass _ _ s One).few, (rings_pass _ _ s Two).few) }

pub loop-at-preserved : goal.loop-at-preserved
loop-at-preserved c =
    let on = reads_on c.args.bytes.now c.loop-at.at (lists_of c.loop-at.job) (lists_of c.add.new.self) c.in-Corner.ring (grind arith) (grind arith) in
    record { within = on.0; same = on.1 ∙ c.loop-at.invariant.same }

ends : (c : goal.Left-loop-at) → Err (tells 13 (length c.args.bytes.now)) ≡ read_job c.args.bytes.now
ends c = elim c.loop-at-test.branch [
  | else-loop-at-test w ↦ reads_none c.args.bytes.now c.loop-at.at (lists_of c.loop-at.job) (omega arith) ∙ c.loop-at.invariant.same
  | then-loop-at-test+in_ok-ring+in-Corner+in_ok-add-in-Corner+else-at-end-at-gt5 w ↦
      let on = reads_on c.args.bytes.now c.loop-at.at (lists_of c.loop-at.job) (lists_of w.add.new.self) w.in-Corner.ring (grind arith) (grind arith) in
      reads_none c.args.bytes.now (c.loop-at.at + 5) (lists_of w.add.new.self) (omega arith) ∙ on.1 ∙ c.loop-at.invariant.same
]

pub returns : goal.returns
returns c = record { value = ends c; split = split_of _ _ c.type_inv.bytes (ends c); few = tt }
