-- A job that was read passes both checks, where there are places for its corners.
use Rattle.std.proofs.Common.{◌≤◌, length, arith}
use Rattle.std.proofs.lemmas.List.{length-drop, drop-drop}
use Rattle.plane.specs.declared.ring.Ring.TheVariants.{One, Two}
use Rattle.plane.proofs.Checks.{corners-length}
use Rattle.decimetre.specs.Exact.{exact}
use Rattle.job.specs.Held.{lists_of}
use Rattle.job.proofs.Checked.{rings_pass, not_refused}
use Rattle.job.proofs.outlines.read_outlines.Goals as goal

pub returns-in_err-one-clause-answer : goal.returns-in_err-one-clause-answer
returns-in_err-one-clause-answer c =
    let passes = rings_pass c.args.bytes.now (lists_of c.in_ok-job.job) c.in_ok-job.ensures.split One in
    let none = not_refused c.in_ok-job.job.one (length c.args.store.now.now) passes (grind arith) in
    grind arith

never_two : (c : goal.After-from_residual-in_err-two) → ⊥
never_two c =
    let passes = rings_pass c.args.bytes.now (lists_of c.in_ok-job.job) c.in_ok-job.ensures.split Two in
    let left = length-drop (length c.as_slice-first.result.now) c.args.store.now.now in
    let room : length c.in_ok-job.job.two ≤ length c.check.new.store.now = grind arith in
    let none = not_refused c.in_ok-job.job.two (length c.check.new.store.now) passes room in
    grind arith

pub returns-in_err-two-clause-answer : goal.returns-in_err-two-clause-answer
returns-in_err-two-clause-answer c = absurd (never_two c)

pub returns-in_err-two-clause-kept : goal.returns-in_err-two-clause-kept
returns-in_err-two-clause-kept c = absurd (never_two c)

pub returns-clause-rest : goal.returns-clause-rest
returns-clause-rest c = grind (arith, drop-drop, corners-length exact c.as_slice-first.result.now c.in_ok-one.one, corners-length exact c.as_slice-second.result.now c.in_ok-two.two)
