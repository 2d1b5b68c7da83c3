use Rattle.std.proofs.Common.{rules}
use Rattle.plane.specs.declared.answer.Meet.TheVariants.{Crossing}
use Rattle.single.proofs.Finite.{parts_finite}
use Rattle.single.proofs.Sane.{meet_sane}
use Rattle.single.proofs.segments_intersection.segments_intersection2d.Goals as goal

pub returns-then-is_parallel-clause-parts : goal.returns-then-is_parallel-clause-parts
returns-then-is_parallel-clause-parts c = parts_finite _ _ _ _

pub returns-then-is_parallel-clause-sane : goal.returns-then-is_parallel-clause-sane
returns-then-is_parallel-clause-sane c = meet_sane _ _ _ _ c.args.epsilon _ (search rules) (search rules)

pub returns-then-t-2-clause-parts : goal.returns-then-t-2-clause-parts
returns-then-t-2-clause-parts c = parts_finite _ _ _ _

pub returns-else-t-2-clause-parts : goal.returns-else-t-2-clause-parts
returns-else-t-2-clause-parts c = parts_finite _ _ _ _

pub returns-else-t-2-clause-sane : goal.returns-else-t-2-clause-sane
returns-else-t-2-clause-sane c = meet_sane c.args.a c.args.b c.args.c c.args.d c.args.epsilon (Crossing c.classify.result c.classify-else-t-2.result) (search rules) (search rules)
