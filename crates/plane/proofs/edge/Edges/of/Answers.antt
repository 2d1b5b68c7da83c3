use Rattle.std.proofs.Common.{length, ap, ◌∙◌}
use Rattle.plane.specs.Rings.{edges}
use Rattle.plane.proofs.Edges.{length-edges, to_come}
use Rattle.plane.proofs.edge.Edges.of.Goals as goal

pub returns-clause-value : goal.returns-clause-value
unfolding edges
returns-clause-value g c = ap (λ l. to_come l c.args.ring.now) c.iter.ensures.rest

pub returns-clause-len : goal.returns-clause-len
unfolding edges
returns-clause-len g c = ap (λ l. length (to_come l c.args.ring.now)) c.iter.ensures.rest ∙ length-edges c.args.ring.now
