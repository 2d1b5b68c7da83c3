use Rattle.std.proofs.Common.{le_trans, lit≤}
use Rattle.decimetre.specs.Numbers.{num_reads, term, term_fits, plus, plus_fits, bound_of}
use Rattle.decimetre.proofs.segments_intersection.num_of.Goals as goal

pub overflow_mul-result : goal.overflow_mul-result
overflow_mul-result c = term_fits c.from-r.ensures c.from-q.ensures c.from-p.ensures

pub overflow_mul-result-2 : goal.overflow_mul-result-2
overflow_mul-result-2 c = term_fits c.from-p.ensures c.from-r.ensures c.from-q.ensures

pub overflow_add-result : goal.overflow_add-result
overflow_add-result c =
    plus_fits (term c.from-r.ensures c.from-q.ensures c.from-p.ensures) (term c.from-p.ensures c.from-r.ensures c.from-q.ensures) (lit≤ tt)

pub overflow_mul-result-3 : goal.overflow_mul-result-3
overflow_mul-result-3 c = term_fits c.from-q.ensures c.from-p.ensures c.from-r.ensures

pub overflow_add-result-2 : goal.overflow_add-result-2
overflow_add-result-2 c =
    plus_fits (plus (term c.from-r.ensures c.from-q.ensures c.from-p.ensures) (term c.from-p.ensures c.from-r.ensures c.from-q.ensures) (lit≤ tt)) (term c.from-q.ensures c.from-p.ensures c.from-r.ensures) (lit≤ tt)

pub invariant_of-result : goal.invariant_of-result
invariant_of-result c = le_trans (bound_of (num_reads c.from-p.ensures c.from-q.ensures c.from-r.ensures)) (lit≤ tt)

pub returns : goal.returns
returns c = (num_reads c.from-p.ensures c.from-q.ensures c.from-r.ensures).is
