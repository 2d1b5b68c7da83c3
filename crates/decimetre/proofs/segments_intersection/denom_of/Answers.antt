use Rattle.std.proofs.Common.{lit≤}
use Rattle.decimetre.specs.Numbers.{denom_reads, term, term_fits, plus, plus_fits, bound_of}
use Rattle.decimetre.proofs.segments_intersection.denom_of.Goals as goal

pub overflow_mul-result : goal.overflow_mul-result
overflow_mul-result c = term_fits c.from-d.ensures c.from-c.ensures c.from-a.ensures

pub overflow_mul-result-2 : goal.overflow_mul-result-2
overflow_mul-result-2 c = term_fits c.from-c.ensures c.from-d.ensures c.from-b.ensures

pub overflow_add-result : goal.overflow_add-result
overflow_add-result c =
    plus_fits (term c.from-d.ensures c.from-c.ensures c.from-a.ensures) (term c.from-c.ensures c.from-d.ensures c.from-b.ensures) (lit≤ tt)

pub overflow_mul-result-3 : goal.overflow_mul-result-3
overflow_mul-result-3 c = term_fits c.from-b.ensures c.from-a.ensures c.from-d.ensures

pub overflow_add-result-2 : goal.overflow_add-result-2
overflow_add-result-2 c =
    plus_fits (plus (term c.from-d.ensures c.from-c.ensures c.from-a.ensures) (term c.from-c.ensures c.from-d.ensures c.from-b.ensures) (lit≤ tt)) (term c.from-b.ensures c.from-a.ensures c.from-d.ensures) (lit≤ tt)

pub overflow_mul-result-4 : goal.overflow_mul-result-4
overflow_mul-result-4 c = term_fits c.from-a.ensures c.from-b.ensures c.from-c.ensures

pub overflow_add-result-3 : goal.overflow_add-result-3
overflow_add-result-3 c =
    plus_fits (plus (plus (term c.from-d.ensures c.from-c.ensures c.from-a.ensures) (term c.from-c.ensures c.from-d.ensures c.from-b.ensures) (lit≤ tt)) (term c.from-b.ensures c.from-a.ensures c.from-d.ensures) (lit≤ tt)) (term c.from-a.ensures c.from-b.ensures c.from-c.ensures) (lit≤ tt)

pub invariant_of-result : goal.invariant_of-result
invariant_of-result c = bound_of (denom_reads c.from-a.ensures c.from-b.ensures c.from-c.ensures c.from-d.ensures)

pub returns : goal.returns
returns c = (denom_reads c.from-a.ensures c.from-b.ensures c.from-c.ensures c.from-d.ensures).is
