use Rattle.std.proofs.Common.{lit≤}
use Rattle.decimetre.specs.Vectors.{dot_of}
use Rattle.decimetre.specs.Numbers.{vector_x, vector_y, times, plus, plus_fits, bound_of}
use Rattle.decimetre.proofs.math.Vector2.dot.Goals as goal

pub overflow_add-result : goal.overflow_add-result
overflow_add-result c =
    let u = c.args.self in
    let v = c.args.other in
    plus_fits (times (vector_x u) (vector_x v) (lit≤ tt)) (times (vector_y u) (vector_y v) (lit≤ tt)) (lit≤ tt)

pub invariant_of-result : goal.invariant_of-result
invariant_of-result c =
    let u = c.args.self in
    let v = c.args.other in
    bound_of (plus (times (vector_x u) (vector_x v) (lit≤ tt)) (times (vector_y u) (vector_y v) (lit≤ tt)) (lit≤ tt))

pub returns : goal.returns
unfolding dot_of
returns c =
    let u = c.args.self in
    let v = c.args.other in
    (plus (times (vector_x u) (vector_x v) (lit≤ tt)) (times (vector_y u) (vector_y v) (lit≤ tt)) (lit≤ tt)).is
