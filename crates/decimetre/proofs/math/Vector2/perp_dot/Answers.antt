use Rattle.std.proofs.Common.{lit≤}
use Rattle.decimetre.specs.Vectors.{perp_dot}
use Rattle.decimetre.specs.Numbers.{vector_x, vector_y, times, less, less_fits, bound_of}
use Rattle.decimetre.proofs.math.Vector2.perp_dot.Goals as goal

pub overflow_sub-result : goal.overflow_sub-result
overflow_sub-result c =
    let u = c.args.self in
    let v = c.args.other in
    less_fits (times (vector_x u) (vector_y v) (lit≤ tt)) (times (vector_y u) (vector_x v) (lit≤ tt)) (lit≤ tt)

pub invariant_of-result : goal.invariant_of-result
invariant_of-result c =
    let u = c.args.self in
    let v = c.args.other in
    bound_of (less (times (vector_x u) (vector_y v) (lit≤ tt)) (times (vector_y u) (vector_x v) (lit≤ tt)) (lit≤ tt))

pub returns : goal.returns
unfolding perp_dot
returns c =
    let u = c.args.self in
    let v = c.args.other in
    (less (times (vector_x u) (vector_y v) (lit≤ tt)) (times (vector_y u) (vector_x v) (lit≤ tt)) (lit≤ tt)).is
