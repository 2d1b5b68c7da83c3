use Rattle.std.proofs.Common.{◌^◌, ◌<◌, lit≤, rules}
use Rattle.decimetre.specs.Numbers.{coordinate16, whole, less, times, plus, plus_fits}
use Rattle.decimetre.proofs.segment.weighed.Goals as goal

pub overflow_add-result : goal.overflow_add-result
overflow_add-result c =
    let u : c.args.part.upper < 2 ^ 32 = search rules in
    let l : c.args.part.lower < 2 ^ 32 = search rules in
    plus_fits (times (coordinate16 c.args.p c.ranges.p) (less (whole _ l) (whole _ u) (lit≤ tt)) (lit≤ tt)) (times (coordinate16 c.args.q c.ranges.q) (whole _ u) (lit≤ tt)) (lit≤ tt)

pub returns : goal.returns
returns c =
    let u : c.args.part.upper < 2 ^ 32 = search rules in
    let l : c.args.part.lower < 2 ^ 32 = search rules in
    (plus (times (coordinate16 c.args.p c.ranges.p) (less (whole _ l) (whole _ u) (lit≤ tt)) (lit≤ tt)) (times (coordinate16 c.args.q c.ranges.q) (whole _ u) (lit≤ tt)) (lit≤ tt)).is
