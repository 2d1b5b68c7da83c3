use Rattle.std.proofs.Common.{arith}
use Rattle.chart.proofs.Inner.{first_read, inner_first}
use Rattle.chart.proofs.inner_ring.inner_ring.Goals as goal

pub returns-then-point_in_poly2d : goal.returns-then-point_in_poly2d
returns-then-point_in_poly2d g c =
    let p = first_read c.args.one.now _ _ _ c.corners.ensures.value c.first.ensures.value c.in_ok-first.was in
    let q = first_read c.args.two.now _ _ _ c.corners-2.ensures.value c.first-2.ensures.value c.in_ok-other.was in
    let inner = inner_first g.K.Arithmetic.meaning c.args.arith.now c.args.one.now c.args.two.now _ _ p q in
    grind arith

pub returns : goal.returns
returns g c =
    let p = first_read c.args.one.now _ _ _ c.corners.ensures.value c.first.ensures.value c.in_ok-first.was in
    let q = first_read c.args.two.now _ _ _ c.corners-2.ensures.value c.first-2.ensures.value c.in_ok-other.was in
    let inner = inner_first g.K.Arithmetic.meaning c.args.arith.now c.args.one.now c.args.two.now _ _ p q in
    grind arith
