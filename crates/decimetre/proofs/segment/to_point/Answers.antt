use Rattle.std.proofs.Common.{w64, arith}
use Rattle.std.proofs.lemmas.Int.{ints, to_z-of_z}
use Rattle.decimetre.specs.Nears.{is_near, is_same}
use Rattle.decimetre.specs.Numbers.{narrow16}
use Rattle.decimetre.proofs.segment.to_point.Goals as goal

pub returns : goal.returns
returns c =
    let n = c.in-Some-Some in
    let a_x = narrow16 c.a.inside.x (omega (arith, ints, c.a.invariant.0)) in
    let a_y = narrow16 c.a.inside.y (omega (arith, ints, c.a.invariant.1)) in
    let b_x = narrow16 c.b.inside.x (omega (arith, ints, c.b.invariant.0)) in
    let b_y = narrow16 c.b.inside.y (omega (arith, ints, c.b.invariant.1)) in
    let x = to_z-of_z w64 c.weighed.result (omega (arith, ints, c.weighed.type_inv)) in
    let y = to_z-of_z w64 c.weighed-2.result (omega (arith, ints, c.weighed-2.type_inv)) in
    rw (is_near _ c.near.ensures n.is-0, is_near _ c.near-2.ensures n.is-1, is_same c.args.a c.near.ensures n.is-0, is_same c.args.b c.near-2.ensures n.is-1, x, y, c.weighed.ensures, c.weighed-2.ensures, a_x, a_y, b_x, b_y, c.from-part.ensures, ← c.a.view_is, ← c.b.view_is)
