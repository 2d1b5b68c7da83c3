use Rattle.std.proofs.Common.{pos, refl, ap, ◌∙◌, ap₂, arith}
use Rattle.std.proofs.lemmas.Int.{ints}
use lib.Signed.{lt_z, le_z}
use Rattle.decimetre.specs.Nears.{is_near, is_same, is_far}
use Rattle.decimetre.specs.Numbers.{narrow16, lead_y}
use Rattle.decimetre.proofs.Passes.{passed_is}
use Rattle.decimetre.proofs.Products.{perp_dot_is}
use Rattle.decimetre.proofs.point_in_poly2d.passed.Goals as goal

pub returns-in_default : goal.returns-in_default
returns-in_default c =
    let n = c.in_default in
    rw (is_near _ c.near.ensures n.is-0, is_near _ c.near-2.ensures n.is-1, is_far _ c.near-3.ensures n.is-2) refl

pub returns : goal.returns
returns c =
    let n = c.in-Some-Some-Some in
    let starts = ap (le_z (pos 0)) (lead_y c.sub-dpt.ensures).is in
    let ends = ap₂ lt_z (narrow16 c.p.inside.y (omega (arith, ints, c.p.invariant.1)) ∙ ap (λ k. k.y) c.p.view_is) (narrow16 c.b.inside.y (omega (arith, ints, c.b.invariant.1)) ∙ ap (λ k. k.y) c.b.view_is) in
    let perp = c.perp_dot-perp.ensures ∙ perp_dot_is c.sub-dpt.ensures c.sub-seg_dir.ensures in
    rw (is_near _ c.near.ensures n.is-0, is_near _ c.near-2.ensures n.is-1, is_near _ c.near-3.ensures n.is-2, is_same c.args.p c.near.ensures n.is-0, is_same c.args.a c.near-2.ensures n.is-1, is_same c.args.b c.near-3.ensures n.is-2) (c.counts.ensures ∙ passed_is n.p n.a n.b _ _ _ starts ends perp)
