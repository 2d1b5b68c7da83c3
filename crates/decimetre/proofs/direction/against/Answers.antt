use Rattle.std.proofs.Common.{refl, ◌∙◌, arith}
use Rattle.std.proofs.lemmas.Grind.{common_steps}
use Rattle.decimetre.specs.Nears.{is_near, is_same, is_far}
use Rattle.decimetre.proofs.Products.{dot_is}
use Rattle.decimetre.proofs.direction.against.Goals as goal

pub returns-in_default : goal.returns-in_default
returns-in_default c =
    let n = c.in_default in
    rw (is_near _ c.near.ensures n.is-0, is_near _ c.near-2.ensures n.is-1, is_near _ c.near-3.ensures n.is-2, is_far _ c.near-4.ensures n.is-3) refl

pub returns-in_default-2 : goal.returns-in_default-2
returns-in_default-2 c =
    let n = c.in_default in
    rw (is_near _ c.near.ensures n.is-0, is_near _ c.near-2.ensures n.is-1, is_far _ c.near-3.ensures n.is-2) refl

pub returns-in_default-3 : goal.returns-in_default-3
returns-in_default-3 c = let n = c.in_default in rw (is_near _ c.near.ensures n.is-0, is_far _ c.near-2.ensures n.is-1) refl

pub returns : goal.returns
returns c =
    let e = c.dot.ensures ∙ dot_is c.sub.ensures c.sub-2.ensures in
    grind (arith, common_steps, is_near, is_same, e)
