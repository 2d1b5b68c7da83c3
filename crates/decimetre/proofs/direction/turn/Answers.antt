use Rattle.std.proofs.Common.{◌∙◌, arith}
use Rattle.std.proofs.lemmas.Grind.{common_steps}
use Rattle.decimetre.specs.Nears.{is_near, is_same}
use Rattle.decimetre.proofs.Products.{perp_dot_is}
use Rattle.decimetre.proofs.direction.turn.Goals as goal

pub returns : goal.returns
returns c =
    let e = c.perp_dot.ensures ∙ perp_dot_is c.sub.ensures c.sub-2.ensures in
    grind (arith, common_steps, is_near, is_same, e)
