use Rattle.std.proofs.Common.{◌∙◌}
use Rattle.decimetre.proofs.Products.{perp_dot_is}
use Rattle.decimetre.proofs.triangle.area2_of.Goals as goal

pub returns : goal.returns
returns c = c.perp_dot.ensures ∙ perp_dot_is c.sub.ensures c.sub-2.ensures
