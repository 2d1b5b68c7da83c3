use Rattle.std.proofs.Common.{◌∙◌, sym, ap₂}
use Rattle.decimetre.specs.Exact.{share}
use Rattle.decimetre.specs.Numbers.{lead_x, lead_y, not_zero, is_zero}
use Rattle.decimetre.proofs.Betweens.{by_x, by_y}
use Rattle.decimetre.proofs.segments_intersection.between.Goals as goal

pub returns-then-ab-ne0 : goal.returns-then-ab-ne0
returns-then-ab-ne0 c =
    c.share_of.ensures ∙ ap₂ share (lead_x c.sub-ac.ensures).is (lead_x c.sub-ab.ensures).is ∙ sym (by_x c.args.a c.args.b c.args.c (not_zero c.sub-ab.ensures.on_x c.if-ab-ne0.true))

pub returns-then-ab-ne0-2 : goal.returns-then-ab-ne0-2
returns-then-ab-ne0-2 c =
    c.share_of-then-ab-ne0-2.ensures ∙ ap₂ share (lead_y c.sub-ac.ensures).is (lead_y c.sub-ab.ensures).is ∙ sym (by_y c.args.a c.args.b c.args.c (is_zero c.sub-ab.result.x (lead_x c.sub-ab.ensures) c.if-ab-ne0.false) (not_zero c.sub-ab.ensures.on_y c.if-ab-ne0-2.true))
