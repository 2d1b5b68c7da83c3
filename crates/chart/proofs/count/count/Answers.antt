use Rattle.std.proofs.Common.{◌^◌, rules, sym, refl, ◌∙◌, arith}
use Rattle.std.proofs.lemmas.Iterator.{YieldsList-from_map}
use Rattle.std.proofs.lemmas.Iterator.Adapters.{fits_from_length, at_most_from_yields_List}
use Rattle.std.proofs.lemmas.Iterator.Consumers.{YieldsList-at, YieldsList-from_first, sum_by_from_yields_List}
use Rattle.plane.specs.Outlines.{most_corners}
use Rattle.plane.specs.Rings.{edges, edges_left}
use Rattle.chart.proofs.Pairs.{crossed, by_edge}
use Rattle.chart.proofs.count.count.Goals as goal

pub sum-requires-clause-fits : goal.sum-requires-clause-fits
sum-requires-clause-fits g c =
    fits_from_length _ _ most_corners (2 ^ 64) (at_most_from_yields_List (YieldsList-at c.map.ensures.source (YieldsList-from_first (λ x. x) edges_left _ refl)) (search rules)) c.map.ensures.closure (omega arith) (λ x r q k. search rules)

pub returns : goal.returns
returns g c =
    let m = g.K.Arithmetic.meaning in
    let a = c.args.arith.now in
    let one = c.args.one.now in
    let two = c.args.two.now in
    sum_by_from_yields_List (crossed m a one two) (edges one) c.map.result c.sum.result c.sum.ensures.ran (YieldsList-from_map _ (crossed m a one two) (YieldsList-at c.map.ensures.source (YieldsList-from_first (λ x. x) edges_left (edges one) (search rules))) c.map.ensures.closure (λ x r q k. search rules)) ∙ sym (by_edge m a one two)
