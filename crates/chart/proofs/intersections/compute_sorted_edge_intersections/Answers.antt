use Rattle.std.proofs.Common.{◌++◌, length, drop, is_ok, rules, sym, ap, ◌∙◌, subst, arith}
use Rattle.chart.specs.Charts.{chart_of, inner_where}
use Rattle.chart.specs.Records.{records_of}
use Rattle.chart.specs.Words.{Chained, OnEdges, ToldBy}
use Rattle.chart.proofs.Charted.{edge_low}
use Rattle.chart.proofs.Noting.{length-records, front_written}
use Rattle.chart.proofs.Pairs.{few_crossings}
use Rattle.chart.proofs.Telling.{told_by}
use Rattle.chart.proofs.intersections.compute_sorted_edge_intersections.Goals as goal

pub refuse-requires : goal.refuse-requires
refuse-requires g c =
    omega (arith, c.count-found.ensures, few_crossings g.K.Arithmetic.meaning c.args.arith.now c.args.one.now c.args.two.now _ c.of-corners.ensures.value c.of-corners.ensures.few)

pub fill-requires : goal.fill-requires
fill-requires g c =
    omega (arith, length-records g.K.Arithmetic.meaning c.args.arith.now c.args.one.now c.args.two.now, c.count-found.ensures, (c.refuse.ensures.fits (ap is_ok c.in_ok-refuse.was)).2)

pub invariant_of-crossings : goal.invariant_of-crossings
invariant_of-crossings g c =
    let m = g.K.Arithmetic.meaning in
    let a = c.args.arith.now in
    let one = c.args.one.now in
    let two = c.args.two.now in
    let front = front_written m a one two c.args.records.now c.fill.new.records c.count-found.result c.count-found.ensures c.fill.ensures in
    record {
      few = omega (arith, ap length front, length-records m a one two, few_crossings m a one two _ c.of-corners.ensures.value c.of-corners.ensures.few);
      on_edges = subst (OnEdges c.of-corners.result) (sym front) (subst (λ n. OnEdges n (records_of m a one two)) (sym c.of-corners.ensures.value) (edge_low m a one two));
    }

pub returns-clause-written : goal.returns-clause-written
returns-clause-written g c =
    λ _. c.fill.ensures
    ∙ ap (λ k. records_of g.K.Arithmetic.meaning c.args.arith.now c.args.one.now c.args.two.now ++ drop k c.args.records.now) (length-records g.K.Arithmetic.meaning c.args.arith.now c.args.one.now c.args.two.now)

pub returns-clause-told : goal.returns-clause-told
returns-clause-told g c =
    let m = g.K.Arithmetic.meaning in
    let a = c.args.arith.now in
    let one = c.args.one.now in
    let two = c.args.two.now in
    let front = front_written m a one two c.args.records.now c.fill.new.records c.count-found.result c.count-found.ensures c.fill.ensures in
    let rs = records_of m a one two in
    let le = m.not_after a in
    let ws = c.chain_all.new.self.words.now in
    let told : ToldBy ws (chart_of m a one two) = told_by le (record { one = length one; two = length two }) rs (inner_where m a (length rs) one two) ws
    (subst (λ n. Chained le n rs (length rs) ws) c.of-corners.ensures.value (subst (λ cs. Chained le c.of-corners.result cs (length cs) ws) front c.chain_all.ensures.told)) in
    λ _. search rules
