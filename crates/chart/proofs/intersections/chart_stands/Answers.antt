use Rattle.chart.proofs.Charted.{sound, in_order}
use Rattle.chart.proofs.Noting.{length-records}
use Rattle.chart.proofs.intersections.chart_stands.Goals as goal

pub returns : goal.returns
returns g c =
    record {
      counted = λ a one two. length-records g.K.Arithmetic.meaning a one two;
      sound = λ a one two some some'. sound g.K.Arithmetic.meaning a one two some some';
      ordered = λ a one two. in_order g.K.Arithmetic.meaning a (g.met.K.Arithmetic.ordered a) one two;
    }
