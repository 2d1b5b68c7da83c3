use Rattle.std.proofs.Common.{◌+◌, ◌*◌, ◌<◌}
use Rattle.chart.specs.Records.{edge_at, not_after_at}
use Rattle.chart.specs.Words.{base, start}
use Rattle.chart.proofs.Walk.{Walked}
use Rattle.chart.proofs.chain.Chains.find.Given as goal

abbrev pub invariant-loop-turn : goal.invariant-loop-turn
invariant-loop-turn g l =
    let cs = l.self.crossings.records.now in
    let n = l.self.crossings.corners in
    (l.at < base l.ring n + 6 * l.id)
    × Walked (not_after_at (g.K.Arithmetic.meaning.not_after l.self.crossings.arith.now) cs l.ring) l.self.words.now (base l.ring n) l.id (start l.ring n + edge_at cs l.ring l.id) l.at l._turn
