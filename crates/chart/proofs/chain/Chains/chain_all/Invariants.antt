use Rattle.std.proofs.Common.{◌≡◌, ◌+◌, ◌*◌, drop}
use Rattle.chart.specs.Words.{Chained}
use Rattle.chart.proofs.chain.Chains.chain_all.Given as goal

abbrev pub invariant-loop-id : goal.invariant-loop-id
invariant-loop-id g l =
    let n = l.fn.self.crossings.corners in
    Chained (g.K.Arithmetic.meaning.not_after l.fn.self.crossings.arith.now) n l.fn.self.crossings.records.now l.id l.self.words.now
    × (drop (n.one + n.two + 6 * l.id) l.self.words.now ≡ drop (n.one + n.two + 6 * l.id) l.fn.self.words.now)
    × (l.self.crossings ≡ l.fn.self.crossings)
    × (l.self.words.ghost_name ≡ l.fn.self.words.ghost_name)
