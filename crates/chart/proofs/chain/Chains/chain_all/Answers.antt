use Rattle.std.proofs.Common.{ℕ, ◌+◌, ◌*◌, ◌∙◌, arith}
use Rattle.chart.proofs.Filling.{drop_further}
use Rattle.chart.proofs.chain.Chains.chain_all.Goals as goal

pub loop-id-preserved : goal.loop-id-preserved
loop-id-preserved g c =
    let n = c.args.self.now.crossings.corners in
    let k : ℕ = n.one + n.two + 6 * c.loop-id.id in
    let k' : ℕ = n.one + n.two + 6 * (c.loop-id.id + 1) in
    let same = c.loop-id.invariant.2 in
    let told = rw same at c.add.ensures.told in
    let rest = rw same at c.add.ensures.rest in (
      told c.loop-id.invariant.0,
      drop_further c.add.new.self.words.now c.loop-id.self.words.now (k + 6) k' (omega arith) rest ∙ drop_further c.loop-id.self.words.now c.args.self.now.words.now k k' (omega arith) c.loop-id.invariant.1,
      c.add.ensures.same.0 ∙ same,
      c.add.ensures.same.1 ∙ c.loop-id.invariant.3,
    )
