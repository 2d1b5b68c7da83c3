use Rattle.std.proofs.Common.{ℕ, ◌+◌, ◌*◌, drop, ap, ◌∙◌, arith}
use Rattle.plane.specs.declared.ring.Ring.TheVariants.{One, Two}
use Rattle.chart.proofs.Describing.{described_kept, described_rest, chained_more}
use Rattle.chart.proofs.Filling.{drop_further}
use Rattle.chart.proofs.chain.Chains.add.Goals as goal

pub returns-clause-told : goal.returns-clause-told
returns-clause-told g c =
    let le = g.K.Arithmetic.meaning.not_after c.args.self.now.crossings.arith.now in
    let cs = c.args.self.now.crossings.records.now in
    let n = c.args.self.now.crossings.corners in
    let id = c.args.id in
    let ws = c.args.self.now.words.now in
    let w1 = c.link.new.self.words.now in
    let w2 = c.link-2.new.self.words.now in
    let same = c.link.ensures.same.0 in
    let own = rw same at c.link-2.ensures.own in
    let others = rw same at c.link-2.ensures.others in
    let notes = rw same at c.link-2.ensures.notes in
    let room = rw (c.link-2.ensures.same.0, same) at c.link-2.new.self.room in
    let is = rw c.pointer-k.ensures at c.describe.ensures in
    λ told.
    let one = told.0 One in
    let two = c.link.ensures.others id one (told.0 Two) in
    chained_more n cs id le w2 c.describe.new.words c.index-records-id.result (omega (arith, room, c.requires)) c.requires c.index-records-id.is is
    (others (id + 1) two (c.link.ensures.own one)) (own two)
    (described_kept n cs id w1 w2 (notes two) (described_kept n cs id ws w1 (c.link.ensures.notes one) told.1))

pub returns-clause-rest : goal.returns-clause-rest
returns-clause-rest g c =
    let n = c.args.self.now.crossings.corners in
    let k : ℕ = n.one + n.two + 6 * c.args.id in
    let w1 = c.link.new.self.words.now in
    let w2 = c.link-2.new.self.words.now in
    let rest = rw c.link.ensures.same.0 at c.link-2.ensures.rest in
    let is = rw c.pointer-k.ensures at c.describe.ensures in
    ap (drop (k + 6)) is ∙ described_rest w2 k c.index-records-id.result ∙ drop_further w2 w1 (k + 2) (k + 6) (omega arith) rest
    ∙ drop_further w1 c.args.self.now.words.now (k + 2) (k + 6) (omega arith) c.link.ensures.rest
