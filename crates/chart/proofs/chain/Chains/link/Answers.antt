use Rattle.std.proofs.Common.{ℕ, ◌+◌, ◌*◌, get_or, set, rules, ◌∙◌, arith}
use Rattle.std.proofs.lemmas.List.{drop-set-lt}
use Rattle.chart.specs.Records.{edge_at, not_after_at}
use Rattle.chart.specs.Words.{base, start}
use Rattle.chart.proofs.Ringed.{linked_own, linked_other, linked_rest, room, low_base}
use Rattle.chart.proofs.Writes.{placed}
use Rattle.chart.proofs.chain.Chains.link.Goals as goal

pub returns : goal.returns
returns g c =
    let le = g.K.Arithmetic.meaning.not_after c.args.self.now.crossings.arith.now in
    let cs = c.args.self.now.crossings.records.now in
    let n = c.args.self.now.crossings.corners in
    let ring = c.args.ring in
    let id = c.args.id in
    let ws = c.args.self.now.words.now in
    let there = c.args.self.now.crossings.on_edges ring id c.requires in
    let both = placed (not_after_at le cs ring) (base ring n) id (start ring n + edge_at cs ring id) c.find-at.result c.pointer.result ws c.pointer.ensures (omega (arith, room ring n, there)) c.find-at.ensures.within (omega (arith, low_base ring n, c.requires, c.args.self.now.room)) c.find-at.ensures.finds in
    let past : ℕ = n.one + n.two + 6 * id + 2 in
    record {
      same = search rules;
      own = linked_own le n cs ring id ws _ there both.0 both.1;
      others = λ m. linked_other le n cs ring id ws _ m there both.1;
      notes = linked_rest le n cs ring id ws _ there both.1;
      rest = drop-set-lt past (set ws c.pointer.result (get_or ws c.find-at.result 0)) c.find-at.result id (omega (arith, low_base ring n, c.find-at.ensures.within)) ∙ drop-set-lt past ws c.pointer.result (get_or ws c.find-at.result 0) (omega (arith, low_base ring n, c.pointer.ensures));
    }
