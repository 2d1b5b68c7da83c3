use Rattle.std.proofs.Common.{◌≡◌, ◌+◌, get_or, sym, refl, ap, ◌∙◌, subst, arith}
use Rattle.chart.specs.declared.record.Spot.{Spot}
use Rattle.chart.specs.Records.{on, edge_at, not_after_at}
use Rattle.chart.specs.Words.{base, start}
use Rattle.chart.proofs.Reading.{edge_read_lem}
use Rattle.chart.proofs.Ringed.{room}
use Rattle.chart.proofs.Walk.{Walked, walked_none, walked_more, walked_stop}
use Rattle.chart.proofs.chain.Chains.find.Goals as goal
use Rattle.chart.proofs.chain.Chains.find.Goals.{then-y-id-via-then-y-id, then-y-id-via-else-y-id+then-not-stands_before}

pub loop-turn-init : goal.loop-turn-init
loop-turn-init g c =
    let cs = c.args.self.now.crossings.records.now in
    let n = c.args.self.now.crossings.corners in
    let ring = c.args.ring in
    let id = c.args.id in
    let edge : c.spot.result.now.edge ≡ edge_at cs ring id = ap (λ (s : Spot g.row.K-Mark.Denot). s.edge) (c.spot.ensures ∙ ap (on ring) (sym c.index-self-id.is)) ∙ edge_read_lem cs ring id c.index-self-id.result c.requires c.index-self-id.is in
    let slot : c.start.result + c.spot.result.now.edge ≡ start ring n + edge_at cs ring id = omega (arith, c.start.ensures, edge) in (
      omega (arith, slot, room ring n, c.args.self.now.crossings.on_edges ring id c.requires),
      walked_none (not_after_at (g.K.Arithmetic.meaning.not_after c.args.self.now.crossings.arith.now) cs ring) c.args.self.now.words.now (base ring n) id (start ring n + edge_at cs ring id) _ slot,
    )

pub loop-turn-preserved : goal.loop-turn-preserved
loop-turn-preserved g c =
    let cs = c.args.self.now.crossings.records.now in
    let n = c.args.self.now.crossings.corners in
    let ring = c.args.ring in
    let id = c.args.id in
    let ws = c.args.self.now.words.now in
    let goes = not_after_at (g.K.Arithmetic.meaning.not_after c.args.self.now.crossings.arith.now) cs ring in
    let slot = start ring n + edge_at cs ring id in
    let y = get_or ws c.loop-turn.at 0 in (
      omega arith,
      subst (λ b. Walked goes ws (base ring n) id slot b (c.loop-turn._turn + 1)) (sym c.pointer-at.ensures)
          (walked_more goes ws (base ring n) id slot c.loop-turn.at c.loop-turn._turn y (omega arith) refl (omega arith) (sym c.if-not-stands_before.ensures) c.loop-turn.invariant.1),
    )

pub returns-then-y-id-clause-finds : goal.returns-then-y-id-clause-finds
returns-then-y-id-clause-finds g c =
    let cs = c.args.self.now.crossings.records.now in
    let n = c.args.self.now.crossings.corners in
    let ring = c.args.ring in
    walked_stop (not_after_at (g.K.Arithmetic.meaning.not_after c.args.self.now.crossings.arith.now) cs ring) c.args.self.now.words.now (base ring n) c.args.id (start ring n + edge_at cs ring c.args.id) c.loop-turn.at c.loop-turn._turn
    (λ lt.
    elim c.then-y-id.branch [
      | then-y-id-via-then-y-id w ↦ absurd (omega (arith, w.if-y-id.true))
      | then-y-id-via-else-y-id+then-not-stands_before w ↦ sym w.if-not-stands_before.ensures
    ])
    c.loop-turn.invariant.1
