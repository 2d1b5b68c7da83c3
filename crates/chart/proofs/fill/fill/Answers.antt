use Rattle.std.proofs.Common.{◌≡◌, ◌<◌, [], ◌∷◌, ◌++◌, length, arith}
use Rattle.std.specs.List.{filter_map, flat_map, enumerate_from}
use Rattle.plane.specs.Rings.{edges_left}
use Rattle.chart.specs.Records.{record_at, records_on}
use Rattle.chart.proofs.Filling.{filled_room, filled_more}
use Rattle.chart.proofs.fill.fill.Goals as goal

pub loop-f-preserved-in-Some-crossing : goal.loop-f-preserved-in-Some-crossing
loop-f-preserved-in-Some-crossing g c =
    let m = g.K.Arithmetic.meaning in
    let a = c.args.arith.now in
    let past = flat_map (records_on m a c.args.two.now) (enumerate_from c.next.new.self.a.start (edges_left c.next.new.self.b)) in
    let rest = filter_map (record_at m a c.in-Some.e) (enumerate_from c.next-in-loop-f.new.self.a.start (edges_left c.next-in-loop-f.new.self.b)) ++ past in
    let whole = filter_map (record_at m a c.in-Some.e) (enumerate_from c.loop-f.f-iterator.a.start (edges_left c.loop-f.f-iterator.b)) ++ past in
    let next : whole ≡ c.in-Some-crossing.record ∷ rest = grind arith in
    let room : c.loop-f.found < length c.loop-f.records = omega (arith, filled_room _ _ _ _ whole (c.in-Some-crossing.record ∷ []) rest c.requires next c.loop-f.invariant.1) in
    (grind arith, filled_more _ _ _ _ _ whole rest room next c.loop-f.invariant.1)
