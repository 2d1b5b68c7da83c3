use Rattle.std.proofs.Common.{◌+◌, ◌≤◌, ◌++◌, length}
use Rattle.std.specs.List.{filter_map, flat_map, enumerate_from}
use Rattle.plane.specs.Outlines.{most_corners}
use Rattle.plane.specs.Rings.{edges_left}
use Rattle.chart.proofs.Filling.{Filled}
use Rattle.chart.specs.Records.{record_at, records_on, records_of}
use Rattle.chart.proofs.fill.fill.Given as goal

abbrev pub invariant-loop-e : goal.invariant-loop-e
invariant-loop-e g l =
    let m = g.K.Arithmetic.meaning in
    let i = l.e-iterator.a.start in
    let es = edges_left l.e-iterator.b in
    (i + length es ≤ most_corners)
    × Filled l.fn.records l.records l.found (records_of m l.arith l.one l.two) (flat_map (records_on m l.arith l.two) (enumerate_from i es))

abbrev pub invariant-loop-f : goal.invariant-loop-f
invariant-loop-f g l =
    let m = g.K.Arithmetic.meaning in
    let j = l.f-iterator.a.start in
    let fs = edges_left l.f-iterator.b in
    let i = l.e-iterator.a.start in
    let es = edges_left l.e-iterator.b in
    (j + length fs ≤ most_corners)
    × Filled l.fn.records l.records l.found (records_of m l.arith l.one l.two) (filter_map (record_at m l.arith l.e) (enumerate_from j fs) ++ flat_map (records_on m l.arith l.two) (enumerate_from i es))
