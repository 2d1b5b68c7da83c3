use Rattle.std.proofs.Common.{◌<◌, length, take, sym, ◌∙◌, subst₂, add-one, arith}
use Rattle.plane.specs.Outlines.{Corners}
use Rattle.plane.proofs.Checks.{corners_more, wild_read}
use Rattle.plane.proofs.check.fill.Goals as goal
use Rattle.plane.proofs.check.fill.Goals.{in-Some, in_default}

pub loop-i-preserved : goal.loop-i-preserved
loop-i-preserved g c =
    let m = g.K.Arithmetic.meaning in
    let raw = c.args.raw.now in
    let i = c.loop-i.i in
    let within : i < length c.loop-i.places = omega (arith, c.loop-i.auto.places, c.requires.same) in
    elim c.match-admitted.branch [
      | in-Some w ↦
          let more = corners_more m raw c.loop-i.places i c.index-raw-i.result w.in-Some.corner c.loop-i-test.true within c.index-raw-i.is (sym c.admitted.ensures ∙ w.in-Some.is) c.loop-i.invariant in
          subst₂ (λ n l. Corners m (take n raw) (take n l)) (sym (add-one i)) (sym w.places-is) more
      | in_default w ↦ absurd (wild_read m raw i c.index-raw-i.result c.requires.fine c.loop-i-test.true c.index-raw-i.is (sym c.admitted.ensures ∙ w.in_default.is))
    ]
