use Rattle.std.proofs.Common.{sym, ap, ◌∙◌, arith}
use Rattle.plane.specs.Refusals.{refused}
use Rattle.plane.proofs.Checks.{corners_admitted, corners-length, short_from_checked}
use Rattle.plane.proofs.check.check.Goals as goal

pub over-requires-clause-short : goal.over-requires-clause-short
over-requires-clause-short g c =
    let m = g.K.Arithmetic.meaning in
    omega (arith, short_from_checked m c.args.raw.now _ (sym c.refuse.ensures ∙ ap refused c.in_ok-refuse.was), corners-length m c.args.raw.now _ c.lay-corners.ensures.laid)

pub over-requires-clause-fine : goal.over-requires-clause-fine
over-requires-clause-fine g c = corners_admitted g.K.Arithmetic.meaning c.args.raw.now _ c.lay-corners.ensures.laid
