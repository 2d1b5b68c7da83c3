use Rattle.std.proofs.Common.{◌≡◌, sym, subst, arith}
use Rattle.std.proofs.lemmas.Grind.{common_steps}
use Rattle.decimetre.specs.Exact.{meet_at}
use Rattle.decimetre.specs.Plane.{ProperMeet}
use Rattle.decimetre.specs.Nears.{is_near, is_same}
use Rattle.decimetre.specs.Propers.{at_proper}
use Rattle.decimetre.proofs.segments_intersection.segments_intersection2d.Goals as goal

pub returns-then-eq : goal.returns-then-eq
returns-then-eq c =
    let e : c.parallel_intersection.result ≡ meet_at c.args.a c.args.b c.args.c c.args.d = grind (arith, common_steps, is_near, is_same) in
    record { value = e; proper = subst ProperMeet (sym e) (at_proper c.args.a c.args.b c.args.c c.args.d) }

pub returns : goal.returns
returns c =
    let e : c.crossing_of.result ≡ meet_at c.args.a c.args.b c.args.c c.args.d = grind (arith, common_steps, is_near, is_same) in
    record { value = e; proper = subst ProperMeet (sym e) (at_proper c.args.a c.args.b c.args.c c.args.d) }
