use Rattle.std.proofs.Common.{Ok, ap, refl, ◌∙◌}
use Rattle.std.proofs.lemmas.Result.{err_from_is_err_and}
use Rattle.job.specs.Format.{read_job}
use Rattle.overlap.proofs.Looks.{found_is, refused_is}
use Rattle.overlap.proofs.look.look.Goals as goal

pub returns-in_err-outlines : goal.returns-in_err-outlines
returns-in_err-outlines c =
    let p = err_from_is_err_and c.from_residual.result c.from_residual.ensures.1 in
    rw (p.1, p.2) (refused_is c.args.bytes.now _ c.read_outlines.result c.in_err-outlines.field-0.0 c.type_inv.bytes refl c.in_err-outlines.was c.read_outlines.ensures.answer)

pub returns : goal.returns
returns c =
    ap Ok c.found_between.ensures ∙ found_is (read_job c.args.bytes.now) _ _ c.in_ok-outlines.ensures.held
