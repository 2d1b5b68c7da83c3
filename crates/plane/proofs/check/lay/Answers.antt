use Rattle.std.proofs.Common.{length, drop, sym, ap, ◌∙◌}
use Rattle.std.proofs.lemmas.List.{drop_at}
use Rattle.plane.proofs.check.lay.Goals as goal

pub returns : goal.returns
returns g c =
    let split = c.split_at_mut-front.ensures in
    let n = length c.args.raw.now in
    record {
      laid = c.fill.ensures;
      rest = sym (ap (λ p. drop n p.now) (sym c.take-places.ensures.value) ∙ ap (drop n) split.value ∙ drop_at _ _ n split.front_len);
    }
