-- The promise, part by part, at every sound chart.
use Rattle.rules.proofs.Faithful.{faithful}
use Rattle.rules.proofs.Bounded.{bounded_at}
use Rattle.rules.proofs.Agreeing.{agreeing}
use Rattle.rules.proofs.Reached.{after_reached}
use Rattle.rules.specs.Strings.{after}
use Rattle.rules.proofs.promise_stands.Goals as goal

pub returns : goal.returns
returns g c = λ chart sound. record {
  faithful = λ rule ts ks. faithful chart sound rule ts ks;
  bounded = λ rule ts ks. bounded_at chart sound rule (after chart rule ts ks).walk (after_reached chart rule ts ks);
  agreeing = λ alt rule ts ks rule' ts' ks'. agreeing chart sound alt (after chart rule ts ks).walk (after_reached chart rule ts ks) rule' (after chart rule' ts' ks') (after_reached chart rule' ts' ks');
}
