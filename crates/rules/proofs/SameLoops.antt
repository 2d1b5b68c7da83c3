-- Any two walks of a chart that finish give the same loops.
use Rattle.std.proofs.Common.{◌≡◌, Bool, true, false, eqb, sym, refl, ◌∙◌}
use Rattle.std.proofs.lemmas.Bool.{eqb-true}
use Rattle.rules.specs.Lists.{Paired}
use Rattle.rules.specs.Chart.{Chart, Sound, Alternate}
use Rattle.rules.specs.Rules.{State, Finished}
use Rattle.rules.specs.Strings.{Reached}
use Rattle.rules.specs.Promise.{loops}
use Rattle.rules.proofs.Trails.{Traced}
use Rattle.rules.proofs.Reached.{reached_traced}
use Rattle.rules.proofs.Loops.{paired_self}
use Rattle.rules.proofs.InnerRing.{inner-ring}
use Rattle.rules.proofs.TrailRounds.{Standing, trail_stands}
use Rattle.rules.proofs.FinishedLoops.{finished-pair}

module _ (c : Chart) (sound : Sound c) (alt : Alternate c) where
  pub same_loops : (s t : State) → Reached c s → Reached c t → Finished c s → Finished c t → Paired (loops s) (loops t)
  same_loops s t r r' h h' = go (eqb c.count 0) refl
    where
      k : Traced c s
      k = reached_traced c s r

      k' : Traced c t
      k' = reached_traced c t r'

      go : (b : Bool) → eqb c.count 0 ≡ b → Paired (loops s) (loops t)
      go true none =
          let n = eqb-true c.count 0 none in
          rw (← inner-ring c sound n s k.trail h ∙ sym (inner-ring c sound n t k'.trail h')) (paired_self (loops s))
      go false some = finished-pair c sound alt s t k.trail k'.trail (stands s k) (stands t k') h h'
        where
          stands : (w : State) → Traced c w → Standing c w.past
          stands w t = trail_stands c sound some alt w.past t.trail
