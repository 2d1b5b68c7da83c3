-- Where sides alternate and one walk of a chart has finished, every walk of it finishes, and with the same loops.
use Rattle.std.proofs.Common.{◌≡◌, ◌-◌, ◌<◌, Bool, true, false, eqb, ◌∷◌, length, Some, refl, arith}
use Rattle.std.proofs.lemmas.Bool.{eqb-true}
use Rattle.rules.specs.declared.event.Event.{Event}
use Rattle.rules.specs.Chart.{Chart, Sound, Alternate}
use Rattle.rules.specs.Rules.{State, under_way, due, at_limit, limit, Finished, Taken}
use Rattle.rules.specs.Strings.{Scene, Reached}
use Rattle.rules.specs.Promise.{Agreeing}
use Rattle.rules.proofs.Reached.{reached_traced, reached_within}
use Rattle.rules.proofs.Unrepeated.{trail_once}
use Rattle.rules.proofs.InnerRing.{round_under_way}
use Rattle.rules.proofs.TrailRounds.{Standing, trail_stands}
use Rattle.rules.proofs.BelowLimit.{within_bounds, all_short, below_limit, not_at_limit}
use Rattle.rules.proofs.Remaining.{weight, lighter}
use Rattle.rules.proofs.EnoughSteps.{Enough, enough}
use Rattle.rules.proofs.SameLoops.{same_loops}

module _ (c : Chart) (sound : Sound c) (s : State) (r : Reached c s) (h : Finished c s) {T : Type 0} (rule : T → Event → Taken T) (m : Scene T) (r' : Reached c m.walk) where
  -- where there is no crossing: no round is longer than that of the finished walk
  will_finish_uncrossed : c.count ≡ 0 → Enough c rule m
  will_finish_uncrossed none = enough c sound rule (λ p. limit c - length p) free less m r'
    where
      below : (t : State) (e : Event) → Reached c t → due c t ≡ Some e → (length t.past < limit c) × (under_way t.past ≡ t.past)
      below t e k d = grind (arith, round_under_way, reached_traced, within_bounds)

      free : (t : State) (e : Event) → Reached c t → due c t ≡ Some e → at_limit c t ≡ false
      free t e k d = let b = below t e k d in not_at_limit c t (rw b.1 b.0)

      less : (t : State) (e : Event) → Reached c t → due c t ≡ Some e → limit c - length (e ∷ t.past) < limit c - length t.past
      less t e k d = let b = (below t e k d).0 in omega arith

  module _ (alt : Alternate c) where
    -- where there are crossings
    will_finish_crossed : eqb c.count 0 ≡ false → Enough c rule m
    will_finish_crossed some = enough c sound rule (weight c) free less m r'
      where
        stands : (t : State) → Reached c t → Standing c t.past
        stands t k = trail_stands c sound some alt t.past (reached_traced c t k).trail

        below : (t : State) → Reached c t → length (under_way t.past) < limit c
        below t k = below_limit c (all_short c sound alt s (stands s r) (reached_within c s r) h) t.past (trail_once c sound (reached_traced c t k).trail) (stands t k)

        free : (t : State) (e : Event) → Reached c t → due c t ≡ Some e → at_limit c t ≡ false
        free t e k d = not_at_limit c t (below t k)

        less : (t : State) (e : Event) → Reached c t → due c t ≡ Some e → weight c (e ∷ t.past) < weight c t.past
        less t e k d = grind (arith, lighter, reached_traced, stands, below)

    will_finish : Enough c rule m
    will_finish = go (eqb c.count 0) refl
      where
        go : (b : Bool) → eqb c.count 0 ≡ b → Enough c rule m
        go true none = will_finish_uncrossed (eqb-true c.count 0 none)
        go false some = will_finish_crossed some

pub agreeing : (c : Chart) → Sound c → Alternate c → (s : State) → Reached c s → {T : Type 0} (rule : T → Event → Taken T) (m : Scene T) → Reached c m.walk → Agreeing c s rule m
agreeing c sound alt s r rule m r' = record {
  will_finish = λ h. will_finish c sound s r h rule m r' alt;
  same_loops = same_loops c sound alt s m.walk r r';
}
