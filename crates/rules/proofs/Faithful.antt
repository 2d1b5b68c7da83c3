-- Every string of calls is faithful: what it handed over since the latest rewind is the past, and all that the promise says of it.
use Rattle.std.proofs.Common.{◌≡◌, ℕ, false, List, [], ◌∷◌, ◌++◌, reverse, Some, None, Option, sym, refl, ap, ◌∙◌}
use mathlib.Core.List.{reverse-cons}
use Rattle.std.specs.List.{slice_get}
use Rattle.std.proofs.lemmas.List.{append-nil, append_assoc}
use Rattle.rules.specs.declared.event.Event.{Event}
use Rattle.rules.specs.Chart.{Chart, Sound}
use Rattle.rules.specs.Rules.{State, due, at_limit, Answer, step, begin, Taken, accepts, Ran, run}
use Rattle.rules.specs.Strings.{Call, a_begin, a_step, a_run, a_rewind, Scene, given_by, run_into, make, play, at_first, after, entries, kept, since_rewind}
use Rattle.rules.specs.Promise.{Faithful}
use Rattle.rules.proofs.Calls.{on_step, on_begin, on_runs}
use Rattle.rules.proofs.Reached.{after_reached, reached_traced}
use Rattle.rules.proofs.Unrepeated.{edges_true, trail_once, trail_once_corners, known-crossing, known-corner}
use Rattle.rules.proofs.AtEnd.{at_rest, none_lost}
use Rattle.rules.proofs.InnerRing.{inner-ring}
use Rattle.rules.proofs.Counting.{counted_at}
use Rattle.rules.proofs.Chosen.{choice-play, chosen_comes}
use Rattle.rules.proofs.TakersHold.{holds-play}

-- an answer hands over what it adds to the past
Adds : List Event → Answer × State → Type 0
Adds so_far r = so_far ++ given_by r.0 ≡ reverse r.1.past

step_adds : (c : Chart) (s : State) (so_far : List Event) → so_far ≡ reverse s.past → Adds so_far (step c s)
unfolding Adds
step_adds c s so_far p = on_step c s (Adds so_far) (λ _. append-nil so_far ∙ p) (λ _. append-nil so_far ∙ p) (λ e _ _. ap (λ l. l ++ (e ∷ [])) p ∙ sym (reverse-cons e s.past))

begin_adds : (c : Chart) (s : State) (x : ℕ) (so_far : List Event) → so_far ≡ reverse s.past → Adds so_far (begin c s x)
unfolding Adds
begin_adds c s x so_far p = on_begin c s x (Adds so_far) (λ _. append-nil so_far ∙ p) (λ _ _. append-nil so_far ∙ p) (λ _ _ _. append-nil so_far ∙ p)

module _ {S : Type 0} (c : Chart) (rule : S → Event → Taken S) where
  run_adds : (k : ℕ) (s : State) (t : S) → reverse s.past ++ (run c rule k s t).handed ≡ reverse (run c rule k s t).walk.past
  run_adds = on_runs c rule (λ _ s t r. reverse s.past ++ r.handed ≡ reverse r.walk.past) (λ s t. append-nil (reverse s.past)) (λ _ s t w _. append-nil (reverse s.past)) more
    where
      more : (k : ℕ) (s : State) (t : S) (e : Event) (u : S) (r : Ran S) → at_limit c s ≡ false → due c s ≡ Some e → rule t e ≡ accepts u → reverse (e ∷ s.past) ++ r.handed ≡ reverse r.walk.past → reverse s.past ++ (e ∷ r.handed) ≡ reverse r.walk.past
      more _ s t e u r _ _ _ h = sym (ap (λ l. l ++ r.handed) (reverse-cons e s.past) ∙ append_assoc (reverse s.past) (e ∷ []) r.handed) ∙ h

  make_adds : (m : Scene S) (k : Call) (so_far : List Event) → so_far ≡ reverse m.walk.past → kept (make c rule m k).0.call so_far ++ (make c rule m k).0.handed ≡ reverse (make c rule m k).1.walk.past
  unfolding Adds
  make_adds m (a_begin x) so_far p = begin_adds c m.walk x so_far p
  make_adds m a_step so_far p = step_adds c m.walk so_far p
  make_adds m (a_run k j) so_far p = go (slice_get m.takers j)
    where
      go : (o : Option S) → kept (run_into c rule m k j o).0.call so_far ++ (run_into c rule m k j o).0.handed ≡ reverse (run_into c rule m k j o).1.walk.past
      go None = append-nil so_far ∙ p
      go (Some t) = ap (λ l. l ++ (run c rule k m.walk t).handed) p ∙ run_adds k m.walk t
  make_adds m a_rewind so_far p = refl

  play_adds : (m : Scene S) (ks : List Call) (so_far : List Event) → so_far ≡ reverse m.walk.past → since_rewind so_far (play c rule m ks).0 ≡ reverse (play c rule m ks).1.walk.past
  play_adds m [] so_far p = p
  play_adds m (k ∷ ks) so_far p = play_adds (make c rule m k).1 ks _ (make_adds m k so_far p)

pub faithful : (c : Chart) → Sound c → {S : Type 0} (rule : S → Event → Taken S) (ts : List S) (ks : List Call) → Faithful c rule ts (entries c rule ts ks) (after c rule ts ks)
faithful c sound rule ts ks =
    let s = (after c rule ts ks).walk in
    let r = after_reached c rule ts ks in
    let h = reached_traced c s r in
    record {
      handed = play_adds c rule (at_first ts) ks [] refl;
      choice = choice-play c rule (at_first ts) ks None refl;
      choice_comes = chosen_comes c s h;
      no_crossing_twice = trail_once c sound h.trail;
      no_corner_twice = trail_once_corners c sound h.trail;
      known_crossings = known-crossing c sound h.trail;
      known_corners = known-corner c sound h.trail;
      true_edges = edges_true c sound h.trail;
      at_rest = at_rest c s;
      no_loss = none_lost c sound s;
      no_loss_inside = λ none. inner-ring c sound none s h.trail;
      counted = counted_at c sound s r;
      takers_hold = holds-play rule c (at_first ts) ks;
    }
