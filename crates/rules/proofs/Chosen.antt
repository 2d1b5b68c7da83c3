-- The choice of a walk is the one that its calls left, and a crossing that was chosen comes next.
use Rattle.std.proofs.Common.{◌≡◌, ℕ, List, [], ◌∷◌, Some, None, Option, sym, refl, ◌∙◌, arith}
use Rattle.std.specs.List.{slice_get}
use Rattle.rules.specs.declared.event.Event.{Event}
use Rattle.rules.specs.Chart.{Chart}
use Rattle.rules.specs.Rules.{State, event_of, gave, step, Taken, run}
use Rattle.rules.specs.Strings.{Call, a_begin, a_step, a_run, a_rewind, Scene, run_into, make, play, still, choice_after, latest_choice}
use Rattle.rules.proofs.Calls.{on_runs}
use Rattle.rules.proofs.Trails.{Traced}

-- the choice that the entries tell is that of the walk

still_none : (l : List Event) → still l None ≡ None
still_none [] = refl
still_none (e ∷ es) = refl

module _ {S : Type 0} (c : Chart) (rule : S → Event → Taken S) where
  choice_run : (k : ℕ) (s : State) (t : S) (o : Option ℕ) → o ≡ s.chosen → still (run c rule k s t).handed o ≡ (run c rule k s t).walk.chosen
  choice_run = on_runs c rule (λ _ s t r. (o : Option ℕ) → o ≡ s.chosen → still r.handed o ≡ r.walk.chosen) (λ _ _ _ p. p) (λ _ _ _ _ _ _ p. p) (λ _ s t e u r _ _ _ f o _. sym (still_none r.handed) ∙ f None refl)

  choice-make : (m : Scene S) (k : Call) (o : Option ℕ) → o ≡ m.walk.chosen → choice_after (make c rule m k).0.call (make c rule m k).0.reply (make c rule m k).0.handed o ≡ (make c rule m k).1.walk.chosen
  choice-make m (a_begin x) o p = grind arith
  choice-make m a_step o p = grind arith
  choice-make m (a_run k j) o p = go (slice_get m.takers j)
    where
      go : (t : Option S) → choice_after (run_into c rule m k j t).0.call (run_into c rule m k j t).0.reply (run_into c rule m k j t).0.handed o ≡ (run_into c rule m k j t).1.walk.chosen
      go None = p
      go (Some t) = choice_run k m.walk t o p
  choice-make m a_rewind o p = refl

  pub choice-play : (m : Scene S) (ks : List Call) (o : Option ℕ) → o ≡ m.walk.chosen → latest_choice o (play c rule m ks).0 ≡ (play c rule m ks).1.walk.chosen
  choice-play m [] o p = p
  choice-play m (k ∷ ks) o p = choice-play (make c rule m k).1 ks _ (choice-make m k o p)

-- a choice is made at rest, of a crossing that there is

module _ (c : Chart) where
  pub chosen_comes : (s : State) → Traced c s → (x : ℕ) → s.chosen ≡ Some x → (step c s).0 ≡ gave (event_of c x)
  chosen_comes s h x p = grind arith
