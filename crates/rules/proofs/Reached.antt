-- Where calls lead: every string of them leaves the walk reached; a walk reached is on a trail, with each event under the limit.
use Rattle.std.proofs.Common.{◌≡◌, ℕ, ◌<◌, false, eqb, List, [], ◌∷◌, ◌++◌, length, Some, None, Option, refl, ap, ◌∙◌, subst}
use Rattle.std.proofs.lemmas.Bool.{cond-false}
use Rattle.std.specs.List.{slice_get}
use Rattle.plane.specs.declared.refusal.Refusal.TheVariants.{LoopTooLong}
use Rattle.plane.specs.Refusals.{told}
use Rattle.rules.specs.declared.event.Event.{Event}
use Rattle.rules.specs.Lists.{has}
use Rattle.rules.specs.Chart.{Chart}
use Rattle.rules.specs.Rules.{State, opened, under_way, crossings, due, hand_over, limit, at_limit, amid, Answer, gave, refused, stepped, step, Taken, run}
use Rattle.rules.specs.Strings.{Call, a_begin, a_step, a_run, a_rewind, Scene, run_into, make, play, at_first, after, Reached, at_opening, by_step, by_begin}
use Rattle.rules.proofs.Calls.{on_step, on_begin, on_runs}
use Rattle.rules.proofs.Trails.{Traced, opened_traced, handed_traced}

-- one string after another, for a walk that makes its calls one by one
pub play-append : (c : Chart) {S : Type 0} (rule : S → Event → Taken S) (m : Scene S) (ks more : List Call) → (play c rule m (ks ++ more)).1 ≡ (play c rule (play c rule m ks).1 more).1
play-append c rule m [] more = refl
play-append c rule m (k ∷ ks) more = play-append c rule (make c rule m k).1 ks more

-- the loop under way was not at the limit when each event came
abbrev pub Within : Chart → List Event → Type 0
Within c [] = Unit {0}
Within c (e ∷ past) = (eqb (length (under_way past)) (limit c) ≡ false) × Within c past

module _ (c : Chart) where
  -- a step under the limit hands over what is due
  pub step_on : (s : State) (e : Event) → at_limit c s ≡ false → due c s ≡ Some e → step c s ≡ (gave e, hand_over s e)
  step_on s e a d = ap (stepped c s) d ∙ cond-false (at_limit c s) (refused (told LoopTooLong), s) (gave e, hand_over s e) a

  pub handed_reached : {s : State} {e : Event} → Reached c s → at_limit c s ≡ false → due c s ≡ Some e → Reached c (hand_over s e)
  handed_reached {s} {e} r a d = subst (λ (r : Answer × State). Reached c r.1) (step_on s e a d) (by_step r)

  -- where a run leads, and a string of calls

  module _ {S : Type 0} (rule : S → Event → Taken S) where
    pub run_reached : (k : ℕ) (s : State) (t : S) → Reached c s → Reached c (run c rule k s t).walk
    run_reached = on_runs c rule (λ _ s t r. Reached c s → Reached c r.walk) (λ _ _ h. h) (λ _ _ _ _ _ h. h) (λ _ s t e u r a d _ f h. f (handed_reached h a d))

    make_reached : (m : Scene S) (k : Call) → Reached c m.walk → Reached c (make c rule m k).1.walk
    make_reached m (a_begin x) h = by_begin h x
    make_reached m a_step h = by_step h
    make_reached m (a_run k j) h = go (slice_get m.takers j)
      where
        go : (o : Option S) → Reached c (run_into c rule m k j o).1.walk
        go None = h
        go (Some t) = run_reached k m.walk t h
    make_reached m a_rewind h = at_opening

    play_reached : (m : Scene S) (ks : List Call) → Reached c m.walk → Reached c (play c rule m ks).1.walk
    play_reached m [] h = h
    play_reached m (k ∷ ks) h = play_reached (make c rule m k).1 ks (make_reached m k h)

    pub after_reached : (ts : List S) (ks : List Call) → Reached c (after c rule ts ks).walk
    after_reached ts ks = play_reached (at_first ts) ks at_opening

  -- induction: what holds at the opening, and once an event is handed over or a choice made, holds of every walk reached
  module _ (P : State → Type 0) (none : P opened)
      (hand : (s : State) (e : Event) → P s → at_limit c s ≡ false → due c s ≡ Some e → P (hand_over s e))
      (choose : (s : State) (x : ℕ) → P s → x < c.count → has x (crossings s.past) ≡ false → amid (under_way s.past) ≡ false → P (record { past = s.past; chosen = Some x })) where
    pub on_reached : (s : State) → Reached c s → P s
    on_reached s at_opening = none
    on_reached s (by_step {s = t} r) = let h = on_reached t r in on_step c t (λ q. P q.1) (λ _. h) (λ _. h) (λ e. hand t e h)
    on_reached s (by_begin {s = t} r x) = let h = on_reached t r in on_begin c t x (λ q. P q.1) (λ _. h) (λ _ _. h) (choose t x h)

  pub reached_traced : (s : State) → Reached c s → Traced c s
  reached_traced = on_reached (Traced c) (opened_traced c) (λ s e h _ d. handed_traced c s e h d) (λ s x h known free rests. record { trail = h.trail; allowed = (known, free, rests) })

  pub reached_within : (s : State) → Reached c s → Within c s.past
  reached_within = on_reached (λ s. Within c s.past) tt (λ s e h a _. (a, h)) (λ s x h _ _ _. h)
