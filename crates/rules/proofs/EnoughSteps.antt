-- Where each event that is due comes under the limit and lessens a number, enough steps finish, whatever begins come among them.
use Rattle.std.proofs.Common.{◌≡◌, ℕ, ◌<◌, ◌≤◌, false, List, [], ◌∷◌, Some, None, Option, refl, arith}
use Rattle.rules.specs.declared.event.Event.{Event}
use Rattle.rules.specs.Chart.{Chart, Sound}
use Rattle.rules.specs.Rules.{State, crossings, due, at_limit, step, begin, Taken, Finished}
use Rattle.rules.specs.Strings.{Call, a_begin, a_step, a_run, a_rewind, Scene, make, play, later, Reached, by_step, by_begin}
use Rattle.rules.specs.Promise.{BeginsAndSteps}
use Rattle.rules.proofs.Members.{not_in}
use Rattle.rules.proofs.Calls.{on_begin}
use Rattle.rules.proofs.AtEnd.{none_lost}

-- the number of further steps that the promise asks for
abbrev pub Enough : {S : Type 0} → Chart → (S → Event → Taken S) → Scene S → Type 0
Enough c rule m = (n : ℕ) × ((more : List Call) (k : ℕ) → BeginsAndSteps more k → n ≤ k → Finished c (later c rule m more).walk)

begin_past : (c : Chart) (s : State) (x : ℕ) → (begin c s x).1.past ≡ s.past
begin_past c s x = grind arith

module _ (c : Chart) (sound : Sound c) {S : Type 0} (rule : S → Event → Taken S) where
  -- a finished walk stays as it is

  step_finished : (s : State) → Finished c s → (step c s).1 ≡ s
  step_finished s h = grind arith

  begin_finished : (s : State) (x : ℕ) → Finished c s → (begin c s x).1 ≡ s
  begin_finished s x h = on_begin c s x (λ r. r.1 ≡ s) (λ _. refl) (λ _ _. refl) (λ known free _. absurd (not_in x (crossings s.past) free (none_lost c sound s h x known)))

  stays_finished : (more : List Call) (m : ℕ) (w : Scene S) → BeginsAndSteps more m → Finished c w.walk → Finished c (play c rule w more).1.walk
  stays_finished [] m w b h = h
  stays_finished (a_begin x ∷ ks) m w b h = stays_finished ks m (make c rule w (a_begin x)).1 b (rw (begin_finished w.walk x h) h)
  stays_finished (a_step ∷ ks) m w b h = stays_finished ks b.0 (make c rule w a_step).1 b.2 (rw (step_finished w.walk h) h)
  stays_finished (a_run k j ∷ ks) m w b h = elim b [ ]
  stays_finished (a_rewind ∷ ks) m w b h = elim b [ ]

  module _ (left : List Event → ℕ) (free : (s : State) (e : Event) → Reached c s → due c s ≡ Some e → at_limit c s ≡ false) (less : (s : State) (e : Event) → Reached c s → due c s ≡ Some e → left (e ∷ s.past) < left s.past) where
    finishes : (more : List Call) (m : ℕ) (w : Scene S) → BeginsAndSteps more m → Reached c w.walk → left w.walk.past ≤ m → Finished c (play c rule w more).1.walk
    finishes [] m w b r h = go (due c w.walk) refl
      where
        go : (o : Option Event) → due c w.walk ≡ o → due c w.walk ≡ None
        go None d = d
        go (Some e) d = absurd (let k = less w.walk e r d in omega arith)
    finishes (a_begin x ∷ ks) m w b r h = finishes ks m (make c rule w (a_begin x)).1 b (by_begin r x) (rw (begin_past c w.walk x) h)
    finishes (a_step ∷ ks) m w b r h = go (finishes ks b.0 (make c rule w a_step).1 b.2 (by_step r)) (due c w.walk) refl
      where
        go : (left (step c w.walk).1.past ≤ b.0 → Finished c (play c rule w (a_step ∷ ks)).1.walk) → (o : Option Event) → due c w.walk ≡ o → Finished c (play c rule w (a_step ∷ ks)).1.walk
        go f None d = stays_finished (a_step ∷ ks) m w b d
        go f (Some e) d = grind arith
    finishes (a_run k j ∷ ks) m w b r h = elim b [ ]
    finishes (a_rewind ∷ ks) m w b r h = elim b [ ]

    pub enough : (m : Scene S) → Reached c m.walk → Enough c rule m
    enough m r = (left m.walk.past, λ more k b h. finishes more k m b r h)
