-- Each taker holds what its rule makes of what it accepted.
use Rattle.std.proofs.Common.{◌≡◌, ℕ, zero, suc, cond, eqb, List, [], ◌∷◌, ◌++◌, set, Some, None, Option, sym, refl, ap, ◌∙◌, subst, subst₂, ⊎_elim}
use Rattle.std.specs.List.{slice_get}
use Rattle.std.proofs.lemmas.Bool.{eq-eqb, ne_eqb, cases_eq, cond-true, cond-false}
use Rattle.rules.specs.declared.event.Event.{Event}
use Rattle.rules.specs.Chart.{Chart}
use Rattle.rules.specs.Rules.{State, Taken, run}
use Rattle.rules.specs.Strings.{Call, a_begin, a_step, a_run, a_rewind, Scene, run_into, make, play, to_taker, accepted, Makes, of_none, of_one, Holds}
use Rattle.rules.proofs.Calls.{on_runs}

-- one taker replaced

nth_set_same : {S : Type 0} (ts : List S) (j : ℕ) (t u : S) → slice_get ts j ≡ Some t → slice_get (set ts j u) j ≡ Some u
nth_set_same [] j t u h = cc
nth_set_same (v ∷ ts) zero t u h = refl
nth_set_same (v ∷ ts) (suc j) t u h = nth_set_same ts j t u h

nth_set_other : {S : Type 0} (ts : List S) (i j : ℕ) (u : S) → (i ≡ j → ⊥) → slice_get (set ts i u) j ≡ slice_get ts j
nth_set_other [] i j u d = refl
nth_set_other (v ∷ ts) zero zero u d = absurd (d refl)
nth_set_other (v ∷ ts) zero (suc j) u d = refl
nth_set_other (v ∷ ts) (suc i) zero u d = refl
nth_set_other (v ∷ ts) (suc i) (suc j) u d = nth_set_other ts i j u (λ e. d (ap suc e))

module _ {S : Type 0} (rule : S → Event → Taken S) where
  makes_more : {t u v : S} {l m : List Event} → Makes rule t l u → Makes rule u m v → Makes rule t (l ++ m) v
  makes_more of_none b = b
  makes_more (of_one e a) b = of_one e (makes_more a b)

  holds_none : (o : Option S) → Holds rule o [] o
  holds_none None = refl
  holds_none (Some t) = of_none

  holds_more : (o p q : Option S) (l m : List Event) → Holds rule o l p → Holds rule p m q → Holds rule o (l ++ m) q
  holds_more None None None l m a b = ap (λ k. k ++ m) a ∙ b
  holds_more None None (Some v) l m a b = b
  holds_more None (Some u) q l m a b = absurd a
  holds_more (Some t) None q l m a b = absurd a
  holds_more (Some t) (Some u) None l m a b = b
  holds_more (Some t) (Some u) (Some v) l m a b = makes_more a b

  -- once taker i has accepted l and is u
  holds_one : (ts : List S) (i j : ℕ) (l : List Event) (t u : S) → slice_get ts i ≡ Some t → Makes rule t l u → Holds rule (slice_get ts j) (cond (eqb i j) l []) (slice_get (set ts i u) j)
  holds_one ts i j l t u is h =
      ⊎_elim
      (λ e. subst₂ (λ (k : List Event) (o : Option S). Holds rule (slice_get ts j) k o) (sym (cond-true (eqb i j) l [] (eq-eqb i j e))) (sym (ap (slice_get (set ts i u)) (sym e) ∙ nth_set_same ts i t u is)) (subst (λ o. Holds rule o l (Some u)) (sym is ∙ ap (slice_get ts) e) h))
      (λ d. subst₂ (λ (k : List Event) (o : Option S). Holds rule (slice_get ts j) k o) (sym (cond-false (eqb i j) l [] (ne_eqb i j d))) (sym (nth_set_other ts i j u d)) (holds_none (slice_get ts j)))
      (cases_eq i j)

  module _ (c : Chart) where
    holds_run : (k : ℕ) (s : State) (t : S) → Makes rule t (run c rule k s t).handed (run c rule k s t).taker
    holds_run = on_runs c rule (λ _ s t r. Makes rule t r.handed r.taker) (λ _ _. of_none) (λ _ _ _ _ _. of_none) (λ _ s t e u r _ _ q h. of_one q h)

    holds-make : (m : Scene S) (k : Call) (j : ℕ) → Holds rule (slice_get m.takers j) (to_taker j (make c rule m k).0.call (make c rule m k).0.handed) (slice_get (make c rule m k).1.takers j)
    holds-make m (a_begin x) j = holds_none (slice_get m.takers j)
    holds-make m a_step j = holds_none (slice_get m.takers j)
    holds-make m (a_run k i) j = go (slice_get m.takers i) refl
      where
        nothing : (b : Option S) → Holds rule b (cond (eqb i j) [] []) b
        nothing b = subst (λ l. Holds rule b l b) (⊎_elim (λ e. sym (cond-true (eqb i j) [] [] (eq-eqb i j e))) (λ d. sym (cond-false (eqb i j) [] [] (ne_eqb i j d))) (cases_eq i j)) (holds_none b)

        go : (o : Option S) → slice_get m.takers i ≡ o → Holds rule (slice_get m.takers j) (to_taker j (run_into c rule m k i o).0.call (run_into c rule m k i o).0.handed) (slice_get (run_into c rule m k i o).1.takers j)
        go None is = nothing (slice_get m.takers j)
        go (Some t) is = holds_one m.takers i j (run c rule k m.walk t).handed t (run c rule k m.walk t).taker is (holds_run k m.walk t)
    holds-make m a_rewind j = holds_none (slice_get m.takers j)

    pub holds-play : (m : Scene S) (ks : List Call) (j : ℕ) → Holds rule (slice_get m.takers j) (accepted j (play c rule m ks).0) (slice_get (play c rule m ks).1.takers j)
    holds-play m [] j = holds_none (slice_get m.takers j)
    holds-play m (k ∷ ks) j = holds_more (slice_get m.takers j) (slice_get (make c rule m k).1.takers j) (slice_get (play c rule m (k ∷ ks)).1.takers j) _ _ (holds-make m k j) (holds-play (make c rule m k).1 ks j)
